-- Main's scope among the rows of a source: the rows before it, its own and those after it; sorted, its own come first.
use Rattle.std.specs.Prelude.{Option, Some, None}
use Prim.Native.Nat.{ℕ, suc}
use mathlib.Core.Path.{◌≡◌, refl, sym, ap, ◌∙◌}
use mathlib.Core.List.{List, [], ◌∷◌, ◌++◌, append-nil, append_assoc}
use mathlib.Core.Bool.{Bool, true, false, not, cond}
use native.Mathlib.Omega.{arith}
use lib.ListN.{length}
use Rattle.text.specs.Bytes.{bytes, same}
use Rattle.text.proofs.SumLaws.{total_least, total_most}
use Rattle.asm.specs.Parts.{name_at}
use Rattle.asm.specs.Rows.{instructions}
use Rattle.asm.specs.Survey.{is_label_row, is_main_row, count_rows, first_call, main_start, main_end}
use Rattle.asm.specs.declared.AsmRow.{AsmRow}
use Rattle.asm.specs.declared.AsmRow.TheVariants.{Instruction, LabelCall, LabelJmp, LabelProphet}
use Rattle.asm_laws.proofs.JoinLaws.{count_append}
use Rattle.relocate.specs.Scopes.{Scope, Cut, in_front, cut_at_calls, scopes_of, is_main, is_other, scopes_that, rows_of_scopes, sorted_rows, main_count}
use Rattle.relocate.specs.Labels.{label_rows}
use Rattle.relocate_laws.proofs.SortLaws.{cut_rows, sorted_total}

-- ---- the scope ahead of the first call label

-- it is not main
ahead_main : (c : Cut) → scopes_that is_main (scopes_of c) ≡ scopes_that is_main c.scopes
unfolding scopes_that same
ahead_main c = go c.ahead
  where
    go : (a : List AsmRow) → scopes_that is_main (scopes_of (record { ahead = a; scopes = c.scopes })) ≡ scopes_that is_main c.scopes
    go [] = refl
    go (r ∷ rs) = refl

-- it is one of the others
ahead_other : (c : Cut) → rows_of_scopes (scopes_that is_other (scopes_of c)) ≡ c.ahead ++ rows_of_scopes (scopes_that is_other c.scopes)
unfolding scopes_that rows_of_scopes same
ahead_other c = go c.ahead
  where
    go : (a : List AsmRow) → rows_of_scopes (scopes_that is_other (scopes_of (record { ahead = a; scopes = c.scopes }))) ≡ a ++ rows_of_scopes (scopes_that is_other c.scopes)
    go [] = refl
    go (r ∷ rs) = refl

-- the rows of two runs of scopes
rows_append : (cs ds : List Scope) → rows_of_scopes (cs ++ ds) ≡ rows_of_scopes cs ++ rows_of_scopes ds
unfolding rows_of_scopes
rows_append [] ds = refl
rows_append (c ∷ cs) ds = ap (λ (l : List AsmRow). c.rows ++ l) (rows_append cs ds) ∙ sym (append_assoc c.rows (rows_of_scopes cs) (rows_of_scopes ds))

-- ---- how many scopes are main

module _ (s : List ℕ) where
  -- of the scopes that begin at a call label
  scopes_count : (rs : List AsmRow) → length (scopes_that is_main (cut_at_calls s rs).scopes) ≡ count_rows (is_main_row s) rs
  unfolding cut_at_calls scopes_that count_rows
  scopes_count [] = refl
  scopes_count (r ∷ rs) = go r (scopes_count rs)
    where
      cs : List Scope
      cs = (cut_at_calls s rs).scopes

      go : (r : AsmRow) → length (scopes_that is_main cs) ≡ count_rows (is_main_row s) rs
          → length (scopes_that is_main (in_front s r (cut_at_calls s rs)).scopes) ≡ count_rows (is_main_row s) (r ∷ rs)
      go (Instruction i) h = h
      go (LabelCall start n) h = pick (same (name_at s start n) (bytes "main"))
        where
          pick : (t : Bool) → length (cond t (record { label = name_at s start n; rows = LabelCall start n ∷ (cut_at_calls s rs).ahead } ∷ scopes_that is_main cs) (scopes_that is_main cs))
              ≡ cond t (suc (count_rows (is_main_row s) rs)) (count_rows (is_main_row s) rs)
          pick true = ap suc h
          pick false = h
      go (LabelJmp start n) h = h
      go (LabelProphet start n) h = h

  -- as many scopes are main as rows are the call label main
  pub main_count_lem : (rs : List AsmRow) → main_count s rs ≡ count_rows (is_main_row s) rs
  main_count_lem rs = ap length (ahead_main (cut_at_calls s rs)) ∙ scopes_count rs

  -- where none is, all are others
  none_main : (rs : List AsmRow) → count_rows (is_main_row s) rs ≡ 0
      → (scopes_that is_main (cut_at_calls s rs).scopes ≡ []) × (scopes_that is_other (cut_at_calls s rs).scopes ≡ (cut_at_calls s rs).scopes)
  unfolding cut_at_calls scopes_that count_rows
  none_main [] h = (refl, refl)
  none_main (r ∷ rs) h = go r h (none_main rs)
    where
      cs : List Scope
      cs = (cut_at_calls s rs).scopes

      go : (r : AsmRow) → count_rows (is_main_row s) (r ∷ rs) ≡ 0 → (count_rows (is_main_row s) rs ≡ 0 → (scopes_that is_main cs ≡ []) × (scopes_that is_other cs ≡ cs))
          → (scopes_that is_main (in_front s r (cut_at_calls s rs)).scopes ≡ [])
          × (scopes_that is_other (in_front s r (cut_at_calls s rs)).scopes ≡ (in_front s r (cut_at_calls s rs)).scopes)
      go (Instruction i) h f = f h
      go (LabelCall start n) h f = pick (same (name_at s start n) (bytes "main")) h
        where
          m : Scope
          m = record { label = name_at s start n; rows = LabelCall start n ∷ (cut_at_calls s rs).ahead }

          pick : (t : Bool) → cond t (suc (count_rows (is_main_row s) rs)) (count_rows (is_main_row s) rs) ≡ 0
              → (cond t (m ∷ scopes_that is_main cs) (scopes_that is_main cs) ≡ []) × (cond (not t) (m ∷ scopes_that is_other cs) (scopes_that is_other cs) ≡ m ∷ cs)
          pick true h = absurd (omega arith)
          pick false h = let w = f h in (w.0, ap (λ (l : List Scope). m ∷ l) w.1)
      go (LabelJmp start n) h f = f h
      go (LabelProphet start n) h f = f h

-- ---- main's scope

-- where a scope ends and what follows it: at a call label, or at the end of the rows
pub data Ends : Option ℕ → List AsmRow → Type 0 where
  at_call : (place n : ℕ) (rs : List AsmRow) → Ends (Some place) (LabelCall place n ∷ rs)
  at_end : Ends None []

-- the scopes begin at the first call label
first_ends : (s : List ℕ) (rs : List AsmRow) → Ends (first_call rs) (rows_of_scopes (cut_at_calls s rs).scopes)
unfolding first_call cut_at_calls rows_of_scopes
first_ends s [] = at_end
first_ends s (Instruction i ∷ rs) = first_ends s rs
first_ends s (LabelCall start n ∷ rs) = at_call start n ((cut_at_calls s rs).ahead ++ rows_of_scopes (cut_at_calls s rs).scopes)
first_ends s (LabelJmp start n ∷ rs) = first_ends s rs
first_ends s (LabelProphet start n ∷ rs) = first_ends s rs

-- the rows before main's scope, its call label and the rows after that, and the rows after the scope
pub record MainCut (s : List ℕ) (rs : List AsmRow) : Type 0 where
  pub before : List AsmRow
  pub place : ℕ
  pub size : ℕ
  pub within : List AsmRow
  pub after : List AsmRow
  pub whole : rs ≡ before ++ (LabelCall place size ∷ within ++ after)
  pub begins : main_start s rs ≡ Some place
  pub ends : Ends (main_end s rs) after
  pub mains : rows_of_scopes (scopes_that is_main (cut_at_calls s rs).scopes) ≡ LabelCall place size ∷ within
  pub others : (cut_at_calls s rs).ahead ++ rows_of_scopes (scopes_that is_other (cut_at_calls s rs).scopes) ≡ before ++ after

module _ (s : List ℕ) (rs : List AsmRow) where
  -- the rows cut at their call labels
  abbrev cut : Cut
  cut = cut_at_calls s rs

  -- a row in front that is not main's label stands before main's scope
  row_before : (r : AsmRow) → is_main_row s r ≡ false
      → rows_of_scopes (scopes_that is_main (in_front s r cut).scopes) ≡ rows_of_scopes (scopes_that is_main cut.scopes)
      → (in_front s r cut).ahead ++ rows_of_scopes (scopes_that is_other (in_front s r cut).scopes) ≡ r ∷ (cut.ahead ++ rows_of_scopes (scopes_that is_other cut.scopes))
      → MainCut s rs → MainCut s (r ∷ rs)
  unfolding cut_at_calls main_start main_end
  row_before r e f g w =
      record {
        before = r ∷ w.before;
        place = w.place;
        size = w.size;
        within = w.within;
        after = w.after;
        whole = ap (λ (l : List AsmRow). r ∷ l) w.whole;
        begins = rw e w.begins;
        ends = rw e w.ends;
        mains = f ∙ w.mains;
        others = g ∙ ap (λ (l : List AsmRow). r ∷ l) w.others;
      }

  -- at a call label: main's scope begins there, or after it
  call_cut : (start n : ℕ) (t : Bool) → same (name_at s start n) (bytes "main") ≡ t → count_rows (is_main_row s) (LabelCall start n ∷ rs) ≡ 1
      → (count_rows (is_main_row s) rs ≡ 1 → MainCut s rs) → MainCut s (LabelCall start n ∷ rs)
  unfolding cut_at_calls scopes_that rows_of_scopes count_rows main_start main_end
  call_cut start n true e h f =
      let k : count_rows (is_main_row s) rs ≡ 0 = let g = rw e at h in omega arith in
      let w = none_main s rs k in
      record {
        before = [];
        place = start;
        size = n;
        within = cut.ahead;
        after = rows_of_scopes cut.scopes;
        whole = ap (λ (l : List AsmRow). LabelCall start n ∷ l) (sym (cut_rows s rs));
        begins = rw e;
        ends = rw e (first_ends s rs);
        mains = rw (e, w.0) (append-nil (LabelCall start n ∷ cut.ahead));
        others = rw (e, w.1);
      }
  call_cut start n false e h f = row_before (LabelCall start n) e (rw e) (rw e) (f (rw e at h))

-- rows with one call label main
pub main_cut : (s : List ℕ) (rs : List AsmRow) → count_rows (is_main_row s) rs ≡ 1 → MainCut s rs
unfolding count_rows
main_cut s [] h = absurd (omega arith)
main_cut s (r ∷ rs) h = go r h (main_cut s rs)
  where
    go : (r : AsmRow) → count_rows (is_main_row s) (r ∷ rs) ≡ 1 → (count_rows (is_main_row s) rs ≡ 1 → MainCut s rs) → MainCut s (r ∷ rs)
    go (Instruction i) h f = row_before s rs (Instruction i) refl refl refl (f h)
    go (LabelCall start n) h f = call_cut s rs start n (same (name_at s start n) (bytes "main")) refl h f
    go (LabelJmp start n) h f = row_before s rs (LabelJmp start n) refl refl refl (f h)
    go (LabelProphet start n) h f = row_before s rs (LabelProphet start n) refl refl refl (f h)

module _ (s : List ℕ) (rs : List AsmRow) (w : MainCut s rs) where
  -- sorted, main's scope comes first
  pub cut_sorted : sorted_rows s rs ≡ LabelCall w.place w.size ∷ w.within ++ (w.before ++ w.after)
  cut_sorted =
      let c : Cut = cut_at_calls s rs in
      rows_append (scopes_that is_main (scopes_of c)) (scopes_that is_other (scopes_of c)) ∙ rw (ahead_main c, ahead_other c, w.mains, w.others)

-- ---- counts of the sorted rows

-- there is an entry for each label row
labels_count : (n : ℕ) (rs : List AsmRow) → length (label_rows n rs) ≡ count_rows is_label_row rs
unfolding label_rows count_rows
labels_count n [] = refl
labels_count n (Instruction i ∷ rs) = labels_count (suc n) rs
labels_count n (LabelCall start k ∷ rs) = ap suc (labels_count n rs)
labels_count n (LabelJmp start k ∷ rs) = ap suc (labels_count n rs)
labels_count n (LabelProphet start k ∷ rs) = ap suc (labels_count n rs)

-- sorting keeps how many label rows there are
pub sorted_labels : (s : List ℕ) (rs : List AsmRow) → MainCut s rs → length (label_rows 0 (sorted_rows s rs)) ≡ count_rows is_label_row rs
sorted_labels s rs w =
    let main : List AsmRow = LabelCall w.place w.size ∷ w.within in
    let a = count_append is_label_row main (w.before ++ w.after) in
    let b = count_append is_label_row w.before w.after in
    let c = count_append is_label_row w.before (main ++ w.after) in
    let d = count_append is_label_row main w.after in
    labels_count 0 (sorted_rows s rs) ∙ ap (count_rows is_label_row) (cut_sorted s rs w) ∙ omega arith ∙ sym (ap (count_rows is_label_row) w.whole)

-- and how many instructions
pub sorted_instructions_count : (s : List ℕ) (rs : List AsmRow) → length (instructions (sorted_rows s rs)) ≡ length (instructions rs)
sorted_instructions_count s rs =
    let a = sorted_total (λ i. 1) s rs in
    let b = total_least (λ i. 1) 1 (λ i. omega arith) (instructions rs) in
    let c = total_most (λ i. 1) 1 (λ i. omega arith) (instructions rs) in
    let d = total_least (λ i. 1) 1 (λ i. omega arith) (instructions (sorted_rows s rs)) in
    let e = total_most (λ i. 1) 1 (λ i. omega arith) (instructions (sorted_rows s rs)) in
    omega arith
