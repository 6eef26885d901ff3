-- How many label rows a source can have: each takes two bytes at least, and one that parts it from the next line.
use Rattle.std.specs.Prelude.{Option, Some, None}
use Prim.Native.Nat.{ℕ, ◌-◌, ◌*◌, ◌+◌, ◌≤◌}
use mathlib.Core.Path.{◌≡◌, refl, sym, subst, ◌∙◌}
use mathlib.Core.List.{List, [], ◌∷◌, map}
use mathlib.Core.Bool.{Bool, true, false, cond, ◌&&◌, ◌||◌}
use native.Mathlib.Omega.{arith}
use borrow.Author.Tests.{ltb-false, eqb-false}
use lib.Dec.{eqb, ltb}
use lib.ListN.{length, drop}
use lib.Seq.{slice}
use Rattle.text.specs.Bytes.{bytes, is_digit, is_word, same}
use Rattle.text.specs.Lists.{total}
use Rattle.text.specs.Scan.{scan}
use Rattle.text.specs.Answer.{ok}
use Rattle.text.proofs.AnswerLaws.{ok_same, ok_bind, if_passed, at_passed}
use Rattle.vm_mnemonics.specs.Mnemonics.{operation_of}
use Rattle.asm.specs.Parts.{Part, source_pieces}
use Rattle.asm.specs.Operands.{byte_is, is_pair}
use Rattle.asm.specs.Rows.{operands_of, arranged_if, is_call_row, is_pair_row, label_row, or_else_row, row_of}
use Rattle.asm.specs.Survey.{is_label_row, is_main_row, count_rows}
use Rattle.asm.specs.declared.AsmRow.{AsmRow}
use Rattle.asm.specs.declared.AsmRow.TheVariants.{Instruction, LabelCall, LabelJmp, LabelProphet}
use Rattle.asm_laws.proofs.LengthLaws.{row_bytes, source_bytes}
use Rattle.asm_laws.proofs.PlaceLaws.{arranged_if_related}
use Rattle.relocate.specs.Scopes.{main_count}
use Rattle.relocate.specs.Labels.{label_rows}
use Rattle.relocate.specs.Relocate.{first_above127, rows_read, sorted_of}
use Rattle.relocate_laws.proofs.LengthLaws.{ReadAs, none_read, one_read, rows_read_as}
use Rattle.relocate_laws.proofs.ScopeLaws.{main_count_lem, main_cut, sorted_labels}

-- ---- the bytes of a label row

-- what is false does not hold
not_so : {A : Type 0} → false ≡ true → A
not_so e = let z : ◌≡◌ {A = ℕ} 0 1 = cc in absurd (omega arith)

-- a call label and its colon
call_two : (x : List ℕ) → is_call_row x ≡ true → 2 ≤ length x
unfolding is_call_row scan same
call_two [] h = not_so h
call_two (b ∷ []) h = go (is_word b) h
  where
    one : List ℕ
    one = b ∷ []

    go : (t : Bool) → (let k = cond t 1 0 in let m = scan is_digit (drop (k + 1) one) in
        ltb 0 k && (same (drop k one) (bytes ":") || (byte_is one k 46 && ltb 0 m && same (drop (k + 1 + m) one) (bytes ":")))) ≡ true → 2 ≤ 1
    go true h = not_so h
    go false h = not_so h
call_two (b ∷ c ∷ x) h = omega arith

-- `.LBL` or `.PROPHET`, a pair and a colon: one byte has no letters after it
pair_two : (letters x : List ℕ) → ((b : ℕ) → same (slice 1 (length letters + 1) (b ∷ [])) letters ≡ false) → is_pair_row letters x ≡ true → 2 ≤ length x
unfolding is_pair_row
pair_two letters [] f h = not_so h
pair_two letters (b ∷ []) f h =
    go (eqb b 46) (same (slice 1 (length letters + 1) (b ∷ [])) letters) (is_pair (slice (length letters + 1) 0 (b ∷ []))) (byte_is (b ∷ []) 0 58) (f b) h
  where
    go : (t u v w : Bool) → u ≡ false → (t && u && v && w) ≡ true → 2 ≤ 1
    go true true v w e h = not_so (sym e)
    go true false v w e h = not_so h
    go false u v w e h = not_so h
pair_two letters (b ∷ c ∷ x) f h = omega arith

-- at least three bytes, if it is a label row
abbrev TakesThree : ℕ → Option AsmRow → Type 0
TakesThree n (Some (Instruction i)) = Unit {0}
TakesThree n (Some (LabelCall start k)) = 3 ≤ n
TakesThree n (Some (LabelJmp start k)) = 3 ≤ n
TakesThree n (Some (LabelProphet start k)) = 3 ≤ n
TakesThree n None = Unit {0}

-- a label row's piece and the byte after it
label_three : (ps : List Part) → TakesThree (row_bytes ps) (row_of ps)
unfolding row_of label_row total same
label_three [] = tt
label_three (q ∷ r ∷ rs) = arranged_if_related 0 (λ x y. TakesThree (row_bytes (q ∷ r ∷ rs)) x) tt (λ i. tt) (operation_of q.text) (operands_of (r ∷ rs))
label_three (q ∷ []) =
    go (is_call_row q.text) (call_two q.text) (is_pair_row (bytes "LBL") q.text) (pair_two (bytes "LBL") q.text (λ b. refl))
    (is_pair_row (bytes "PROPHET") q.text) (pair_two (bytes "PROPHET") q.text (λ b. refl)) q.start (length q.text - 1)
  where
    n : ℕ
    n = length q.text

    go : (a : Bool) → (a ≡ true → 2 ≤ n) → (b : Bool) → (b ≡ true → 2 ≤ n) → (c : Bool) → (c ≡ true → 2 ≤ n) → (i k : ℕ)
        → TakesThree (row_bytes (q ∷ [])) (or_else_row (cond a (Some (LabelCall i k)) (cond b (Some (LabelJmp i k)) (cond c (Some (LabelProphet i k)) None))) (arranged_if (operation_of q.text) (Some [])))
    go true f b g c h i k = let e = f refl in omega arith
    go false f true g c h i k = let e = g refl in omega arith
    go false f false g true h i k = let e = h refl in omega arith
    go false f false g false h i k = arranged_if_related 0 (λ x y. TakesThree (row_bytes (q ∷ [])) x) tt (λ i. tt) (operation_of q.text) (Some [])

-- ---- the label rows of a source

-- of rows that were read
read_labels : {pss : List (List Part)} {rs : List AsmRow} → ReadAs pss rs → 3 * count_rows is_label_row rs ≤ total (map row_bytes pss)
unfolding count_rows total
read_labels none_read = omega arith
read_labels (one_read {ps = ps} {pss = pss} {r = r} {rs = rs} e h) = go r (subst (TakesThree (row_bytes ps)) e (label_three ps)) (read_labels h)
  where
    go : (r : AsmRow) → TakesThree (row_bytes ps) (Some r) → 3 * count_rows is_label_row rs ≤ total (map row_bytes pss)
        → 3 * count_rows is_label_row (r ∷ rs) ≤ total (map row_bytes (ps ∷ pss))
    go (Instruction i) a k = omega arith
    go (LabelCall start n) a k = omega arith
    go (LabelJmp start n) a k = omega arith
    go (LabelProphet start n) a k = omega arith

-- a number that is neither 0 nor above 1
one_left : (n : ℕ) → eqb n 0 ≡ false → ltb 1 n ≡ false → n ≡ 1
one_left n a b = let h = ltb-false 1 n b in let k = eqb-false n 0 a in omega (arith, k)

-- three bytes for each label row are at most the source's bytes and one
pub label_bytes : (s : List ℕ) (rows : List AsmRow) → sorted_of s ≡ ok rows → 3 * length (label_rows 0 rows) ≤ length s + 1
unfolding sorted_of rows_read
label_bytes s rows h =
    let a = ok_bind (rows_read s) _ rows h in
    let b = if_passed _ _ _ rows a.2 in
    let c = if_passed (eqb (main_count s a.0) 0) _ _ rows b.1 in
    let d = if_passed (ltb 1 (main_count s a.0)) _ _ rows c.1 in
    let f = if_passed (ltb 65536 (length s)) 1 _ a.0 a.1 in
    let g = at_passed (first_above127 0 s) 2 _ a.0 f.1 in
    let m : count_rows (is_main_row s) a.0 ≡ 1 = sym (main_count_lem s a.0) ∙ one_left (main_count s a.0) c.0 d.0 in
    let n = sorted_labels s a.0 (main_cut s a.0 m) in
    let x = read_labels (rows_read_as 0 (source_pieces s) a.0 g.1) in
    let y = source_bytes s in
    subst (λ (l : List AsmRow). 3 * length (label_rows 0 l) ≤ length s + 1) (ok_same d.1) (omega arith)
