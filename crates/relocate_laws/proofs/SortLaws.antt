-- Sorting keeps the instructions: their sums by any weight, and what holds of each of them.
use Prim.Native.Nat.{ℕ, ◌+◌}
use mathlib.Core.Path.{◌≡◌, refl, ap, ◌∙◌}
use mathlib.Core.List.{List, [], ◌∷◌, ◌++◌, map}
use mathlib.Core.Bool.{Bool, true, false, cond, not}
use native.Mathlib.Omega.{arith}
use Rattle.text.specs.Lists.{total}
use Rattle.text.specs.All.{All}
use Rattle.text.proofs.AllLaws.{all_append, all_front, all_rest}
use Rattle.text.proofs.SumLaws.{total_append}
use Rattle.asm.specs.Rows.{instructions}
use Rattle.asm.specs.declared.OlaAsmInstruction.{OlaAsmInstruction}
use Rattle.asm.specs.declared.AsmRow.{AsmRow}
use Rattle.asm.specs.declared.AsmRow.TheVariants.{Instruction, LabelCall, LabelJmp, LabelProphet}
use Rattle.relocate.specs.Scopes.{Scope, Cut, in_front, cut_at_calls, scopes_of, is_main, is_other, scopes_that, rows_of_scopes, sorted_rows}

-- ---- the scopes, one after another, are the rows

ahead_first : (c : Cut) → rows_of_scopes (scopes_of c) ≡ c.ahead ++ rows_of_scopes c.scopes
unfolding rows_of_scopes
ahead_first c = go c.ahead c.scopes
  where
    go : (a : List AsmRow) (cs : List Scope) → rows_of_scopes (scopes_of (record { ahead = a; scopes = cs })) ≡ a ++ rows_of_scopes cs
    go [] cs = refl
    go (r ∷ rs) cs = refl

in_front_lem : (s : List ℕ) (r : AsmRow) (c : Cut) → (in_front s r c).ahead ++ rows_of_scopes (in_front s r c).scopes ≡ r ∷ (c.ahead ++ rows_of_scopes c.scopes)
unfolding rows_of_scopes
in_front_lem s (Instruction i) c = refl
in_front_lem s (LabelCall start n) c = refl
in_front_lem s (LabelJmp start n) c = refl
in_front_lem s (LabelProphet start n) c = refl

-- the rows ahead of the first call label and those of the scopes are all
pub cut_rows : (s : List ℕ) (rs : List AsmRow) → (cut_at_calls s rs).ahead ++ rows_of_scopes (cut_at_calls s rs).scopes ≡ rs
unfolding cut_at_calls rows_of_scopes
cut_rows s [] = refl
cut_rows s (r ∷ rs) = in_front_lem s r (cut_at_calls s rs) ∙ ap (λ (l : List AsmRow). r ∷ l) (cut_rows s rs)

-- the rows of a source's scopes are its rows
pub scopes_rows : (s : List ℕ) (rs : List AsmRow) → rows_of_scopes (scopes_of (cut_at_calls s rs)) ≡ rs
scopes_rows s rs = ahead_first (cut_at_calls s rs) ∙ cut_rows s rs

instructions_append : (rs ts : List AsmRow) → instructions (rs ++ ts) ≡ instructions rs ++ instructions ts
unfolding instructions
instructions_append [] ts = refl
instructions_append (Instruction i ∷ rs) ts = ap (λ (l : List OlaAsmInstruction). i ∷ l) (instructions_append rs ts)
instructions_append (LabelCall start n ∷ rs) ts = instructions_append rs ts
instructions_append (LabelJmp start n ∷ rs) ts = instructions_append rs ts
instructions_append (LabelProphet start n ∷ rs) ts = instructions_append rs ts

-- ---- sums

module _ (f : OlaAsmInstruction → ℕ) where
  abbrev weight : List AsmRow → ℕ
  weight rs = total (map f (instructions rs))

  abbrev scopes_weight : List Scope → ℕ
  scopes_weight cs = weight (rows_of_scopes cs)

  weight_append : (rs ts : List AsmRow) → weight (rs ++ ts) ≡ weight rs + weight ts
  weight_append rs ts = rw (instructions_append rs ts) (total_append f (instructions rs) (instructions ts))

  scopes_append : (cs ds : List Scope) → scopes_weight (cs ++ ds) ≡ scopes_weight cs + scopes_weight ds
  unfolding rows_of_scopes instructions total
  scopes_append [] ds = omega arith
  scopes_append (c ∷ cs) ds =
      let h = scopes_append cs ds in
      let a = weight_append c.rows (rows_of_scopes (cs ++ ds)) in
      let b = weight_append c.rows (rows_of_scopes cs) in
      omega arith

  -- what passes a test and what fails it is all
  both_weight : (cs : List Scope) → scopes_weight (scopes_that is_main cs) + scopes_weight (scopes_that is_other cs) ≡ scopes_weight cs
  unfolding rows_of_scopes scopes_that instructions total
  both_weight [] = refl
  both_weight (c ∷ cs) = go (is_main c) (both_weight cs)
    where
      go : (t : Bool) → scopes_weight (scopes_that is_main cs) + scopes_weight (scopes_that is_other cs) ≡ scopes_weight cs
          → scopes_weight (cond t (c ∷ scopes_that is_main cs) (scopes_that is_main cs)) + scopes_weight (cond (not t) (c ∷ scopes_that is_other cs) (scopes_that is_other cs)) ≡ scopes_weight (c ∷ cs)
      go true h =
          let a = weight_append c.rows (rows_of_scopes (scopes_that is_main cs)) in
          let b = weight_append c.rows (rows_of_scopes cs) in
          omega arith
      go false h =
          let a = weight_append c.rows (rows_of_scopes (scopes_that is_other cs)) in
          let b = weight_append c.rows (rows_of_scopes cs) in
          omega arith

  -- sorting keeps the sum of any weight over the instructions
  pub sorted_total : (s : List ℕ) (rs : List AsmRow) → total (map f (instructions (sorted_rows s rs))) ≡ total (map f (instructions rs))
  sorted_total s rs =
      let cs : List Scope = scopes_of (cut_at_calls s rs) in
      scopes_append (scopes_that is_main cs) (scopes_that is_other cs) ∙ both_weight cs ∙ ap weight (scopes_rows s rs)

-- ---- what holds of every instruction

module _ (P : OlaAsmInstruction → Type 0) where
  abbrev Holds : List AsmRow → Type 0
  Holds rs = All P (instructions rs)

  abbrev ScopesHold : List Scope → Type 0
  ScopesHold cs = Holds (rows_of_scopes cs)

  holds_append : (rs ts : List AsmRow) → Holds rs → Holds ts → Holds (rs ++ ts)
  holds_append rs ts h k = rw (instructions_append rs ts) (all_append h k)

  holds_front : (rs ts : List AsmRow) → Holds (rs ++ ts) → Holds rs
  holds_front rs ts h = all_front (instructions rs) (instructions ts) (rw (instructions_append rs ts) at h)

  holds_rest : (rs ts : List AsmRow) → Holds (rs ++ ts) → Holds ts
  holds_rest rs ts h = all_rest (instructions rs) (instructions ts) (rw (instructions_append rs ts) at h)

  scopes_hold : (cs ds : List Scope) → ScopesHold cs → ScopesHold ds → ScopesHold (cs ++ ds)
  unfolding rows_of_scopes
  scopes_hold [] ds h k = k
  scopes_hold (c ∷ cs) ds h k =
      holds_append c.rows (rows_of_scopes (cs ++ ds)) (holds_front c.rows (rows_of_scopes cs) h)
      (scopes_hold cs ds (holds_rest c.rows (rows_of_scopes cs) h) k)

  that_hold : (f : Scope → Bool) (cs : List Scope) → ScopesHold cs → ScopesHold (scopes_that f cs)
  unfolding rows_of_scopes scopes_that
  that_hold f [] h = h
  that_hold f (c ∷ cs) h = go (f c) (that_hold f cs (holds_rest c.rows (rows_of_scopes cs) h))
    where
      go : (t : Bool) → ScopesHold (scopes_that f cs) → ScopesHold (cond t (c ∷ scopes_that f cs) (scopes_that f cs))
      go true k = holds_append c.rows (rows_of_scopes (scopes_that f cs)) (holds_front c.rows (rows_of_scopes cs) h) k
      go false k = k

  -- what holds of every instruction holds of every sorted one
  pub sorted_all : (s : List ℕ) (rs : List AsmRow) → All P (instructions rs) → All P (instructions (sorted_rows s rs))
  sorted_all s rs h =
      let cs : List Scope = scopes_of (cut_at_calls s rs) in
      let k : ScopesHold cs = rw (scopes_rows s rs) h in
      scopes_hold (scopes_that is_main cs) (scopes_that is_other cs) (that_hold is_main cs k) (that_hold is_other cs k)
