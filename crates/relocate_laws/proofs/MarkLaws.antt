-- A label row that is mapped marks an instruction that is there, and so does the row that holds a name.
use Rattle.std.specs.Prelude.{Option, Some, None}
use Prim.Native.Nat.{ℕ, suc, ◌+◌, ◌<◌}
use mathlib.Core.Path.{◌≡◌, refl, subst}
use mathlib.Core.List.{List, [], ◌∷◌}
use mathlib.Core.Bool.{Bool, true, false, not, cond, false≢true}
use native.Mathlib.Omega.{arith}
use lib.ListN.{length}
use Rattle.text.specs.Scan.{is_empty}
use Rattle.text.specs.All.{All, none_left, one_more}
use Rattle.asm.specs.Rows.{instructions}
use Rattle.asm.specs.declared.OlaAsmInstruction.{OlaAsmInstruction}
use Rattle.asm.specs.declared.AsmRow.{AsmRow}
use Rattle.asm.specs.declared.AsmRow.TheVariants.{Instruction, LabelCall, LabelJmp, LabelProphet}
use Rattle.relocate.specs.Labels.{LabelRow, label_rows, names, later_or, holder}
use Rattle.relocate_laws.proofs.ColumnLaws.{names_told}
use Rattle.std.proofs.lemmas.Option.{none-some, same_Some}

-- a row that marks one of m instructions, if it is mapped
abbrev pub MarksBelow : ℕ → LabelRow → Type 0
MarksBelow m l = l.mapped ≡ true → l.marks < m

-- the instruction after n others, where one follows
next_below : (n : ℕ) (is : List OlaAsmInstruction) → not (is_empty is) ≡ true → n < n + length is
next_below n [] e = absurd (false≢true e)
next_below n (i ∷ is) e = omega arith

-- every label row is so, where n instructions stand ahead of the rows
pub rows_mark : (n : ℕ) (rows : List AsmRow) → All (MarksBelow (n + length (instructions rows))) (label_rows n rows)
unfolding label_rows instructions
rows_mark n [] = none_left
rows_mark n (Instruction i ∷ rs) = let e : suc n + length (instructions rs) ≡ n + suc (length (instructions rs)) = omega arith in subst (λ (m : ℕ). All (MarksBelow m) (label_rows (suc n) rs)) e (rows_mark (suc n) rs)
rows_mark n (LabelCall start k ∷ rs) = one_more (next_below n (instructions rs)) (rows_mark n rs)
rows_mark n (LabelJmp start k ∷ rs) = one_more (next_below n (instructions rs)) (rows_mark n rs)
rows_mark n (LabelProphet start k ∷ rs) = one_more (next_below n (instructions rs)) (rows_mark n rs)

-- the row that holds a name is mapped
pub holder_marks : (s : List ℕ) (kind : ℕ) (x : List ℕ) (m : ℕ) (ls : List LabelRow) → All (MarksBelow m) ls → (l : LabelRow) → holder s kind x ls ≡ Some l → l.marks < m
unfolding holder
holder_marks s kind x m [] a l e = absurd (none-some l e)
holder_marks s kind x m (k ∷ ks) (one_more h hs) l e = go (holder s kind x ks) (names s kind x k) refl (holder_marks s kind x m ks hs l) e
  where
    go : (o : Option LabelRow) (t : Bool) → names s kind x k ≡ t → (o ≡ Some l → l.marks < m) → later_or o (cond t (Some k) None) ≡ Some l → l.marks < m
    go (Some j) t g r e = r e
    go None true g r e = subst (λ (i : LabelRow). i.marks < m) (same_Some k l e) (h (names_told s kind x k g).0)
    go None false g r e = absurd (none-some l e)
