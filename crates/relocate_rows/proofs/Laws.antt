-- Laws of one row: how far a walk has come after it.
use Rattle.std.specs.Prelude.{Option, Some, None}
use Prim.Native.Nat.{ℕ, ◌≤◌}
use mathlib.Core.Path.{◌≡◌, sym, ◌∙◌}
use native.Mathlib.Omega.{arith}
use borrow.Author.Tests.{le-ltb}
use Rattle.asm.specs.Rows.{counted_length}
use Rattle.asm.specs.declared.OlaAsmInstruction.{OlaAsmInstruction}
use Rattle.asm.specs.declared.AsmRow.{AsmRow}
use Rattle.asm_lengths.proofs.Laws.{counted_le}
use Rattle.relocate_rows.specs.declared.Progress.{Progress}
use Rattle.relocate_rows.specs.Entries.{after, largest_count, advanced}

-- ---- how far the walk has come

-- an instruction counts at most three
pub counted_length_le : (i : OlaAsmInstruction) → counted_length i ≤ 3
counted_length_le i = let a = counted_le i.op0 in let b = counted_le i.op1 in omega arith

-- where no count is too large, the walk has come as far as the definition says
within : (p : Progress) (row : AsmRow) → p.seen ≤ largest_count → p.address ≤ largest_count → Some (after p row) ≡ advanced p row
within p row h k = rw (le-ltb largest_count p.seen h, le-ltb largest_count p.address k)

-- ---- what a walk is told whose counts are small

module _ (p : Progress) (row : AsmRow) (small : (p.seen ≤ largest_count) × (p.address ≤ largest_count)) (a : Option Progress) (e : a ≡ advanced p row) where
  -- it has come as far as the definition says
  comes : a ≡ Some (after p row)
  comes = e ∙ sym (within p row small.0 small.1)

  pub come_after : (q : Progress) → a ≡ Some q → q ≡ after p row
  come_after q f = let g = sym f ∙ comes in cc

  -- and is not beyond
  pub not_beyond : a ≡ None → ⊥
  not_beyond f = let g = sym f ∙ comes in let z : ◌≡◌ {A = ℕ} 0 1 = cc in omega arith
