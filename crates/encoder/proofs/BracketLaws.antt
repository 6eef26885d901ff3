-- What 02's Point 6 changes: a row with brackets outside mload and mstore is refused with 25. Every other row is made what it was made before, or
-- refused as it was, and so is a program without such rows; a program that is accepted was accepted and is the same.
use Rattle.std.specs.Prelude.{Some, None}
use Prim.Native.Nat.{ℕ, suc}
use mathlib.Core.Path.{◌≡◌, refl, sym, ◌∙◌}
use mathlib.Core.List.{List, [], ◌∷◌}
use mathlib.Core.Bool.{Bool, true, false, not, ◌&&◌, cond, true≢false}
use Rattle.text.specs.Answer.{Answer, ok, refused, ◌>>=◌, ◌>>◌, refuse_at}
use Rattle.text.specs.All.{All, none_left, one_more}
use Rattle.text.proofs.AnswerLaws.{not_ok, ok_bind}
use Rattle.vm_opcodes.specs.Operations.{row_places}
use Rattle.vm_opcodes.specs.declared.RowPlaces.{RowPlaces}
use Rattle.vm_opcodes.specs.declared.RowPlaces.TheVariants.{DstOp0Op1, DstOp1, DstMemory, MemoryDst, Op0Op1, Op1, Bare}
use Rattle.asm.specs.Survey.{is_memory_row}
use Rattle.asm.specs.declared.OlaAsmInstruction.{OlaAsmInstruction}
use Rattle.program.specs.Instructions.{made}
use Rattle.program.specs.declared.BinaryInstruction.{BinaryInstruction}
use Rattle.encoder.specs.Canonical.{Names, plain, has_bracket, general, memory, canonical_by, canonical_of, canonical_from}

-- 01's own rule: "pc, psp and brackets outside mload and mstore become empty"
abbrev former_general : Names → ℕ → OlaAsmInstruction → Answer BinaryInstruction
former_general names k i = plain names k i.op0 >>= λ op0. plain names k i.op1 >>= λ op1. plain names k i.dst >>= λ dst. ok (made i.opcode op0 op1 dst)

abbrev former_by : RowPlaces → Names → ℕ → OlaAsmInstruction → Answer BinaryInstruction
former_by DstOp0Op1 names k i = former_general names k i
former_by DstOp1 names k i = former_general names k i
former_by DstMemory names k i = memory k i.opcode i.op1 i.dst
former_by MemoryDst names k i = memory k i.opcode i.op0 i.op1
former_by Op0Op1 names k i = former_general names k i
former_by Op1 names k i = former_general names k i
former_by Bare names k i = former_general names k i

unfoldable pub former_from : Names → ℕ → List OlaAsmInstruction → Answer (List BinaryInstruction)
former_from names k [] = ok []
former_from names k (i ∷ is) = former_by (row_places i.opcode) names k i >>= λ b. former_from names (suc k) is >>= λ bs. ok (b ∷ bs)

-- brackets outside mload and mstore
abbrev pub brackets_outside : RowPlaces → OlaAsmInstruction → Bool
brackets_outside p i = not (is_memory_row p) && has_bracket i

module _ (names : Names) (k : ℕ) (i : OlaAsmInstruction) where
  -- the rest of a row is asked after its brackets
  general_is : general names k i ≡ cond (has_bracket i) (refused 25 k) (former_general names k i)
  unfolding general ◌>>◌ refuse_at
  general_is = go (has_bracket i)
    where
      go : (t : Bool) → (refuse_at (cond t (Some k) None) 25 >> former_general names k i) ≡ cond t (refused 25 k) (former_general names k i)
      go true = refl
      go false = refl

  -- a row of mload or mstore, and one without brackets, is made what it was
  pub rows_stay : brackets_outside (row_places i.opcode) i ≡ false → canonical_of names k i ≡ former_by (row_places i.opcode) names k i
  unfolding canonical_by
  rows_stay = go (row_places i.opcode)
    where
      plainly : has_bracket i ≡ false → general names k i ≡ former_general names k i
      plainly e = general_is ∙ rw e

      go : (p : RowPlaces) → brackets_outside p i ≡ false → canonical_by p names k i ≡ former_by p names k i
      go DstOp0Op1 e = plainly e
      go DstOp1 e = plainly e
      go DstMemory e = refl
      go MemoryDst e = refl
      go Op0Op1 e = plainly e
      go Op1 e = plainly e
      go Bare e = plainly e

  -- any other is refused with 25
  pub rows_changed : brackets_outside (row_places i.opcode) i ≡ true → canonical_of names k i ≡ refused 25 k
  unfolding canonical_by
  rows_changed = go (row_places i.opcode)
    where
      refusedly : has_bracket i ≡ true → general names k i ≡ refused 25 k
      refusedly e = general_is ∙ rw e

      go : (p : RowPlaces) → brackets_outside p i ≡ true → canonical_by p names k i ≡ refused 25 k
      go DstOp0Op1 e = refusedly e
      go DstOp1 e = refusedly e
      go DstMemory e = absurd (true≢false (sym e))
      go MemoryDst e = absurd (true≢false (sym e))
      go Op0Op1 e = refusedly e
      go Op1 e = refusedly e
      go Bare e = refusedly e

  -- so a row that is accepted was accepted, and made the same
  row_was : (b : BinaryInstruction) → canonical_of names k i ≡ ok b → former_by (row_places i.opcode) names k i ≡ ok b
  row_was b e = go (brackets_outside (row_places i.opcode) i) refl
    where
      go : (t : Bool) → brackets_outside (row_places i.opcode) i ≡ t → former_by (row_places i.opcode) names k i ≡ ok b
      go true f = absurd (not_ok (sym (rows_changed f) ∙ e))
      go false f = sym (rows_stay f) ∙ e

-- a program without such rows is what it was, refusals too
pub programs_stay : (names : Names) (k : ℕ) (is : List OlaAsmInstruction) → All (λ i. brackets_outside (row_places i.opcode) i ≡ false) is
    → canonical_from names k is ≡ former_from names k is
unfolding canonical_from former_from
programs_stay names k is none_left = refl
programs_stay names k is (one_more {x = i} {xs = js} e es) = rw (rows_stay names k i e, programs_stay names (suc k) js es)

-- a program that is accepted was accepted, and is the same
pub accepted_was : (names : Names) (k : ℕ) (is : List OlaAsmInstruction) (bs : List BinaryInstruction) → canonical_from names k is ≡ ok bs → former_from names k is ≡ ok bs
unfolding canonical_from former_from ◌>>=◌
accepted_was names k [] bs e = e
accepted_was names k (i ∷ is) bs e =
    let x = ok_bind (canonical_of names k i) _ bs e in
    let y = ok_bind (canonical_from names (suc k) is) _ bs x.2 in
    rw (row_was names k i x.0 x.1, accepted_was names (suc k) is y.0 y.1) y.2
