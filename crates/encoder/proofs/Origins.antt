-- Where a canonical instruction comes from: each place resolved by itself, or the memory operand and the value of mload and mstore.
use Rattle.std.specs.Prelude.{Some, None}
use Prim.Native.Nat.{ℕ}
use mathlib.Core.Path.{◌≡◌, refl, sym, ap, ◌∙◌, subst}
use mathlib.Core.Bool.{Bool, true, false, cond}
use Rattle.text.specs.Answer.{ok, ◌>>=◌}
use Rattle.text.proofs.AnswerLaws.{not_ok, ok_same, ok_bind, at_passed}
use Rattle.vm_opcodes.specs.Operations.{operations, row_places}
use Rattle.vm_opcodes.proofs.Laws.{agree}
use Rattle.vm_opcodes.specs.declared.OlaOpcode.{OlaOpcode}
use Rattle.vm_opcodes.specs.declared.RowPlaces.{RowPlaces}
use Rattle.vm_opcodes.specs.declared.RowPlaces.TheVariants.{DstOp0Op1, DstOp1, DstMemory, MemoryDst, Op0Op1, Op1, Bare}
use Rattle.vm_hardware.specs.declared.OlaRegister.{OlaRegister}
use Rattle.vm_operands.specs.declared.ImmediateValue.{ImmediateValue}
use Rattle.vm_operands.specs.declared.OlaOperand.TheVariants.{ImmediateOperand as ANumber, RegisterOperand as ARegister, RegisterWithFactor as AFactor}
use Rattle.asm.specs.Rows.{counted}
use Rattle.asm.specs.Survey.{is_memory_row}
use Rattle.asm.specs.declared.OlaAsmOperand.{OlaAsmOperand}
use Rattle.asm.specs.declared.OlaAsmOperand.TheVariants.{Empty, ImmediateOperand, RegisterOperand, RegisterWithOffset, RegisterWithFactoredRegOffset, SpecialReg, Label, Identifier}
use Rattle.asm.specs.declared.OlaAsmInstruction.{OlaAsmInstruction}
use Rattle.program.specs.Instructions.{made, is_memory}
use Rattle.program.specs.declared.BinaryInstruction.{BinaryInstruction}
use Rattle.encoder.specs.Canonical.{Names, plain, has_bracket, general, anchored, memory, canonical_by, canonical_of}
use Rattle.std.proofs.lemmas.Option.{none-some}

-- ---- mload and mstore by their rows

-- mload and mstore are the operations whose rows have a memory operand
pub memory_rows : (o : OlaOpcode) → is_memory o ≡ is_memory_row (row_places o)
unfolding operations
memory_rows = agree (λ o. is_memory_row (row_places o)) is_memory false refl

-- ---- the two ways of being made

-- each place of the row, resolved
pub record Resolved (names : Names) (k : ℕ) (i : OlaAsmInstruction) (b : BinaryInstruction) : Type 0 where
  pub opcode : i.opcode ≡ b.opcode
  pub op0 : plain names k i.op0 ≡ ok b.op0
  pub op1 : plain names k i.op1 ≡ ok b.op1
  pub dst : plain names k i.dst ≡ ok b.dst

-- a memory operand and a value register
pub data Anchored (o : OlaOpcode) : OlaAsmOperand → OlaAsmOperand → BinaryInstruction → Type 0 where
  by_offset : (a d : OlaRegister) (v : ImmediateValue) → Anchored o (RegisterWithOffset a v) (RegisterOperand d) (made o (ARegister a) (ANumber v) (ARegister d))
  by_factor : (a t d : OlaRegister) (v : ImmediateValue)
      → Anchored o (RegisterWithFactoredRegOffset a t v) (RegisterOperand d) (made o (ARegister a) (AFactor t v) (ARegister d))

-- a memory operand counts 1, its value nothing
pub anchored_counted : (o : OlaOpcode) (x y : OlaAsmOperand) (b : BinaryInstruction) → Anchored o x y b → (counted x ≡ 1) × (counted y ≡ 0) × (o ≡ b.opcode)
anchored_counted o x y b (by_offset a d v) = (refl, refl, refl)
anchored_counted o x y b (by_factor a t d v) = (refl, refl, refl)

-- the canonical instruction of a row
pub data Origin (names : Names) (k : ℕ) (i : OlaAsmInstruction) (b : BinaryInstruction) : Type 0 where
  ordinary : is_memory i.opcode ≡ false → has_bracket i ≡ false → Resolved names k i b → Origin names k i b
  load : row_places i.opcode ≡ DstMemory → Anchored i.opcode i.op1 i.dst b → Origin names k i b
  store : row_places i.opcode ≡ MemoryDst → Anchored i.opcode i.op0 i.op1 b → Origin names k i b

not_found : (t : Bool) (k : ℕ) → cond t (Some k) None ≡ None → t ≡ false
not_found true k e = absurd (none-some k (sym e))
not_found false k e = refl

-- a row that is no mload or mstore and is accepted has no bracket, and each of its places was resolved
pub general_resolved : (names : Names) (k : ℕ) (i : OlaAsmInstruction) (b : BinaryInstruction) → general names k i ≡ ok b → (has_bracket i ≡ false) × Resolved names k i b
unfolding general
general_resolved names k i b e =
    let f = at_passed _ _ _ b e in
    let x = ok_bind (plain names k i.op0) _ b f.1 in
    let y = ok_bind (plain names k i.op1) _ b x.2 in
    let z = ok_bind (plain names k i.dst) _ b y.2 in
    (not_found (has_bracket i) _ f.0, subst (Resolved names k i) (ok_same z.2) (record { opcode = refl; op0 = x.1; op1 = y.1; dst = z.1 }))

anchored_by : (k : ℕ) (o : OlaOpcode) (x : OlaAsmOperand) (d : OlaRegister) (b : BinaryInstruction) → anchored k o x (ARegister d) ≡ ok b
    → Anchored o x (RegisterOperand d) b
anchored_by k o Empty d b e = absurd (not_ok e)
anchored_by k o (ImmediateOperand v) d b e = absurd (not_ok e)
anchored_by k o (RegisterOperand r) d b e = absurd (not_ok e)
anchored_by k o (RegisterWithOffset r v) d b e = subst (Anchored o (RegisterWithOffset r v) (RegisterOperand d)) (ok_same e) (by_offset r d v)
anchored_by k o (RegisterWithFactoredRegOffset r t v) d b e =
    subst (Anchored o (RegisterWithFactoredRegOffset r t v) (RegisterOperand d)) (ok_same e) (by_factor r t d v)
anchored_by k o (SpecialReg t) d b e = absurd (not_ok e)
anchored_by k o (Label start n) d b e = absurd (not_ok e)
anchored_by k o (Identifier start n) d b e = absurd (not_ok e)

memory_anchored : (k : ℕ) (o : OlaOpcode) (x y : OlaAsmOperand) (b : BinaryInstruction) → memory k o x y ≡ ok b → Anchored o x y b
unfolding memory ◌>>=◌
memory_anchored k o x Empty b e = absurd (not_ok e)
memory_anchored k o x (ImmediateOperand v) b e = absurd (not_ok e)
memory_anchored k o x (RegisterOperand r) b e = anchored_by k o x r b e
memory_anchored k o x (RegisterWithOffset r v) b e = absurd (not_ok e)
memory_anchored k o x (RegisterWithFactoredRegOffset r t v) b e = absurd (not_ok e)
memory_anchored k o x (SpecialReg t) b e = absurd (not_ok e)
memory_anchored k o x (Label start n) b e = absurd (not_ok e)
memory_anchored k o x (Identifier start n) b e = absurd (not_ok e)

-- an instruction that is accepted was made in one of these ways
pub canonical_origin : (names : Names) (k : ℕ) (i : OlaAsmInstruction) (b : BinaryInstruction) → canonical_of names k i ≡ ok b → Origin names k i b
unfolding canonical_by
canonical_origin names k i b e = go (row_places i.opcode) refl e
  where
    resolved : (p : RowPlaces) → row_places i.opcode ≡ p → is_memory_row p ≡ false → general names k i ≡ ok b → Origin names k i b
    resolved p h m e = let r = general_resolved names k i b e in ordinary (memory_rows i.opcode ∙ ap is_memory_row h ∙ m) r.0 r.1

    go : (p : RowPlaces) → row_places i.opcode ≡ p → canonical_by p names k i ≡ ok b → Origin names k i b
    go DstOp0Op1 h e = resolved DstOp0Op1 h refl e
    go DstOp1 h e = resolved DstOp1 h refl e
    go DstMemory h e = load h (memory_anchored k i.opcode i.op1 i.dst b e)
    go MemoryDst h e = store h (memory_anchored k i.opcode i.op0 i.op1 b e)
    go Op0Op1 h e = resolved Op0Op1 h refl e
    go Op1 h e = resolved Op1 h refl e
    go Bare h e = resolved Bare h refl e
