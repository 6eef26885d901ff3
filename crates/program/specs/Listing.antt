-- "A listing row is the mnemonic and then, after one space each" its places.
use Rattle.std.specs.Prelude.{ℕ, List, [], ◌++◌}
use Rattle.text.specs.Bytes.{bytes}
use Rattle.text.specs.Answer.{Answer, ok, refused, ◌>>=◌, ◌>>◌, refuse_if}
use Rattle.text_write.specs.Digits.{fewest_text}
use Rattle.vm_opcodes.specs.Operations.{row_places}
use Rattle.vm_opcodes.specs.declared.RowPlaces.{RowPlaces}
use Rattle.vm_opcodes.specs.declared.RowPlaces.TheVariants.{DstOp0Op1, DstOp1, DstMemory, MemoryDst, Op0Op1, Op1, Bare}
use Rattle.vm_mnemonics.specs.Mnemonics.{mnemonic}
use Rattle.vm_hardware.specs.Registers.{register_text, special_text}
use Rattle.vm_operands.specs.declared.OlaOperand.{OlaOperand}
use Rattle.vm_operands.specs.declared.OlaOperand.TheVariants.{Empty, ImmediateOperand, RegisterOperand, RegisterWithOffset, RegisterWithFactor, SpecialReg}
use Rattle.program.specs.Instructions.{has_too_large}
use Rattle.program.specs.Bytecode.{within}
use Rattle.program.specs.declared.BinaryInstruction.{BinaryInstruction}

-- "A number lists as it is printed, a register with offset as `r1+0x2`, a register with factor as `0x2*r1`"; 24 where "a place that it
-- needs is empty"
abbrev pub operand_text : OlaOperand → Answer (List ℕ)
operand_text Empty = refused 24 0
operand_text (ImmediateOperand v) = ok (fewest_text v.number)
operand_text (RegisterOperand r) = ok (register_text r)
operand_text (RegisterWithOffset r v) = ok (register_text r ++ bytes "+" ++ fewest_text v.number)
operand_text (RegisterWithFactor r v) = ok (fewest_text v.number ++ bytes "*" ++ register_text r)
operand_text (SpecialReg s) = ok (special_text s)

-- `[op0+op1]`
unfoldable pub memory_text : BinaryInstruction → Answer (List ℕ)
memory_text i = operand_text i.op0 >>= λ a. operand_text i.op1 >>= λ b. ok (bytes "[" ++ a ++ bytes "+" ++ b ++ bytes "]")

-- one space and a text, and what follows
unfoldable pub spaced : Answer (List ℕ) → Answer (List ℕ) → Answer (List ℕ)
spaced text rest = text >>= λ a. rest >>= λ b. ok (bytes " " ++ a ++ b)

-- the places of a row, in its order
unfoldable pub places_text : RowPlaces → BinaryInstruction → Answer (List ℕ)
places_text DstOp0Op1 i = spaced (operand_text i.dst) (spaced (operand_text i.op0) (spaced (operand_text i.op1) (ok [])))
places_text DstOp1 i = spaced (operand_text i.dst) (spaced (operand_text i.op1) (ok []))
places_text DstMemory i = spaced (operand_text i.dst) (spaced (memory_text i) (ok []))
places_text MemoryDst i = spaced (memory_text i) (spaced (operand_text i.dst) (ok []))
places_text Op0Op1 i = spaced (operand_text i.op0) (spaced (operand_text i.op1) (ok []))
places_text Op1 i = spaced (operand_text i.op1) (ok [])
places_text Bare i = ok []

-- the row of an instruction: "for a row 21, then 24"
unfoldable pub row_text : BinaryInstruction → Answer (List ℕ)
row_text i = do
  refuse_if (has_too_large i) 21
  places ← places_text (row_places i.opcode) i
  ok (mnemonic i.opcode ++ places)

-- "for both, last, 23 the lent text is too short"
unfoldable pub row_written : BinaryInstruction → ℕ → Answer (List ℕ)
row_written i room = row_text i >>= λ text. within room text
