-- "Instructions and words": the first word's bits and the second word.
use Rattle.std.specs.Prelude.{ℕ, ◌+◌, ◌^◌, List, [], ◌∷◌, ◌++◌, map, Bool, true, false, not, ◌||◌, cond, take, Option, Some, None}
use Rattle.text.specs.Lists.{total}
use Rattle.text.specs.Answer.{Answer, ok, ◌>>◌, refuse_if, refuse_at}
use Rattle.vm_opcodes.specs.Operations.{operation_bit}
use Rattle.vm_opcodes.specs.declared.OlaOpcode.{OlaOpcode}
use Rattle.vm_hardware.specs.Registers.{register_bit}
use Rattle.vm_hardware.specs.declared.OlaRegister.{OlaRegister}
use Rattle.vm_hardware.specs.declared.Place.{Place}
use Rattle.vm_hardware.specs.declared.Place.TheVariants.{Op0, Op1, Dst}
use Rattle.vm_operands.specs.declared.OlaOperand.{OlaOperand}
use Rattle.vm_operands.specs.declared.OlaOperand.TheVariants.{Empty, ImmediateOperand, RegisterOperand, RegisterWithOffset, RegisterWithFactor, SpecialReg}
use Rattle.program.specs.Instructions.{is_number, carried, register_in, has_too_large, is_memory, is_mov}
use Rattle.program.specs.declared.BinaryInstruction.{BinaryInstruction}
use Rattle.program.specs.declared.InstructionWords.{InstructionWords}

-- the bit of a place's register, "op0 52 plus the register, op1 42 plus it, dst 32 plus it"; no register, no bit
abbrev pub register_bits : Place → Option OlaRegister → ℕ
register_bits place None = 0
register_bits place (Some r) = 2 ^ register_bit place r

-- "A number in op1 sets bit 62"
abbrev pub number_bit : OlaOperand → ℕ
number_bit o = cond (is_number o) (2 ^ 62) 0

-- the first word of an instruction
abbrev pub first_word : BinaryInstruction → ℕ
first_word i =
    register_bits Op0 (register_in i.op0) + register_bits Op1 (register_in i.op1) + register_bits Dst (register_in i.dst) + number_bit i.op1
    + 2 ^ operation_bit i.opcode

abbrev pub last_of : Option ℕ → Option ℕ → Option ℕ
last_of earlier (Some n) = Some n
last_of earlier None = earlier

-- "The second word is the number; where several places carry one, the last of op0, op1, dst"
abbrev pub second_word : BinaryInstruction → Option ℕ
second_word i = last_of (last_of (carried i.op0) (carried i.op1)) (carried i.dst)

abbrev pub in_order : ℕ → Option ℕ → List ℕ
in_order w None = w ∷ []
in_order w (Some v) = w ∷ v ∷ []

-- the words of an instruction, and of a program
abbrev pub words_of : BinaryInstruction → List ℕ
words_of i = in_order (first_word i) (second_word i)

unfoldable pub program_words : List BinaryInstruction → List ℕ
program_words [] = []
program_words (i ∷ is) = words_of i ++ program_words is

-- "two for mload, mstore or a number in op1, else one"
abbrev pub emitted_length : BinaryInstruction → ℕ
emitted_length i = cond (is_memory i.opcode || is_number i.op1) 2 1

-- "The words before an instruction are those of the canonical instructions ahead of it", n of them
abbrev pub words_before : List BinaryInstruction → ℕ → ℕ
words_before is n = total (take n (map emitted_length is))

-- ---- encoding one instruction

-- contents that `encode` rejects in op0 and dst: a number, a special register, a register with factor
abbrev pub rejected_aside : OlaOperand → Bool
rejected_aside Empty = false
rejected_aside (ImmediateOperand v) = true
rejected_aside (RegisterOperand r) = false
rejected_aside (RegisterWithOffset r v) = false
rejected_aside (RegisterWithFactor r v) = true
rejected_aside (SpecialReg s) = true

-- and in op1: a special register outside mov
abbrev pub rejected_in_op1 : OlaOpcode → OlaOperand → Bool
rejected_in_op1 o Empty = false
rejected_in_op1 o (ImmediateOperand v) = false
rejected_in_op1 o (RegisterOperand r) = false
rejected_in_op1 o (RegisterWithOffset r v) = false
rejected_in_op1 o (RegisterWithFactor r v) = false
rejected_in_op1 o (SpecialReg s) = not (is_mov o)

-- 22: "a content that `encode` rejects (place 0, 1 or 2, first in that order)"
abbrev pub rejected_place : BinaryInstruction → Option ℕ
rejected_place i =
    cond (rejected_aside i.op0) (Some 0)
    (cond (rejected_in_op1 i.opcode i.op1) (Some 1)
    (cond (rejected_aside i.dst) (Some 2)
    None))

-- "Encoding one instruction: 21 a number of p or more; 22 a content that `encode` rejects"
unfoldable pub encoded : BinaryInstruction → Answer InstructionWords
encoded i = do
  refuse_if (has_too_large i) 21
  refuse_at (rejected_place i) 22
  ok (record { first = first_word i; second = second_word i })
