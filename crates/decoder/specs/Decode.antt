-- One instruction from its first word and its second line.
use Rattle.std.specs.Prelude.{ℕ, List, Bool, true, false, ◌||◌, cond, Option, Some, None}
use Rattle.text.specs.Answer.{Answer, ok, refused}
use Rattle.vm_opcodes.specs.Operations.{bit, operation_in}
use Rattle.vm_opcodes.specs.declared.OlaOpcode.{OlaOpcode}
use Rattle.vm_hardware.specs.Registers.{register_in}
use Rattle.vm_hardware.specs.declared.OlaSpecialRegister.TheVariants.{PSP}
use Rattle.vm_hardware.specs.declared.Place.{Place}
use Rattle.vm_hardware.specs.declared.Place.TheVariants.{Op0, Op1, Dst}
use Rattle.vm_operands.specs.declared.ImmediateValue.{ImmediateValue}
use Rattle.vm_operands.specs.declared.OlaOperand.{OlaOperand}
use Rattle.vm_operands.specs.declared.OlaOperand.TheVariants.{Empty, ImmediateOperand, RegisterOperand, RegisterWithFactor, SpecialReg}
use Rattle.program.specs.Instructions.{made, is_memory, is_mov}
use Rattle.program.specs.Groups.{Group}
use Rattle.program.specs.declared.BinaryInstruction.{BinaryInstruction}
use Rattle.decoder.specs.Lines.{first_of_line, second_of_line}
use Rattle.vm_hardware.specs.declared.OlaRegister.{OlaRegister}

-- a register, or the content where there is none
abbrev pub register_or : OlaOperand → Option OlaRegister → OlaOperand
register_or other (Some r) = RegisterOperand r
register_or other None = other

-- "the lowest set register bit of each place counts"
abbrev pub content_in : Place → ℕ → OlaOperand
content_in place w = register_or Empty (register_in place w)

-- "mov's empty source place reads as psp"
abbrev pub missing_op1 : OlaOpcode → OlaOperand
missing_op1 o = cond (is_mov o) (SpecialReg PSP) Empty

-- op1 without a number
abbrev pub op1_in : OlaOpcode → ℕ → OlaOperand
op1_in o w = register_or (missing_op1 o) (register_in Op1 w)

-- 19: "mload or mstore lacking dst, op0 or, without bit 62, op1", at instruction k
unfoldable pub memory_built : ℕ → OlaOpcode → ImmediateValue → Bool → Option OlaRegister → Option OlaRegister → Option OlaRegister → Answer BinaryInstruction
memory_built k o v numbered None op0 op1 = refused 19 k
memory_built k o v numbered (Some d) None op1 = refused 19 k
memory_built k o v true (Some d) (Some a) op1 = ok (made o (RegisterOperand a) (ImmediateOperand v) (RegisterOperand d))
memory_built k o v false (Some d) (Some a) None = refused 19 k
memory_built k o v false (Some d) (Some a) (Some b) =
    ok (made o (RegisterOperand a) (RegisterWithFactor b v) (RegisterOperand d))

abbrev pub memory_in : ℕ → OlaOpcode → ℕ → ImmediateValue → Answer BinaryInstruction
memory_in k o w v = memory_built k o v (bit 62 w) (register_in Dst w) (register_in Op0 w) (register_in Op1 w)

-- with a second line's number
unfoldable pub built_with : ℕ → OlaOpcode → ℕ → ImmediateValue → Answer BinaryInstruction
built_with k o w v = cond (is_memory o) (memory_in k o w v) (ok (made o (content_in Op0 w) (ImmediateOperand v) (content_in Dst w)))

-- without one
abbrev pub built_alone : OlaOpcode → ℕ → BinaryInstruction
built_alone o w = made o (content_in Op0 w) (op1_in o w) (content_in Dst w)

-- 18: "a second line that is no number below p in size"
unfoldable pub on_number : ℕ → OlaOpcode → ℕ → Option ImmediateValue → Answer BinaryInstruction
on_number k o w None = refused 18 k
on_number k o w (Some v) = built_with k o w v

-- "Two lines are due for bit 62 with any operation, and for mload and mstore"
abbrev pub two_due : OlaOpcode → ℕ → Bool
two_due o w = bit 62 w || is_memory o

-- 17: "two lines where one is due"
unfoldable pub on_operation : ℕ → ℕ → Option OlaOpcode → Option (List ℕ) → Answer BinaryInstruction
on_operation k w None second = refused 16 k
on_operation k w (Some o) None = ok (built_alone o w)
on_operation k w (Some o) (Some l) = cond (two_due o w) (on_number k o w (second_of_line l)) (refused 17 k)

-- "then by instruction (its index) 16 no operation bit", 17, 18, 19
abbrev pub decoded : ℕ → ℕ → Option (List ℕ) → Answer BinaryInstruction
decoded k w second = on_operation k w (operation_in w) second

-- the instruction of a complete group, whose index is k
unfoldable pub on_first : ℕ → Option ℕ → Option (List ℕ) → Answer BinaryInstruction
on_first k None second = refused 15 k
on_first k (Some w) second = decoded k w second

abbrev pub group_decoded : ℕ → Group (List ℕ) → Answer BinaryInstruction
group_decoded k g = on_first k (first_of_line g.first) g.second
