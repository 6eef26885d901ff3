-- "An instruction has three places, 0 op0, 1 op1 and 2 dst, each empty or holding one of the five contents of `OlaOperand`."
use Rattle.std.specs.Prelude.{ℕ, Bool, true, false, not, ◌||◌, eqb, ltb, Option, Some, None}
use Rattle.vm_opcodes.specs.Operations.{operation_bit}
use Rattle.vm_opcodes.specs.declared.OlaOpcode.{OlaOpcode}
use Rattle.vm_hardware.specs.declared.OlaRegister.{OlaRegister}
use Rattle.vm_operands.specs.Numbers.{order, immediate}
use Rattle.vm_operands.specs.declared.OlaOperand.{OlaOperand}
use Rattle.vm_operands.specs.declared.OlaOperand.TheVariants.{Empty, ImmediateOperand, RegisterOperand, RegisterWithOffset, RegisterWithFactor, SpecialReg}
use Rattle.program.specs.declared.BinaryInstruction.{BinaryInstruction}

-- an instruction from its operation and contents
abbrev pub made : OlaOpcode → OlaOperand → OlaOperand → OlaOperand → BinaryInstruction
made o op0 op1 dst = record { opcode = o; op0 = op0; op1 = op1; dst = dst }

abbrev pub a_number : ℕ → OlaOperand
a_number n = ImmediateOperand (immediate n)

-- the content is a number
abbrev pub is_number : OlaOperand → Bool
is_number Empty = false
is_number (ImmediateOperand v) = true
is_number (RegisterOperand r) = false
is_number (RegisterWithOffset r v) = false
is_number (RegisterWithFactor r v) = false
is_number (SpecialReg s) = false

-- the number, offset or factor that a content carries
abbrev pub carried : OlaOperand → Option ℕ
carried Empty = None
carried (ImmediateOperand v) = Some v.number
carried (RegisterOperand r) = None
carried (RegisterWithOffset r v) = Some v.number
carried (RegisterWithFactor r v) = Some v.number
carried (SpecialReg s) = None

-- the register that a content has
abbrev pub register_in : OlaOperand → Option OlaRegister
register_in Empty = None
register_in (ImmediateOperand v) = None
register_in (RegisterOperand r) = Some r
register_in (RegisterWithOffset r v) = Some r
register_in (RegisterWithFactor r v) = Some r
register_in (SpecialReg s) = None

abbrev pub is_too_large : Option ℕ → Bool
is_too_large None = false
is_too_large (Some n) = not (ltb n order)

-- 21: "a number of p or more", looked for in "the numbers, offsets and factors of all three places"
abbrev pub has_too_large : BinaryInstruction → Bool
has_too_large i = is_too_large (carried i.op0) || is_too_large (carried i.op1) || is_too_large (carried i.dst)

-- mload and mstore
abbrev pub is_memory : OlaOpcode → Bool
is_memory o = eqb (operation_bit o) 22 || eqb (operation_bit o) 21

abbrev pub is_mov : OlaOpcode → Bool
is_mov o = eqb (operation_bit o) 27
