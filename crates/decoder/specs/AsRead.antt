-- An instruction as it reads back, "mov's empty source place reads as psp", and that undone.
use Rattle.std.specs.Prelude.{cond}
use Rattle.vm_opcodes.specs.declared.OlaOpcode.{OlaOpcode}
use Rattle.vm_hardware.specs.declared.OlaSpecialRegister.TheVariants.{PC, PSP}
use Rattle.vm_operands.specs.declared.OlaOperand.{OlaOperand}
use Rattle.vm_operands.specs.declared.OlaOperand.TheVariants.{Empty, ImmediateOperand, RegisterOperand, RegisterWithOffset, RegisterWithFactor, SpecialReg}
use Rattle.program.specs.Instructions.{made, is_mov}
use Rattle.program.specs.declared.BinaryInstruction.{BinaryInstruction}
use Rattle.decoder.specs.Decode.{missing_op1}

-- "mov's source place is op1"
abbrev pub op1_as_read : OlaOpcode → OlaOperand → OlaOperand
op1_as_read o Empty = missing_op1 o
op1_as_read o (ImmediateOperand v) = ImmediateOperand v
op1_as_read o (RegisterOperand r) = RegisterOperand r
op1_as_read o (RegisterWithOffset r v) = RegisterWithOffset r v
op1_as_read o (RegisterWithFactor r v) = RegisterWithFactor r v
op1_as_read o (SpecialReg s) = SpecialReg s

abbrev pub as_read : BinaryInstruction → BinaryInstruction
as_read i = made i.opcode i.op0 (op1_as_read i.opcode i.op1) i.dst

-- "mov's psp counts as empty here"
abbrev pub op1_as_canonical : OlaOpcode → OlaOperand → OlaOperand
op1_as_canonical o Empty = Empty
op1_as_canonical o (ImmediateOperand v) = ImmediateOperand v
op1_as_canonical o (RegisterOperand r) = RegisterOperand r
op1_as_canonical o (RegisterWithOffset r v) = RegisterWithOffset r v
op1_as_canonical o (RegisterWithFactor r v) = RegisterWithFactor r v
op1_as_canonical o (SpecialReg PC) = SpecialReg PC
op1_as_canonical o (SpecialReg PSP) = cond (is_mov o) Empty (SpecialReg PSP)

-- an instruction with psp in mov's source place taken as empty; every other content and every other operation stays
abbrev pub as_canonical : BinaryInstruction → BinaryInstruction
as_canonical i = made i.opcode i.op0 (op1_as_canonical i.opcode i.op1) i.dst
