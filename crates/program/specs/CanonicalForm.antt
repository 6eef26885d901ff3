-- The forms that instructions of accepted sources have, and numbers below p.
use Rattle.std.specs.Prelude.{ℕ, ◌<◌, ◌≡◌, true, false, Option, Some, None}
use Rattle.vm_opcodes.specs.declared.OlaOpcode.{OlaOpcode}
use Rattle.vm_hardware.specs.declared.OlaRegister.{OlaRegister}
use Rattle.vm_operands.specs.Numbers.{order}
use Rattle.vm_operands.specs.declared.ImmediateValue.{ImmediateValue}
use Rattle.vm_operands.specs.declared.OlaOperand.{OlaOperand}
use Rattle.vm_operands.specs.declared.OlaOperand.TheVariants.{Empty, ImmediateOperand, RegisterOperand, RegisterWithFactor}
use Rattle.program.specs.Instructions.{made, is_memory, carried}
use Rattle.program.specs.declared.BinaryInstruction.{BinaryInstruction}

-- a register, or nothing
abbrev pub or_empty : Option OlaRegister → OlaOperand
or_empty None = Empty
or_empty (Some r) = RegisterOperand r

pub data CanonicalForm : BinaryInstruction → Type 0 where
  -- registers or nothing in every place
  plain : (o : OlaOpcode) (a b d : Option OlaRegister) → is_memory o ≡ false → CanonicalForm (made o (or_empty a) (or_empty b) (or_empty d))
  -- a number in op1
  numbered : (o : OlaOpcode) (a d : Option OlaRegister) (v : ImmediateValue) → is_memory o ≡ false → CanonicalForm (made o (or_empty a) (ImmediateOperand v) (or_empty d))
  -- mload or mstore with an offset
  offset : (o : OlaOpcode) (a d : OlaRegister) (v : ImmediateValue) → is_memory o ≡ true
      → CanonicalForm (made o (RegisterOperand a) (ImmediateOperand v) (RegisterOperand d))
  -- mload or mstore with a register and a factor
  factored : (o : OlaOpcode) (a b d : OlaRegister) (v : ImmediateValue) → is_memory o ≡ true
      → CanonicalForm (made o (RegisterOperand a) (RegisterWithFactor b v) (RegisterOperand d))

-- a number, if there is one, below p
pub data BelowOrder : Option ℕ → Type 0 where
  no_number : BelowOrder None
  below : {v : ℕ} → v < order → BelowOrder (Some v)

-- every number of an instruction is below p
pub record InOrder (i : BinaryInstruction) : Type 0 where
  pub op0 : BelowOrder (carried i.op0)
  pub op1 : BelowOrder (carried i.op1)
  pub dst : BelowOrder (carried i.dst)
