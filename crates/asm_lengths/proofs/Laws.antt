-- An instruction row's counted length.
use Prim.Native.Nat.{◌≤◌}
use lib.Dec.{lit≤}
use Rattle.asm.specs.Rows.{counted}
use Rattle.asm.specs.declared.OlaAsmOperand.{OlaAsmOperand}
use Rattle.asm.specs.declared.OlaAsmOperand.TheVariants.{Empty, ImmediateOperand, RegisterOperand, RegisterWithOffset, RegisterWithFactoredRegOffset, SpecialReg, Label, Identifier}

-- an operand adds at most one to a counted length
pub counted_le : (x : OlaAsmOperand) → counted x ≤ 1
counted_le Empty = lit≤ tt
counted_le (ImmediateOperand v) = lit≤ tt
counted_le (RegisterOperand a) = lit≤ tt
counted_le (RegisterWithOffset a v) = lit≤ tt
counted_le (RegisterWithFactoredRegOffset a b v) = lit≤ tt
counted_le (SpecialReg b) = lit≤ tt
counted_le (Label start n) = lit≤ tt
counted_le (Identifier start n) = lit≤ tt
