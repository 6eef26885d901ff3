-- What stands in a place of a source row, `place_source`, as the texts that are pushed for it, its pieces.
use Rattle.std.specs.Prelude.{ℕ, List, [], ◌∷◌}
use Rattle.text.specs.Bytes.{bytes}
use Rattle.text_write.specs.Digits.{decimal_text}
use Rattle.vm_hardware.specs.Registers.{register_text, special_text}
use Rattle.vm_hardware.specs.declared.OlaSpecialRegister.TheVariants.{PSP}
use Rattle.vm_operands.specs.declared.OlaOperand.{OlaOperand}
use Rattle.vm_operands.specs.declared.OlaOperand.TheVariants.{Empty, ImmediateOperand, RegisterOperand, RegisterWithOffset, RegisterWithFactor, SpecialReg}

abbrev pub source_pieces : OlaOperand → List (List ℕ)
source_pieces Empty = special_text PSP ∷ []
source_pieces (ImmediateOperand v) = decimal_text v.number ∷ []
source_pieces (RegisterOperand r) = register_text r ∷ []
source_pieces (RegisterWithOffset r v) = register_text r ∷ bytes "," ∷ decimal_text v.number ∷ []
source_pieces (RegisterWithFactor r v) = register_text r ∷ bytes "," ∷ decimal_text v.number ∷ []
source_pieces (SpecialReg s) = special_text s ∷ []
