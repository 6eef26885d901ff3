-- The promises on any text that opens, applied to bytecode that no source has: a register bit too many, a number in decimal, a last word without its second line.
use Rattle.std.specs.Prelude.{ℕ, ◌≡◌, refl, List, [], ◌∷◌}
use Rattle.text.specs.Bytes.{bytes, is_digit}
use Rattle.text.specs.Scan.{all, parts}
use Rattle.text.specs.Lines.{lines, ended}
use Rattle.text.specs.Answer.{ok, refused, ◌>>=◌, ◌>>◌, refuse_if, refuse_at}
use Rattle.text.specs.All.{All}
use Rattle.text_read.specs.Numerals.{digit_value, value_from, numeral, unprefixed, hexadecimal}
use Rattle.vm_opcodes.specs.Operations.{operations, first_operation}
use Rattle.vm_opcodes.specs.declared.OlaOpcode.TheVariants.{MOV, CALL, RET}
use Rattle.vm_hardware.specs.Registers.{registers, first_register}
use Rattle.vm_hardware.specs.declared.OlaRegister.TheVariants.{R1}
use Rattle.vm_hardware.specs.declared.OlaSpecialRegister.TheVariants.{PSP}
use Rattle.vm_operands.specs.Numbers.{signed, number_of}
use Rattle.vm_operands.specs.declared.OlaOperand.TheVariants.{Empty, RegisterOperand, SpecialReg}
use Rattle.program.specs.Instructions.{made, a_number}
use Rattle.program.specs.Groups.{grouped}
use Rattle.program.specs.declared.BinaryInstruction.{BinaryInstruction}
use Rattle.program.specs.CanonicalForm.{CanonicalForm, InOrder}
use Rattle.decoder.specs.Lines.{complete_of, first_unreadable}
use Rattle.decoder.specs.Decode.{built_with, on_number, on_operation, on_first}
use Rattle.decoder.specs.Open.{all_decoded, opened, run}
use Rattle.promises.proofs.Promises.{opened_run, opened_form}

-- document 01's ret with the bits of r1 and r2 in dst, a mov without a source, a call whose number is decimal, and a call without its number
abbrev pub strange : List ℕ
strange = bytes "0x0000000600800000\n0x0000000208000000\n0x4000000001000000\n10\n0x4000000001000000"

abbrev pub strange_read : List BinaryInstruction
strange_read = made RET Empty Empty (RegisterOperand R1) ∷ made MOV Empty (SpecialReg PSP) (RegisterOperand R1) ∷ made CALL Empty (a_number 10) Empty ∷ []

pub strange_opens : opened strange ≡ ok strange_read
unfolding is_digit all parts lines ended ◌>>=◌ ◌>>◌ refuse_if refuse_at digit_value value_from numeral unprefixed hexadecimal operations first_operation registers first_register signed number_of grouped complete_of first_unreadable built_with on_number on_operation on_first all_decoded opened
strange_opens = refl

-- five calls: the three instructions, dst r1 in the first, psp in the second, ten in the third; then 20 twice
strange_run : run 5 strange 0
    ≡ ok (made RET Empty Empty (RegisterOperand R1)) ∷ ok (made MOV Empty (SpecialReg PSP) (RegisterOperand R1)) ∷ ok (made CALL Empty (a_number 10) Empty)
    ∷ refused 20 0 ∷ refused 20 0 ∷ []
strange_run = opened_run strange strange_read strange_opens 5

-- their forms, the mov's with an empty source
strange_form : All CanonicalForm (made RET Empty Empty (RegisterOperand R1) ∷ made MOV Empty Empty (RegisterOperand R1) ∷ made CALL Empty (a_number 10) Empty ∷ [])
    × All InOrder strange_read
strange_form = opened_form strange strange_read strange_opens
