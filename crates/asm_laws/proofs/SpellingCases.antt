-- The laws of SpellingLaws on examples.
use Rattle.std.specs.Prelude.{Some, None}
use mathlib.Core.Path.{◌≡◌, refl}
use mathlib.Core.Bool.{true}
use lib.Dec.{lit<}
use Rattle.text.specs.Bytes.{bytes, is_digit}
use Rattle.text.specs.Scan.{all}
use Rattle.text_read.specs.Numerals.{digit_value, value_from, numeral}
use Rattle.text_write.specs.Digits.{digits_of, digit_count}
use Rattle.vm_operands.specs.Numbers.{immediate}
use Rattle.asm.specs.Operands.{is_source_number, source_number, first_match}
use Rattle.asm_laws.proofs.SpellingLaws.{spellings_agree, pasted_reads, decimal_shapes, pieces_were}

-- digits of either case
either_case : (is_source_number (bytes "43981") ≡ true) × (source_number (bytes "0xaBcD") ≡ source_number (bytes "43981"))
unfolding is_digit all digit_value value_from numeral digits_of digit_count
either_case = spellings_agree (bytes "0xaBcD") refl

-- p, which is no number in either spelling
from_p_on : (is_source_number (bytes "18446744069414584321") ≡ true) × (source_number (bytes "0xffffffff00000001") ≡ source_number (bytes "18446744069414584321"))
unfolding is_digit all digit_value value_from numeral digits_of digit_count
from_p_on = spellings_agree (bytes "0xffffffff00000001") refl

-- the first word of `mov r1` and a number, as the bytecode prints it
word_pasted : source_number (bytes "0x4000000208000000") ≡ Some (immediate 0x4000000208000000)
unfolding digits_of
word_pasted = (pasted_reads 0x4000000208000000 (lit< tt)).1

-- a number, as it prints that
number_pasted : source_number (bytes "0xabcd") ≡ Some (immediate 0xabcd)
unfolding digits_of digit_count
number_pasted = (pasted_reads 0xabcd (lit< tt)).0

-- an operand that was unreadable
offset_unreadable : first_match decimal_shapes (record { start = 0; text = bytes "[r2,0xA]" }) ≡ None
unfolding is_digit all digit_value value_from numeral
offset_unreadable = pieces_were (record { start = 0; text = bytes "[r2,0xA]" }) refl
