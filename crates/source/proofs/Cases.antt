-- 02's words and inputs that separate likely misreadings, by computation: bytecode and room, and what writing its source answers.
use Prim.Native.Nat.{ℕ}
use mathlib.Core.Path.{◌≡◌, refl}
use mathlib.Core.List.{List, [], ◌∷◌, map}
use Rattle.text.specs.Bytes.{bytes, is_digit, same}
use Rattle.text.specs.Scan.{scan, all, parts}
use Rattle.text.specs.Lines.{lines, ended}
use Rattle.text.specs.Answer.{Answer, ok, refused, ◌>>=◌, ◌>>◌, refuse_if, refuse_at}
use Rattle.text_read.specs.Numerals.{digit_value, value_from, numeral, unprefixed, hexadecimal}
use Rattle.text_write.specs.Digits.{digits_of, digit_count}
use Rattle.vm_opcodes.specs.Operations.{operations, first_operation}
use Rattle.vm_hardware.specs.Registers.{registers, first_register}
use Rattle.vm_operands.specs.Numbers.{signed, number_of}
use Rattle.program.specs.Groups.{grouped}
use Rattle.program.specs.Bytecode.{joined, within}
use Rattle.decoder.specs.Lines.{complete_of, first_unreadable}
use Rattle.decoder.specs.Decode.{memory_built, built_with, on_number, on_operation, on_first}
use Rattle.decoder.specs.Open.{all_decoded, opened}
use Rattle.source.specs.SourceText.{spaced_all, first_off_row, source_written}

abbrev pub Case : Type 0
Case = (List ℕ × ℕ) × Answer (List ℕ)

-- ---- texts

abbrev texts : List Case
texts =
    -- nothing, and a dropped last first word: no row
    (([], 5), ok (bytes "main:"))
    ∷ ((bytes "0x4000000001000000", 100), ok (bytes "main:"))
    -- psp for an empty place that the row needs
    ∷ ((bytes "0x0000000008000000", 100), ok (bytes "main:\nmov psp psp"))
    ∷ ((bytes "0x0000000208000000\n0x0000000080000000", 100), ok (bytes "main:\nmov r1 psp\nadd psp psp psp"))
    -- numbers in decimal
    ∷ ((bytes "0x4000000004000000\n-1", 100), ok (bytes "main:\njmp 18446744069414584320"))
    ∷ ((bytes "0x4000000004000000\n0xff\n800000", 100), ok (bytes "main:\njmp 255\nret"))
    -- memory operands whatever the number
    ∷ ((bytes "0x4040000200400000\n0x0", 100), ok (bytes "main:\nmload r1 [r2,0]"))
    ∷ ((bytes "0x0040200200400000\n1", 100), ok (bytes "main:\nmload r1 [r2,r3,1]"))
    ∷ ((bytes "0x4040200200400000\n7", 100), ok (bytes "main:\nmload r1 [r2,7]"))
    ∷ ((bytes "0x4040000200200000\n5", 100), ok (bytes "main:\nmstore [r2,5] r1"))
    -- two places, and eight letters
    ∷ ((bytes "0x0010200002000000\n40", 100), ok (bytes "main:\ncjmp r0 r3\nsigcheck psp psp"))
    ∷ []

pub written : map (λ row. source_written row.0.0 row.0.1) texts ≡ map (λ row. row.1) texts
unfolding is_digit same scan all parts lines ended ◌>>=◌ ◌>>◌ refuse_if refuse_at digit_value value_from numeral unprefixed hexadecimal digits_of digit_count operations first_operation registers first_register signed number_of grouped joined within complete_of first_unreadable memory_built built_with on_number on_operation on_first all_decoded opened spaced_all first_off_row source_written
written = refl

-- ---- refusals

abbrev refusals : List Case
refusals =
    -- 26, with no room too: ret with dst, end with a number, mov with op0, not with op0, cjmp with dst, jmp with op0 and with dst
    ((bytes "0x0000000600800000", 0), refused 26 0)
    ∷ ((bytes "0x4000000000800000\n5", 100), refused 26 0)
    ∷ ((bytes "0x4000000000100000\n5", 100), refused 26 0)
    ∷ ((bytes "0x0010000008000000", 100), refused 26 0)
    ∷ ((bytes "0x0010000000008000", 100), refused 26 0)
    ∷ ((bytes "0x0000000102000000", 100), refused 26 0)
    ∷ ((bytes "0x0010000004000000", 100), refused 26 0)
    ∷ ((bytes "0x4000000204000000\n1", 100), refused 26 0)
    ∷ ((bytes "0x0010000000800000", 100), refused 26 0)
    ∷ ((bytes "0x0000040000800000", 100), refused 26 0)
    -- with the index of the first
    ∷ ((bytes "800000\n0x0000000600800000\n0x0000000600800000", 100), refused 26 1)
    -- 14 to 19 before it, 23 after it
    ∷ ((bytes "0x4000000204000000\n1\nzz", 100), refused 15 2)
    ∷ ((bytes "0x0000000600800000\n0x0", 100), refused 16 1)
    ∷ (([], 4), refused 23 0)
    ∷ ((bytes "800000", 8), refused 23 0)
    ∷ ((bytes "800000", 9), ok (bytes "main:\nret"))
    ∷ []

pub refused_so : map (λ row. source_written row.0.0 row.0.1) refusals ≡ map (λ row. row.1) refusals
unfolding is_digit same scan all parts lines ended ◌>>=◌ ◌>>◌ refuse_if refuse_at digit_value value_from numeral unprefixed hexadecimal digits_of digit_count operations first_operation registers first_register signed number_of grouped joined within complete_of first_unreadable memory_built built_with on_number on_operation on_first all_decoded opened spaced_all first_off_row source_written
refused_so = refl
