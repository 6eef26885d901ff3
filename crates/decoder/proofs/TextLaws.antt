-- Printed numbers read back: a first word's line, a number's line.
use Rattle.std.specs.Prelude.{Some}
use Prim.Native.Nat.{ℕ, ◌^◌, ◌<◌, ◌≤◌}
use mathlib.Core.Path.{◌≡◌, ap, ◌∙◌}
use native.Mathlib.Omega.{arith}
use native.Mathlib.Nat.{lt_trans}
use lib.Dec.{lit<}
use Rattle.text_read.specs.Numerals.{hexadecimal}
use Rattle.text_read.proofs.Laws.{hexadecimal_prefixed, hexadecimal_digits}
use Rattle.text_write.specs.Digits.{digits_of, digit_count, prefixed_text, fewest_text, sixteen_text}
use Rattle.text_write.proofs.Laws.{digit_count_positive, digit_count_enough}
use Rattle.vm_operands.specs.Numbers.{order, immediate}
use Rattle.vm_operands.proofs.DigitLaws.{digits_all, digits_read}
use Rattle.decoder.specs.Lines.{first_of_line, second_of_line, number_found}

-- `0x` and digits
prefixed_read : (n v bound : ℕ) → 1 ≤ n → v < 16 ^ n → v < bound → hexadecimal bound (prefixed_text n v) ≡ Some v
prefixed_read n v bound some h k =
    hexadecimal_prefixed bound (digits_of 16 n v) ∙ hexadecimal_digits bound (digits_of 16 n v) (digits_all 16 (omega arith) (omega arith) n v)
    ∙ digits_read n v bound some h k

-- A first word's line reads as the word.
pub first_read : (w : ℕ) → w < 2 ^ 64 → first_of_line (sixteen_text w) ≡ Some w
first_read w h = prefixed_read 16 w (2 ^ 64) (omega arith) h h

-- A number's line reads as the number.
pub second_read : (v : ℕ) → v < order → second_of_line (fewest_text v) ≡ Some (immediate v)
second_read v h =
    ap number_found
    (prefixed_read (digit_count 16 63 v) v order (digit_count_positive 16 63 v) (digit_count_enough 16 63 v (omega arith) (lt_trans h (lit< tt))) h)
