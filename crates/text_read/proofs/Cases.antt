-- Inputs that separate likely misreadings of the numbers, each beside the answer that is due.
use Rattle.std.specs.Prelude.{Option, Some, None}
use Prim.Native.Nat.{ℕ, ◌^◌}
use mathlib.Core.Path.{◌≡◌, refl}
use mathlib.Core.List.{List, [], ◌∷◌, map}
use Rattle.text.specs.Bytes.{bytes, is_digit}
use Rattle.text.specs.Scan.{all}
use Rattle.text_read.specs.Numerals.{digit_value, value_from, numeral, unprefixed, hexadecimal, decimal}

-- every input of the table gives the answer beside it
abbrev Right : {A B : Type 0} → (A → B) → List (A × B) → Type 0
Right f table = map (λ c. f c.0) table ≡ map (λ c. c.1) table

-- the order of the field
abbrev p : ℕ
p = 0xFFFF_FFFF_0000_0001

-- the first and last byte of each range of digits, and the bytes beside them
abbrev digits : List (ℕ × ℕ)
digits =
    (47, 16) ∷ (48, 0) ∷ (57, 9) ∷ (58, 16)
    ∷ (64, 16) ∷ (65, 10) ∷ (70, 15) ∷ (71, 16)
    ∷ (96, 16) ∷ (97, 10) ∷ (102, 15) ∷ (103, 16)
    ∷ []

digits_right : Right digit_value digits
unfolding digit_value is_digit
digits_right = refl

-- first words, which are below 2 ^ 64
abbrev first_words : List (List ℕ × Option ℕ)
first_words =
    (bytes "800000", Some 0x800000)
    ∷ (bytes "+800000", Some 0x800000)
    ∷ (bytes "0x800000", Some 0x800000)
    ∷ (bytes "0x+800000", Some 0x800000)
    ∷ (bytes "0x0x800000", Some 0x800000)
    ∷ (bytes "0x0x+800000", Some 0x800000)
    -- either case, any count of leading zeros, up to the largest word
    ∷ (bytes "0x0", Some 0)
    ∷ (bytes "aBcDeF", Some 0xabcdef)
    ∷ (bytes "0xFFFFFFFFFFFFFFFF", Some 0xffff_ffff_ffff_ffff)
    ∷ (bytes "0xffffffffffffffff", Some 0xffff_ffff_ffff_ffff)
    ∷ (bytes "000000000000000000000000000000000000000010", Some 16)
    ∷ (bytes "0x+000000000000000000000000000000000000000010", Some 16)
    ∷ (bytes "0x10000000000000000", None)
    ∷ (bytes "10000000000000000", None)
    -- no digit
    ∷ (bytes "", None)
    ∷ (bytes "0x", None)
    ∷ (bytes "0x0x", None)
    ∷ (bytes "+", None)
    ∷ (bytes "0x+", None)
    -- one plus at most, behind every `0x`, and no other sign
    ∷ (bytes "++1", None)
    ∷ (bytes "+0x800000", None)
    ∷ (bytes "0x+0x1", None)
    ∷ (bytes "-0", None)
    ∷ (bytes "0x-5", None)
    -- a byte that is no digit
    ∷ (bytes "0X800000", None)
    ∷ (bytes "x1", None)
    ∷ (bytes "00x1", None)
    ∷ (bytes "0x_1", None)
    ∷ (bytes "g", None)
    ∷ (bytes "0x1g", None)
    ∷ (bytes " 800000", None)
    ∷ (bytes "800000 ", None)
    ∷ (bytes "800 000", None)
    ∷ (bytes "0x 1", None)
    ∷ []

first_words_right : Right (hexadecimal (2 ^ 64)) first_words
unfolding hexadecimal unprefixed numeral all value_from digit_value is_digit
first_words_right = refl

-- second lines with `0x`, which are below the order
abbrev hexadecimal_lines : List (List ℕ × Option ℕ)
hexadecimal_lines =
    (bytes "0x5", Some 5)
    ∷ (bytes "0xFFFFFFFF00000000", Some 0xffff_ffff_0000_0000)
    ∷ (bytes "0xFFFFFFFF00000001", None)
    ∷ (bytes "0xffffffffffffffff", None)
    ∷ (bytes "0x-5", None)
    ∷ []

hexadecimal_lines_right : Right (hexadecimal p) hexadecimal_lines
unfolding hexadecimal unprefixed numeral all value_from digit_value is_digit
hexadecimal_lines_right = refl

-- decimal digits without their sign, below the order
abbrev magnitudes : List (List ℕ × Option ℕ)
magnitudes =
    (bytes "0", Some 0)
    ∷ (bytes "10", Some 10)
    ∷ (bytes "0000000000000000000000000000000000000000000000000000000000007", Some 7)
    ∷ (bytes "18446744069414584320", Some 18446744069414584320)
    ∷ (bytes "18446744069414584321", None)
    ∷ (bytes "170141183460469231731687303715884105728", None)
    ∷ (bytes "999999999999999999999999999999999999999999999999999999999999", None)
    -- no digit, a sign, a byte that is no decimal digit
    ∷ (bytes "", None)
    ∷ (bytes "+5", None)
    ∷ (bytes "-5", None)
    ∷ (bytes "5a", None)
    ∷ (bytes "ff", None)
    ∷ (bytes "0x10", None)
    ∷ (bytes " 5", None)
    ∷ (bytes "5 ", None)
    ∷ (bytes "5_0", None)
    ∷ []

magnitudes_right : Right (decimal p) magnitudes
unfolding numeral all value_from digit_value is_digit
magnitudes_right = refl
