-- Texts of numbers, and the numbers that they are or that they are refused, against the definitions.
use Rattle.std.specs.Prelude.{Option, Some, None}
use mathlib.Core.Path.{◌≡◌, refl}
use mathlib.Core.List.{List, [], ◌∷◌, ◌++◌, map}
use Prim.Native.Nat.{ℕ}
use lib.ListN.{replicate}
use Rattle.text.specs.Bytes.{bytes, is_digit}
use Rattle.text.specs.Scan.{all}
use Rattle.text_read.specs.Numerals.{digit_value, value_from, numeral}
use Rattle.vm_operands.specs.Numbers.{immediate, signed, number_of}
use Rattle.vm_operands.specs.declared.ImmediateValue.{ImmediateValue}

abbrev number : ℕ → Option ImmediateValue
number n = Some (immediate n)

-- a text, and the number: each side of -p and of p, a zero of either sign, signs that are no optional sign, and bytes that are no digit
abbrev numbers : List (List ℕ × Option ImmediateValue)
numbers =
    (bytes "18446744069414584320", number 18446744069414584320)
    ∷ (bytes "18446744069414584321", None)
    ∷ (bytes "-18446744069414584320", number 1)
    ∷ (bytes "-18446744069414584321", None)
    ∷ (bytes "-170141183460469231731687303715884105728", None)
    ∷ (bytes "-0", number 0)
    ∷ (bytes "+0", number 0)
    ∷ (bytes "0", number 0)
    ∷ (bytes "+5", number 5)
    ∷ (bytes "5", number 5)
    ∷ (bytes "-1", number 18446744069414584320)
    ∷ (bytes "+18446744069414584320", number 18446744069414584320)
    ∷ (bytes "+18446744069414584321", None)
    ∷ (bytes "007", number 7)
    ∷ (bytes "-007", number 18446744069414584314)
    ∷ (bytes "+", None)
    ∷ (bytes "-", None)
    ∷ (bytes "", None)
    ∷ (bytes "--5", None)
    ∷ (bytes "+-5", None)
    ∷ (bytes "-+5", None)
    ∷ (bytes "5-", None)
    ∷ (bytes "0x5", None)
    ∷ (bytes " 5", None)
    ∷ (bytes "5 ", None)
    ∷ (bytes "5a", None)
    ∷ []

-- the definition answers as the table says
abbrev asked : {X Y : Type 0} → (X → Y) → List (X × Y) → Type 0
asked f table = map (λ row. f row.0) table ≡ map (λ row. row.1) table

pub number_cases : asked number_of numbers
unfolding number_of signed numeral all value_from digit_value is_digit
number_cases = refl

-- "any count of leading zeros"
pub zeros_case : number_of (replicate 2000 48 ++ 55 ∷ []) ≡ number 7
unfolding number_of signed numeral all value_from digit_value is_digit
zeros_case = refl
