-- Numbers read from digits: "The Rust documentation of `from_str_radix` decides what these do."
use Rattle.std.specs.Prelude.{ℕ, ◌+◌, ◌-◌, ◌*◌, List, [], ◌∷◌, Bool, not, ◌&&◌, cond, eqb, ltb, drop, get_or, Option, Some, None}
use Rattle.text.specs.Bytes.{within, is_digit}
use Rattle.text.specs.Scan.{all, is_empty}

-- the value of a digit of either case; 16 is no digit's
unfoldable pub digit_value : ℕ → ℕ
digit_value b =
    cond (is_digit b) (b - 48)
    (cond (within 97 102 b) (b - 87)
    (cond (within 65 70 b) (b - 55)
    16))

-- a digit to the base
abbrev pub is_digit_of : ℕ → ℕ → Bool
is_digit_of base b = ltb (digit_value b) base

-- the value of digits to the base, after digits of value v
unfoldable pub value_from : ℕ → ℕ → List ℕ → ℕ
value_from base v [] = v
value_from base v (x ∷ xs) = value_from base (v * base + digit_value x) xs

-- one or more digits to the base, any count of leading zeros, whose value is below the bound
unfoldable pub numeral : ℕ → ℕ → List ℕ → Option ℕ
numeral base bound s =
    cond (not (is_empty s) && all (is_digit_of base) s && ltb (value_from base 0 s) bound)
    (Some (value_from base 0 s))
    None

-- "repeated `0x` is dropped"
unfoldable pub unprefixed : List ℕ → List ℕ
unprefixed [] = []
unprefixed (x ∷ []) = x ∷ []
unprefixed (x ∷ y ∷ l) = cond (eqb x 48 && eqb y 120) (unprefixed l) (x ∷ y ∷ l)

-- Rust's `from_str_radix` takes one `+`
abbrev pub without_plus : List ℕ → List ℕ
without_plus l = cond (eqb (get_or l 0 0) 43) (drop 1 l) l

-- a hexadecimal number below the bound: "A first word may lack `0x`, and repeated `0x` is dropped"
unfoldable pub hexadecimal : ℕ → List ℕ → Option ℕ
hexadecimal bound s = numeral 16 bound (without_plus (unprefixed s))

-- decimal digits below the bound, without a sign
abbrev pub decimal : ℕ → List ℕ → Option ℕ
decimal bound s = numeral 10 bound s
