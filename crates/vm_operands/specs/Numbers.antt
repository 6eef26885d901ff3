-- "Numbers": made from an optional sign and decimal digits.
use Rattle.std.specs.Prelude.{ℕ, ◌-◌, List, Bool, ◌&&◌, ◌||◌, cond, eqb, ltb, drop, get_or, Option, Some, None}
use Rattle.text_read.specs.Numerals.{decimal}
use Rattle.vm_operands.specs.declared.ImmediateValue.{ImmediateValue}

-- "p = 0xFFFFFFFF00000001"
abbrev pub order : ℕ
order = 0xFFFF_FFFF_0000_0001

-- a number as `ImmediateValue` holds it
abbrev pub immediate : ℕ → ImmediateValue
immediate n = record { number = n }

-- a number below p
abbrev pub is_in_field : ImmediateValue → Bool
is_in_field v = ltb v.number order

-- "a negative v becomes p + v"; "-0 is 0"
abbrev pub in_field : Bool → ℕ → ℕ
in_field negative m = cond (negative && ltb 0 m) (order - m) m

-- "v is accepted when -p < v < p"
unfoldable pub signed : Bool → Option ℕ → Option ImmediateValue
signed negative (Some m) = cond (ltb m order) (Some (immediate (in_field negative m))) None
signed negative None = None

abbrev pub is_minus : List ℕ → Bool
is_minus s = eqb (get_or s 0 0) 45

-- "an optional sign": `+` or `-`
abbrev pub is_signed : List ℕ → Bool
is_signed s = is_minus s || eqb (get_or s 0 0) 43

-- what follows the sign
abbrev pub unsigned : List ℕ → List ℕ
unsigned s = cond (is_signed s) (drop 1 s) s

-- the number that a text is: "an optional sign and decimal digits, any count of leading zeros"
unfoldable pub number_of : List ℕ → Option ImmediateValue
number_of s = signed (is_minus s) (decimal order (unsigned s))
