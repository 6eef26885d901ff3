-- Numbers of up to 64 bits as text.
use Rattle.std.specs.Prelude.{ℕ, zero, suc, ◌+◌, ◌/◌, ◌%◌, List, [], ◌∷◌, ◌++◌, cond, ltb}
use Rattle.text.specs.Bytes.{bytes}

-- `0` to `9`, then "lower-case" `a` to `f`
abbrev pub digit_byte : ℕ → ℕ
digit_byte d = cond (ltb d 10) (48 + d) (87 + d)

-- the n lowest digits of v to the base, the highest first
unfoldable pub digits_of : ℕ → ℕ → ℕ → List ℕ
digits_of base zero v = []
digits_of base (suc n) v = digits_of base n (v / base) ++ (digit_byte (v % base) ∷ [])

-- "the fewest" digits: one, and one more for each division by the base that leaves something, at most k more
unfoldable pub digit_count : ℕ → ℕ → ℕ → ℕ
digit_count base zero v = 1
digit_count base (suc k) v = let more = digit_count base k (v / base) in cond (ltb v base) 1 (suc more)

-- `0x` and n digits
abbrev pub prefixed_text : ℕ → ℕ → List ℕ
prefixed_text n v = bytes "0x" ++ digits_of 16 n v

-- "Printed `0x` and the fewest lower-case digits"
abbrev pub fewest_text : ℕ → List ℕ
fewest_text v = prefixed_text (digit_count 16 63 v) v

-- "The first word is printed as `0x` and sixteen digits"
abbrev pub sixteen_text : ℕ → List ℕ
sixteen_text v = prefixed_text 16 v

-- "Addresses and counts are decimal"
abbrev pub decimal_text : ℕ → List ℕ
decimal_text v = digits_of 10 (digit_count 10 63 v) v
