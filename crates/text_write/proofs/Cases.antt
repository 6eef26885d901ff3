-- Cases of document 01 and of its boundaries, computed: numbers as text, and texts put into lent text.
use Rattle.std.specs.Prelude.{Option, Some, None}
use Prim.Native.Nat.{ℕ, suc, ◌+◌, ◌^◌}
use Prim.Native.String.{String}
use mathlib.Core.Path.{◌≡◌, refl}
use mathlib.Core.List.{List, [], ◌∷◌}
use mathlib.Core.Bool.{Bool, true, false, cond, ◌&&◌}
use lib.Dec.{eqb}
use Rattle.text.specs.Bytes.{bytes, same}
use Rattle.text_write.specs.Digits.{digits_of, digit_count, fewest_text, sixteen_text, decimal_text}
use Rattle.text_write.specs.Put.{put_into, put_count}

data Case : Type 0 where
  -- a number, and its text
  fewest : ℕ → String → Case
  sixteen : ℕ → String → Case
  decimal : ℕ → String → Case
  -- a lent text, a place in it, the bytes put there; how many were written, and what the text then holds
  puts : String → ℕ → String → ℕ → String → Case
  -- the same, refused: the text is as it was
  refuses : String → ℕ → String → Case

counts : ℕ → Option ℕ → Bool
counts n (Some m) = eqb n m
counts n None = false

is_short : Option ℕ → Bool
is_short (Some m) = false
is_short None = true

right : Case → Bool
unfolding same digits_of digit_count put_into put_count
right (fewest v s) = same (fewest_text v) (bytes s)
right (sixteen v s) = same (sixteen_text v) (bytes s)
right (decimal v s) = same (decimal_text v) (bytes s)
right (puts d at w n e) = counts n (put_count (bytes d) at (bytes w)) && same (put_into (bytes d) at (bytes w)) (bytes e)
right (refuses d at w) = is_short (put_count (bytes d) at (bytes w)) && same (put_into (bytes d) at (bytes w)) (bytes d)

cases : List Case
cases =
    -- "Printed `0x` and the fewest lower-case digits": no digit is lost at 0, none is added at a power of 16
    fewest 0 "0x0"
    ∷ fewest 5 "0x5"
    ∷ fewest 15 "0xf"
    ∷ fewest 16 "0x10"
    ∷ fewest 11259375 "0xabcdef"
    ∷ fewest 18446744069414584320 "0xffffffff00000000"
    ∷ fewest (2 ^ 60) "0x1000000000000000"
    ∷ fewest 18446744073709551615 "0xffffffffffffffff"
    -- "The first word is printed as `0x` and sixteen digits": the first words of 01's printing example
    ∷ sixteen (2 ^ 62 + 2 ^ 33 + 2 ^ 27) "0x4000000208000000"
    ∷ sixteen (2 ^ 62 + 2 ^ 24) "0x4000000001000000"
    ∷ sixteen (2 ^ 20) "0x0000000000100000"
    ∷ sixteen (2 ^ 23) "0x0000000000800000"
    ∷ sixteen 5 "0x0000000000000005"
    ∷ sixteen 0 "0x0000000000000000"
    ∷ sixteen 18446744073709551615 "0xffffffffffffffff"
    -- "Addresses and counts are decimal"
    ∷ decimal 0 "0"
    ∷ decimal 9 "9"
    ∷ decimal 10 "10"
    ∷ decimal 65536 "65536"
    ∷ decimal (10 ^ 19) "10000000000000000000"
    ∷ decimal 18446744073709551615 "18446744073709551615"
    -- bytes before and after are kept; a put that exactly fits; the empty put at the end
    ∷ puts "abcdef" 2 "XY" 2 "abXYef"
    ∷ puts "abcdef" 2 "UXYZ" 4 "abUXYZ"
    ∷ puts "abcd" 0 "UXYZ" 4 "UXYZ"
    ∷ puts "abcd" 4 "" 0 "abcd"
    ∷ puts "" 0 "" 0 ""
    -- one byte too short, at the place and as a whole; past the end
    ∷ refuses "abcdef" 3 "UXYZ"
    ∷ refuses "abc" 0 "UXYZ"
    ∷ refuses "abcd" 5 ""
    ∷ refuses "" 1 ""
    ∷ []

first_wrong : ℕ → List Case → Option ℕ
first_wrong k [] = None
first_wrong k (c ∷ cs) = cond (right c) (first_wrong (suc k) cs) (Some k)

all_right : first_wrong 0 cases ≡ None
unfolding first_wrong cases right counts is_short
all_right = refl
