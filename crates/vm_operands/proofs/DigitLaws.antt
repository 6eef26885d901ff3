-- Printed digits, to any base up to 16: which bytes they are, and that they are read as the number that was printed.
use Rattle.std.specs.Prelude.{Some, None}
use Prim.Native.Nat.{ℕ, zero, suc, ◌+◌, ◌/◌, ◌%◌, ◌^◌, ◌<◌, ◌≤◌}
use mathlib.Core.Path.{◌≡◌, refl, sym, ap, ◌∙◌}
use mathlib.Core.List.{List, [], ◌∷◌, ◌++◌}
use mathlib.Core.Bool.{Bool, true, false, not, ◌&&◌, and-false, and-eq-true_iff, cond}
use native.Mathlib.Omega.{arith}
use native.Mathlib.Nat.{pow-zero, pow-suc, mod-lt, div-add-mod', div-lt_iff_lt-mul}
use borrow.Author.Tests.{lt-ltb, le-ltb, le-leb, ltb-true, ltb-false}
use lib.Dec.{ltb}
use Rattle.text.specs.Bytes.{is_digit}
use Rattle.text.specs.Scan.{all, is_empty}
use Rattle.text_read.specs.Numerals.{digit_value, is_digit_of, value_from, numeral}
use Rattle.text_read.proofs.Laws.{digit_decimal, digit_lower, value_last, numeral_is}
use Rattle.text_write.specs.Digits.{digit_byte, digits_of}
use Rattle.text_write.proofs.Laws.{length_digits}

-- the byte of a digit has its value
digit_back : (d : ℕ) → d < 16 → digit_value (digit_byte d) ≡ d
digit_back d h = go (ltb d 10) refl
  where
    go : (t : Bool) → ltb d 10 ≡ t → digit_value (cond t (48 + d) (87 + d)) ≡ d
    go true e =
        let k : d < 10 = ltb-true d 10 e in
        sym (digit_decimal (48 + d) (omega arith) (omega arith)) ∙ omega arith
    go false e =
        let k : 10 ≤ d = ltb-false d 10 e in
        sym (digit_lower (87 + d) (omega arith) (omega arith)) ∙ omega arith

-- one more byte that passes the test
all_last : (p : ℕ → Bool) (l : List ℕ) (x : ℕ) → all p l ≡ true → p x ≡ true → all p (l ++ x ∷ []) ≡ true
unfolding all
all_last p [] x h k = rw k
all_last p (y ∷ l) x h k = let a = (and-eq-true_iff (p y) (all p l)).0 h in rw a.0 (all_last p l x a.1 k)

module _ (base : ℕ) (low : 2 ≤ base) (high : base ≤ 16) where
  some_base : 0 < base
  some_base = omega arith

  last_digit : (v : ℕ) → digit_value (digit_byte (v % base)) ≡ v % base
  last_digit v = let h : v % base < base = mod-lt v some_base in digit_back (v % base) (omega arith)

  last_is_digit : (v : ℕ) → is_digit_of base (digit_byte (v % base)) ≡ true
  last_is_digit v = lt-ltb (digit_value (digit_byte (v % base))) base (rw (last_digit v) (mod-lt v some_base))

  -- what is printed is digits
  pub digits_all : (n v : ℕ) → all (is_digit_of base) (digits_of base n v) ≡ true
  unfolding all digits_of
  digits_all zero v = refl
  digits_all (suc n) v =
      all_last (is_digit_of base) (digits_of base n (v / base)) (digit_byte (v % base)) (digits_all n (v / base)) (last_is_digit v)

  -- of the value that is printed
  pub digits_value : (n v : ℕ) → v < base ^ n → value_from base 0 (digits_of base n v) ≡ v
  unfolding value_from digits_of
  digits_value zero v h = let p = pow-zero base in omega arith
  digits_value (suc n) v h =
      let k : v / base < base ^ n = (div-lt_iff_lt-mul some_base).1 (rw pow-suc at h) in
      value_last base 0 (digit_byte (v % base)) (digits_of base n (v / base))
      ∙ rw (digits_value n (v / base) k, last_digit v) (div-add-mod' v base)

  -- n digits, to any base up to 16, are read as the number that was printed
  pub digits_read_to : (n v bound : ℕ) → 1 ≤ n → v < base ^ n → v < bound → numeral base bound (digits_of base n v) ≡ Some v
  digits_read_to n v bound some h k =
      let e = digits_value n v h in
      let l = length_digits base n v in
      numeral_is base bound (digits_of base n v) (λ z. omega arith) (digits_all n v) (rw e k) ∙ ap Some e

  -- and not where that is at or above the bound
  pub digits_over : (n v bound : ℕ) → v < base ^ n → bound ≤ v → numeral base bound (digits_of base n v) ≡ None
  unfolding numeral
  digits_over n v bound h k =
      rw (digits_value n v h, le-ltb v bound k, and-false (not (is_empty (digits_of base n v)) && all (is_digit_of base) (digits_of base n v)))

-- hexadecimal digits
pub digits_read : (n v bound : ℕ) → 1 ≤ n → v < 16 ^ n → v < bound → numeral 16 bound (digits_of 16 n v) ≡ Some v
digits_read = digits_read_to 16 (omega arith) (omega arith)

-- decimal ones are `0` to `9`
decimal_byte : (d : ℕ) → d < 10 → is_digit (digit_byte d) ≡ true
unfolding is_digit
decimal_byte d h = rw (lt-ltb d 10 h) (rw (le-leb 48 (48 + d) (omega arith), le-leb (48 + d) 57 (omega arith)))

pub decimal_digits : (n v : ℕ) → all is_digit (digits_of 10 n v) ≡ true
unfolding all digits_of
decimal_digits zero v = refl
decimal_digits (suc n) v = all_last is_digit (digits_of 10 n (v / 10)) (digit_byte (v % 10)) (decimal_digits n (v / 10)) (decimal_byte (v % 10) (mod-lt v (omega arith)))
