-- What the writers of numbers ask, a set of laws for each: the loops' turns, the refusals, what is left.
use Rattle.std.specs.Prelude.{Option, Some, None}
use Prim.Native.Nat.{ℕ, suc, ◌+◌, ◌-◌, ◌/◌, ◌%◌, ◌<◌, ◌≤◌}
use mathlib.Core.Path.{◌≡◌, refl, sym, ap, ◌∙◌}
use mathlib.Core.List.{List, [], ◌∷◌, ◌++◌}
use native.Mathlib.Omega.{arith}
use native.Mathlib.Numerals.{add-one}
use lib.ListN.{length, take, drop, set, length-drop}
use lib.Seq.{drop-drop, length-take-le}
use Rattle.std.proofs.Common.{append_assoc, length-append}
use Rattle.std.proofs.lemmas.List.{drop-set}
use borrow.Rule.Slice.PartMut.{put_mid}
use borrow.Author.Rules.{rules}
use borrow.Author.Tests.{le-leb}
use Rattle.text_write.specs.Digits.{digit_byte, digits_of, digit_count}
use Rattle.text_write.specs.Put.{put_into, put_count}
use Rattle.text_write.proofs.Laws.{count_fits, put_over, count_over, length_put, put_put, digit_count_positive, digit_count_most, digit_count_low, digit_count_suc, length_digits, digit_below}

-- ---- count_digits: x is what the loop set out to count, n what it has counted
module _ (base x n v : ℕ) where
  pub more_stop : v < base → 1 + x ≡ n + digit_count base (64 - n) v → n ≡ x
  more_stop h e = let z = digit_count_low base (64 - n) v h in omega arith

  pub more_next : n < 64 → base ≤ v → 1 + x ≡ n + digit_count base (64 - n) v → 1 + x ≡ (n + 1) + digit_count base (64 - (n + 1)) (v / base)
  more_next p h e =
      let q : 64 - n ≡ suc (64 - (n + 1)) = omega arith in
      let z = ap (λ (j : ℕ). digit_count base j v) q ∙ digit_count_suc base (64 - (n + 1)) v h in
      omega arith

  pub more_end : 64 ≤ n → n ≤ 64 → 1 + x ≡ n + digit_count base (64 - n) v → 64 ≡ x
  more_end h k e =
      let p = digit_count_positive base (64 - n) v in
      let m = digit_count_most base (64 - n) v in
      omega arith

pub ruleset count_laws = (more_stop, more_next, more_end, rules)

-- ---- put_digits: x is what the digits come to; the last of them stands before those that are written
module _ (x d : List ℕ) (base i v : ℕ) where
  pub digits_more : (r : ℕ) → i < length d → r ≡ digit_byte (v % base) → x ≡ digits_of base (i + 1) v ++ drop (i + 1) d → x ≡ digits_of base i (v / base) ++ drop i (set d i r)
  unfolding digits_of
  digits_more r h e p =
      let q : digits_of base (i + 1) v ≡ digits_of base i (v / base) ++ (digit_byte (v % base) ∷ []) = rw add-one refl in
      let t : drop i (set d i r) ≡ digit_byte (v % base) ∷ drop (i + 1) d = drop-set d i r h ∙ ap (λ (k : ℕ). k ∷ drop (i + 1) d) e in
      p
      ∙ ap (λ (l : List ℕ). l ++ drop (i + 1) d) q
      ∙ append_assoc (digits_of base i (v / base)) (digit_byte (v % base) ∷ []) (drop (i + 1) d)
      ∙ ap (λ (l : List ℕ). digits_of base i (v / base) ++ l) (sym t)

  pub digits_end : i ≤ 0 → x ≡ digits_of base i v ++ drop i d → d ≡ x
  unfolding digits_of
  digits_end h p = let q : i ≡ 0 = omega arith in sym (p ∙ ap (λ (k : ℕ). digits_of base k v ++ drop k d) q)

pub ruleset digits_laws = (digit_below, digits_more)

-- ---- put_number: the prefix and the digits, put one behind the other
part_put : (d : List ℕ) (at end : ℕ) (w ys : List ℕ) → ys ≡ w → end ≡ at + length w → end ≤ length d → put_mid at (end - at) d ys ≡ put_into d at w
unfolding put_into
part_put d at end w ys e f h =
    let l : at + length w ≤ length d = omega arith in
    let q : drop (end - at) (drop at d) ≡ drop (at + length w) d = drop-drop (end - at) at d ∙ ap (λ (k : ℕ). drop k d) (omega arith) in
    ap (λ (b : List ℕ). take at d ++ (ys ++ b)) q
    ∙ ap (λ (y : List ℕ). take at d ++ (y ++ drop (at + length w) d)) e
    ∙ sym (append_assoc (take at d) w (drop (at + length w) d))
    ∙ sym (rw (le-leb (at + length w) (length d) l) refl)

module _ (d v : List ℕ) (at base count number : ℕ) where
  -- the text of the number, and how long it is
  abbrev whole : List ℕ
  whole = v ++ digits_of base count number

  long : length whole ≡ length v + count
  long = length-append v (digits_of base count number) ∙ ap (λ (k : ℕ). length v + k) (length_digits base count number)

  pub number_short : (r : Option ℕ) → r ≡ None → length d < at + length v + count → (r ≡ put_count d at whole) × (d ≡ put_into d at whole)
  number_short r e h = let l = long in (e ∙ sym (count_over d at whole (omega arith)), sym (put_over d at whole (omega arith)))

  -- x is what stands in the first part of the text, and y what stands in the second
  pub number_put : (first end : ℕ) (x y : List ℕ) → first ≡ at + length v → end ≡ first + count → end ≤ length d → x ≡ v → y ≡ digits_of base (length (take (end - first) (drop first (put_mid at (first - at) d x)))) number → (Some (end - at) ≡ put_count d at whole) × (put_mid first (end - first) (put_mid at (first - at) d x) y ≡ put_into d at whole)
  number_put first end x y e f h p q =
      let w : List ℕ = digits_of base count number in
      let l = long in
      let n : length w ≡ count = length_digits base count number in
      let b : List ℕ = put_mid at (first - at) d x in
      let i : b ≡ put_into d at v = part_put d at first v x p e (omega arith) in
      let k : length b ≡ length d = ap length i ∙ length_put d at v in
      let j = length-drop first b in
      let m : length (take (end - first) (drop first b)) ≡ count = length-take-le (end - first) (drop first b) (omega arith) ∙ omega arith in
      let t : y ≡ w = q ∙ ap (λ (z : ℕ). digits_of base z number) m in (
        sym (count_fits d at whole (omega arith) ∙ ap Some (omega arith)),
        ap (λ (z : List ℕ). put_mid first (end - first) z y) i
            ∙ part_put (put_into d at v) first end w y t (omega arith) (omega (arith, length_put d at v))
            ∙ ap (λ (z : ℕ). put_into (put_into d at v) z w) e
            ∙ put_put d at v w (omega arith),
      )
