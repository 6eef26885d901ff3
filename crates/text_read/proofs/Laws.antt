-- Laws of the numbers read from digits: digits one by one, what the loops ask, and what a caller may take from an answer.
use Rattle.std.specs.Prelude.{Option, Some, None}
use Prim.Native.Nat.{ℕ, ◌+◌, ◌-◌, ◌*◌, ◌<◌, ◌≤◌}
use mathlib.Core.Path.{◌≡◌, refl, sym, ap, ◌∙◌}
use mathlib.Core.List.{List, [], ◌∷◌, ◌++◌}
use mathlib.Core.Bool.{Bool, true, false, not, ◌&&◌, and-false, and-true, cond}
use lib.Dec.{eqb, ltb}
use lib.Pointwise.{pointwise}
use denote.Ref.{Bor}
use Rattle.std.specs.Option.{MatchOption, unwrap_or}
use lib.ListN.{length, get_or, take, drop, drop_of_length-le}
use lib.Seq.{drop-cons}
use native.Mathlib.Nat.{le-mul_of_pos_right}
use native.Mathlib.Numerals.{add-one}
use native.Mathlib.Omega.{arith}
use borrow.Author.Rules.{rules}
use borrow.Author.Tests.{le-leb, lt-leb, lt-ltb, le-ltb, eq-eqb, ne_eqb, ltb-true}
use Rattle.text.specs.Bytes.{within, is_digit}
use Rattle.text.specs.Scan.{all, is_empty}
use Rattle.text.proofs.Laws.{other_byte, part_from}
use Rattle.text_read.specs.Numerals.{digit_value, is_digit_of, value_from, numeral, unprefixed, without_plus, hexadecimal, decimal}

-- ---- the value of a digit
module _ (low high b : ℕ) where
  inside : low ≤ b → b ≤ high → within low high b ≡ true
  inside h k = simp (le-leb _ _ h, le-leb _ _ k)

  above : high < b → within low high b ≡ false
  above h = simp (lt-leb _ _ h, and-false)

module _ (b : ℕ) where
  pub digit_decimal : 48 ≤ b → b ≤ 57 → b - 48 ≡ digit_value b
  unfolding digit_value is_digit
  digit_decimal h k = simp (inside 48 57 b h k)

  pub digit_lower : 97 ≤ b → b ≤ 102 → b - 97 + 10 ≡ digit_value b
  unfolding digit_value is_digit
  digit_lower h k = let e : b - 97 + 10 ≡ b - 87 = omega arith in e ∙ simp (above 48 57 b (omega arith), inside 97 102 b h k)

-- ---- digits one by one: the digits of the list after digits of value v
unfoldable pub numeral_from : ℕ → ℕ → ℕ → List ℕ → Option ℕ
numeral_from base bound v [] = cond (ltb v bound) (Some v) None
numeral_from base bound v (x ∷ xs) =
    cond (is_digit_of base x) (numeral_from base bound (v * base + digit_value x) xs) None

-- the two ways to say it agree
module _ (base bound : ℕ) where
  from_whole : (v : ℕ) (l : List ℕ) → numeral_from base bound v l ≡ cond (all (is_digit_of base) l && ltb (value_from base v l) bound) (Some (value_from base v l)) None
  unfolding numeral_from all value_from
  from_whole v [] = refl
  from_whole v (x ∷ xs) =
      let n = v * base + digit_value x in
      go (is_digit_of base x) (all (is_digit_of base) xs) (ltb (value_from base n xs) bound) _ _ (from_whole n xs)
    where
      go : (t u w : Bool) (n m : Option ℕ) → n ≡ cond (u && w) m None → cond t n None ≡ cond ((t && u) && w) m None
      go true u w n m e = e
      go false u w n m e = refl

  pub whole_from : (s : List ℕ) → (length s ≡ 0 → ⊥) → numeral base bound s ≡ numeral_from base bound 0 s
  unfolding numeral
  whole_from [] h = absurd (h refl)
  whole_from (x ∷ xs) h = sym (from_whole 0 (x ∷ xs))

  pub whole_none : (s : List ℕ) → length s ≡ 0 → None ≡ numeral base bound s
  unfolding numeral
  whole_none [] h = refl
  whole_none (x ∷ xs) h = absurd (omega arith)

  -- no further digit brings a value at or above the bound back
  from_over : (v : ℕ) (l : List ℕ) → 1 ≤ base → bound ≤ v → numeral_from base bound v l ≡ None
  unfolding numeral_from
  from_over v [] p h = simp (le-ltb _ _ h)
  from_over v (x ∷ xs) p h =
      go (is_digit_of base x) (from_over (v * base + digit_value x) xs p (let k = le-mul_of_pos_right v p in omega arith))
    where
      go : (t : Bool) {n : Option ℕ} → n ≡ None → cond t n None ≡ None
      go true e = e
      go false e = refl

-- the step of the loop, at byte i of the text
module _ (base bound : ℕ) (s : List ℕ) (i v d : ℕ) (h : i < length s) (is : d ≡ digit_value (get_or s i 0)) where
  from_digit : d < base → numeral_from base bound v (drop i s) ≡ numeral_from base bound (v * base + d) (drop (i + 1) s)
  unfolding numeral_from
  from_digit k = rw (add-one, drop-cons s i 0, is) (simp (lt-ltb _ _ (rw is at k)))

  from_other : base ≤ d → numeral_from base bound v (drop i s) ≡ None
  unfolding numeral_from
  from_other k = rw (drop-cons s i 0) (simp (le-ltb _ _ (rw is at k)))

-- the shapes in which the loop asks: e is the invariant's equation
module _ (base most : ℕ) (s : List ℕ) where
  pub read_start : (length s ≡ 0 → ⊥) → numeral base (most + 1) s ≡ numeral_from base (most + 1) 0 (drop 0 s)
  read_start h = whole_from base (most + 1) s h

  pub read_none : length s ≡ 0 → None ≡ numeral base (most + 1) s
  read_none h = whole_none base (most + 1) s h

  module _ (i v d : ℕ) where
    pub read_other : i < length s → d ≡ digit_value (get_or s i 0) → base ≤ d → numeral base (most + 1) s ≡ numeral_from base (most + 1) v (drop i s) → None ≡ numeral base (most + 1) s
    read_other h is k e = sym (e ∙ from_other base (most + 1) s i v d h is k)

    pub read_over : 1 ≤ base → i < length s → d ≡ digit_value (get_or s i 0) → d < base → most < v * base + d → numeral base (most + 1) s ≡ numeral_from base (most + 1) v (drop i s) → None ≡ numeral base (most + 1) s
    read_over p h is k o e =
        sym (e ∙ from_digit base (most + 1) s i v d h is k ∙ from_over base (most + 1) (v * base + d) (drop (i + 1) s) p (omega arith))

    pub read_on : i < length s → d ≡ digit_value (get_or s i 0) → d < base → numeral base (most + 1) s ≡ numeral_from base (most + 1) v (drop i s) → numeral base (most + 1) s ≡ numeral_from base (most + 1) (v * base + d) (drop (i + 1) s)
    read_on h is k e = e ∙ from_digit base (most + 1) s i v d h is k

  pub read_end : (i v : ℕ) → length s ≤ i → v ≤ most → numeral base (most + 1) s ≡ numeral_from base (most + 1) v (drop i s) → Some v ≡ numeral base (most + 1) s
  unfolding numeral_from
  read_end i v h k e = sym (e ∙ rw (drop_of_length-le s h) (simp (lt-ltb v (most + 1) (omega arith))))

  pub read_beyond : (i v : ℕ) → 1 ≤ base → most < v → numeral base (most + 1) s ≡ numeral_from base (most + 1) v (drop i s) → None ≡ numeral base (most + 1) s
  read_beyond i v p k e = sym (e ∙ from_over base (most + 1) v (drop i s) p (omega arith))

pub ruleset read_laws = (read_none, read_start, read_other, read_over, read_on, read_end, read_beyond, rules)

-- ---- what follows repeated `0x`
unprefixed_short : (l : List ℕ) → length l < 2 → l ≡ unprefixed l
unfolding unprefixed
unprefixed_short [] h = refl
unprefixed_short (x ∷ []) h = refl
unprefixed_short (x ∷ y ∷ l) h = absurd (omega arith)

unprefixed_not : (l : List ℕ) → (get_or l 0 0 ≡ 48 → ⊥) → l ≡ unprefixed l
unfolding unprefixed
unprefixed_not [] h = refl
unprefixed_not (x ∷ []) h = refl
unprefixed_not (x ∷ y ∷ l) h = simp (ne_eqb x 48 h)

unprefixed_not_x : (l : List ℕ) → (get_or l 1 0 ≡ 120 → ⊥) → l ≡ unprefixed l
unfolding unprefixed
unprefixed_not_x [] h = refl
unprefixed_not_x (x ∷ []) h = refl
unprefixed_not_x (x ∷ y ∷ l) h = simp (ne_eqb y 120 h, and-false)

unprefixed_more : (l : List ℕ) → 2 ≤ length l → get_or l 0 0 ≡ 48 → get_or l 1 0 ≡ 120 → unprefixed l ≡ unprefixed (drop 2 l)
unfolding unprefixed
unprefixed_more [] h k m = absurd (omega arith)
unprefixed_more (x ∷ []) h k m = absurd (omega arith)
unprefixed_more (x ∷ y ∷ l) h k m = simp (eq-eqb x 48 k, eq-eqb y 120 m)

-- the shapes in which the loop asks: e is the invariant
module _ (s l : List ℕ) where
  pub prefix_short : length l < 2 → unprefixed s ≡ unprefixed l → l ≡ unprefixed s
  prefix_short h e = unprefixed_short l h ∙ sym e

  pub prefix_not_0 : (get_or l 0 0 ≡ 48 → ⊥) → unprefixed s ≡ unprefixed l → l ≡ unprefixed s
  prefix_not_0 h e = unprefixed_not l h ∙ sym e

  pub prefix_not_x : (get_or l 1 0 ≡ 120 → ⊥) → unprefixed s ≡ unprefixed l → l ≡ unprefixed s
  prefix_not_x h e = unprefixed_not_x l h ∙ sym e

  pub prefix_on : 2 ≤ length l → get_or l 0 0 ≡ 48 → get_or l 1 0 ≡ 120 → unprefixed s ≡ unprefixed l → unprefixed s ≡ unprefixed (take (length l - 2) (drop 2 l))
  prefix_on h k m e = e ∙ unprefixed_more l h k m ∙ ap unprefixed (sym (part_from 2 l))

pub ruleset prefix_laws = (prefix_short, prefix_not_0, prefix_not_x, prefix_on, rules)

-- ---- the number after `0x` and a plus
plus_tested : (l : List ℕ) → pointwise eqb (take 1 l) (43 ∷ []) ≡ eqb (get_or l 0 0) 43
plus_tested [] = refl
plus_tested (x ∷ l) = and-true (eqb x 43)

-- r is what `strip_prefix` made of l, and n is that or else l
plus_stripped : (l n : Bor (List ℕ)) (r : Option (Bor (List ℕ))) → MatchOption r (pointwise eqb (take 1 l.now) (43 ∷ []) ≡ false) (λ x. (pointwise eqb (take 1 l.now) (43 ∷ []) ≡ true) × (x.now ≡ drop 1 l.now) × (length x.now + 1 ≡ length l.now)) → n ≡ unwrap_or r l → n.now ≡ without_plus l.now
plus_stripped l n None h e = rw (sym (plus_tested l.now) ∙ h) (ap (λ (b : Bor (List ℕ)). b.now) e)
plus_stripped l n (Some x) h e = rw (sym (plus_tested l.now) ∙ h.0) (ap (λ (b : Bor (List ℕ)). b.now) e ∙ h.1)

pub hex_stripped : (l n : Bor (List ℕ)) (r : Option (Bor (List ℕ))) (bound : ℕ) (s : List ℕ) (a : Option ℕ) → l.now ≡ unprefixed s → MatchOption r (pointwise eqb (take 1 l.now) (43 ∷ []) ≡ false) (λ x. (pointwise eqb (take 1 l.now) (43 ∷ []) ≡ true) × (x.now ≡ drop 1 l.now) × (length x.now + 1 ≡ length l.now)) → n ≡ unwrap_or r l → a ≡ numeral 16 bound n.now → a ≡ hexadecimal bound s
unfolding hexadecimal
hex_stripped l n r bound s a e h k m = m ∙ ap (numeral 16 bound) (plus_stripped l n r h k ∙ ap without_plus e)

-- ---- what a caller may take from an answer
both_true : (t u : Bool) → (t && u) ≡ true → (t ≡ true) × (u ≡ true)
both_true true u e = (refl, e)
both_true false u e = let z : ◌≡◌ {A = ℕ} 0 1 = cc in absurd (omega arith)

accepted : (t u : Bool) (m v : ℕ) → cond (t && u) (Some m) None ≡ Some v → (t ≡ true) × (u ≡ true) × (v ≡ m)
accepted true true m v e = (refl, refl, (cc))
accepted true false m v e = let z : ◌≡◌ {A = ℕ} 0 1 = cc in absurd (omega arith)
accepted false u m v e = let z : ◌≡◌ {A = ℕ} 0 1 = cc in absurd (omega arith)

module _ (base bound v : ℕ) (s : List ℕ) (e : numeral base bound s ≡ Some v) where
  answered : (not (is_empty s) && all (is_digit_of base) s ≡ true) × (ltb (value_from base 0 s) bound ≡ true) × (v ≡ value_from base 0 s)
  unfolding numeral
  answered = accepted (not (is_empty s) && all (is_digit_of base) s) (ltb (value_from base 0 s) bound) (value_from base 0 s) v e

  -- the bytes are digits
  pub numeral_digits : all (is_digit_of base) s ≡ true
  numeral_digits = (both_true (not (is_empty s)) (all (is_digit_of base) s) answered.0).1

  -- the number is their value
  pub numeral_value : v ≡ value_from base 0 s
  numeral_value = answered.2

  -- and below the bound
  pub numeral_below : v < bound
  numeral_below = rw answered.2 (ltb-true _ _ answered.1)

-- a text of one or more digits says their value, where that is below the bound
pub numeral_is : (base bound : ℕ) (s : List ℕ) → (length s ≡ 0 → ⊥) → all (is_digit_of base) s ≡ true → value_from base 0 s < bound → numeral base bound s ≡ Some (value_from base 0 s)
unfolding numeral
numeral_is base bound [] n h k = absurd (n refl)
numeral_is base bound (x ∷ l) n h k = simp (h, lt-ltb _ _ k)

pub hexadecimal_below : (bound v : ℕ) (s : List ℕ) → hexadecimal bound s ≡ Some v → v < bound
unfolding hexadecimal
hexadecimal_below bound v s e = numeral_below 16 bound v (without_plus (unprefixed s)) e

pub decimal_below : (bound v : ℕ) (s : List ℕ) → decimal bound s ≡ Some v → v < bound
decimal_below bound v s e = numeral_below 10 bound v s e

-- `0x` in front changes nothing
pub hexadecimal_prefixed : (bound : ℕ) (s : List ℕ) → hexadecimal bound (48 ∷ 120 ∷ s) ≡ hexadecimal bound s
unfolding hexadecimal unprefixed
hexadecimal_prefixed bound s = refl

-- digits alone have no `0x` and no plus
pub hexadecimal_digits : (bound : ℕ) (s : List ℕ) → all (is_digit_of 16) s ≡ true → hexadecimal bound s ≡ numeral 16 bound s
unfolding hexadecimal unprefixed all digit_value is_digit
hexadecimal_digits bound [] h = refl
hexadecimal_digits bound (x ∷ []) h = simp (other_byte (is_digit_of 16) x 43 (both_true (is_digit_of 16 x) true h).0 refl)
hexadecimal_digits bound (x ∷ y ∷ l) h =
    let k = both_true (is_digit_of 16 x) (is_digit_of 16 y && all (is_digit_of 16) l) h in
    let m = both_true (is_digit_of 16 y) (all (is_digit_of 16) l) k.1 in
    simp (other_byte (is_digit_of 16) y 120 m.0 refl, and-false, other_byte (is_digit_of 16) x 43 k.0 refl)

-- one more digit
pub value_last : (base v x : ℕ) (l : List ℕ) → value_from base v (l ++ x ∷ []) ≡ value_from base v l * base + digit_value x
unfolding value_from
value_last base v x [] = refl
value_last base v x (y ∷ l) = value_last base (v * base + digit_value y) x l
