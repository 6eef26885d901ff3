-- Laws of bytes put into lent text and of the digits of a number, for whoever calls a writer.
use Rattle.std.specs.Prelude.{Option, Some, None}
use Prim.Native.Nat.{ℕ, zero, suc, ◌+◌, ◌/◌, ◌%◌, ◌*◌, ◌^◌, ◌<◌, ◌≤◌}
use mathlib.Core.Path.{◌≡◌, refl, sym, ap, ◌∙◌, subst}
use mathlib.Core.List.{List, [], ◌∷◌, ◌++◌}
use mathlib.Core.Bool.{Bool, true, false, cond}
use native.Mathlib.Omega.{arith}
use native.Mathlib.Nat.{add-zero, mod-lt, div-lt_iff_lt-mul, pow-suc, pow-zero, one-mul}
use lib.Dec.{ltb, leb}
use mir.Val.{Fits}
use mir.Syntax.{w64}
use lib.ListN.{length, take, drop, set, length-append}
use lib.Seq.{sets, sets-eq, length-sets, take_at, drop_at, length-take-le}
use borrow.Author.Tests.{le-leb, lt-leb, leb-true, leb-false, lt-ltb, le-ltb, ltb-true}
use Rattle.text_write.specs.Digits.{digit_byte, digits_of, digit_count, prefixed_text, fewest_text, sixteen_text, decimal_text}
use Rattle.text_write.specs.Put.{put_into, put_count}

-- ---- a run of stores: one list after another
pub sets_append : (a b d : List ℕ) (at : ℕ) → sets d at (a ++ b) ≡ sets (sets d at a) (at + length a) b
sets_append [] b d at = ap (λ (k : ℕ). sets d k b) (sym (add-zero at))
sets_append (x ∷ a) b d at =
    sets_append a b (set d at x) (suc at) ∙ ap (λ (k : ℕ). sets (sets (set d at x) (suc at) a) k b) (omega arith)

-- ---- a put that fits, and one that does not
module _ (d : List ℕ) (at : ℕ) (w : List ℕ) where
  pub put_fits : at + length w ≤ length d → put_into d at w ≡ sets d at w
  unfolding put_into
  put_fits h = simp (le-leb _ _ h) (sym (sets-eq w d at h))

  pub count_fits : at + length w ≤ length d → put_count d at w ≡ Some (length w)
  unfolding put_count
  count_fits h = simp (le-leb _ _ h)

  pub put_over : length d < at + length w → put_into d at w ≡ d
  unfolding put_into
  put_over h = simp (lt-leb _ _ h)

  pub count_over : length d < at + length w → put_count d at w ≡ None
  unfolding put_count
  count_over h = simp (lt-leb _ _ h)

  -- ---- what a put leaves: as many bytes, what stood before it and then w, what stood after it
  pub length_put : length (put_into d at w) ≡ length d
  unfolding put_into
  length_put = go (leb (at + length w) (length d)) refl
    where
      go : (t : Bool) → leb (at + length w) (length d) ≡ t → length (cond t (take at d ++ w ++ drop (at + length w) d) d) ≡ length d
      go true e = ap length (sym (sets-eq w d at (leb-true _ _ e))) ∙ length-sets d at w
      go false e = refl

  module _ (h : at + length w ≤ length d) where
    head_long : length (take at d ++ w) ≡ at + length w
    head_long = length-append (take at d) w ∙ ap (λ (k : ℕ). k + length w) (length-take-le at d (omega arith))

    pub take_put : take (at + length w) (put_into d at w) ≡ take at d ++ w
    take_put = ap (take (at + length w)) (put_fits h ∙ sets-eq w d at h) ∙ take_at (take at d ++ w) (drop (at + length w) d) (at + length w) head_long

    pub drop_put : drop (at + length w) (put_into d at w) ≡ drop (at + length w) d
    drop_put = ap (drop (at + length w)) (put_fits h ∙ sets-eq w d at h) ∙ drop_at (take at d ++ w) (drop (at + length w) d) (at + length w) head_long

    pub put_row : (b : List ℕ) → b ≡ put_into d at w → take (at + length w) b ≡ take at d ++ w
    put_row b e = ap (take (at + length w)) e ∙ take_put

  -- ---- what an answer tells
  module _ (r : Option ℕ) (e : r ≡ put_count d at w) where
    pub count_told : (n : ℕ) → r ≡ Some n → n ≡ length w
    unfolding put_count
    count_told n f = go (leb (at + length w) (length d)) (sym e ∙ f)
      where
        go : (t : Bool) → cond t (Some (length w)) None ≡ Some n → n ≡ length w
        go true p = cc
        go false p = let z : ◌≡◌ {A = ℕ} 0 1 = cc in omega arith

    pub fits_told : (n : ℕ) → r ≡ Some n → at + length w ≤ length d
    unfolding put_count
    fits_told n f = go (leb (at + length w) (length d)) refl (sym e ∙ f)
      where
        go : (t : Bool) → leb (at + length w) (length d) ≡ t → cond t (Some (length w)) None ≡ Some n → at + length w ≤ length d
        go true q p = leb-true _ _ q
        go false q p = let z : ◌≡◌ {A = ℕ} 0 1 = cc in omega arith

    pub over_told : r ≡ None → length d < at + length w
    unfolding put_count
    over_told f = go (leb (at + length w) (length d)) refl (sym e ∙ f)
      where
        go : (t : Bool) → leb (at + length w) (length d) ≡ t → cond t (Some (length w)) None ≡ None → length d < at + length w
        go true q p = let z : ◌≡◌ {A = ℕ} 0 1 = cc in omega arith
        go false q p = leb-false _ _ q

    pub never_short : at + length w ≤ length d → r ≡ None → ⊥
    never_short h f = let o = over_told f in omega arith

    pub told_within : (n : ℕ) → r ≡ Some n → at + n ≤ length d
    told_within n f = let c = count_told n f in let k = fits_told n f in omega arith

    pub told_adds : (n : ℕ) → r ≡ Some n → length d * 1 < 2 ^ 63 → Fits w64 (at + n)
    told_adds n f l = let k = told_within n f in omega arith

    pub told_row : (n : ℕ) (b : List ℕ) → r ≡ Some n → b ≡ put_into d at w → take (at + n) b ≡ take at d ++ w
    told_row n b f g = ap (λ (k : ℕ). take (at + k) b) (count_told n f) ∙ put_row (fits_told n f) b g

pub ruleset told_laws = (count_told, fits_told, over_told, never_short, told_within, told_adds, told_row, put_row)

-- ---- two texts put one behind the other are one text
pub put_put : (d : List ℕ) (at : ℕ) (v w : List ℕ) → at + length v + length w ≤ length d → put_into (put_into d at v) (at + length v) w ≡ put_into d at (v ++ w)
put_put d at v w h =
    let l = length-append v w in
    let k = length-sets d at v in
    ap (λ (b : List ℕ). put_into b (at + length v) w) (put_fits d at v (omega arith))
    ∙ put_fits (sets d at v) (at + length v) w (omega arith)
    ∙ sym (put_fits d at (v ++ w) (omega arith) ∙ sets_append v w d at)

-- the second of two writers that both wrote leaves both texts
module _ (d b : List ℕ) (at n : ℕ) (v w : List ℕ) (p q : Option ℕ) (e : p ≡ put_count d at v) (f : p ≡ Some n) (g : b ≡ put_into d at v) (k : q ≡ put_count b (at + n) w) where
  pub told_put : (m : ℕ) (z : List ℕ) → q ≡ Some m → z ≡ put_into b (at + n) w → z ≡ put_into d at (v ++ w)
  told_put m z l r =
      let c : n ≡ length v = count_told d at v p e n f in
      let s = length_put d at v in
      let t = ap length g in
      let u = fits_told b (at + n) w q k m l in
      r
      ∙ ap (λ (x : List ℕ). put_into x (at + n) w) g
      ∙ ap (λ (j : ℕ). put_into (put_into d at v) (at + j) w) c
      ∙ put_put d at v w (omega arith)

pub told_adds_behind : (d b : List ℕ) (at k n : ℕ) (v w : List ℕ) (r : Option ℕ) → b ≡ put_into d at v → r ≡ put_count b k w → r ≡ Some n → length d * 1 < 2 ^ 63 → Fits w64 (k + n)
told_adds_behind d b at k n v w r g e f l =
    let h = told_within b k w r e n f in
    let x = ap length g in
    let y = length_put d at v in
    omega arith

pub ruleset behind_laws = (told_put, told_adds_behind)

-- ---- how many digits there are: at least one, and at most one more than k
pub digit_count_positive : (base k v : ℕ) → 1 ≤ digit_count base k v
unfolding digit_count
digit_count_positive base zero v = omega arith
digit_count_positive base (suc k) v = go (ltb v base)
  where
    go : (t : Bool) → 1 ≤ cond t 1 (suc (digit_count base k (v / base)))
    go true = omega arith
    go false = omega arith

pub digit_count_most : (base k v : ℕ) → digit_count base k v ≤ k + 1
unfolding digit_count
digit_count_most base zero v = omega arith
digit_count_most base (suc k) v = go (ltb v base) (digit_count_most base k (v / base))
  where
    go : (t : Bool) → digit_count base k (v / base) ≤ k + 1 → cond t 1 (suc (digit_count base k (v / base))) ≤ suc k + 1
    go true h = omega arith
    go false h = omega arith

pub digit_count_64 : (base v : ℕ) → digit_count base 63 v ≤ 64
digit_count_64 base v = digit_count_most base 63 v

pub digit_count_low : (base k v : ℕ) → v < base → digit_count base k v ≡ 1
unfolding digit_count
digit_count_low base zero v h = refl
digit_count_low base (suc k) v h = simp (lt-ltb _ _ h)

pub digit_count_suc : (base k v : ℕ) → base ≤ v → digit_count base (suc k) v ≡ suc (digit_count base k (v / base))
unfolding digit_count
digit_count_suc base k v h = simp (le-ltb _ _ h)

power_one : (base : ℕ) → base ^ 1 ≡ base
power_one base = pow-suc base 0 ∙ ap (λ (x : ℕ). x * base) (pow-zero base) ∙ one-mul base

quotient_below : (base n v : ℕ) → 1 ≤ base → v < base ^ suc n → v / base < base ^ n
quotient_below base n v b h = (div-lt_iff_lt-mul b).1 (subst (λ (x : ℕ). v < x) (pow-suc base n) h)

below_quotient : (base n v : ℕ) → 1 ≤ base → v / base < base ^ n → v < base ^ suc n
below_quotient base n v b h = subst (λ (x : ℕ). v < x) (sym (pow-suc base n)) ((div-lt_iff_lt-mul b).0 h)

-- they are the fewest: no more than any n of one or more for which v is below base ^ n, and v is below base to their count
pub digit_count_fewest : (base k n v : ℕ) → 1 ≤ base → v < base ^ suc n → digit_count base k v ≤ suc n
unfolding digit_count
digit_count_fewest base zero n v b h = omega arith
digit_count_fewest base (suc k) zero v b h =
    let e = digit_count_low base (suc k) v (subst (λ (x : ℕ). v < x) (power_one base) h) in
    omega arith
digit_count_fewest base (suc k) (suc n) v b h = go (ltb v base) (digit_count_fewest base k n (v / base) b (quotient_below base (suc n) v b h))
  where
    go : (t : Bool) → digit_count base k (v / base) ≤ suc n → cond t 1 (suc (digit_count base k (v / base))) ≤ suc (suc n)
    go true p = omega arith
    go false p = omega arith

pub digit_count_enough : (base k v : ℕ) → 1 ≤ base → v < base ^ suc k → v < base ^ digit_count base k v
unfolding digit_count
digit_count_enough base zero v b h = h
digit_count_enough base (suc k) v b h = go (ltb v base) refl (digit_count_enough base k (v / base) b (quotient_below base (suc k) v b h))
  where
    go : (t : Bool) → ltb v base ≡ t → v / base < base ^ digit_count base k (v / base) → v < base ^ cond t 1 (suc (digit_count base k (v / base)))
    go true e p = subst (λ (x : ℕ). v < x) (sym (power_one base)) (ltb-true _ _ e)
    go false e p = below_quotient base (digit_count base k (v / base)) v b p

-- ---- the digits
pub length_digits : (base n v : ℕ) → length (digits_of base n v) ≡ n
unfolding digits_of
length_digits base zero v = refl
length_digits base (suc n) v =
    length-append (digits_of base n (v / base)) (digit_byte (v % base) ∷ []) ∙ let h = length_digits base n (v / base) in omega arith

pub digit_below : (base v : ℕ) → 2 ≤ base → base ≤ 16 → v % base < 16
digit_below base v h k = let l : v % base < base = mod-lt v (omega arith) in omega (arith, l)

pub length_prefixed : (n v : ℕ) → length (prefixed_text n v) ≡ n + 2
length_prefixed n v = let h = length_digits 16 n v in omega arith

pub length_sixteen : (v : ℕ) → length (sixteen_text v) ≡ 18
length_sixteen v = length_prefixed 16 v

pub length_fewest : (v : ℕ) → length (fewest_text v) ≡ digit_count 16 63 v + 2
length_fewest v = length_prefixed (digit_count 16 63 v) v

pub length_decimal : (v : ℕ) → length (decimal_text v) ≡ digit_count 10 63 v
length_decimal v = length_digits 10 (digit_count 10 63 v) v

-- a number of 64 bits has at most sixteen hexadecimal and twenty decimal digits
pub fewest_most : (v : ℕ) → v < 2 ^ 64 → length (fewest_text v) ≤ 18
fewest_most v h = let c = digit_count_fewest 16 63 15 v (omega arith) h in let l = length_fewest v in omega arith

pub decimal_most : (v : ℕ) → v < 2 ^ 64 → length (decimal_text v) ≤ 20
decimal_most v h = let c = digit_count_fewest 10 63 19 v (omega arith) (omega arith) in let l = length_decimal v in omega arith

-- to put the same bytes is the same put
module _ (d : List ℕ) (at : ℕ) (v w : List ℕ) (e : v ≡ w) where
  pub same_count : (q : Option ℕ) → q ≡ put_count d at v → q ≡ put_count d at w
  same_count q h = h ∙ ap (put_count d at) e

  pub same_into : (b : List ℕ) → b ≡ put_into d at v → b ≡ put_into d at w
  same_into b h = h ∙ ap (put_into d at) e
