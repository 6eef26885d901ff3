-- Hosts that stand again further on, and the count of those that do not.
use Prim.Native.Nat.{ℕ, suc, ◌+◌, ◌-◌, ◌*◌, ◌/◌, ◌%◌, ◌^◌, ◌<◌, ◌≤◌}
use mathlib.Core.Path.{◌≡◌, refl, sym, ap, ◌∙◌}
use mathlib.Core.List.{List, [], ◌∷◌, reverse}
use mathlib.Core.Bool.{Bool, true, false, true≢false}
use native.Mathlib.Omega.{arith}
use native.Mathlib.Numerals.{add-one}
use borrow.Author.Tests.{eq-eqb, ne_eqb, eqb-true, eqb-false, ltb-true}
use mir.Syntax.{w64}
use mir.Val.{Fits}
use lib.Dec.{eqb, ltb}
use lib.ListN.{length, get_or, take, drop, set, replicate, length-drop, drop_of_length-le}
use lib.Seq.{drop-cons, take_all}
use Rattle.std.specs.List.{list_all, list_any}
use Rattle.std.proofs.lemmas.List.{length-reverse, get_or-reverse}
use Rattle.std.proofs.lemmas.List.Folds.{list_all_at}
use Rattle.text.proofs.Laws.{drop_next}
use Rattle.relocate.specs.Prophets.{is_in, kept_from, kept_count}
use Rattle.relocate_kept.proofs.MarkLaws.{Marks, marks_none, marked_in, unmarked_out, marks_again, marks_more, mark_fits}

-- the test of `contains`, with its two sides the other way round
eqb_turned : (x y : ℕ) → eqb y x ≡ eqb x y
eqb_turned x y = go (eqb y x) refl
  where
    go : (t : Bool) → eqb y x ≡ t → eqb y x ≡ eqb x y
    go true e = e ∙ sym (eq-eqb x y (sym (eqb-true y x e)))
    go false e = e ∙ sym (ne_eqb x y (λ q. eqb-false y x e (sym q)))

-- so `contains` says the same as is_in
contains_is_in : (x : ℕ) (hs : List ℕ) → list_any (λ y. eqb y x) hs ≡ is_in x hs
unfolding is_in
contains_is_in x [] = refl
contains_is_in x (y ∷ hs) = rw (contains_is_in x hs, eqb_turned x y)

-- ---- the count kept

module _ (hs : List ℕ) (n i : ℕ) (e : kept_count hs ≡ n + length (kept_from i (drop i hs))) where
  module _ (r : Bool) (k : i < length hs) (f : r ≡ list_any (λ y. eqb y (get_or hs i 0)) (take (length hs - (i + 1)) (drop (i + 1) hs))) where
    behind : is_in (get_or hs i 0) (drop (i + 1) hs) ≡ r
    behind =
        let l = length-drop (i + 1) hs in
        sym (f ∙ contains_is_in (get_or hs i 0) (take (length hs - (i + 1)) (drop (i + 1) hs)) ∙ ap (is_in (get_or hs i 0)) (take_all (length hs - (i + 1)) (drop (i + 1) hs) (omega arith)))

    -- a host that stands again is not counted here
    pub kept_later : r ≡ true → kept_count hs ≡ n + length (kept_from (i + 1) (drop (i + 1) hs))
    unfolding kept_from
    kept_later q = let t : is_in (get_or hs i 0) (drop (i + 1) hs) ≡ true = behind ∙ q in e ∙ rw (drop_next hs i k, t, add-one i)

    -- the last on its host is
    pub kept_here : r ≡ false → kept_count hs ≡ (n + 1) + length (kept_from (i + 1) (drop (i + 1) hs))
    unfolding kept_from
    kept_here q = let t : is_in (get_or hs i 0) (drop (i + 1) hs) ≡ false = behind ∙ q in e ∙ rw (drop_next hs i k, t, add-one i) (omega arith)

  -- the list's end
  pub kept_end : length hs ≤ i → n ≡ kept_count hs
  unfolding kept_from
  kept_end k = sym (e ∙ rw (drop_of_length-le hs k) (omega arith))

-- ---- the count kept, from the last host to the first

-- the last n hosts are walked: those are marked, and so many of them are kept as are counted
pub record Walked (hs : List ℕ) (n : ℕ) (ms : List ℕ) (count : ℕ) : Type 0 where
  pub seen : n ≤ length hs
  pub marks : Marks 512 ms (drop (length hs - n) hs)
  pub counted : count ≡ length (kept_from (length hs - n) (drop (length hs - n) hs))

-- none is marked and none counted at the start
pub walk_start : (hs : List ℕ) → Walked hs 0 (replicate 512 0) 0
unfolding kept_from
walk_start hs =
    let d = drop_of_length-le hs {i = length hs - 0} (omega arith) in
    record { seen = omega arith; marks = rw d (marks_none 512); counted = rw d }

module _ (hs : List ℕ) (n : ℕ) (a : list_all (λ h. ltb h 32768) hs ≡ true) (host : ℕ) (t : (n < length (reverse hs)) × (host ≡ get_or (reverse hs) n host)) where
  ahead : n < length hs
  ahead = let l = length-reverse hs in omega (arith, t.0)

  at : host ≡ get_or hs (length hs - 1 - n) host
  at = t.1 ∙ get_or-reverse hs n host ahead

  host_below : host < 32768
  host_below = ltb-true host 32768 (go (ltb host 32768) refl)
    where
      go : (b : Bool) → ltb host 32768 ≡ b → ltb host 32768 ≡ true
      go true e = e
      go false e = absurd (true≢false (sym a ∙ list_all_at (λ h. ltb h 32768) hs (length hs - 1 - n) host (omega (arith, ahead)) (ap (λ (h : ℕ). ltb h 32768) (sym at) ∙ e)))

  -- its mark has a word
  within : host / 64 < 512
  within = omega (arith, host_below)

  -- it stands in front of those that were walked
  earlier : drop (length hs - (n + 1)) hs ≡ host ∷ drop (length hs - n) hs
  earlier =
      let e : length hs - (n + 1) ≡ length hs - 1 - n = omega arith in
      let f : suc (length hs - 1 - n) ≡ length hs - n = omega (arith, ahead) in
      rw e (drop-cons hs (length hs - 1 - n) host (omega (arith, ahead)) ∙ ap (λ (h : ℕ). h ∷ drop (suc (length hs - 1 - n)) hs) (sym at) ∙ ap (λ (j : ℕ). host ∷ drop j hs) f)

  module _ (ms : List ℕ) (count : ℕ) (w : Walked hs n ms count) where
    abbrev mark : ℕ
    mark = get_or ms (host / 64) 0 / 2 ^ (host % 64) % 2

    next : suc (length hs - (n + 1)) ≡ length hs - n
    next = omega (arith, ahead)

    pub walk_fits : mark ≡ 0 → Fits w64 (get_or ms (host / 64) 0 + (1 * 2 ^ (host % 64)) % 2 ^ 64)
    walk_fits z = record { fits = mark_fits 512 ms _ w.marks host within z }

    -- a host that had its mark is not counted
    pub walk_later : (mark ≡ 0 → ⊥) → Walked hs (n + 1) ms count
    unfolding kept_from
    walk_later z =
        record {
          seen = omega (arith, ahead);
          marks = rw earlier (marks_again 512 ms _ w.marks host within z);
          counted = rw (earlier, marked_in 512 ms _ w.marks host within z, next) w.counted;
        }

    -- one that had none is, and is marked
    pub walk_here : mark ≡ 0 → Walked hs (n + 1) (set ms (host / 64) (get_or ms (host / 64) 0 + (1 * 2 ^ (host % 64)) % 2 ^ 64)) (count + 1)
    unfolding kept_from
    walk_here z =
        record {
          seen = omega (arith, ahead);
          marks = rw earlier (marks_more 512 ms _ w.marks host within z);
          counted = let c = w.counted in rw (earlier, unmarked_out 512 ms _ w.marks host within z, next) (omega arith);
        }

-- all are walked
pub walk_end : (hs : List ℕ) (n : ℕ) (ms : List ℕ) (count : ℕ) → Walked hs n ms count → n ≡ length (reverse hs) → count ≡ kept_count hs
walk_end hs n ms count w e = let z : length hs - n ≡ 0 = (let l = length-reverse hs in omega arith) in w.counted ∙ ap (λ (j : ℕ). length (kept_from j (drop j hs))) z
