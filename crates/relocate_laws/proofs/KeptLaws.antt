-- Of the prophets on one host the last in the list is kept, and no other.
use Rattle.std.specs.Prelude.{Some, slice_get}
use Prim.Native.Nat.{ℕ, zero, suc, ◌+◌, ◌<◌}
use mathlib.Core.Logic.{◌↔◌, ◌⊎◌, inl, inr}
use mathlib.Core.Path.{◌≡◌, refl, sym, ap, ap₂, subst, ◌∙◌}
use mathlib.Core.List.Memᴰ
use mathlib.Core.List.{List, [], ◌∷◌, map, Memᴰ}
use mathlib.Core.Bool.{Bool, true, false, ◌||◌, cond, true≢false}
use native.Mathlib.Omega.{arith}
use borrow.Author.Tests.{eqb-true, eq-eqb}
use lib.Dec.{eqb}
use Rattle.text.specs.All.{All, none_left, one_more, Ascending, no_more, next}
use Rattle.relocate.specs.Prophets.{is_in, Kept, place_of, kept_from}
use Rattle.std.proofs.lemmas.Option.{none-some, same_Some}

-- the k-th of the hosts is h, and no later one is
abbrev pub LastOn : List ℕ → ℕ → ℕ → Type 0
LastOn hosts k h = (slice_get hosts k ≡ Some h) × ((j : ℕ) → k < j → slice_get hosts j ≡ Some h → ⊥)

-- ---- hosts that are in a list

-- what stands in a list is in it
in_at : (h : ℕ) (hs : List ℕ) (j : ℕ) → slice_get hs j ≡ Some h → is_in h hs ≡ true
unfolding is_in
in_at h [] j e = absurd (none-some h e)
in_at h (x ∷ xs) zero e = rw (eq-eqb h x (sym (same_Some x h e)))
in_at h (x ∷ xs) (suc j) e = go (eqb h x) (in_at h xs j e)
  where
    go : (t : Bool) → is_in h xs ≡ true → t || is_in h xs ≡ true
    go true i = refl
    go false i = i

-- and what is in it stands somewhere
at_in : (h : ℕ) (hs : List ℕ) → is_in h hs ≡ true → (j : ℕ) × (slice_get hs j ≡ Some h)
unfolding is_in
at_in h [] e = absurd (true≢false (sym e))
at_in h (x ∷ xs) e = go (eqb h x) refl (at_in h xs) e
  where
    go : (t : Bool) → eqb h x ≡ t → (is_in h xs ≡ true → (j : ℕ) × (slice_get xs j ≡ Some h)) → t || is_in h xs ≡ true → (j : ℕ) × (slice_get (x ∷ xs) j ≡ Some h)
    go true q f i = (0, ap Some (sym (eqb-true h x q)))
    go false q f i = let y = f i in (suc y.0, y.1)

-- ---- kept, where the list's first place is m

-- a prophet that is the last of its host
abbrev LastFrom : ℕ → List ℕ → Kept → Type 0
LastFrom m hosts q = (k : ℕ) × (q.place ≡ m + k) × LastOn hosts k q.host

module _ (q : Kept) where
  -- it stays so behind one host more
  last_more : (m h : ℕ) (hs : List ℕ) → LastFrom (suc m) hs q → LastFrom m (h ∷ hs) q
  last_more m h hs l = let p = l.1 in (suc l.0, omega arith, (l.2.0, later))
    where
      later : (j : ℕ) → suc l.0 < j → slice_get (h ∷ hs) j ≡ Some q.host → ⊥
      later zero p e = omega arith
      later (suc j) p e = l.2.1 j (omega arith) e

  -- and is so in front where its host does not come again
  last_first : (m h : ℕ) (hs : List ℕ) → is_in h hs ≡ false → q ≡ record { host = h; place = m } → LastFrom m (h ∷ hs) q
  last_first m h hs e p = (0, ap (λ (r : Kept). r.place) p ∙ omega arith, (ap Some (sym host), later))
    where
      host : q.host ≡ h
      host = ap (λ (r : Kept). r.host) p

      later : (j : ℕ) → 0 < j → slice_get (h ∷ hs) j ≡ Some q.host → ⊥
      later zero l x = omega arith
      later (suc j) l x = true≢false (sym (in_at h hs j (x ∙ ap Some host)) ∙ e)

  -- what is kept is the last of its host
  kept_last : (m : ℕ) (hs : List ℕ) → Memᴰ q (kept_from m hs) → LastFrom m hs q
  unfolding kept_from
  kept_last m [] i = absurd (Memᴰ.not-nil i)
  kept_last m (h ∷ hs) i = go (λ x. last_more m h hs (kept_last (suc m) hs x)) (is_in h hs) refl i
    where
      later : List Kept
      later = kept_from (suc m) hs

      pick : (Memᴰ q later → LastFrom m (h ∷ hs) q) → is_in h hs ≡ false → (q ≡ record { host = h; place = m }) ⊎ Memᴰ q later → LastFrom m (h ∷ hs) q
      pick behind e (inl p) = last_first m h hs e p
      pick behind e (inr x) = behind x

      go : (Memᴰ q later → LastFrom m (h ∷ hs) q) → (t : Bool) → is_in h hs ≡ t → Memᴰ q (cond t later (record { host = h; place = m } ∷ later)) → LastFrom m (h ∷ hs) q
      go behind true e x = behind x
      go behind false e x = pick behind e (Memᴰ.cases_cons x)

  -- and the last of its host is kept
  last_kept : (m : ℕ) (hs : List ℕ) (k : ℕ) → q.place ≡ m + k → LastOn hs k q.host → Memᴰ q (kept_from m hs)
  unfolding kept_from
  last_kept m [] k p l = absurd (none-some q.host l.0)
  last_kept m (h ∷ hs) zero p l = go (is_in h hs) refl
    where
      go : (t : Bool) → is_in h hs ≡ t → Memᴰ q (cond t (kept_from (suc m) hs) (record { host = h; place = m } ∷ kept_from (suc m) hs))
      go true e = let x = at_in h hs e in absurd (l.1 (suc x.0) (omega arith) (x.1 ∙ l.0))
      go false e =
          let at : q.place ≡ m = omega arith in
          Memᴰ.head (ap₂ (λ (a b : ℕ). record { host = a; place = b }) (sym (same_Some h q.host l.0)) at)
  last_kept m (h ∷ hs) (suc k) p l = go (is_in h hs) (last_kept (suc m) hs k (omega arith) (l.0, λ j x e. l.1 (suc j) (omega arith) e))
    where
      go : (t : Bool) → Memᴰ q (kept_from (suc m) hs) → Memᴰ q (cond t (kept_from (suc m) hs) (record { host = h; place = m } ∷ kept_from (suc m) hs))
      go true i = i
      go false i = Memᴰ.tail i

-- "Of two prophets on one host the later in the list is kept": the k-th prophet, of host h, is kept exactly where it is the last of that host
pub later_kept : (hosts : List ℕ) (k h : ℕ) → Memᴰ (record { host = h; place = k }) (kept_from 0 hosts) ↔ LastOn hosts k h
later_kept hosts k h = (to, from)
  where
    q : Kept
    q = record { host = h; place = k }

    to : Memᴰ q (kept_from 0 hosts) → LastOn hosts k h
    to i = let f = kept_last q 0 hosts i in let p : f.0 ≡ k = let e = f.1 in omega arith in subst (λ (j : ℕ). LastOn hosts j h) p f.2

    from : LastOn hosts k h → Memᴰ q (kept_from 0 hosts)
    from l = last_kept q 0 hosts k (omega arith) l

-- ---- each once

-- what is kept from a place on stands there or behind
places_from : (m n : ℕ) (hs : List ℕ) → m < n → All (λ j. m < j) (map place_of (kept_from n hs))
unfolding kept_from
places_from m n [] l = none_left
places_from m n (h ∷ hs) l = go (is_in h hs) (places_from m (suc n) hs (omega arith))
  where
    go : (t : Bool) → All (λ j. m < j) (map place_of (kept_from (suc n) hs))
        → All (λ j. m < j) (map place_of (cond t (kept_from (suc n) hs) (record { host = h; place = n } ∷ kept_from (suc n) hs)))
    go true a = a
    go false a = one_more l a

-- in the order of the list
pub places_ascend : (n : ℕ) (hs : List ℕ) → Ascending (map place_of (kept_from n hs))
unfolding kept_from
places_ascend n [] = no_more
places_ascend n (h ∷ hs) = go (is_in h hs) (places_ascend (suc n) hs)
  where
    go : (t : Bool) → Ascending (map place_of (kept_from (suc n) hs))
        → Ascending (map place_of (cond t (kept_from (suc n) hs) (record { host = h; place = n } ∷ kept_from (suc n) hs)))
    go true a = a
    go false a = next (places_from n (suc n) hs (omega arith)) a
