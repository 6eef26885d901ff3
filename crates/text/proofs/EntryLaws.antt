-- The entry at a place of a list.
use Rattle.std.specs.Prelude.{Some, slice_get}
use Prim.Native.Nat.{ℕ, zero, suc, ◌+◌, ◌<◌}
use mathlib.Core.Path.{◌≡◌, refl, ap, subst, ◌∙◌}
use mathlib.Core.List.{List, [], ◌∷◌, ◌++◌, map}
use native.Mathlib.Nat.{zero-add, suc-add}
use native.Mathlib.Omega.{arith}
use lib.ListN.{length}
use Rattle.text.specs.All.{All, none_left, one_more}
use Rattle.std.proofs.lemmas.Option.{none-some, same_Some}

module _ {A : Type 0} where
  -- behind a front of the list
  pub at_behind : (xs ys : List A) (n : ℕ) → slice_get (xs ++ ys) (length xs + n) ≡ slice_get ys n
  at_behind [] ys n = ap (slice_get ys) (zero-add n)
  at_behind (x ∷ xs) ys n = ap (slice_get (x ∷ (xs ++ ys))) (suc-add (length xs) n) ∙ at_behind xs ys n

  -- a place below the length has one
  pub at_below : (xs : List A) (n : ℕ) → n < length xs → (x : A) × (slice_get xs n ≡ Some x)
  at_below [] n h = absurd (omega arith)
  at_below (x ∷ xs) zero h = (x, refl)
  at_below (x ∷ xs) (suc n) h = at_below xs n (omega arith)

  -- what holds of every entry holds of it
  pub all_at : {P : A → Type 0} (xs : List A) → All P xs → (n : ℕ) (x : A) → slice_get xs n ≡ Some x → P x
  all_at xs none_left n x g = absurd (none-some x g)
  all_at {P} xs (one_more {x = y} h hs) zero x g = subst P (same_Some y x g) h
  all_at xs (one_more {xs = ys} h hs) (suc n) x g = all_at ys hs n x g

-- under a map it is made of the entry that stood there
pub at_map : {A B : Type 0} (f : A → B) (xs : List A) (n : ℕ) (y : B) → slice_get (map f xs) n ≡ Some y → (x : A) × (slice_get xs n ≡ Some x) × (f x ≡ y)
at_map f [] n y g = absurd (none-some y g)
at_map f (x ∷ xs) zero y g = (x, refl, same_Some (f x) y g)
at_map f (x ∷ xs) (suc n) y g = at_map f xs n y g
