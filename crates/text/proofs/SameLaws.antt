-- Laws of comparing byte strings.
use Prim.Native.Nat.{ℕ, suc}
use mathlib.Core.Path.{◌≡◌, refl, ap, ◌∙◌}
use mathlib.Core.List.{List, [], ◌∷◌}
use mathlib.Core.Bool.{Bool, true, false, ◌&&◌, and-false}
use lib.Dec.{eqb}
use lib.Pointwise.{pointwise, bytes_decides}
use lib.ListN.{length}
use Rattle.text.specs.Bytes.{same}

-- `==` of slices is the same test
same_as : (a b : List ℕ) → pointwise eqb a b ≡ same a b
unfolding same
same_as [] [] = refl
same_as [] (y ∷ ys) = refl
same_as (x ∷ xs) [] = refl
same_as (x ∷ xs) (y ∷ ys) = ap (λ (t : Bool). eqb x y && t) (same_as xs ys)

pub same_told : (a b : List ℕ) (r : Bool) → r ≡ pointwise eqb a b → r ≡ same a b
same_told a b r e = e ∙ same_as a b

pub same_off : (a b : List ℕ) → (length a ≡ length b → ⊥) → same a b ≡ false
unfolding same
same_off [] [] h = absurd (h refl)
same_off [] (y ∷ ys) h = refl
same_off (x ∷ xs) [] h = refl
same_off (x ∷ xs) (y ∷ ys) h = ap (λ (t : Bool). eqb x y && t) (same_off xs ys (λ e. h (ap suc e))) ∙ and-false (eqb x y)

-- the test says that the two are equal
pub same_equal : (a b : List ℕ) → same a b ≡ true → a ≡ b
same_equal a b h = (bytes_decides a b).0 (same_as a b ∙ h)
