-- A property of every entry of a list, and numbers in ascending order.
use Rattle.std.specs.Prelude.{ℕ, ◌<◌, List, [], ◌∷◌}

pub data All {A : Type 0} (P : A → Type 0) : List A → Type 0 where
  none_left : All P []
  one_more : {x : A} {xs : List A} → P x → All P xs → All P (x ∷ xs)

-- numbers each above those before it
pub data Ascending : List ℕ → Type 0 where
  no_more : Ascending []
  next : {k : ℕ} {ks : List ℕ} → All (λ j. k < j) ks → Ascending ks → Ascending (k ∷ ks)
