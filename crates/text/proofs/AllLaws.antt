-- A property of every entry: of two lists together, and of each of them.
use mathlib.Core.List.{List, [], ◌∷◌, ◌++◌}
use Rattle.text.specs.All.{All, none_left, one_more}

module _ {A : Type 0} {P : A → Type 0} where
  pub all_append : {xs ys : List A} → All P xs → All P ys → All P (xs ++ ys)
  all_append none_left k = k
  all_append (one_more p h) k = one_more p (all_append h k)

  pub all_front : (xs ys : List A) → All P (xs ++ ys) → All P xs
  all_front [] ys h = none_left
  all_front (x ∷ xs) ys (one_more p h) = one_more p (all_front xs ys h)

  pub all_rest : (xs ys : List A) → All P (xs ++ ys) → All P ys
  all_rest [] ys h = h
  all_rest (x ∷ xs) ys (one_more p h) = all_rest xs ys h
