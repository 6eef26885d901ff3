-- Sums over lists, and the sum over a text's parts.
use Prim.Native.Nat.{ℕ, zero, suc, ◌+◌, ◌*◌, ◌≤◌}
use mathlib.Core.Path.{◌≡◌, refl}
use mathlib.Core.List.{List, [], ◌∷◌, ◌++◌, map}
use mathlib.Core.Bool.{Bool, true, false, cond}
use native.Mathlib.Omega.{arith}
use lib.ListN.{length, take}
use Rattle.text.specs.Lists.{total}
use Rattle.text.specs.Scan.{parts, on_first}

module _ {A : Type 0} (f : A → ℕ) where
  -- the sum over two lists
  pub total_append : (xs ys : List A) → total (map f (xs ++ ys)) ≡ total (map f xs) + total (map f ys)
  unfolding total
  total_append [] ys = omega arith
  total_append (x ∷ xs) ys = let h = total_append xs ys in omega arith

  -- a sum of entries of c or more, and of entries of c or less
  pub total_least : (c : ℕ) → ((x : A) → c ≤ f x) → (xs : List A) → c * length xs ≤ total (map f xs)
  unfolding total
  total_least c h [] = omega arith
  total_least c h (x ∷ xs) = let k = h x in let r = total_least c h xs in omega arith

  pub total_most : (c : ℕ) → ((x : A) → f x ≤ c) → (xs : List A) → total (map f xs) ≤ c * length xs
  unfolding total
  total_most c h [] = omega arith
  total_most c h (x ∷ xs) = let k = h x in let r = total_most c h xs in omega arith

-- the sum of the first entries is at most that of all
pub total_take : (n : ℕ) (xs : List ℕ) → total (take n xs) ≤ total xs
unfolding total
total_take zero xs = omega arith
total_take (suc n) [] = omega arith
total_take (suc n) (x ∷ xs) = let h = total_take n xs in omega arith

-- the bytes of a part and the one that parts it from the next
abbrev pub spaced : List ℕ → ℕ
spaced l = length l + 1

-- a text's parts hold its bytes, but for one byte between each and the next
pub parts_total : (p : ℕ → Bool) (s : List ℕ) → total (map spaced (parts p s)) ≡ length s + 1
unfolding total parts
parts_total p [] = refl
parts_total p (x ∷ xs) = go (p x) (parts p xs) (parts_total p xs)
  where
    go : (t : Bool) (ls : List (List ℕ)) → total (map spaced ls) ≡ length xs + 1 → total (map spaced (cond t ([] ∷ ls) (on_first x ls))) ≡ suc (length xs) + 1
    go true ls h = omega arith
    go false [] h = absurd (omega arith)
    go false (l ∷ ls) h = omega arith
