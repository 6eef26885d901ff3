-- Texts taken apart by a test on bytes: the one scan, and the parts between bytes.
use Rattle.std.specs.Prelude.{ℕ, suc, List, [], ◌∷◌, Bool, true, false, cond, ◌&&◌}

-- how many bytes at the start of a text pass the test
unfoldable pub scan : (ℕ → Bool) → List ℕ → ℕ
scan p [] = 0
scan p (x ∷ xs) = cond (p x) (suc (scan p xs)) 0

-- every byte passes the test
unfoldable pub all : (ℕ → Bool) → List ℕ → Bool
all p [] = true
all p (x ∷ xs) = p x && all p xs

-- a byte in front of the first part
abbrev pub on_first : ℕ → List (List ℕ) → List (List ℕ)
on_first x [] = (x ∷ []) ∷ []
on_first x (l ∷ ls) = (x ∷ l) ∷ ls

-- the parts between the bytes that pass the test, empty parts too
unfoldable pub parts : (ℕ → Bool) → List ℕ → List (List ℕ)
parts p [] = [] ∷ []
parts p (x ∷ xs) = cond (p x) ([] ∷ parts p xs) (on_first x (parts p xs))

abbrev pub is_empty {ℓ} : {A : Type ℓ} → List A → Bool
is_empty [] = true
is_empty (x ∷ xs) = false
