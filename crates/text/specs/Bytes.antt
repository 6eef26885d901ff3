-- Byte strings and the byte classes of document 01.
use Rattle.std.specs.Prelude.{ℕ, List, [], ◌∷◌, Bool, true, false, ◌&&◌, ◌||◌, eqb, leb}
use Prim.Native.String.{String}
use Prim.Native.String as S
use Prim.Native.Char.{code}

-- the bytes of a quoted text, as `bytes "mload"`
abbrev pub bytes : String → List ℕ
bytes S.[] = []
bytes (S.◌∷◌ c s) = code c ∷ bytes s

-- bytes from the one up to the other
abbrev pub within : ℕ → ℕ → ℕ → Bool
within low high b = leb low b && leb b high

-- "Whitespace is byte 32 and bytes 9 to 13"
unfoldable pub is_space : ℕ → Bool
is_space b = eqb b 32 || within 9 13 b

-- "digits": `0` to `9`
unfoldable pub is_digit : ℕ → Bool
is_digit b = within 48 57 b

-- "letters": `A` to `Z` and `a` to `z`
unfoldable pub is_letter : ℕ → Bool
is_letter b = within 65 90 b || within 97 122 b

-- "letters, digits or underscores"
unfoldable pub is_word : ℕ → Bool
is_word b = is_letter b || is_digit b || eqb b 95

-- two byte strings are the same
unfoldable pub same : List ℕ → List ℕ → Bool
same [] [] = true
same [] (y ∷ ys) = false
same (x ∷ xs) [] = false
same (x ∷ xs) (y ∷ ys) = eqb x y && same xs ys
