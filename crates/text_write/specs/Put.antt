-- What a writer leaves in the text that it was lent, and what it answers.
use Rattle.std.specs.Prelude.{ℕ, ◌+◌, List, ◌++◌, cond, leb, length, take, drop, Option, Some, None}

-- the lent text d with w from byte at on, where it fits: what stands before and after is kept; otherwise d untouched
unfoldable pub put_into : List ℕ → ℕ → List ℕ → List ℕ
put_into d at w = cond (leb (at + length w) (length d)) (take at d ++ w ++ drop (at + length w) d) d

-- the count of bytes written, or that the text is too short
unfoldable pub put_count : List ℕ → ℕ → List ℕ → Option ℕ
put_count d at w = cond (leb (at + length w) (length d)) (Some (length w)) None
