-- Pieces of a row, as Rust's `split_whitespace` gives them.
use Rattle.std.specs.Prelude.{ℕ, List, [], ◌∷◌, Bool, not, cond, drop}
use Rattle.text.specs.Bytes.{is_space}
use Rattle.text.specs.Scan.{scan, parts, is_empty}
use Rattle.text.specs.declared.Piece.{Piece}

-- the parts that are not empty
unfoldable pub filled : List (List ℕ) → List (List ℕ)
filled [] = []
filled (l ∷ ls) = cond (is_empty l) (filled ls) (l ∷ filled ls)

-- "Whitespace ... parts the pieces"
unfoldable pub pieces : List ℕ → List (List ℕ)
pieces s = filled (parts is_space s)

abbrev pub not_space : ℕ → Bool
not_space b = not (is_space b)

-- where the first piece starts
unfoldable pub piece_start : List ℕ → ℕ
piece_start s = scan is_space s

-- how long it is, 0 where there is none
unfoldable pub piece_length : List ℕ → ℕ
piece_length s = scan not_space (drop (piece_start s) s)

abbrev pub first_piece : List ℕ → Piece
first_piece s = record { start = piece_start s; length = piece_length s }
