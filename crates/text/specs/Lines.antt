-- Lines as Rust's `lines` gives them.
use Rattle.std.specs.Prelude.{ℕ, ◌+◌, ◌-◌, List, [], ◌∷◌, Bool, not, cond, eqb, ltb, length, take, get_or}
use Rattle.text.specs.Scan.{scan, parts, is_empty}
use Rattle.text.specs.declared.Line.{Line}

-- a line feed
abbrev pub is_feed : ℕ → Bool
is_feed b = eqb b 10

abbrev pub not_feed : ℕ → Bool
not_feed b = not (eqb b 10)

-- a text's last byte is a carriage return
abbrev pub ends_in_return : List ℕ → Bool
ends_in_return l = eqb (get_or l (length l - 1) 0) 13

-- the `\r` of `\r\n` belongs to the ending
abbrev pub without_return : List ℕ → List ℕ
without_return l = cond (ends_in_return l) (take (length l - 1) l) l

-- of the parts between line feeds each but the last was ended by one; the last is a line where it is not empty
unfoldable pub ended : List (List ℕ) → List (List ℕ)
ended [] = []
ended (l ∷ []) = cond (is_empty l) [] (l ∷ [])
ended (l ∷ m ∷ ls) = without_return l ∷ ended (m ∷ ls)

-- "the Rust documentation of `lines`": `\n` or `\r\n` ends a line, the final ending is optional, a bare `\r` stays
unfoldable pub lines : List ℕ → List (List ℕ)
lines s = ended (parts is_feed s)

-- how long the first line is, without its ending
unfoldable pub line_length : List ℕ → ℕ
line_length s =
    let n = scan not_feed s in
    cond (ltb n (length s)) (length (without_return (take n s))) n

-- where the next line starts
unfoldable pub line_next : List ℕ → ℕ
line_next s = let n = scan not_feed s in cond (ltb n (length s)) (n + 1) n

-- the first line of a text, and where the next one starts: Lines.antt's laws say that a text that is not empty has this
-- line and then the lines of what follows it
abbrev pub first_line : List ℕ → Line
first_line s = record { length = line_length s; next = line_next s }
