-- A source in lines and their pieces, each with its place in the source.
use Rattle.std.specs.Prelude.{ℕ, ◌+◌, cond, not, eqb, leb, length, take, drop}
use mathlib.Core.List.{List, [], ◌∷◌, zip_with}
use Rattle.text.specs.Bytes.{is_space}
use Rattle.text.specs.Scan.{scan, parts, is_empty}
use Rattle.text.specs.Lines.{is_feed, not_feed, lines, line_next}

-- a part of the source: where it starts, and its bytes
pub record Part : Type 0 where
  pub start : ℕ
  pub text : List ℕ

-- parts with their places, where the first starts at i and one byte parts each from the next
unfoldable pub placed : ℕ → List (List ℕ) → List Part
placed i [] = []
placed i (l ∷ ls) = record { start = i; text = l } ∷ placed (i + (length l + 1)) ls

-- the parts that hold a byte
unfoldable pub filled_parts : List Part → List Part
filled_parts [] = []
filled_parts (q ∷ qs) = cond (is_empty q.text) (filled_parts qs) (q ∷ filled_parts qs)

-- "A line loses everything from its first `;`"
abbrev pub without_comment : List ℕ → List ℕ
without_comment l = take (scan (λ b. not (eqb b 59)) l) l

-- "Whitespace ... parts the pieces": the pieces of a text that starts at place i
unfoldable pub pieces_from : ℕ → List ℕ → List Part
pieces_from i l = filled_parts (placed i (parts is_space l))

-- a line's pieces, each with its place in the source
unfoldable pub line_pieces : Part → List Part
line_pieces q = pieces_from q.start (without_comment q.text)

-- "then outer whitespace; an empty one is no row": the pieces of each line that has one
unfoldable pub row_pieces : List Part → List (List Part)
row_pieces [] = []
row_pieces (q ∷ qs) = let ps = line_pieces q in cond (is_empty ps) (row_pieces qs) (ps ∷ row_pieces qs)

-- the pieces of each row of what stands in a text from place i on, which is the start of a line
abbrev pub pieces_after : List ℕ → ℕ → List (List Part)
pieces_after s i = row_pieces (placed i (parts is_feed (drop i s)))

-- the pieces of each row of a source
abbrev pub source_pieces : List ℕ → List (List Part)
source_pieces s = pieces_after s 0

-- what a part holds
abbrev pub text_of : Part → List ℕ
text_of q = q.text

-- texts with the places of parts
abbrev pub lines_at : List Part → List (List ℕ) → List Part
lines_at qs ls = zip_with (λ q l. record { start = q.start; text = l }) qs ls

-- "The Rust documentation of `lines` ... decides": a source's lines by it, each with the place where it starts, which is that of the part between line
-- feeds that it is; `rows_by_lines_lem` of the promises says that the rows are made of these
abbrev pub placed_lines : List ℕ → List Part
placed_lines s = lines_at (placed 0 (parts is_feed s)) (lines s)

-- the line of a text that starts at place i
abbrev pub line_at : List ℕ → ℕ → Part
line_at s i = record { start = i; text = take (scan not_feed (drop i s)) (drop i s) }

-- where the line after it starts, the text's end where there is none
abbrev pub next_line : List ℕ → ℕ → ℕ
next_line s i = i + line_next (drop i s)

-- a part of the source by its place: where it starts, and how many bytes it has
pub record Span : Type 0 where
  pub start : ℕ
  pub length : ℕ

-- "The name itself is handed back as that part of the source, an empty part where the entry reaches past the source's end", which starts at 0
abbrev pub name_part : List ℕ → ℕ → ℕ → Span
name_part s start n = cond (leb (start + n) (length s)) (record { start = start; length = n }) (record { start = 0; length = 0 })

-- a part's bytes
abbrev pub bytes_in : List ℕ → Span → List ℕ
bytes_in s p = take p.length (drop p.start s)

-- a name's bytes
unfoldable pub name_at : List ℕ → ℕ → ℕ → List ℕ
name_at s start n = bytes_in s (name_part s start n)
