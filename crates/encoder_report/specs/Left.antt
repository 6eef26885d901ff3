-- The rows of words from a word on: what a writer that goes from word to word has still to write.
use Rattle.std.specs.Prelude.{ℕ, suc, List, [], ◌∷◌, ◌++◌, Bool}
use Rattle.text_write.specs.Digits.{decimal_text}
use Rattle.program_bytecode.specs.Left.{line_text, asks_number}
use Rattle.encoder.specs.Printing.{two_fields}
use Rattle.encoder_report.specs.declared.Field.{Field}
use Rattle.encoder_report.specs.declared.Field.TheVariants.{Decimal, Line}

-- what stands in a field
abbrev pub field_text : Field → List ℕ
field_text (Decimal n) = decimal_text n
field_text (Line number w) = line_text number w

-- "decimal position of each word, and the word as the bytecode text prints it", at position k
abbrev pub row_text : ℕ → Bool → ℕ → List ℕ
row_text k number w = two_fields (decimal_text k) (line_text number w)

-- the rows of words that are left: the position of the first of them, and whether it is a number
unfoldable pub rows_left : ℕ → Bool → List ℕ → List ℕ
rows_left k number [] = []
rows_left k number (w ∷ ws) = row_text k number w ++ rows_left (suc k) (asks_number number w) ws
