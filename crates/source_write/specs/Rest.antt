-- What a bytecode has from an offset on: its instructions, and their rows as they are still to be written.
use Rattle.std.specs.Prelude.{ℕ, List, [], ◌∷◌, ◌++◌, cond, drop, Option, Some, None}
use Rattle.text.specs.Lines.{lines}
use Rattle.text.specs.Answer.{on_ok}
use Rattle.program.specs.Groups.{Group}
use Rattle.program.specs.declared.BinaryInstruction.{BinaryInstruction}
use Rattle.decoder.specs.Lines.{line_groups, is_complete}
use Rattle.decoder.specs.Decode.{group_decoded}
use Rattle.source.specs.SourceText.{source_row}

-- the instructions of groups, up to the first that is not read
unfoldable pub read_in_order : List (Group (List ℕ)) → List BinaryInstruction
read_in_order [] = []
read_in_order (g ∷ gs) = let rest = read_in_order gs in cond (is_complete g) (on_ok (group_decoded 0 g) (λ i. i ∷ rest) []) []

-- RestLaws say that these, from the first byte on, are the instructions of a text that opens
abbrev pub instructions_from : List ℕ → ℕ → List BinaryInstruction
instructions_from text at = read_in_order (line_groups (lines (drop at text)))

-- the rows of instructions, each behind a line feed
unfoldable pub rows_text : List BinaryInstruction → List ℕ
rows_text [] = []
rows_text (i ∷ is) = (10 ∷ source_row i) ++ rows_text is
