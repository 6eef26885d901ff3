-- The instruction that stands in a bytecode from an offset on, its index given.
use Rattle.std.specs.Prelude.{ℕ, ◌+◌, List, [], ◌∷◌, cond, drop, Result, Ok, Err}
use Rattle.text.specs.Lines.{lines}
use Rattle.text.specs.Answer.{Answer, ok, refused, ◌>>=◌}
use Rattle.program.specs.Groups.{Group}
use Rattle.program.specs.declared.BinaryInstruction.{BinaryInstruction}
use Rattle.decoder.specs.Lines.{line_groups, is_complete, lines_in}
use Rattle.decoder.specs.Decode.{group_decoded}
use Rattle.decoder.specs.Open.{next_number, next_detail}
use Rattle.decoder.specs.Steps.{lines_end, ReadAt}
use Rattle.decoder.specs.declared.NextRefusal.{NextRefusal}
use Rattle.decoder_lines.specs.declared.InstructionAt.{InstructionAt}

-- an instruction with its lines and the offset after them
unfoldable pub read_as : Answer BinaryInstruction → ℕ → ℕ → Answer ReadAt
read_as answer n next = answer >>= λ i. ok (record { instruction = i; lines = n; offset = next })

-- the first of groups, at index k, which the text has from an offset on
unfoldable pub groups_read : ℕ → ℕ → List ℕ → List (Group (List ℕ)) → Answer ReadAt
groups_read k offset rest [] = refused 20 0
groups_read k offset rest (g ∷ gs) =
    cond (is_complete g) (read_as (group_decoded k g) (lines_in g) (offset + lines_end (lines_in g) rest)) (refused 20 0)

abbrev pub read_from : ℕ → List ℕ → ℕ → Answer ReadAt
read_from k text offset = groups_read k offset (drop offset text) (line_groups (lines (drop offset text)))

-- an answer by its number and detail, or its values
abbrev pub at_numbered : Result InstructionAt NextRefusal → Answer ReadAt
at_numbered (Ok i) = ok (record { instruction = i.instruction; lines = i.lines; offset = i.next })
at_numbered (Err refusal) = refused (next_number refusal) (next_detail refusal)
