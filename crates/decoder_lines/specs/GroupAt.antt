-- What stands in a bytecode from an offset on: its first word, whether a second line belongs to it, and where the next instruction starts.
use Rattle.std.specs.Prelude.{ℕ, ◌+◌, List, cond, ltb, length, take, drop, Option, Some, None}
use Rattle.text.specs.Lines.{line_length, line_next}
use Rattle.program.specs.Groups.{has_second}
use Rattle.decoder.specs.Lines.{first_of_line}
use Rattle.decoder_lines.specs.declared.GroupAt.{GroupAt}
use Rattle.decoder_lines.specs.declared.GroupAt.TheVariants.{Nothing, Unreadable, Incomplete, Single, Pair}

-- a first word, whose second line would start at an offset
unfoldable pub group_of : List ℕ → ℕ → ℕ → GroupAt
group_of text w at =
    cond (has_second w)
    (cond (ltb at (length text)) (Pair w at (line_length (drop at text)) (at + line_next (drop at text))) Incomplete)
    (Single w at)

unfoldable pub group_on : List ℕ → ℕ → Option ℕ → GroupAt
group_on text at (Some w) = group_of text w at
group_on text at None = Unreadable

-- GroupLaws say that the lines from there on are grouped just so
unfoldable pub group_at : List ℕ → ℕ → GroupAt
group_at text offset =
    cond (ltb offset (length text))
    (group_on text (offset + line_next (drop offset text)) (first_of_line (take (line_length (drop offset text)) (drop offset text))))
    Nothing
