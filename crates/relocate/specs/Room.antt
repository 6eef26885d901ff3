-- Document 02, Point 1: "the label rows, the instructions, the counted length and the words" of a source, before it is built.
use Rattle.std.specs.Prelude.{ℕ, List, map, length, Result, Ok, Err}
use Rattle.text.specs.Lists.{total}
use Rattle.text.specs.Answer.{Answer, ok, refused, ◌>>=◌}
use Rattle.asm.specs.Rows.{instructions, counted_length}
use Rattle.asm.specs.Survey.{word_count}
use Rattle.asm.specs.declared.AsmRow.{AsmRow}
use Rattle.relocate.specs.Labels.{label_rows}
use Rattle.relocate.specs.Relocate.{relocate_number, relocate_detail, sorted_of}
use Rattle.relocate.specs.declared.RoomFigures.{RoomFigures}
use Rattle.relocate.specs.declared.RelocateRefusal.{RelocateRefusal}

-- the figures of sorted rows
abbrev pub figures_of : List AsmRow → RoomFigures
figures_of rows = record {
  labels = length (label_rows 0 rows);
  instructions = length (instructions rows);
  counted = total (map counted_length (instructions rows));
  words = total (map word_count (instructions rows));
}

-- "For each source that passes refusals 1 to 6": nothing is looked up, and no table or word is asked for
unfoldable pub room_of : List ℕ → Answer RoomFigures
room_of s = sorted_of s >>= λ rows. ok (figures_of rows)

-- an answer by its number and detail, or its figures
abbrev pub room_numbered : Result RoomFigures RelocateRefusal → Answer RoomFigures
room_numbered (Ok f) = ok f
room_numbered (Err f) = refused (relocate_number f) (relocate_detail f)
