-- The prophet list by places: its lines from a place on, where its labels start, and the host that each label has in the table.
use Rattle.std.specs.Prelude.{ℕ, List, map, Bool, false, cond, eqb, leb, ltb, length, take, drop, Option, Some, None}
use Rattle.text.specs.Bytes.{bytes, same}
use Rattle.text.specs.Scan.{scan, parts}
use Rattle.text.specs.Lines.{is_feed, not_feed}
use Rattle.text.specs.Answer.{Answer, ok, refused}
use Rattle.text.specs.declared.Line.{Line}
use Rattle.asm.specs.Parts.{next_line}
use Rattle.relocate.specs.Labels.{prophet_kind}
use Rattle.relocate.specs.Prophets.{without_last_empty}
use Rattle.relocate.specs.Columns.{LookUp}
use Rattle.relocate.specs.declared.WordAddress.{WordAddress}

-- the lines of a list from place i on, which is a line's start or the list's end
unfoldable pub lines_from : List ℕ → ℕ → List (List ℕ)
lines_from list i = without_last_empty (parts is_feed (drop i list))

-- the line that starts at place i: its length, and where the next one starts
abbrev pub line_from : List ℕ → ℕ → Line
line_from list i = record { length = scan not_feed (drop i list); next = next_line list i }

-- where the labels of a list start, nowhere where refusal 8 turns it away: LineLaws says that they are those of `listed_labels`
unfoldable pub labels_start : List ℕ → Option ℕ
labels_start list =
    cond (ltb 16384 (length list)) None
    (cond (eqb (length list) 0) (Some 0)
    (cond (same (take (scan not_feed list) list) (bytes "label")) (Some (next_line list 0)) None))

-- a host that was found
abbrev pub host_in : Option WordAddress → ℕ
host_in (Some a) = a.0
host_in None = 0

-- the hosts of labels, each of which is found
abbrev pub hosts_in : LookUp → List (List ℕ) → List ℕ
hosts_in look xs = map (λ x. host_in (look prophet_kind x)) xs

-- a count that was accepted and is at most the room
abbrev pub fits_in : ℕ → Answer ℕ → Bool
fits_in room (ok n) = leb n room
fits_in room (refused n d) = false
