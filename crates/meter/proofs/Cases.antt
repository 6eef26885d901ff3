-- Inputs that separate likely misreadings of the meter, by computation: what is counted, what a refusal does, where the total stops, and builds one after
-- another. Expected values: document 02 (Point 3), and document 01 for the words and the refusals.
use Prim.Native.Nat.{ℕ}
use mathlib.Core.Path.{◌≡◌, refl}
use mathlib.Core.List.{List, [], ◌∷◌, map}
use Rattle.text.specs.Bytes.{bytes, is_space, is_digit, is_letter, is_word, same}
use Rattle.text.specs.Lists.{total}
use Rattle.text.specs.Scan.{scan, all, parts}
use Rattle.text.specs.Answer.{Answer, ok, refused, ◌>>=◌, ◌>>◌, refuse_if, refuse_at}
use Rattle.text_read.specs.Numerals.{digit_value, value_from, numeral}
use Rattle.vm_opcodes.specs.Operations.{operations, first_operation}
use Rattle.vm_hardware.specs.Registers.{registers, register_of, special_of}
use Rattle.vm_operands.specs.Numbers.{signed, number_of}
use Rattle.asm.specs.Parts.{placed, filled_parts, pieces_from, line_pieces, row_pieces, name_at}
use Rattle.asm.specs.Operands.{is_source_number, source_number, shapes, first_match}
use Rattle.asm.specs.Rows.{arranged, operands_of, arranged_if, is_call_row, is_pair_row, label_row, row_of, instructions, read_rows}
use Rattle.relocate.specs.Scopes.{cut_at_calls, scopes_that, rows_of_scopes}
use Rattle.relocate.specs.Labels.{label_rows, holder}
use Rattle.relocate.specs.Prophets.{without_last_empty, labels_after_head, listed_labels, hosts_from, is_in, kept_from}
use Rattle.relocate.specs.Relocate.{first_above127, rows_read, sorted_of, tabled, hosts_of}
use Rattle.program.specs.Words.{program_words}
use Rattle.encoder.specs.Canonical.{general, memory, canonical_by, canonical_from, first_misplaced}
use Rattle.encoder.specs.Assemble.{encoded_rows, assembled, assembled_totals}
use Rattle.encoder.specs.declared.Totals.{Totals}
use Rattle.meter.specs.declared.Meter.{Meter}
use Rattle.meter.specs.Meter.{Build, built_of, stopped, total_of, at_start, meter_after, meter_told, played}

-- a source with no prophets, in so many entries and words
abbrev into : List ℕ → ℕ → ℕ → Build
into s entries words = record { source = s; prophets = []; room = record { entries = entries; words = words; hosts = 9 } }

-- in room enough
abbrev plain : List ℕ → Build
plain s = into s 9 9

-- the same with a prophet list
abbrev listed : List ℕ → List ℕ → Build
listed s list = record { source = s; prophets = list; room = record { entries = 9; words = 9; hosts = 9 } }

-- 01's printing source, which has six words
abbrev printing : Build
printing = plain (bytes "f:\nret\nmain:\nmov r1 -1\ncall f\n.PROPHET0_0:\nend")

abbrev jump : List ℕ
jump = bytes "main:\njmp 5"

abbrev counts : ℕ → ℕ → ℕ → ℕ → Answer Totals
counts labels words hosts kept = ok (record { labels = labels; words = words; hosts = hosts; kept = kept })

-- the total before, a build, what it answers, and the total after
abbrev cases : List (ℕ × Build × Answer Totals × ℕ)
cases =
    (0, plain (bytes "main:"), counts 1 0 0 0, 0)
    ∷ (0, plain jump, counts 1 2 0 0, 2)
    ∷ (5, plain jump, counts 1 2 0 0, 7)
    -- what was not written is not counted; a refused build leaves the total, and does not make it 0
    ∷ (0, into jump 9 1, refused 13 0, 0)
    ∷ (5, into jump 9 1, refused 13 0, 5)
    ∷ (0, into jump 0 9, refused 7 0, 0)
    ∷ (5, into jump 0 9, refused 7 0, 5)
    ∷ (5, plain [], refused 4 0, 5)
    ∷ (5, plain (bytes "main:\njmp g"), refused 10 0, 5)
    -- 02's Point 6: nothing is added, whatever the counted length, which is 2
    ∷ (0, plain (bytes "main:\nmov r1 [r2]"), refused 25 0, 0)
    ∷ (5, plain (bytes "main:\nmov r1 [r2]"), refused 25 0, 5)
    -- neither hosts nor label rows count
    ∷ (0, listed (bytes "main:\n.PROPHET0_0:\nret") (bytes "label\n.PROPHET0_0\n.PROPHET0_0"), counts 2 1 2 1, 1)
    -- "stops there", and nothing is refused for it: a sum just below it, one just at it, and sums past it
    ∷ (18446744073709551612, plain jump, counts 1 2 0 0, 18446744073709551614)
    ∷ (18446744073709551613, plain jump, counts 1 2 0 0, 18446744073709551615)
    ∷ (18446744073709551614, plain jump, counts 1 2 0 0, 18446744073709551615)
    ∷ (18446744073709551615, plain jump, counts 1 2 0 0, 18446744073709551615)
    ∷ (18446744073709551615, printing, counts 3 6 0 0, 18446744073709551615)
    ∷ (18446744073709551614, into jump 9 1, refused 13 0, 18446744073709551614)
    ∷ []

abbrev meter_of : ℕ → Meter
meter_of n = record { total = n }

pub stops_right : map stopped (0 ∷ 18446744073709551614 ∷ 18446744073709551615 ∷ 18446744073709551616 ∷ 36893488147419103230 ∷ [])
    ≡ 0 ∷ 18446744073709551614 ∷ 18446744073709551615 ∷ 18446744073709551615 ∷ 18446744073709551615 ∷ []
stops_right = refl

-- a history: each build is on the meter that the last one returned, and counts once
abbrev history : List Build
history = printing ∷ plain (bytes "main:\njmp g") ∷ plain (bytes "main:") ∷ printing ∷ []

-- the answers, the totals after them, and the total of the history by the meter and by the answers
pub builds_right : (map (λ c. assembled_totals c.1.source c.1.prophets c.1.room) cases ≡ map (λ c. c.2) cases)
    × (map (λ c. (meter_after (meter_of c.0) (built_of c.1)).total) cases ≡ map (λ c. c.3) cases)
    × ((played at_start history).total ≡ 12)
    × (total_of (map built_of history) ≡ 12)
unfolding is_space is_digit is_letter is_word same total scan all parts ◌>>=◌ ◌>>◌ refuse_if refuse_at digit_value value_from numeral operations first_operation registers register_of special_of signed number_of placed filled_parts pieces_from line_pieces row_pieces is_source_number source_number shapes first_match arranged operands_of arranged_if is_call_row is_pair_row label_row row_of name_at cut_at_calls scopes_that rows_of_scopes instructions label_rows holder without_last_empty labels_after_head listed_labels hosts_from is_in kept_from first_above127 read_rows rows_read sorted_of tabled hosts_of program_words general memory canonical_by canonical_from first_misplaced encoded_rows assembled assembled_totals total_of played
builds_right = (refl, refl, refl, refl)

-- the totals by the counts
pub told_right : map (λ c. (meter_told (meter_of c.0) c.2).total) cases ≡ map (λ c. c.3) cases
told_right = refl
