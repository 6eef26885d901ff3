-- The promises about builds on a meter applied: to a history of four builds, to a meter one word below its stop, and to a build that is refused.
use Rattle.std.specs.Prelude.{ℕ, ◌≡◌, refl, List, [], ◌∷◌, map}
use Rattle.std.proofs.Common.{◌∙◌, arith}
use Rattle.text.specs.Bytes.{bytes, is_space, is_digit, is_letter, is_word, same}
use Rattle.text.specs.Lists.{total}
use Rattle.text.specs.Scan.{scan, all, parts}
use Rattle.text.specs.Answer.{refused, ◌>>=◌, ◌>>◌, refuse_if, refuse_at}
use Rattle.text_read.specs.Numerals.{digit_value, value_from, numeral}
use Rattle.vm_opcodes.specs.Operations.{operations, first_operation}
use Rattle.vm_hardware.specs.Registers.{registers, register_of, special_of}
use Rattle.vm_operands.specs.Numbers.{signed, number_of}
use Rattle.asm.specs.Parts.{placed, filled_parts, pieces_from, line_pieces, row_pieces, name_at}
use Rattle.asm.specs.Operands.{is_source_number, source_number, shapes, first_match}
use Rattle.asm.specs.Rows.{arranged, operands_of, arranged_if, is_call_row, is_pair_row, label_row, row_of, instructions, read_rows}
use Rattle.relocate.specs.Scopes.{cut_at_calls, scopes_that, rows_of_scopes}
use Rattle.relocate.specs.Labels.{label_rows, holder}
use Rattle.relocate.specs.Prophets.{without_last_empty, labels_after_head, listed_labels, hosts_from}
use Rattle.relocate.specs.Relocate.{first_above127, rows_read, sorted_of, tabled, hosts_of}
use Rattle.program.specs.Words.{program_words}
use Rattle.encoder.specs.Canonical.{general, memory, canonical_by, canonical_from, first_misplaced}
use Rattle.encoder.specs.Assemble.{encoded_rows, assembled}
use Rattle.meter.specs.Meter.{Build, built_of, added, total_of, at_start, meter_after, played}
use Rattle.meter.specs.declared.Meter.{Meter}
use Rattle.promises.specs.Starred.{plenty, printing_source}
use Rattle.promises.proofs.Promises.{meter_counts, meter_from, meter_kept}

abbrev build : List ℕ → Build
build s = record { source = s; prophets = []; room = plenty }

-- no row has the name g
abbrev unknown : Build
unknown = build (bytes "main:\njmp g")

-- six words, a refusal with 10, no words, six words again
abbrev history : List Build
history = build printing_source ∷ unknown ∷ build (bytes "main:") ∷ build printing_source ∷ []

-- two words each
abbrev jumps : List Build
jumps = build (bytes "main:\njmp 5") ∷ build (bytes "main:\njmp 5") ∷ []

-- what their answers come to
computed : (total_of (map built_of history) ≡ 12) × (total (map added (map built_of jumps)) ≡ 4) × (built_of unknown ≡ refused 10 0)
unfolding is_space is_digit is_letter is_word same total scan all parts ◌>>=◌ ◌>>◌ refuse_if refuse_at digit_value value_from numeral operations first_operation registers register_of special_of signed number_of placed filled_parts pieces_from line_pieces row_pieces is_source_number source_number shapes first_match arranged operands_of arranged_if is_call_row is_pair_row label_row row_of name_at cut_at_calls scopes_that rows_of_scopes instructions label_rows holder without_last_empty labels_after_head listed_labels hosts_from first_above127 read_rows rows_read sorted_of tabled hosts_of program_words general memory canonical_by canonical_from first_misplaced encoded_rows assembled total_of
computed = (refl, refl, refl)

history_counts : (played at_start history).total ≡ 12
history_counts = meter_counts history ∙ computed.0

-- one word is left until the stop: the first jump reaches it, and the second stays there
abbrev near_stop : Meter
near_stop = record { total = 18446744073709551614 }

jumps_stop : (played near_stop jumps).total ≡ 18446744073709551615
jumps_stop = let e = computed.1 in meter_from near_stop jumps (omega arith) ∙ omega (arith, e)

-- the meter comes back as it went in
unknown_kept : meter_after near_stop (built_of unknown) ≡ near_stop
unknown_kept = meter_kept near_stop unknown 10 0 computed.2
