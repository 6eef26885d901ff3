-- Inputs that separate likely misreadings of resolution, canonical instructions, refusals 10 to 13 and 25 and what is left in the buffers, by
-- computation. Expected values: documents 01 and 02 (Points 2, 4 and 6) and READINGS 2, 3 and 9 to 12.
use Prim.Native.Nat.{ℕ}
use mathlib.Core.Path.{◌≡◌, refl}
use mathlib.Core.List.{List, [], ◌∷◌, ◌++◌, map}
use mathlib.Core.Bool.{true, false}
use Rattle.text.specs.Bytes.{bytes, is_space, is_digit, is_letter, is_word, same}
use Rattle.text.specs.Lists.{total}
use Rattle.text.specs.Scan.{scan, all, parts}
use Rattle.text.specs.Answer.{Answer, ok, refused, ◌>>=◌, ◌>>◌, refuse_if, refuse_at, on_ok}
use Rattle.text_read.specs.Numerals.{digit_value, value_from, numeral}
use Rattle.text_write.specs.Digits.{digits_of, digit_count}
use Rattle.vm_opcodes.specs.Operations.{operations, first_operation}
use Rattle.vm_hardware.specs.Registers.{registers, register_of, special_of}
use Rattle.vm_operands.specs.Numbers.{signed, number_of}
use Rattle.asm.specs.Parts.{placed, filled_parts, pieces_from, line_pieces, row_pieces, name_at}
use Rattle.asm.specs.Operands.{is_source_number, source_number, shapes, first_match}
use Rattle.asm.specs.Rows.{arranged, operands_of, arranged_if, is_call_row, is_pair_row, label_row, row_of, instructions, read_rows}
use Rattle.relocate.specs.Scopes.{cut_at_calls, scopes_that, rows_of_scopes}
use Rattle.relocate.specs.Labels.{label_rows, holder}
use Rattle.relocate.specs.Prophets.{without_last_empty, labels_after_head, listed_labels, hosts_from, is_in, kept_from}
use Rattle.relocate.specs.Columns.{table_left}
use Rattle.relocate.specs.Relocate.{first_above127, rows_read, sorted_of, tabled, hosts_of}
use Rattle.relocate.specs.declared.LabelEntry.{LabelEntry}
use Rattle.program.specs.Words.{program_words}
use Rattle.program.specs.Groups.{grouped}
use Rattle.program.specs.Bytecode.{lines_of_groups}
use Rattle.encoder.specs.Canonical.{general, memory, canonical_by, canonical_from, first_misplaced}
use Rattle.encoder.specs.Assemble.{Room, Accepted, encoded_rows, assembled, assembled_totals, words_left, hosts_left}
use Rattle.encoder.specs.Printing.{numbered_lines, printing}
use Rattle.encoder.specs.declared.Totals.{Totals}

abbrev room : ℕ → ℕ → ℕ → Room
room entries words hosts = record { entries = entries; words = words; hosts = hosts }

abbrev words_ok : Answer Accepted → Answer (List ℕ)
words_ok (ok a) = ok a.words
words_ok (refused n d) = refused n d

abbrev word_cases : List (List ℕ × Answer (List ℕ))
word_cases =
    -- the last mapped row of a name holds
    (bytes "main:\n.LBL1_1:\nret\n.LBL1_1:\njmp .LBL1_1", ok (0x800000 ∷ 0x4000000004000000 ∷ 1 ∷ []))
    -- an unmapped one does not
    ∷ (bytes "main:\n.LBL1_1:\njmp .LBL1_1\n.LBL1_1:", ok (0x4000000004000000 ∷ 0 ∷ []))
    -- last in sorted order, not as written
    ∷ (bytes "f:\nret\n.LBL1_1:\nend\nmain:\n.LBL1_1:\njmp .LBL1_1", ok (0x4000000004000000 ∷ 3 ∷ 0x800000 ∷ 0x100000 ∷ []))
    -- a name looks at call rows
    ∷ (bytes "main:\njmp f\nf:\nend", ok (0x4000000004000000 ∷ 2 ∷ 0x100000 ∷ []))
    -- READING 3: the whole piece is compared
    ∷ (bytes "main:\n.LBL1_2:\njmp .LBL01_2", refused 10 0)
    -- 02, Point 2: "an operand that was refused with 10 may resolve", and what is asked later is reached
    ∷ (bytes "main:\ncall xLBL1_2\nxLBL1_2:\nret", ok (0x4000000001000000 ∷ 2 ∷ 0x800000 ∷ []))
    ∷ (bytes "main:\ncall _LBL1_2\n_LBL1_2:\nret", ok (0x4000000001000000 ∷ 2 ∷ 0x800000 ∷ []))
    ∷ (bytes "main:\ncall rLBL1_2\nrLBL1_2:\nret", ok (0x4000000001000000 ∷ 2 ∷ 0x800000 ∷ []))
    ∷ (bytes "main:\n.LBL1_2:\njmp xLBL1_2", refused 10 0)
    ∷ (bytes "main:\nmov xLBL1_2 r1\nxLBL1_2:\nret", refused 12 0)
    ∷ (bytes "main:\ncall xLBL1_2\njmp g\nxLBL1_2:\nret", refused 10 1)
    ∷ (bytes "main:\nmload r1 xLBL1_2", refused 11 0)
    -- "3 in place of the later refusal": of 11, 10, 5, 6 and of 3 in a later row
    ∷ (bytes "main:\nmload r1 5LBL1_2", refused 3 1)
    ∷ (bytes "main:\ncall 5LBL1_2\n5LBL1_2:\nret", refused 3 1)
    ∷ (bytes "main:\njmp " ++ 1 ∷ bytes "LBL1_2", refused 3 1)
    ∷ (bytes "f:\njmp 5LBL1_2", refused 3 1)
    ∷ (bytes "main:\nmain:\njmp 5LBL1_2", refused 3 2)
    ∷ (bytes "main:\njmp 5LBL1_2\nbad", refused 3 1)
    -- 02, Point 4: n "may now have `0x`" and digits
    ∷ (bytes "main:\nmov r1 0xaBcD", ok (0x4000000208000000 ∷ 0xabcd ∷ []))
    ∷ (bytes "main:\nmov r1 0xffffffff00000000", ok (0x4000000208000000 ∷ 18446744069414584320 ∷ []))
    ∷ (bytes "main:\nmload r1 [r2,0xA]", ok (0x4040000200400000 ∷ 10 ∷ []))
    ∷ (bytes "main:\nmstore [r1,r2,0xa] r3", ok (0x0020100800200000 ∷ 10 ∷ []))
    ∷ (bytes "main:\ncall 0x5\n0x5:\nret", ok (0x4000000001000000 ∷ 5 ∷ 0x800000 ∷ []))
    ∷ (bytes "main:\nmov 0x5 r1", refused 12 0)
    ∷ (bytes "main:\nadd r1 0x5 r2", refused 12 0)
    ∷ (bytes "main:\nmov r0x1 5", refused 10 0)
    ∷ (bytes "main:\nmov r1 0xffffffff00000001", refused 3 1)
    ∷ (bytes "main:\nend\nmload r1 [r2,0xffffffff00000001]", refused 3 2)
    -- READING 9: names in op0 and dst are looked up before 12 is asked
    ∷ (bytes "main:\nmov g r1", refused 10 0)
    ∷ (bytes "main:\nmov main r1", refused 12 0)
    ∷ (bytes "main:\nmov 5 r1", refused 12 0)
    ∷ (bytes "main:\nend\nadd r1 5 r2", refused 12 1)
    -- READING 10: mload and mstore look nothing up
    ∷ (bytes "main:\nmload main [r2]", refused 11 0)
    ∷ (bytes "main:\nmload 5 [r2]\ncall g", refused 11 0)
    ∷ (bytes "main:\ncall g\nmload 5 [r2]", refused 10 0)
    ∷ (bytes "main:\nmload r1 r2", refused 11 0)
    ∷ (bytes "main:\nmstore [r1] 5", refused 11 0)
    ∷ (bytes "main:\nmstore [r1] [r2]", refused 11 0)
    ∷ (bytes "main:\nend\nmstore r1 r2", refused 11 1)
    -- 10 at a later instruction before 12 at an earlier one
    ∷ (bytes "main:\nmov 5 r1\ncall g", refused 10 1)
    -- READING 12: pc and psp become empty
    ∷ (bytes "main:\nmov psp pc", ok (0x0000000008000000 ∷ []))
    ∷ (bytes "main:\nadd r1 pc psp", ok (0x0000000280000000 ∷ []))
    -- 02, Point 6: 25 "for a bracketed operand outside mload and mstore", in any place
    ∷ (bytes "main:\nmov r1 [r2]", refused 25 0)
    ∷ (bytes "main:\nmov [r1] r2", refused 25 0)
    ∷ (bytes "main:\nadd r1 [r2,r3] psp", refused 25 0)
    ∷ (bytes "main:\njmp [r2,5]", refused 25 0)
    ∷ (bytes "main:\njmp [r2,0x5]", refused 25 0)
    -- "before either at the same instruction"
    ∷ (bytes "main:\nadd r1 g [r2]", refused 25 0)
    ∷ (bytes "main:\nadd [r1] g r2", refused 25 0)
    -- "in the walk of 10 and 11": whichever instruction comes first
    ∷ (bytes "main:\njmp g\nmov r1 [r2]", refused 10 0)
    ∷ (bytes "main:\nmov r1 [r2]\njmp g", refused 25 0)
    ∷ (bytes "main:\nmload r1 r2\nmov r1 [r2]", refused 11 0)
    ∷ (bytes "main:\nmov r1 [r2]\nmload r1 r2", refused 25 0)
    -- so before 12, and by the index in sorted order
    ∷ (bytes "main:\nmov 5 r1\nmov r1 [r2]", refused 25 1)
    ∷ (bytes "main:\nadd [r1] 5 6", refused 25 0)
    ∷ (bytes "f:\nmov r1 [r2]\nmain:\nend", refused 25 1)
    -- mload and mstore have 11; what is no shape has 3
    ∷ (bytes "main:\nmload [r1] [r2]", refused 11 0)
    ∷ (bytes "main:\nmov r1 [r2", refused 3 1)
    ∷ (bytes "main:\njmp [r2,0x]", refused 3 1)
    ∷ (bytes "main:\nmstore [r2,-1] r1", ok (0x4040000200200000 ∷ 18446744069414584320 ∷ []))
    ∷ (bytes "main:\nmstore [r2,r3,7] r1", ok (0x0040200200200000 ∷ 7 ∷ []))
    ∷ (bytes "main:\ncall f.1", refused 3 1)
    ∷ []

abbrev totals : ℕ → ℕ → ℕ → ℕ → Answer Totals
totals labels words hosts kept = ok (record { labels = labels; words = words; hosts = hosts; kept = kept })

abbrev two_prophets : List ℕ
two_prophets = bytes "label\n.PROPHET0_0\n.PROPHET0_0"

abbrev room_cases : List (List ℕ × List ℕ × Room × Answer Totals)
room_cases =
    (bytes "main:\n.PROPHET0_0:\njmp 1", two_prophets, room 2 2 2, totals 2 2 2 1)
    ∷ (bytes "main:\n.PROPHET0_0:\njmp 1", two_prophets, room 2 1 2, refused 13 0)
    ∷ (bytes "main:\n.PROPHET0_0:\njmp 1", two_prophets, room 2 2 1, refused 13 0)
    ∷ (bytes "main:\n.PROPHET0_0:\njmp 1", two_prophets, room 1 0 0, refused 7 0)
    ∷ (bytes "main:\njmp g", bytes "label\nx", room 1 0 0, refused 9 0)
    ∷ (bytes "main:\njmp g", bytes "x", room 1 0 0, refused 8 0)
    ∷ (bytes "main:\njmp g", [], room 1 0 0, refused 10 0)
    ∷ (bytes "main:\nmov 5 r1", [], room 1 0 0, refused 12 0)
    ∷ (bytes "main:\nmov r1 [r2]", [], room 1 0 0, refused 25 0)
    ∷ (bytes "main:\nmov r1 [r2]", bytes "x", room 1 0 0, refused 8 0)
    ∷ (bytes "main:\nmov r1 [r2]", bytes "label\nx", room 1 0 0, refused 9 0)
    ∷ (bytes "main:\nmov r1 [r2]", [], room 0 0 0, refused 7 0)
    ∷ (bytes "main:", [], room 1 0 0, totals 1 0 0 0)
    ∷ []

-- an entry that a caller left there
abbrev old : LabelEntry
old = record { kind = 9; mapped = false; start = 9; length = 9; address = record { 0 = 9 } }

abbrev main_entry : LabelEntry
main_entry = record { kind = 0; mapped = true; start = 0; length = 4; address = record { 0 = 0 } }

-- a source, the table lent, and what stands in it afterwards
abbrev table_cases : List (List ℕ × List LabelEntry × List LabelEntry)
table_cases =
    (bytes "main:\nend", old ∷ old ∷ [], main_entry ∷ old ∷ [])
    -- refusals after 7 leave it filled, those up to 7 untouched
    ∷ (bytes "main:\njmp g", old ∷ old ∷ [], main_entry ∷ old ∷ [])
    ∷ (bytes "main:\nmov r1 [r2]", old ∷ old ∷ [], main_entry ∷ old ∷ [])
    ∷ (bytes "main:\nfoo", old ∷ [], old ∷ [])
    ∷ (bytes "main:\nf:\nend", old ∷ [], old ∷ [])
    ∷ []

-- a source, room for words and hosts, and what stands in buffers of 7, 8, 9 afterwards
abbrev buffer_cases : List (List ℕ × ℕ × ℕ × List ℕ × List ℕ)
buffer_cases =
    (bytes "main:\n.PROPHET0_0:\njmp 1", 3, 3, 0x4000000004000000 ∷ 1 ∷ 9 ∷ [], 0 ∷ 0 ∷ 9 ∷ [])
    ∷ (bytes "main:\n.PROPHET0_0:\njmp 1", 1, 3, 7 ∷ 8 ∷ 9 ∷ [], 7 ∷ 8 ∷ 9 ∷ [])
    ∷ (bytes "main:\n.PROPHET0_0:\njmp 1", 3, 1, 7 ∷ 8 ∷ 9 ∷ [], 7 ∷ 8 ∷ 9 ∷ [])
    ∷ (bytes "main:\n.PROPHET0_0:\njmp g", 3, 3, 7 ∷ 8 ∷ 9 ∷ [], 7 ∷ 8 ∷ 9 ∷ [])
    ∷ (bytes "main:\n.PROPHET0_0:\nmov r1 [r2]", 3, 3, 7 ∷ 8 ∷ 9 ∷ [], 7 ∷ 8 ∷ 9 ∷ [])
    ∷ []

abbrev lent : List ℕ
lent = 7 ∷ 8 ∷ 9 ∷ []

abbrev print_cases : List (List ℕ × List ℕ)
print_cases =
    ([], bytes "refusal detail\n4 0\n")
    ∷ (bytes "main:\nend\nfoo", bytes "refusal detail\n3 2\n")
    ∷ (bytes "main:", bytes "address word\n")
    -- "decimal position of each word, and the word as the bytecode text prints it"; the words of ret and end are those of 01's example
    ∷ (bytes "main:\nret\nend", bytes "address word\n0 0x0000000000800000\n1 0x0000000000100000\n")
    ∷ []

pub words_right : map (λ c. words_ok (assembled c.0 [] (room 9 9 9))) word_cases ≡ map (λ c. c.1) word_cases
unfolding is_space is_digit is_letter is_word same total scan all parts ◌>>=◌ ◌>>◌ refuse_if refuse_at on_ok digit_value value_from numeral digits_of digit_count operations first_operation registers register_of special_of signed number_of placed filled_parts pieces_from line_pieces row_pieces is_source_number source_number shapes first_match arranged operands_of arranged_if is_call_row is_pair_row label_row row_of name_at cut_at_calls scopes_that rows_of_scopes instructions label_rows holder without_last_empty labels_after_head listed_labels hosts_from is_in kept_from first_above127 read_rows rows_read sorted_of tabled hosts_of program_words grouped lines_of_groups general memory canonical_by canonical_from first_misplaced encoded_rows assembled assembled_totals numbered_lines printing
words_right = refl

pub rooms_right : map (λ c. assembled_totals c.0 c.1 c.2) room_cases ≡ map (λ c. c.3) room_cases
unfolding is_space is_digit is_letter is_word same total scan all parts ◌>>=◌ ◌>>◌ refuse_if refuse_at on_ok digit_value value_from numeral digits_of digit_count operations first_operation registers register_of special_of signed number_of placed filled_parts pieces_from line_pieces row_pieces is_source_number source_number shapes first_match arranged operands_of arranged_if is_call_row is_pair_row label_row row_of name_at cut_at_calls scopes_that rows_of_scopes instructions label_rows holder without_last_empty labels_after_head listed_labels hosts_from is_in kept_from first_above127 read_rows rows_read sorted_of tabled hosts_of program_words grouped lines_of_groups general memory canonical_by canonical_from first_misplaced encoded_rows assembled assembled_totals numbered_lines printing
rooms_right = refl

pub tables_right : map (λ c. table_left c.0 c.1) table_cases ≡ map (λ c. c.2) table_cases
unfolding is_space is_digit is_letter is_word same total scan all parts ◌>>=◌ ◌>>◌ refuse_if refuse_at on_ok digit_value value_from numeral digits_of digit_count operations first_operation registers register_of special_of signed number_of placed filled_parts pieces_from line_pieces row_pieces is_source_number source_number shapes first_match arranged operands_of arranged_if is_call_row is_pair_row label_row row_of name_at cut_at_calls scopes_that rows_of_scopes instructions label_rows holder without_last_empty labels_after_head listed_labels hosts_from is_in kept_from first_above127 read_rows rows_read sorted_of tabled hosts_of program_words grouped lines_of_groups general memory canonical_by canonical_from first_misplaced encoded_rows assembled assembled_totals numbered_lines printing
tables_right = refl

pub words_left_right : map (λ c. words_left (assembled c.0 two_prophets (room 2 c.1 c.2)) lent) buffer_cases ≡ map (λ c. c.3) buffer_cases
unfolding is_space is_digit is_letter is_word same total scan all parts ◌>>=◌ ◌>>◌ refuse_if refuse_at on_ok digit_value value_from numeral digits_of digit_count operations first_operation registers register_of special_of signed number_of placed filled_parts pieces_from line_pieces row_pieces is_source_number source_number shapes first_match arranged operands_of arranged_if is_call_row is_pair_row label_row row_of name_at cut_at_calls scopes_that rows_of_scopes instructions label_rows holder without_last_empty labels_after_head listed_labels hosts_from is_in kept_from first_above127 read_rows rows_read sorted_of tabled hosts_of program_words grouped lines_of_groups general memory canonical_by canonical_from first_misplaced encoded_rows assembled assembled_totals numbered_lines printing
words_left_right = refl

pub hosts_left_right : map (λ c. hosts_left (assembled c.0 two_prophets (room 2 c.1 c.2)) lent) buffer_cases ≡ map (λ c. c.4) buffer_cases
unfolding is_space is_digit is_letter is_word same total scan all parts ◌>>=◌ ◌>>◌ refuse_if refuse_at on_ok digit_value value_from numeral digits_of digit_count operations first_operation registers register_of special_of signed number_of placed filled_parts pieces_from line_pieces row_pieces is_source_number source_number shapes first_match arranged operands_of arranged_if is_call_row is_pair_row label_row row_of name_at cut_at_calls scopes_that rows_of_scopes instructions label_rows holder without_last_empty labels_after_head listed_labels hosts_from is_in kept_from first_above127 read_rows rows_read sorted_of tabled hosts_of program_words grouped lines_of_groups general memory canonical_by canonical_from first_misplaced encoded_rows assembled assembled_totals numbered_lines printing
hosts_left_right = refl

pub prints_right : map (λ c. printing c.0) print_cases ≡ map (λ c. c.1) print_cases
unfolding is_space is_digit is_letter is_word same total scan all parts ◌>>=◌ ◌>>◌ refuse_if refuse_at on_ok digit_value value_from numeral digits_of digit_count operations first_operation registers register_of special_of signed number_of placed filled_parts pieces_from line_pieces row_pieces is_source_number source_number shapes first_match arranged operands_of arranged_if is_call_row is_pair_row label_row row_of name_at cut_at_calls scopes_that rows_of_scopes instructions label_rows holder without_last_empty labels_after_head listed_labels hosts_from is_in kept_from first_above127 read_rows rows_read sorted_of tabled hosts_of program_words grouped lines_of_groups general memory canonical_by canonical_from first_misplaced encoded_rows assembled assembled_totals numbered_lines printing
prints_right = refl
