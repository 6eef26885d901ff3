-- The promises applied: to document 01's printing source, to two mains, to a label, to two prophets on one host, and to carriage returns.
use Rattle.std.specs.Prelude.{ℕ, zero, suc, ◌≤◌, ◌<◌, ◌⊎◌, ◌≡◌, refl, true, false, length, take, replicate, Some, slice_get}
use Rattle.std.proofs.Common.{sym, subst, ◌∙◌, arith}
use mathlib.Core.List.{List, [], ◌∷◌, map, zip_with}
use Rattle.std.proofs.lemmas.List.{length-replicate}
use Rattle.text.specs.Bytes.{bytes, is_space, is_digit, is_letter, is_word, same}
use Rattle.text.specs.Lists.{total}
use Rattle.text.specs.Scan.{scan, all, parts}
use Rattle.text.specs.Lines.{lines, ended}
use Rattle.text.specs.All.{Ascending}
use Rattle.text.specs.Answer.{ok, refused, ◌>>=◌, ◌>>◌, refuse_if, refuse_at}
use Rattle.text.proofs.AnswerLaws.{ok_same}
use Rattle.text_read.specs.Numerals.{digit_value, value_from, numeral}
use Rattle.text_write.specs.Digits.{digits_of, digit_count}
use Rattle.vm_opcodes.specs.Operations.{operations, first_operation}
use Rattle.vm_opcodes.specs.declared.OlaOpcode.TheVariants.{MOV, JMP, CALL, RET, END}
use Rattle.vm_hardware.specs.Registers.{registers, register_of, special_of}
use Rattle.vm_hardware.specs.declared.OlaRegister.TheVariants.{R1}
use Rattle.vm_hardware.specs.declared.Place.TheVariants.{Op1}
use Rattle.vm_operands.specs.Numbers.{signed, number_of}
use Rattle.vm_operands.specs.declared.OlaOperand.TheVariants.{Empty, RegisterOperand}
use Rattle.asm.specs.Parts.{placed, filled_parts, pieces_from, line_pieces, row_pieces, source_pieces, text_of, name_at}
use Rattle.asm.specs.Operands.{is_source_number, source_number, shapes, first_match}
use Rattle.asm.specs.Rows.{arranged, operands_of, arranged_if, is_call_row, is_pair_row, label_row, row_of, instructions, read_rows}
use Rattle.asm.specs.declared.OlaAsmOperand.TheVariants.{Empty as NoOperand, ImmediateOperand, RegisterOperand as ARegister, Label, Identifier}
use Rattle.asm.specs.declared.OlaAsmInstruction.{OlaAsmInstruction}
use Rattle.asm.specs.declared.AsmRow.{AsmRow}
use Rattle.asm.specs.declared.AsmRow.TheVariants.{Instruction, LabelCall, LabelJmp, LabelProphet}
use Rattle.relocate.specs.Scopes.{cut_at_calls, scopes_that, rows_of_scopes}
use Rattle.relocate.specs.Labels.{LabelRow, call_kind, jmp_kind, prophet_kind, label_rows, holder}
use Rattle.relocate.specs.Prophets.{without_last_empty, labels_after_head, listed_labels, hosts_from, is_in, kept_from}
use Rattle.relocate.specs.Columns.{table_left, column_left, address_in}
use Rattle.relocate.specs.declared.LabelEntry.{LabelEntry}
use Rattle.relocate.specs.Relocate.{first_above127, rows_read, sorted_of, tabled, hosts_of}
use Rattle.relocate.specs.Room.{room_of}
use Rattle.relocate.specs.declared.RoomFigures.{RoomFigures}
use Rattle.program.specs.Instructions.{made, a_number}
use Rattle.program.specs.Words.{program_words, emitted_length, words_before}
use Rattle.program.specs.Groups.{grouped}
use Rattle.program.specs.Bytecode.{lines_of_groups, joined, bytecode_of, bytecode_written, text_left}
use Rattle.program.specs.declared.BinaryInstruction.{BinaryInstruction}
use Rattle.encoder.specs.Canonical.{names_of, canonical_program, general, memory, canonical_by, canonical_from, first_misplaced}
use Rattle.encoder.specs.Assemble.{Room, Accepted, encoded_rows, assembled, totals_of, assembled_totals, words_left}
use Rattle.decoder.specs.Open.{opened, run}
use Rattle.decoder.specs.Steps.{run_at, nth_call}
use Rattle.promises.specs.Terms.{content_at, Stands, IsPosition, IsPositionBefore, HoldsPosition, IsKept}
use Rattle.promises.specs.Starred.{plenty, printing_source}
use Rattle.promises.proofs.Promises.{counts_answered, words_left_lem, table_left_lem, columns_left_lem, bytecode_left, room_is_built, counted_is_words, room_refused, room_suffices, room_never_short, run_by_offsets, nth_reads, one_program, bytecode_opens, run_reads, words_ahead, accepted_has_rows, lengths_are_one, addresses_are_positions, instructions_stand, names_are_word_counts, table_is_positions, later_kept, kept_counted, rows_by_lines_lem, same_lines}
use Rattle.std.proofs.lemmas.Option.{none-some, same_Some}

-- ---- the printing source

-- `mov r1 -1`, `call f`, `end`, and f's `ret`
abbrev pub printing_program : List BinaryInstruction
printing_program =
    made MOV Empty (a_number 18446744069414584320) (RegisterOperand R1)
    ∷ made CALL Empty (a_number 5) Empty
    ∷ made END Empty Empty Empty
    ∷ made RET Empty Empty Empty
    ∷ []

abbrev pub printing_accepted : Accepted
printing_accepted = record {
  labels = 3;
  program = printing_program;
  words = 0x4000000208000000 ∷ 18446744069414584320 ∷ 0x4000000001000000 ∷ 5 ∷ 0x0000000000100000 ∷ 0x0000000000800000 ∷ [];
  hosts = [];
}

pub printing_accepted_lem : assembled printing_source [] plenty ≡ ok printing_accepted
unfolding is_space is_digit is_letter is_word same total scan all parts ◌>>=◌ ◌>>◌ refuse_if refuse_at digit_value value_from numeral operations first_operation registers register_of special_of signed number_of placed filled_parts pieces_from line_pieces row_pieces is_source_number source_number shapes first_match arranged operands_of arranged_if is_call_row is_pair_row label_row row_of name_at cut_at_calls scopes_that rows_of_scopes instructions label_rows holder without_last_empty labels_after_head listed_labels hosts_from first_above127 read_rows rows_read sorted_of tabled hosts_of program_words general memory canonical_by canonical_from first_misplaced encoded_rows assembled
printing_accepted_lem = refl

-- six calls: the four instructions, then 20 twice
printing_run : run 6 (bytecode_of printing_accepted.words) 0
    ≡ ok (made MOV Empty (a_number 18446744069414584320) (RegisterOperand R1)) ∷ ok (made CALL Empty (a_number 5) Empty) ∷ ok (made END Empty Empty Empty) ∷ ok (made RET Empty Empty Empty) ∷ refused 20 0 ∷ refused 20 0 ∷ []
printing_run = run_reads printing_source [] plenty printing_accepted printing_accepted_lem 6

-- the same calls by offsets
printing_offsets : run_at 6 (bytecode_of printing_accepted.words) 0 ≡ run 6 (bytecode_of printing_accepted.words) 0
printing_offsets = run_by_offsets 6 (bytecode_of printing_accepted.words)

-- the calls one by one: the second instruction, and 20 where there is none
printing_second : nth_call (bytecode_of printing_accepted.words) 1 ≡ ok (made CALL Empty (a_number 5) Empty)
printing_second = nth_reads printing_source [] plenty printing_accepted printing_accepted_lem 1

printing_fifth : nth_call (bytecode_of printing_accepted.words) 4 ≡ refused 20 0
printing_fifth = nth_reads printing_source [] plenty printing_accepted printing_accepted_lem 4

-- what a caller holds: the counts, and the six words in a slice of eight whose other two stay
printing_counts : assembled_totals printing_source [] plenty ≡ ok (record { labels = 3; words = 6; hosts = 0; kept = 0 })
unfolding kept_from
printing_counts = counts_answered printing_source [] plenty printing_accepted printing_accepted_lem

printing_words : take 6 (words_left (assembled printing_source [] plenty) (replicate 8 9)) ≡ printing_accepted.words
printing_words = words_left_lem printing_source [] plenty printing_accepted printing_accepted_lem (replicate 8 9)

printing_text_lem : take (length (bytecode_of printing_accepted.words)) (text_left (bytecode_written printing_accepted.words 200) (replicate 200 0)) ≡ bytecode_of printing_accepted.words
unfolding grouped lines_of_groups joined digits_of digit_count
printing_text_lem = bytecode_left printing_source [] plenty printing_accepted printing_accepted_lem (replicate 200 0) (omega arith)

pub printing_opens : opened (bytecode_of printing_accepted.words) ≡ ok printing_program
printing_opens = bytecode_opens printing_source [] plenty printing_accepted printing_accepted_lem

-- its rows, main's scope first
abbrev printing_rows : List AsmRow
printing_rows =
    LabelCall 7 4
    ∷ Instruction (record { opcode = MOV; op0 = NoOperand; op1 = ImmediateOperand (record { number = 18446744069414584320 }); dst = ARegister R1 })
    ∷ Instruction (record { opcode = CALL; op0 = NoOperand; op1 = Identifier 28 1; dst = NoOperand })
    ∷ LabelProphet 30 11
    ∷ Instruction (record { opcode = END; op0 = NoOperand; op1 = NoOperand; dst = NoOperand })
    ∷ LabelCall 0 1
    ∷ Instruction (record { opcode = RET; op0 = NoOperand; op1 = NoOperand; dst = NoOperand })
    ∷ []

printing_sorted : sorted_of printing_source ≡ ok printing_rows
unfolding is_space is_digit is_letter is_word same scan all parts ◌>>=◌ ◌>>◌ refuse_if refuse_at digit_value value_from numeral operations first_operation registers register_of special_of signed number_of placed filled_parts pieces_from line_pieces row_pieces is_source_number source_number shapes first_match arranged operands_of arranged_if is_call_row is_pair_row label_row row_of name_at cut_at_calls scopes_that rows_of_scopes first_above127 read_rows rows_read sorted_of
printing_sorted = refl

-- 3 label rows, 4 instructions, 6 addresses and 6 words, before it is built
abbrev printing_room : RoomFigures
printing_room = record { labels = 3; instructions = 4; counted = 6; words = 6 }

printing_room_lem : room_of printing_source ≡ ok printing_room
unfolding instructions total
printing_room_lem = room_is_built printing_source [] plenty printing_accepted printing_accepted_lem printing_rows printing_sorted

printing_one : printing_room.counted ≡ printing_room.words
printing_one = counted_is_words printing_source [] plenty printing_accepted printing_accepted_lem printing_room printing_room_lem

-- it is accepted into three entries and six words
printing_just_so : assembled printing_source [] (record { entries = 3; words = 6; hosts = plenty.hosts }) ≡ ok printing_accepted
printing_just_so =
    sym (room_suffices printing_source [] plenty printing_room printing_room_lem (omega arith) (omega arith)) ∙ printing_accepted_lem

-- with its prophet listed, one host besides is enough
abbrev printing_list : List ℕ
printing_list = bytes "label\n.PROPHET0_0"

printing_listed : listed_labels printing_list ≡ ok (bytes ".PROPHET0_0" ∷ [])
unfolding same parts ◌>>◌ refuse_if without_last_empty labels_after_head listed_labels
printing_listed = refl

printing_never_short : (n d : ℕ) → assembled printing_source printing_list (record { entries = 3; words = 6; hosts = 1 }) ≡ refused n d → ((8 ≤ n) × (n ≤ 12)) ⊎ (n ≡ 25)
printing_never_short =
    room_never_short printing_source printing_list (record { entries = 3; words = 6; hosts = 1 }) printing_room printing_room_lem (omega arith) (omega arith)
    λ labels e. subst (λ (l : List (List ℕ)). length l ≤ 1) (ok_same (sym printing_listed ∙ e)) (omega arith)

-- a source with two mains has no room, and is refused alike whatever is lent
abbrev two_mains : List ℕ
two_mains = bytes "main:\nmain:"

mains_no_room : room_of two_mains ≡ refused 6 0
unfolding is_space is_digit is_letter is_word same scan all parts ◌>>=◌ ◌>>◌ refuse_if refuse_at placed filled_parts pieces_from line_pieces row_pieces is_call_row is_pair_row label_row row_of name_at cut_at_calls scopes_that rows_of_scopes first_above127 read_rows rows_read sorted_of room_of
mains_no_room = refl

mains_refused : (prophets : List ℕ) (room : Room) → assembled two_mains prophets room ≡ refused 6 0
mains_refused prophets room = room_refused two_mains prophets room 6 0 mains_no_room

-- it has rows, four of them instructions, and the program is theirs
printing_has_rows : (rows : List AsmRow) × (sorted_of printing_source ≡ ok rows) × (canonical_program printing_source rows ≡ ok printing_program) × (length (instructions rows) ≡ 4)
printing_has_rows = accepted_has_rows printing_source [] plenty printing_accepted printing_accepted_lem

-- each row counts as many words as its instruction has
printing_lengths : 2 ∷ 2 ∷ 1 ∷ 1 ∷ [] ≡ map emitted_length printing_program
unfolding instructions
printing_lengths = lengths_are_one printing_source [] plenty printing_accepted printing_accepted_lem printing_rows printing_sorted

-- the address of f's `ret` is the count of the words ahead of it
printing_address : 5 ≡ length (program_words (take 3 printing_program))
unfolding instructions total
printing_address = addresses_are_positions printing_source [] plenty printing_accepted printing_accepted_lem printing_rows printing_sorted 3

-- and the `ret` stands there
printing_stands : Stands printing_accepted 3
printing_stands = instructions_stand printing_source [] plenty printing_accepted printing_accepted_lem 3 (omega arith)

-- `call f` holds that count
printing_call : HoldsPosition (names_of printing_source printing_rows) printing_accepted call_kind 28 1 (a_number 5)
unfolding instructions
printing_call =
    let x =
    names_are_word_counts printing_source [] plenty printing_accepted printing_accepted_lem printing_rows printing_sorted
    1 (record { opcode = CALL; op0 = NoOperand; op1 = Identifier 28 1; dst = NoOperand }) refl in
    let e : made CALL Empty (a_number 5) Empty ≡ x.0 = same_Some _ _ x.1 in
    subst (λ (b : BinaryInstruction). HoldsPosition (names_of printing_source printing_rows) printing_accepted call_kind 28 1 (content_at Op1 b)) (sym e) ((x.2 Op1 28 1).0 refl)

-- what a caller holds of the table: the addresses in a column of five
printing_column : take 3 (column_left (tabled printing_source plenty.entries) address_in (replicate 5 7)) ≡ 0 ∷ 2 ∷ 5 ∷ []
unfolding instructions label_rows total
printing_column = columns_left_lem printing_source [] plenty printing_accepted printing_accepted_lem printing_rows printing_sorted address_in (replicate 5 7)

-- f's entry of the table, the third, has the position of the `ret`, and the prophet's, the second, that of `call f` before it
printing_entry : (l : LabelRow) × (Some (record { kind = call_kind; start = 0; length = 1; marks = 3; mapped = true }) ≡ Some l) × IsPosition printing_accepted l.marks 5
unfolding instructions label_rows total
printing_entry =
    let x = table_is_positions printing_source [] plenty printing_accepted printing_accepted_lem printing_rows printing_sorted 2 (record { kind = call_kind; mapped = true; start = 0; length = 1; address = record { 0 = 5 } }) refl refl in
    (x.0, x.1, x.2 refl)

printing_prophet : (l : LabelRow) × (Some (record { kind = prophet_kind; start = 30; length = 11; marks = 2; mapped = true }) ≡ Some l) × IsPositionBefore printing_accepted l.marks 2
unfolding instructions label_rows total
printing_prophet =
    let x = table_is_positions printing_source [] plenty printing_accepted printing_accepted_lem printing_rows printing_sorted 1 (record { kind = prophet_kind; mapped = true; start = 30; length = 11; address = record { 0 = 2 } }) refl refl in
    (x.0, x.1, x.4 refl)

printing_words_ahead : length (program_words (take 3 printing_program)) ≡ words_before printing_program 3
printing_words_ahead = words_ahead printing_source [] plenty printing_accepted printing_accepted_lem 3

-- ---- a label

abbrev label_source : List ℕ
label_source = bytes "main:\nmov r1 5\n.LBL1_1:\njmp .LBL1_1"

abbrev label_program : List BinaryInstruction
label_program = made MOV Empty (a_number 5) (RegisterOperand R1) ∷ made JMP Empty (a_number 2) Empty ∷ []

abbrev label_accepted : Accepted
label_accepted = record {
  labels = 2;
  program = label_program;
  words = 0x4000000208000000 ∷ 5 ∷ 0x4000000004000000 ∷ 2 ∷ [];
  hosts = [];
}

label_accepted_lem : assembled label_source [] plenty ≡ ok label_accepted
unfolding is_space is_digit is_letter is_word same total scan all parts ◌>>=◌ ◌>>◌ refuse_if refuse_at digit_value value_from numeral operations first_operation registers register_of special_of signed number_of placed filled_parts pieces_from line_pieces row_pieces is_source_number source_number shapes first_match arranged operands_of arranged_if is_call_row is_pair_row label_row row_of name_at cut_at_calls scopes_that rows_of_scopes instructions label_rows holder without_last_empty labels_after_head listed_labels hosts_from first_above127 read_rows rows_read sorted_of tabled hosts_of program_words general memory canonical_by canonical_from first_misplaced encoded_rows assembled
label_accepted_lem = refl

abbrev label_jump : OlaAsmInstruction
label_jump = record { opcode = JMP; op0 = NoOperand; op1 = Label 28 7; dst = NoOperand }

abbrev label_sorted : List AsmRow
label_sorted =
    LabelCall 0 4
    ∷ Instruction (record { opcode = MOV; op0 = NoOperand; op1 = ImmediateOperand (record { number = 5 }); dst = ARegister R1 })
    ∷ LabelJmp 15 7
    ∷ Instruction label_jump
    ∷ []

label_sorted_lem : sorted_of label_source ≡ ok label_sorted
unfolding is_space is_digit is_letter is_word same scan all parts ◌>>=◌ ◌>>◌ refuse_if refuse_at digit_value value_from numeral operations first_operation registers register_of special_of signed number_of placed filled_parts pieces_from line_pieces row_pieces is_source_number source_number shapes first_match arranged operands_of arranged_if is_call_row is_pair_row label_row row_of name_at cut_at_calls scopes_that rows_of_scopes first_above127 read_rows rows_read sorted_of
label_sorted_lem = refl

-- an entry that a caller left there
abbrev label_lent : LabelEntry
label_lent = record { kind = 9; mapped = false; start = 9; length = 9; address = record { 0 = 9 } }

-- `jmp.LBL1_1` holds the count of the words before itself, which is 2
label_jump_lem : HoldsPosition (names_of label_source label_sorted) label_accepted jmp_kind 28 7 (a_number 2)
unfolding instructions
label_jump_lem =
    let x = names_are_word_counts label_source [] plenty label_accepted label_accepted_lem label_sorted label_sorted_lem 1 label_jump refl in
    let e : made JMP Empty (a_number 2) Empty ≡ x.0 = same_Some _ _ x.1 in
    subst (λ (b : BinaryInstruction). HoldsPosition (names_of label_source label_sorted) label_accepted jmp_kind 28 7 (content_at Op1 b)) (sym e) ((x.2 Op1 28 7).1 refl)

-- and the label's entry has that position
label_entry_lem : (l : LabelRow) × (Some (record { kind = jmp_kind; start = 15; length = 7; marks = 1; mapped = true }) ≡ Some l) × IsPosition label_accepted l.marks 2
unfolding instructions label_rows total
label_entry_lem =
    let x = table_is_positions label_source [] plenty label_accepted label_accepted_lem label_sorted label_sorted_lem 1 (record { kind = jmp_kind; mapped = true; start = 15; length = 7; address = record { 0 = 2 } }) refl refl in
    (x.0, x.1, x.3 refl)

-- the table as entries, in one as long as it was lent
label_table : take 2 (table_left label_source (replicate 1000 label_lent)) ≡ record { kind = call_kind; mapped = true; start = 0; length = 4; address = record { 0 = 0 } } ∷ record { kind = jmp_kind; mapped = true; start = 15; length = 7; address = record { 0 = 2 } } ∷ []
unfolding instructions label_rows total
label_table = table_left_lem label_source [] plenty label_accepted label_accepted_lem label_sorted label_sorted_lem (replicate 1000 label_lent) (length-replicate 1000 label_lent)

-- ---- two prophets on one host

-- both prophets stand after the second `ret`, whose address is 1
abbrev prophets_source : List ℕ
prophets_source = bytes "main:\nret\nret\n.PROPHET0_0:\n.PROPHET0_1:\nend"

abbrev prophets_list : List ℕ
prophets_list = bytes "label\n.PROPHET0_0\n.PROPHET0_1"

abbrev prophets_accepted : Accepted
prophets_accepted = record {
  labels = 3;
  program = made RET Empty Empty Empty ∷ made RET Empty Empty Empty ∷ made END Empty Empty Empty ∷ [];
  words = 0x0000000000800000 ∷ 0x0000000000800000 ∷ 0x0000000000100000 ∷ [];
  hosts = 1 ∷ 1 ∷ [];
}

prophets_accepted_lem : assembled prophets_source prophets_list plenty ≡ ok prophets_accepted
unfolding is_space is_digit is_letter is_word same total scan all parts ◌>>=◌ ◌>>◌ refuse_if refuse_at digit_value value_from numeral operations first_operation registers register_of special_of signed number_of placed filled_parts pieces_from line_pieces row_pieces is_source_number source_number shapes first_match arranged operands_of arranged_if is_call_row is_pair_row label_row row_of name_at cut_at_calls scopes_that rows_of_scopes instructions label_rows holder without_last_empty labels_after_head listed_labels hosts_from first_above127 read_rows rows_read sorted_of tabled hosts_of program_words general memory canonical_by canonical_from first_misplaced encoded_rows assembled
prophets_accepted_lem = refl

-- whatever list and room it is accepted with, its words are these three
prophets_words : (others : List ℕ) (space : Room) (b : Accepted) → assembled prophets_source others space ≡ ok b
    → 0x0000000000800000 ∷ 0x0000000000800000 ∷ 0x0000000000100000 ∷ [] ≡ b.words
prophets_words others space b k = (one_program prophets_source prophets_list others plenty space prophets_accepted b prophets_accepted_lem k).1

-- the second of the list is kept,
prophets_second : IsKept prophets_accepted.hosts 1 1
prophets_second = (later_kept prophets_source prophets_list plenty prophets_accepted prophets_accepted_lem 1 1).1 (refl, none_after)
  where
    none_after : (j : ℕ) → 1 < j → slice_get prophets_accepted.hosts j ≡ Some 1 → ⊥
    none_after zero l e = omega arith
    none_after (suc zero) l e = omega arith
    none_after (suc (suc j)) l e = none-some 1 e

-- the first is not,
prophets_first : IsKept prophets_accepted.hosts 0 1 → ⊥
prophets_first k = ((later_kept prophets_source prophets_list plenty prophets_accepted prophets_accepted_lem 0 1).0 k).1 1 (omega arith) refl

-- and one is counted
prophets_counted : ((totals_of prophets_accepted).kept ≡ 1) × Ascending (1 ∷ [])
unfolding is_in kept_from
prophets_counted = kept_counted prophets_source prophets_list plenty prophets_accepted prophets_accepted_lem

-- ---- line endings

abbrev return_source : List ℕ
return_source = bytes "main:\r\nend\r\n"

-- its lines have no carriage return, and start where the text says
return_lines : bytes "main:" ∷ bytes "end" ∷ [] ≡ lines return_source
unfolding parts placed lines ended zip_with
return_lines = (rows_by_lines_lem return_source).1

-- it has the rows of these lines, each with its place
return_rows : rows_read return_source ≡ ok (LabelCall 0 4 ∷ Instruction (record { opcode = END; op0 = NoOperand; op1 = NoOperand; dst = NoOperand }) ∷ [])
unfolding is_space is_digit is_letter is_word same scan all parts lines ended zip_with ◌>>=◌ ◌>>◌ refuse_if refuse_at operations first_operation placed filled_parts pieces_from line_pieces row_pieces arranged arranged_if is_call_row is_pair_row label_row row_of first_above127 read_rows
return_rows = (rows_by_lines_lem return_source).0

-- and the pieces of the source with line feeds alone, but for the places
return_same : map (map text_of) (source_pieces return_source) ≡ map (map text_of) (source_pieces (bytes "main:\nend\n"))
unfolding parts lines ended
return_same = same_lines return_source (bytes "main:\nend\n") refl
