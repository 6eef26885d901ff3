-- Inputs that separate likely misreadings of scopes, label tables, prophets, refusals 1 to 9 and the room that a source takes, by computation.
-- Expected values: document 01, READINGS 4 to 8, and document 02's Points 1, 2 and 4.
use Prim.Native.Nat.{ℕ, ◌<◌}
use mathlib.Core.Path.{◌≡◌, refl}
use mathlib.Core.List.{List, [], ◌∷◌, map}
use mathlib.Core.Bool.{Bool, true, false}
use borrow.Author.Tests.{lt-ltb}
use lib.ListN.{length}
use Rattle.text.specs.Bytes.{bytes, is_space, is_digit, is_letter, is_word, same}
use Rattle.text.specs.Lists.{total}
use Rattle.text.specs.Scan.{scan, all, parts}
use Rattle.text.specs.Answer.{Answer, ok, refused, ◌>>=◌, ◌>>◌, refuse_if, refuse_at, on_ok}
use Rattle.text_read.specs.Numerals.{digit_value, value_from, numeral}
use Rattle.vm_opcodes.specs.Operations.{operations, first_operation}
use Rattle.vm_hardware.specs.Registers.{registers, register_of, special_of}
use Rattle.vm_operands.specs.Numbers.{signed, number_of}
use Rattle.asm.specs.Parts.{placed, filled_parts, pieces_from, line_pieces, row_pieces, name_at}
use Rattle.asm.specs.Operands.{is_source_number, source_number, shapes, first_match}
use Rattle.asm.specs.Rows.{arranged, operands_of, arranged_if, is_call_row, is_pair_row, label_row, row_of, instructions, read_rows}
use Rattle.relocate.specs.Scopes.{cut_at_calls, scopes_that, rows_of_scopes}
use Rattle.relocate.specs.Labels.{label_rows, holder, table_of}
use Rattle.relocate.specs.Prophets.{without_last_empty, labels_after_head, listed_labels, hosts_from, is_in, Kept, kept_from, kept_count}
use Rattle.relocate.specs.Relocate.{first_above127, rows_read, sorted_of, tabled, hosts_of}
use Rattle.relocate.specs.Room.{room_of}
use Rattle.relocate.specs.Columns.{column_left, address_in}
use Rattle.relocate.specs.declared.LabelEntry.{LabelEntry}
use Rattle.relocate.specs.declared.RoomFigures.{RoomFigures}

-- kind, mapped, start, length, address
abbrev entry : ℕ → Bool → ℕ → ℕ → ℕ → LabelEntry
entry k m s n a = record { kind = k; mapped = m; start = s; length = n; address = record { 0 = a } }

-- the label table of a source with room for n entries
abbrev table_with : ℕ → List ℕ → Answer (List LabelEntry)
table_with n s = tabled s n >>= λ rows. ok (table_of rows)

abbrev table_cases : List (ℕ × List ℕ × Answer (List LabelEntry))
table_cases =
    -- main first, whatever stands before it; a scope without a label
    (9, bytes "ret\nf:\nend\nmain:\njmp 1", ok (entry 0 true 11 4 0 ∷ entry 0 true 4 1 3 ∷ []))
    -- `main.1` is another name
    ∷ (9, bytes "main.1:\nend", refused 5 0)
    ∷ (9, bytes "f:\nend", refused 5 0)
    ∷ (9, bytes "end", refused 5 0)
    -- two mains, though the second is empty
    ∷ (9, bytes "main:\nend\nmain:", refused 6 0)
    ∷ (9, [], refused 4 0)
    ∷ (9, bytes "\n ; x\n\n", refused 4 0)
    -- 2 before 3, by its offset
    ∷ (9, (102 ∷ 111 ∷ 111 ∷ 10 ∷ 195 ∷ 164 ∷ []), refused 2 4)
    ∷ (9, (128 ∷ []), refused 2 0)
    ∷ (9, (127 ∷ []), refused 3 0)
    -- 3 counts rows that are not empty
    ∷ (9, bytes "\nmain:\n\n ; c\nend\n\nfoo", refused 3 2)
    -- 3 before 5 and 6
    ∷ (9, bytes "f:\nfoo", refused 3 1)
    -- 7: one entry for each label row, unmapped ones too
    ∷ (1, bytes "main:\nend\nf:", refused 7 0)
    ∷ (2, bytes "main:\nend\nf:", ok (entry 0 true 0 4 0 ∷ entry 0 false 10 1 0 ∷ []))
    -- rows that no operand can reach have entries
    ∷ (9, bytes "main:\nr1:\n12:\nf.1:\n5LBL1_1:\nend", ok (entry 0 true 0 4 0 ∷ entry 0 true 6 2 0 ∷ entry 0 true 10 2 0 ∷ entry 0 true 14 3 0 ∷ entry 0 true 19 7 0 ∷ []))
    -- a label marks the next instruction across scopes, by its counted address
    ∷ (9, bytes "main:\nmov r1 [r2]\n.LBL1_1:\nf:\nret", ok (entry 0 true 0 4 0 ∷ entry 1 true 18 7 2 ∷ entry 0 true 27 1 2 ∷ []))
    -- a prophet's entry has its host: the instruction before, 0 if none
    ∷ (9, bytes "main:\n.PROPHET0_0:\nmov r1 5\n.PROPHET0_1:\nend\n.PROPHET0_2:", ok (entry 0 true 0 4 0 ∷ entry 2 true 6 11 0 ∷ entry 2 true 28 11 0 ∷ entry 2 false 45 11 0 ∷ []))
    ∷ []

-- a source, a column of addresses lent, and what stands in it afterwards
abbrev column_cases : List (List ℕ × List ℕ × List ℕ)
column_cases =
    -- "Entries past these are untouched"
    (bytes "main:\nret\nf:\nend", 7 ∷ 8 ∷ 9 ∷ [], 0 ∷ 1 ∷ 9 ∷ [])
    -- "Refusals up to 7 in this order leave the table untouched"
    ∷ (bytes "main:\nret\nf:\nend", 7 ∷ [], 7 ∷ [])
    ∷ []

-- the hosts of a prophet list, and how many are kept
abbrev hosts_with : List ℕ → List ℕ → Answer (List ℕ × ℕ)
hosts_with s list = sorted_of s >>= λ rows. hosts_of s rows list >>= λ hs. ok (hs, kept_count hs)

abbrev host_cases : List (List ℕ × List ℕ × Answer (List ℕ × ℕ))
host_cases =
    (bytes "f:\n.PROPHET0_0:\nret\nmain:\njmp 1\nend", bytes "label\n.PROPHET0_0", ok (2 ∷ [], 1))
    ∷ (bytes "main:\nend\n.PROPHET0_0:", bytes "label\n.PROPHET0_0", refused 9 0)
    ∷ (bytes "main:\n.PROPHET0_0:\nend", bytes "label\n.PROPHET0_0\n.PROPHET0_0\n", ok (0 ∷ 0 ∷ [], 1))
    ∷ (bytes "main:\njmp 1\n.PROPHET0_0:\njmp 1\n.PROPHET0_1:\nend", bytes "label\n.PROPHET0_1\n.PROPHET0_0", ok (2 ∷ 0 ∷ [], 2))
    ∷ (bytes "main:\n.PROPHET0_0:\nend", bytes "label\n.PROPHET0_0\n.PROPHET00_0", refused 9 1)
    ∷ (bytes "main:\n.PROPHET0_0:\nend", bytes "label\n.PROPHET0_0:", refused 9 0)
    ∷ (bytes "main:\n.PROPHET0_0:\nend", bytes "label\n.PROPHET0_0 ", refused 9 0)
    -- of two rows of one name the later holds, and an unmapped one does not
    ∷ (bytes "main:\nret\n.PROPHET0_0:\njmp 1\n.PROPHET0_0:\nend", bytes "label\n.PROPHET0_0", ok (1 ∷ [], 1))
    ∷ (bytes "main:\n.PROPHET0_0:\njmp 1\nend\n.PROPHET0_0:", bytes "label\n.PROPHET0_0", ok (0 ∷ [], 1))
    -- a call or `.LBL` row is no prophet
    ∷ (bytes "main:\n.LBL0_0:\nend", bytes "label\n.LBL0_0", refused 9 0)
    ∷ (bytes "main:\nend", [], ok ([], 0))
    ∷ (bytes "main:\nend", bytes "label", ok ([], 0))
    ∷ (bytes "main:\nend", bytes "label\n", ok ([], 0))
    ∷ (bytes "main:\nend", bytes "label\n\n", refused 9 0)
    ∷ (bytes "main:\nend", bytes "label\r\n", refused 8 0)
    ∷ (bytes "main:\nend", bytes "\n", refused 8 0)
    ∷ (bytes "main:\nend", bytes "labels", refused 8 0)
    ∷ (bytes "main:\nend", bytes " label", refused 8 0)
    ∷ (bytes "main:\nend", (108 ∷ 97 ∷ 98 ∷ 101 ∷ 108 ∷ 10 ∷ 200 ∷ []), refused 9 0)
    ∷ []

-- the hosts of a list, and what is kept: "Of two prophets on one host the later in the list is kept"
abbrev kept_cases : List (List ℕ × List Kept)
kept_cases =
    (5 ∷ 7 ∷ 5 ∷ [], record { host = 7; place = 1 } ∷ record { host = 5; place = 2 } ∷ [])
    ∷ (0 ∷ 0 ∷ 0 ∷ [], record { host = 0; place = 2 } ∷ [])
    ∷ []

-- label rows, instructions, counted length, words
abbrev takes : ℕ → ℕ → ℕ → ℕ → Answer RoomFigures
takes l i n w = ok (record { labels = l; instructions = i; counted = n; words = w })

abbrev room_cases : List (List ℕ × Answer RoomFigures)
room_cases =
    -- 01's printing source
    (bytes "f:\nret\nmain:\nmov r1 -1\ncall f\n.PROPHET0_0:\nend", takes 3 4 6 6)
    -- "one more for mload, mstore or an op1 that is a number, name or label"
    ∷ (bytes "main:\nmload r1 r2", takes 1 1 1 2)
    ∷ (bytes "main:\nmstore [r1] 5", takes 1 1 3 2)
    ∷ (bytes "main:\nmload r1 5", takes 1 1 2 2)
    ∷ (bytes "main:\nmov r1 [r2]", takes 1 1 2 1)
    ∷ (bytes "main:\nmov 5 r1", takes 1 1 1 1)
    -- nothing is looked up
    ∷ (bytes "main:\njmp nowhere", takes 1 1 2 2)
    ∷ (bytes "main:\ncall xLBL1_2", takes 1 1 2 2)
    -- 02, Point 4: "the room figures follow it"
    ∷ (bytes "main:\nmload r1 [r2,0xA]", takes 1 1 2 2)
    ∷ (bytes "main:\ncall 0x5\n0x5:\nret", takes 2 2 3 3)
    ∷ (bytes "main:\nmload r1 [r2,0xffffffff00000001]", refused 3 1)
    -- every label row counts, one that marks nothing and one whose name came before too
    ∷ (bytes "main:", takes 1 0 0 0)
    ∷ (bytes "main:\nf:\nf:\nend", takes 3 1 1 1)
    ∷ (bytes "main:\nend\nf:\n.LBL0_0:\n.PROPHET0_0:", takes 4 1 1 1)
    -- rows before the first call label count
    ∷ (bytes "jmp 1\nmain:\nend", takes 1 2 3 3)
    -- "each source that passes refusals 1 to 6"
    ∷ ((59 ∷ 128 ∷ []), refused 2 1)
    ∷ (bytes "main:\nfoo", refused 3 1)
    -- 02, Point 2: "3 in place ... of Point 1's figures"
    ∷ (bytes "main:\ncall 5LBL1_2", refused 3 1)
    ∷ ([], refused 4 0)
    ∷ (bytes "f:\nret", refused 5 0)
    ∷ (bytes "main:\nmain:", refused 6 0)
    ∷ []

-- the cases are exported, since modules that export are checked first: a wrong definition is told by its case, then by the laws
pub tables_right : map (λ c. table_with c.0 c.1) table_cases ≡ map (λ c. c.2) table_cases
unfolding is_space is_digit is_letter is_word same total scan all parts ◌>>=◌ ◌>>◌ refuse_if refuse_at digit_value value_from numeral operations first_operation registers register_of special_of signed number_of placed filled_parts pieces_from line_pieces row_pieces is_source_number source_number shapes first_match arranged operands_of arranged_if is_call_row is_pair_row label_row row_of name_at cut_at_calls scopes_that rows_of_scopes instructions label_rows holder first_above127 read_rows rows_read sorted_of tabled
tables_right = refl

pub columns_right : map (λ c. column_left (tabled c.0 (length c.1)) address_in c.1) column_cases ≡ map (λ c. c.2) column_cases
unfolding is_space is_digit is_letter is_word same total scan all parts ◌>>=◌ ◌>>◌ refuse_if refuse_at on_ok digit_value value_from numeral operations first_operation registers register_of special_of signed number_of placed filled_parts pieces_from line_pieces row_pieces is_source_number source_number shapes first_match arranged operands_of arranged_if is_call_row is_pair_row label_row row_of name_at cut_at_calls scopes_that rows_of_scopes instructions label_rows holder first_above127 read_rows rows_read sorted_of tabled
columns_right = refl

pub hosts_right : map (λ c. hosts_with c.0 c.1) host_cases ≡ map (λ c. c.2) host_cases
unfolding is_space is_digit is_letter is_word same total scan all parts ◌>>=◌ ◌>>◌ refuse_if refuse_at digit_value value_from numeral operations first_operation registers register_of special_of signed number_of placed filled_parts pieces_from line_pieces row_pieces is_source_number source_number shapes first_match arranged operands_of arranged_if is_call_row is_pair_row label_row row_of name_at cut_at_calls scopes_that rows_of_scopes instructions label_rows holder without_last_empty labels_after_head listed_labels hosts_from is_in kept_from first_above127 read_rows rows_read sorted_of hosts_of
hosts_right = refl

pub kept_right : map (λ c. kept_from 0 c.0) kept_cases ≡ map (λ c. c.1) kept_cases
unfolding is_in kept_from
kept_right = refl

pub rooms_right : map (λ c. room_of c.0) room_cases ≡ map (λ c. c.1) room_cases
unfolding is_space is_digit is_letter is_word same total scan all parts ◌>>=◌ ◌>>◌ refuse_if refuse_at digit_value value_from numeral operations first_operation registers register_of special_of signed number_of placed filled_parts pieces_from line_pieces row_pieces is_source_number source_number shapes first_match arranged operands_of arranged_if is_call_row is_pair_row label_row row_of name_at cut_at_calls scopes_that rows_of_scopes instructions label_rows first_above127 read_rows rows_read sorted_of room_of
rooms_right = refl

-- 1 and 8 stand before everything else, whatever the bytes are
too_long : (s : List ℕ) → 65536 < length s → rows_read s ≡ refused 1 0
unfolding rows_read refuse_if ◌>>◌
too_long s h = rw (lt-ltb 65536 (length s) h)

list_too_long : (list : List ℕ) → 16384 < length list → listed_labels list ≡ refused 8 0
unfolding listed_labels refuse_if ◌>>◌
list_too_long list h = rw (lt-ltb 16384 (length list) h)
