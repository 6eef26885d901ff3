-- A written source assembles to the program that it was written of.
use Rattle.std.specs.Prelude.{Some, None}
use Prim.Native.Nat.{ℕ, suc, ◌+◌, ◌≤◌}
use mathlib.Core.Path.{◌≡◌, refl, ap, ap₂, ◌∙◌}
use mathlib.Core.List.{List, [], ◌∷◌, ◌++◌, append-nil, map}
use mathlib.Core.Bool.{Bool, true, false, not, and-eq-true_iff}
use native.Mathlib.Omega.{arith}
use borrow.Author.Tests.{leb-true, le-leb, le-ltb}
use lib.Dec.{leb}
use lib.ListN.{length}
use Rattle.text.specs.Bytes.{bytes, is_space, is_digit, is_letter, is_word, same}
use Rattle.text.specs.Scan.{scan, all, parts, is_empty}
use Rattle.text.specs.Lines.{is_feed, not_feed}
use Rattle.text.specs.All.{All, none_left, one_more}
use Rattle.text.specs.Answer.{ok, ◌>>=◌, ◌>>◌, refuse_if, refuse_at}
use Rattle.text.proofs.Laws.{other_byte}
use Rattle.asm.specs.Parts.{Part, placed, filled_parts, pieces_from, line_pieces, row_pieces, source_pieces, name_at}
use Rattle.asm.specs.Rows.{is_call_row, label_row, row_of, read_rows, instructions}
use Rattle.asm.specs.declared.OlaAsmInstruction.{OlaAsmInstruction}
use Rattle.asm.specs.declared.AsmRow.{AsmRow}
use Rattle.asm.specs.declared.AsmRow.TheVariants.{Instruction, LabelCall}
use Rattle.asm_laws.proofs.MoveLaws.{parts_joined}
use Rattle.relocate.specs.Scopes.{cut_at_calls, scopes_that, rows_of_scopes, sorted_rows, main_count}
use Rattle.relocate.specs.Labels.{label_rows}
use Rattle.relocate.specs.Prophets.{listed_labels, hosts_from}
use Rattle.relocate.specs.Relocate.{first_above127, rows_read, sorted_of, tabled, hosts_of}
use Rattle.program.specs.Words.{program_words}
use Rattle.program.specs.Bytecode.{joined}
use Rattle.program.specs.declared.BinaryInstruction.{BinaryInstruction}
use Rattle.encoder.specs.Canonical.{Names, names_of, canonical_from, canonical_program, first_misplaced}
use Rattle.encoder.specs.Assemble.{Room, encoded_rows, assembled}
use Rattle.source.specs.SourceText.{source_row, source_text}
use Rattle.source_laws.proofs.PieceLaws.{all_else, all_joined, part_alone}
use Rattle.source_laws.proofs.ReadsAs.{is_row_byte, ReadsAs}

-- ---- lines of row bytes, joined

-- a line of row bytes
abbrev RowLine : List ℕ → Type 0
RowLine l = all is_row_byte l ≡ true

-- a byte that is not above 127
abbrev is_ascii : ℕ → Bool
is_ascii b = leb b 127

-- no row byte ends a line
not_feed_lem : (b : ℕ) → is_row_byte b ≡ true → not_feed b ≡ true
not_feed_lem b h = ap not (other_byte is_row_byte b 10 h refl)

-- or is above 127
not_above : (b : ℕ) → is_row_byte b ≡ true → is_ascii b ≡ true
not_above b h = let k = leb-true b 126 ((and-eq-true_iff (leb 32 b) (leb b 126)).0 h).1 in le-leb b 127 (omega arith)

-- joined lines have no byte above 127
lines_ascii : (ls : List (List ℕ)) → All RowLine ls → all is_ascii (joined ls) ≡ true
unfolding joined all
lines_ascii [] c = refl
lines_ascii (l ∷ []) (one_more h c) = all_else is_row_byte is_ascii not_above l h
lines_ascii (l ∷ m ∷ ls) (one_more h c) =
    all_joined is_ascii l (10 ∷ joined (m ∷ ls)) (all_else is_row_byte is_ascii not_above l h) (lines_ascii (m ∷ ls) c)

-- refusal 2 finds none
none_above : (k : ℕ) (s : List ℕ) → all is_ascii s ≡ true → first_above127 k s ≡ None
unfolding first_above127 all
none_above k [] h = refl
none_above k (b ∷ bs) h =
    let a = (and-eq-true_iff (leb b 127) (all is_ascii bs)).0 h in
    rw (le-ltb 127 b (leb-true b 127 a.0), none_above (suc k) bs a.1)

-- a line is one part
line_whole : (l : List ℕ) → RowLine l → parts is_feed l ≡ l ∷ []
line_whole l h = part_alone is_feed l (all_else is_row_byte not_feed not_feed_lem l h)

-- joined lines are parted again
lines_parted : (l : List ℕ) (ls : List (List ℕ)) → All RowLine (l ∷ ls) → parts is_feed (joined (l ∷ ls)) ≡ l ∷ ls
unfolding joined
lines_parted l [] (one_more h c) = line_whole l h
lines_parted l (m ∷ ls) (one_more h c) = parts_joined is_feed l 10 (joined (m ∷ ls)) refl ∙ ap₂ ◌++◌ (line_whole l h) (lines_parted m ls c)

-- ---- the rows of a written source

-- the lines of a program's rows
program_lines : {is : List BinaryInstruction} → All ReadsAs is → All RowLine (map source_row is)
program_lines none_left = none_left
program_lines (one_more h hs) = one_more h.bytes (program_lines hs)

-- and `main:` ahead of them
written_lines : {is : List BinaryInstruction} → All ReadsAs is → All RowLine (bytes "main:" ∷ map source_row is)
unfolding all
written_lines hs = one_more refl (program_lines hs)

-- what they are read as
rows_of : {is : List BinaryInstruction} → All ReadsAs is → List OlaAsmInstruction
rows_of none_left = []
rows_of (one_more h hs) = h.row ∷ rows_of hs

-- a line that is read as a row has a piece
read_some : (ps : List Part) (r : AsmRow) → row_of ps ≡ Some r → is_empty ps ≡ false
unfolding row_of
read_some [] r e = let z : ◌≡◌ {A = ℕ} 0 1 = cc in absurd (omega arith)
read_some (q ∷ qs) r e = refl

-- a line that is read, and those after it
line_read : (k : ℕ) (q : Part) (qs : List Part) (r : AsmRow) (rows : List AsmRow) → row_of (line_pieces q) ≡ Some r → read_rows (suc k) (row_pieces qs) ≡ ok rows
    → read_rows k (row_pieces (q ∷ qs)) ≡ ok (r ∷ rows)
unfolding row_pieces read_rows ◌>>=◌
line_read k q qs r rows e f = rw (read_some (line_pieces q) r e, e, f)

-- the program's lines
program_read : (k start : ℕ) {is : List BinaryInstruction} (hs : All ReadsAs is)
    → read_rows k (row_pieces (placed start (map source_row is))) ≡ ok (map Instruction (rows_of hs))
unfolding rows_of placed row_pieces read_rows
program_read k start none_left = refl
program_read k start (one_more {x = i} {xs = is} h hs) =
    line_read k (record { start = start; text = source_row i }) (placed (start + (length (source_row i) + 1)) (map source_row is)) (Instruction h.row)
    (map Instruction (rows_of hs)) (h.read start) (program_read (suc k) (start + (length (source_row i) + 1)) hs)

-- a call label and instructions
abbrev main_rows : ℕ → ℕ → List OlaAsmInstruction → List AsmRow
main_rows start n is = LabelCall start n ∷ map Instruction is

-- `main:` is a call label
main_read : row_of (line_pieces (record { start = 0; text = bytes "main:" })) ≡ Some (LabelCall 0 4)
unfolding row_of line_pieces pieces_from filled_parts placed parts scan is_space label_row is_call_row is_word is_letter is_digit same
main_read = refl

-- a written source has that label and then the program's rows
written_read : {is : List BinaryInstruction} (hs : All ReadsAs is) → read_rows 0 (source_pieces (source_text is)) ≡ ok (main_rows 0 4 (rows_of hs))
unfolding placed
written_read {is} hs =
    ap (λ (ls : List (List ℕ)). read_rows 0 (row_pieces (placed 0 ls))) (lines_parted (bytes "main:") (map source_row is) (written_lines hs))
    ∙ line_read 0 (record { start = 0; text = bytes "main:" }) (placed 6 (map source_row is)) (LabelCall 0 4) (map Instruction (rows_of hs)) main_read (program_read 1 6 hs)

-- ---- one label and then instructions alone

-- the label's name
main_name : (ls : List (List ℕ)) → name_at (joined (bytes "main:" ∷ ls)) 0 4 ≡ bytes "main"
unfolding joined name_at
main_name [] = refl
main_name (l ∷ ls) = rw (le-leb 4 (length (bytes "main:" ++ 10 ∷ joined (l ∷ ls))) (omega arith))

-- instructions begin no scope
cut_none : (s : List ℕ) (is : List OlaAsmInstruction) → cut_at_calls s (map Instruction is) ≡ record { ahead = map Instruction is; scopes = [] }
unfolding cut_at_calls
cut_none s [] = refl
cut_none s (i ∷ is) = rw (cut_none s is)

-- have no label row
labels_none : (n : ℕ) (is : List OlaAsmInstruction) → label_rows n (map Instruction is) ≡ []
unfolding label_rows
labels_none n [] = refl
labels_none n (i ∷ is) = labels_none (suc n) is

-- and are the instructions of their rows
instructions_rows : (is : List OlaAsmInstruction) → instructions (map Instruction is) ≡ is
unfolding instructions
instructions_rows [] = refl
instructions_rows (i ∷ is) = ap (λ (l : List OlaAsmInstruction). i ∷ l) (instructions_rows is)

module _ (start n : ℕ) (is : List OlaAsmInstruction) where
  -- are one label row
  one_label : length (label_rows 0 (main_rows start n is)) ≡ 1
  unfolding label_rows
  one_label = rw (labels_none 0 is)

  -- and those instructions
  main_instructions : instructions (main_rows start n is) ≡ is
  unfolding instructions
  main_instructions = instructions_rows is

  module _ (s : List ℕ) (name : name_at s start n ≡ bytes "main") where
    -- where the label is main, one scope is
    one_main : main_count s (main_rows start n is) ≡ 1
    unfolding cut_at_calls scopes_that same
    one_main = rw (cut_none s is, name)

    -- and the rows are sorted as they stand
    main_sorted : sorted_rows s (main_rows start n is) ≡ main_rows start n is
    unfolding cut_at_calls scopes_that rows_of_scopes same
    main_sorted = rw (cut_none s is, name) (append-nil (main_rows start n is))

-- ---- refusals that do not come

-- 1 to 6
sorted_passed : (s : List ℕ) (rows : List AsmRow) → length s ≤ 65536 → first_above127 0 s ≡ None → read_rows 0 (source_pieces s) ≡ ok rows → is_empty rows ≡ false
    → main_count s rows ≡ 1 → sorted_of s ≡ ok (sorted_rows s rows)
unfolding sorted_of rows_read ◌>>=◌ ◌>>◌ refuse_if refuse_at
sorted_passed s rows a b c d e = rw (le-ltb 65536 (length s) a, b, c, d, e)

-- 7
tabled_passed : (s : List ℕ) (room : ℕ) (rows : List AsmRow) → sorted_of s ≡ ok rows → length (label_rows 0 rows) ≤ room → tabled s room ≡ ok rows
unfolding tabled ◌>>=◌ ◌>>◌ refuse_if
tabled_passed s room rows e h = rw (e, le-ltb room (length (label_rows 0 rows)) h)

-- 8 and 9, where no prophet is listed
hosts_none : (s : List ℕ) (rows : List AsmRow) (prophets : List ℕ) → listed_labels prophets ≡ ok [] → hosts_of s rows prophets ≡ ok []
unfolding hosts_of hosts_from ◌>>=◌
hosts_none s rows prophets e = rw e

-- 8 to 13 and 25
assembled_passed : (s prophets : List ℕ) (room : Room) (rows : List AsmRow) (is : List BinaryInstruction) → tabled s room.entries ≡ ok rows
    → hosts_of s rows prophets ≡ ok [] → canonical_program s rows ≡ ok is → first_misplaced 0 is ≡ None → length (program_words is) ≤ room.words
    → assembled s prophets room ≡ ok (record { labels = length (label_rows 0 rows); program = is; words = program_words is; hosts = [] })
unfolding assembled encoded_rows ◌>>=◌ ◌>>◌ refuse_if refuse_at
assembled_passed s prophets room rows is t h c m w =
    rw (t, h, c, m, le-ltb room.words (length (program_words is)) w, le-ltb room.hosts 0 (omega arith))

-- ---- the program

-- every row is made its instruction
program_canonical : (names : Names) (k : ℕ) {is : List BinaryInstruction} (hs : All ReadsAs is) → canonical_from names k (rows_of hs) ≡ ok is
unfolding rows_of canonical_from ◌>>=◌
program_canonical names k none_left = refl
program_canonical names k (one_more h hs) = rw (h.canonical names k, program_canonical names (suc k) hs)

-- none with a number in op0 or dst
program_placed : (k : ℕ) {is : List BinaryInstruction} → All ReadsAs is → first_misplaced k is ≡ None
unfolding first_misplaced
program_placed k none_left = refl
program_placed k (one_more h hs) = rw (h.aside, program_placed (suc k) hs)

-- the source text of instructions whose rows read back assembles to them, with no prophet listed and room for one label and their words
pub source_text_assembles : (is : List BinaryInstruction) → All ReadsAs is → length (source_text is) ≤ 65536
    → (prophets : List ℕ) → listed_labels prophets ≡ ok [] → (room : Room) → 1 ≤ room.entries → length (program_words is) ≤ room.words
    → assembled (source_text is) prophets room ≡ ok (record { labels = 1; program = is; words = program_words is; hosts = [] })
source_text_assembles is hs short prophets listed room entries words =
    let s : List ℕ = source_text is in
    let os : List OlaAsmInstruction = rows_of hs in
    let rows : List AsmRow = main_rows 0 4 os in
    let name : name_at s 0 4 ≡ bytes "main" = main_name (map source_row is) in
    let above : first_above127 0 s ≡ None = none_above 0 s (lines_ascii (bytes "main:" ∷ map source_row is) (written_lines hs)) in
    let sorted : sorted_of s ≡ ok rows = sorted_passed s rows short above (written_read hs) refl (one_main 0 4 os s name) ∙ ap ok (main_sorted 0 4 os s name) in
    let one : length (label_rows 0 rows) ≡ 1 = one_label 0 4 os in
    let canonical : canonical_program s rows ≡ ok is =
    ap (canonical_from (names_of s rows) 0) (main_instructions 0 4 os) ∙ program_canonical (names_of s rows) 0 hs in
    assembled_passed s prophets room rows is (tabled_passed s room.entries rows sorted (omega arith)) (hosts_none s rows prophets listed) canonical
    (program_placed 0 hs) words
    ∙ rw one
