-- Document 01's cases, starred and of "Rows and their words" and "Numbers", as one table against the definitions.
use Rattle.std.specs.Prelude.{ℕ, ◌-◌, ◌≡◌, refl, List, [], ◌∷◌, ◌++◌, map, length, take, replicate, Option, Some, None}
use Rattle.text.specs.Bytes.{bytes, is_space, is_digit, is_letter, is_word, same}
use Rattle.text.specs.Lists.{total}
use Rattle.text.specs.Scan.{scan, all, parts}
use Rattle.text.specs.Lines.{lines, ended}
use Rattle.text.specs.Answer.{Answer, ok, refused, ◌>>=◌, ◌>>◌, refuse_if, refuse_at}
use Rattle.text_read.specs.Numerals.{digit_value, value_from, numeral, unprefixed, hexadecimal}
use Rattle.text_write.specs.Digits.{digits_of, digit_count}
use Rattle.vm_opcodes.specs.Operations.{operations, first_operation}
use Rattle.vm_opcodes.specs.declared.OlaOpcode.TheVariants.{CALL, RET}
use Rattle.vm_hardware.specs.Registers.{registers, first_register, register_of, special_of}
use Rattle.vm_hardware.specs.declared.OlaRegister.TheVariants.{R1}
use Rattle.vm_operands.specs.Numbers.{immediate, signed, number_of}
use Rattle.vm_operands.specs.declared.OlaOperand.TheVariants.{Empty, RegisterOperand}
use Rattle.asm.specs.Parts.{placed, filled_parts, pieces_from, line_pieces, row_pieces, name_at}
use Rattle.asm.specs.Operands.{is_source_number, source_number, shapes, first_match}
use Rattle.asm.specs.Rows.{arranged, operands_of, arranged_if, is_call_row, is_pair_row, label_row, row_of, instructions, read_rows}
use Rattle.relocate.specs.Scopes.{cut_at_calls, scopes_that, rows_of_scopes}
use Rattle.relocate.specs.Labels.{label_rows, holder}
use Rattle.relocate.specs.Prophets.{without_last_empty, labels_after_head, listed_labels, hosts_from, is_in, kept_from}
use Rattle.relocate.specs.Relocate.{first_above127, rows_read, sorted_of, tabled, hosts_of}
use Rattle.program.specs.Instructions.{made, a_number}
use Rattle.program.specs.Words.{program_words}
use Rattle.program.specs.Groups.{grouped}
use Rattle.program.specs.Bytecode.{lines_of_groups, joined}
use Rattle.program.specs.declared.BinaryInstruction.{BinaryInstruction}
use Rattle.encoder.specs.Canonical.{general, memory, canonical_by, canonical_from, first_misplaced}
use Rattle.encoder.specs.Assemble.{Room, Accepted, encoded_rows, assembled}
use Rattle.encoder.specs.Printing.{numbered_lines, printing}
use Rattle.decoder.specs.Lines.{complete_of, first_unreadable}
use Rattle.decoder.specs.Decode.{memory_built, built_with, on_number, on_operation, on_first}
use Rattle.decoder.specs.Open.{all_decoded, opened, run}
use Rattle.decoder.proofs.OpenedLaws.{opened_run}
use Rattle.vm_operands.specs.declared.ImmediateValue.{ImmediateValue}

-- buffers long enough
abbrev pub plenty : Room
plenty = record { entries = 1000; words = 1000; hosts = 1000 }

-- a case of document 01
pub data Case : Type 0 where
  -- a text and the number that it is
  number : List ℕ → Option ImmediateValue → Case
  -- a source and its words
  words : List ℕ → List ℕ → Case
  -- a source, a prophet list, and each prophet's host
  hosts : List ℕ → List ℕ → List ℕ → Case
  -- a source, and the number and detail of its refusal
  refusal : List ℕ → ℕ → ℕ → Case
  -- a source and what the printing program prints
  prints : List ℕ → List ℕ → Case
  -- a bytecode and its instructions, opened and by a run of calls
  reads : List ℕ → List BinaryInstruction → Case

abbrev words_ok : Answer Accepted → Answer (List ℕ)
words_ok (ok a) = ok a.words
words_ok (refused n d) = refused n d

abbrev hosts_ok : Answer Accepted → Answer (List ℕ)
hosts_ok (ok a) = ok a.hosts
hosts_ok (refused n d) = refused n d

-- what a case says
abbrev pub says : Case → Type 0
says (number s n) = number_of s ≡ n
says (words s ws) = words_ok (assembled s [] plenty) ≡ ok ws
says (hosts s list hs) = hosts_ok (assembled s list plenty) ≡ ok hs
says (refusal s n d) = words_ok (assembled s [] plenty) ≡ refused n d
says (prints s t) = printing s ≡ t
says (reads s is) = (opened s ≡ ok is) × ((k : ℕ) → run k s 0 ≡ map ok (take k is) ++ replicate (k - length is) (refused 20 0))

abbrev pub AllSay : List Case → Type 0
AllSay [] = Unit {0}
AllSay (c ∷ cs) = says c × AllSay cs

-- the source of "The printing program"
abbrev pub printing_source : List ℕ
printing_source = bytes "f:\nret\nmain:\nmov r1 -1\ncall f\n.PROPHET0_0:\nend"

-- the starred cases, then the others of "Numbers" and "Rows and their words"
abbrev pub cases : List Case
cases =
    number (bytes "18446744069414584320") (Some (immediate 18446744069414584320))
    ∷ number (bytes "18446744069414584321") None
    ∷ number (bytes "-18446744069414584320") (Some (immediate 1))
    ∷ prints printing_source (bytes "address word\n0 0x4000000208000000\n1 0xffffffff00000000\n2 0x4000000001000000\n3 0x5\n4 0x0000000000100000\n5 0x0000000000800000\n")
    ∷ hosts printing_source (bytes "label\n.PROPHET0_0") (2 ∷ [])
    ∷ words (bytes "main:\nmov r1 pc") (0x0000000208000000 ∷ [])
    ∷ words (bytes "main:\nmov r1 psp") (0x0000000208000000 ∷ [])
    ∷ words (bytes "main:\nmload r1 [r2]") (0x4040000200400000 ∷ 0x0 ∷ [])
    ∷ words (bytes "main:\nmload r1 [r2,r3]") (0x0040200200400000 ∷ 0x1 ∷ [])
    -- 02, Point 6: "01's case with `mov r1 [r2]` becomes a refusal"
    ∷ refusal (bytes "main:\nmov r1 [r2]\n.LBL1_1:\njmp .LBL1_1") 25 0
    ∷ reads (bytes "0x4000000001000000\n10") (made CALL Empty (a_number 10) Empty ∷ [])
    ∷ reads (bytes "0x4000000001000000") []
    ∷ reads (bytes "0x0000000600800000") (made RET Empty Empty (RegisterOperand R1) ∷ [])
    ∷ words (bytes "main:") []
    -- not starred
    ∷ number (bytes "-0") (Some (immediate 0))
    ∷ number (bytes "-170141183460469231731687303715884105728") None
    ∷ refusal [] 4 0
    ∷ refusal (bytes "main:\nadd r1 5 r2\ncall g") 10 1
    ∷ refusal (bytes "main:\n\n ; nothing\nend\nload r1") 3 2
    ∷ []

-- the opening computes, and the run follows from it
reading : (s : List ℕ) (is : List BinaryInstruction) → opened s ≡ ok is → says (reads s is)
reading s is e = (e, opened_run s is e)

pub cases_hold : AllSay cases
unfolding is_space is_digit is_letter is_word same scan all parts lines ended ◌>>=◌ ◌>>◌ refuse_if refuse_at digit_value value_from numeral unprefixed hexadecimal digits_of digit_count operations first_operation registers first_register register_of special_of signed number_of placed filled_parts pieces_from line_pieces row_pieces is_source_number source_number shapes first_match arranged operands_of arranged_if is_call_row is_pair_row label_row row_of name_at cut_at_calls scopes_that rows_of_scopes instructions label_rows total holder without_last_empty labels_after_head listed_labels hosts_from is_in kept_from first_above127 read_rows rows_read sorted_of tabled hosts_of program_words grouped lines_of_groups joined general memory canonical_by canonical_from first_misplaced encoded_rows assembled numbered_lines printing complete_of first_unreadable memory_built built_with on_number on_operation on_first all_decoded opened
cases_hold = (refl, (refl, (refl, (refl, (refl, (refl, (refl, (refl, (refl, (refl, (reading _ _ refl, (reading _ _ refl, (reading _ _ refl, (refl, (refl, (refl, (refl, (refl, (refl, (tt))))))))))))))))))))
