-- What reviewers infer, applied to pairs of sources: those that are one contract, and those that are two.
use Rattle.std.specs.Prelude.{ℕ, ◌≡◌, refl, List, [], ◌∷◌, get_or}
use Rattle.std.proofs.Common.{ap, arith}
use Rattle.text.specs.Bytes.{bytes, is_space, is_digit, is_letter, is_word, same}
use Rattle.text.specs.Lists.{total}
use Rattle.text.specs.Scan.{scan, all, parts}
use Rattle.text.specs.Answer.{ok, ◌>>=◌, ◌>>◌, refuse_if, refuse_at}
use Rattle.text_read.specs.Numerals.{digit_value, value_from, numeral}
use Rattle.text_write.specs.Digits.{digits_of, digit_count}
use Rattle.vm_opcodes.specs.Operations.{operations, first_operation}
use Rattle.vm_opcodes.specs.declared.OlaOpcode.TheVariants.{MOV, CALL, RET}
use Rattle.vm_hardware.specs.Registers.{registers, register_of, special_of}
use Rattle.vm_hardware.specs.declared.OlaRegister.{OlaRegister}
use Rattle.vm_hardware.specs.declared.OlaRegister.TheVariants.{R1, R2}
use Rattle.vm_operands.specs.Numbers.{signed, number_of}
use Rattle.vm_operands.specs.declared.OlaOperand.TheVariants.{Empty, RegisterOperand}
use Rattle.asm.specs.Parts.{placed, filled_parts, pieces_from, line_pieces, row_pieces, name_at}
use Rattle.asm.specs.Operands.{is_source_number, source_number, shapes, first_match}
use Rattle.asm.specs.Rows.{arranged, operands_of, arranged_if, is_call_row, is_pair_row, label_row, row_of, instructions, read_rows}
use Rattle.relocate.specs.Scopes.{cut_at_calls, scopes_that, rows_of_scopes}
use Rattle.relocate.specs.Labels.{label_rows, holder}
use Rattle.relocate.specs.Prophets.{without_last_empty, labels_after_head, listed_labels, hosts_from}
use Rattle.relocate.specs.Relocate.{first_above127, rows_read, sorted_of, tabled, hosts_of}
use Rattle.program.specs.Instructions.{made, a_number}
use Rattle.program.specs.Words.{program_words}
use Rattle.program.specs.Groups.{grouped}
use Rattle.program.specs.Bytecode.{lines_of_groups, joined, bytecode_of}
use Rattle.encoder.specs.Canonical.{general, memory, canonical_by, canonical_from, first_misplaced}
use Rattle.encoder.specs.Assemble.{Accepted, encoded_rows, assembled}
use Rattle.promises.specs.Terms.{SameProgram}
use Rattle.promises.specs.Starred.{plenty}
use Rattle.promises.proofs.Promises.{same_words, same_bytecode}

-- ---- one contract and two

-- two sources that are accepted, and what is published of the words of each: the words themselves, or their bytecode
record Reviewed (published : List ℕ → List ℕ) (s t text other : List ℕ) : Type 0 where
  first : Accepted
  second : Accepted
  first_accepted : assembled s [] plenty ≡ ok first
  second_accepted : assembled t [] plenty ≡ ok second
  first_published : published first.words ≡ text
  second_published : published second.words ≡ other

abbrev as_words : List ℕ → List ℕ
as_words ws = ws

-- two that are accepted, with what is published of them
abbrev reviewed : (published : List ℕ → List ℕ) {s t : List ℕ} {a b : Accepted} → assembled s [] plenty ≡ ok a → assembled t [] plenty ≡ ok b
    → Reviewed published s t (published a.words) (published b.words)
reviewed published {a = a} {b = b} e f =
    record { first = a; second = b; first_accepted = e; second_accepted = f; first_published = refl; second_published = refl }

-- the same is published, and they are one canonical program
abbrev OneContract : (List ℕ → List ℕ) → List ℕ → List ℕ → List ℕ → Type 0
OneContract published s t text = (r : Reviewed published s t text text) × SameProgram r.first.program r.second.program

-- something else is published, and they are not
abbrev TwoContracts : (List ℕ → List ℕ) → List ℕ → List ℕ → List ℕ → List ℕ → Type 0
TwoContracts published s t text other =
    (text ≡ other → ⊥) × (r : Reviewed published s t text other) × (SameProgram r.first.program r.second.program → ⊥)

abbrev mov_accepted : OlaRegister → ℕ → Accepted
mov_accepted r w = record { labels = 1; program = made MOV Empty Empty (RegisterOperand r) ∷ []; words = w ∷ []; hosts = [] }

abbrev pc_accepted : Accepted
pc_accepted = mov_accepted R1 0x0000000208000000

abbrev other_accepted : Accepted
other_accepted = mov_accepted R2 0x0000000408000000

abbrev mov_pc : List ℕ
mov_pc = bytes "main:\nmov r1 pc"

abbrev mov_psp : List ℕ
mov_psp = bytes "main:\nmov r1 psp"

abbrev mov_other : List ℕ
mov_other = bytes "main:\nmov r2 pc"

pc_accepted_lem : assembled mov_pc [] plenty ≡ ok pc_accepted
unfolding is_space is_digit is_letter is_word same total scan all parts ◌>>=◌ ◌>>◌ refuse_if refuse_at digit_value value_from numeral operations first_operation registers register_of special_of signed number_of placed filled_parts pieces_from line_pieces row_pieces is_source_number source_number shapes first_match arranged operands_of arranged_if is_call_row is_pair_row label_row row_of name_at cut_at_calls scopes_that rows_of_scopes instructions label_rows holder without_last_empty labels_after_head listed_labels hosts_from first_above127 read_rows rows_read sorted_of tabled hosts_of program_words general memory canonical_by canonical_from first_misplaced encoded_rows assembled
pc_accepted_lem = refl

psp_accepted : assembled mov_psp [] plenty ≡ ok pc_accepted
unfolding is_space is_digit is_letter is_word same total scan all parts ◌>>=◌ ◌>>◌ refuse_if refuse_at digit_value value_from numeral operations first_operation registers register_of special_of signed number_of placed filled_parts pieces_from line_pieces row_pieces is_source_number source_number shapes first_match arranged operands_of arranged_if is_call_row is_pair_row label_row row_of name_at cut_at_calls scopes_that rows_of_scopes instructions label_rows holder without_last_empty labels_after_head listed_labels hosts_from first_above127 read_rows rows_read sorted_of tabled hosts_of program_words general memory canonical_by canonical_from first_misplaced encoded_rows assembled
psp_accepted = refl

other_accepted_lem : assembled mov_other [] plenty ≡ ok other_accepted
unfolding is_space is_digit is_letter is_word same total scan all parts ◌>>=◌ ◌>>◌ refuse_if refuse_at digit_value value_from numeral operations first_operation registers register_of special_of signed number_of placed filled_parts pieces_from line_pieces row_pieces is_source_number source_number shapes first_match arranged operands_of arranged_if is_call_row is_pair_row label_row row_of name_at cut_at_calls scopes_that rows_of_scopes instructions label_rows holder without_last_empty labels_after_head listed_labels hosts_from first_above127 read_rows rows_read sorted_of tabled hosts_of program_words general memory canonical_by canonical_from first_misplaced encoded_rows assembled
other_accepted_lem = refl

-- `mov r1 pc` and `mov r1 psp` have one word, so they are one contract,
pc_is_psp : OneContract as_words mov_pc mov_psp (0x0000000208000000 ∷ [])
pc_is_psp = (reviewed as_words pc_accepted_lem psp_accepted, (same_words mov_pc mov_psp [] [] plenty plenty pc_accepted pc_accepted pc_accepted_lem psp_accepted).0 refl)

-- and one text of bytecode
pc_is_psp_bytecode : OneContract bytecode_of mov_pc mov_psp (bytes "0x0000000208000000")
unfolding grouped lines_of_groups joined digits_of digit_count
pc_is_psp_bytecode = (reviewed bytecode_of pc_accepted_lem psp_accepted, (same_bytecode mov_pc mov_psp [] [] plenty plenty pc_accepted pc_accepted pc_accepted_lem psp_accepted).0 refl)

-- `mov r1 pc` and `mov r2 pc` have different words, so they are two,
pc_is_not_other : TwoContracts as_words mov_pc mov_other (0x0000000208000000 ∷ []) (0x0000000408000000 ∷ [])
pc_is_not_other = (
  differ,
  reviewed as_words pc_accepted_lem other_accepted_lem,
  λ e. differ ((same_words mov_pc mov_other [] [] plenty plenty pc_accepted other_accepted pc_accepted_lem other_accepted_lem).1 e),
)
  where
    differ : pc_accepted.words ≡ other_accepted.words → ⊥
    differ e = omega (arith, ap (λ (ws : List ℕ). get_or ws 0 0) e)

-- and different texts of bytecode
pc_is_not_other_bytecode : TwoContracts bytecode_of mov_pc mov_other (bytes "0x0000000208000000") (bytes "0x0000000408000000")
unfolding grouped lines_of_groups joined digits_of digit_count
pc_is_not_other_bytecode = (
  differ,
  reviewed bytecode_of pc_accepted_lem other_accepted_lem,
  λ e. differ ((same_bytecode mov_pc mov_other [] [] plenty plenty pc_accepted other_accepted pc_accepted_lem other_accepted_lem).1 e),
)
  where
    differ : bytes "0x0000000208000000" ≡ bytes "0x0000000408000000" → ⊥
    differ e = omega (arith, ap (λ (text : List ℕ). get_or text 9 0) e)

-- ---- a name that looks like a label

-- document 02, Point 2: `xLBL1_2` is a name like any other
abbrev call_like : List ℕ
call_like = bytes "main:\ncall xLBL1_2\nxLBL1_2:\nret"

abbrev call_plain : List ℕ
call_plain = bytes "main:\ncall f\nf:\nret"

abbrev call_accepted : Accepted
call_accepted = record {
  labels = 2;
  program = made CALL Empty (a_number 2) Empty ∷ made RET Empty Empty Empty ∷ [];
  words = 0x4000000001000000 ∷ 2 ∷ 0x0000000000800000 ∷ [];
  hosts = [];
}

like_accepted : assembled call_like [] plenty ≡ ok call_accepted
unfolding is_space is_digit is_letter is_word same total scan all parts ◌>>=◌ ◌>>◌ refuse_if refuse_at digit_value value_from numeral operations first_operation registers register_of special_of signed number_of placed filled_parts pieces_from line_pieces row_pieces is_source_number source_number shapes first_match arranged operands_of arranged_if is_call_row is_pair_row label_row row_of name_at cut_at_calls scopes_that rows_of_scopes instructions label_rows holder without_last_empty labels_after_head listed_labels hosts_from first_above127 read_rows rows_read sorted_of tabled hosts_of program_words general memory canonical_by canonical_from first_misplaced encoded_rows assembled
like_accepted = refl

plain_accepted : assembled call_plain [] plenty ≡ ok call_accepted
unfolding is_space is_digit is_letter is_word same total scan all parts ◌>>=◌ ◌>>◌ refuse_if refuse_at digit_value value_from numeral operations first_operation registers register_of special_of signed number_of placed filled_parts pieces_from line_pieces row_pieces is_source_number source_number shapes first_match arranged operands_of arranged_if is_call_row is_pair_row label_row row_of name_at cut_at_calls scopes_that rows_of_scopes instructions label_rows holder without_last_empty labels_after_head listed_labels hosts_from first_above127 read_rows rows_read sorted_of tabled hosts_of program_words general memory canonical_by canonical_from first_misplaced encoded_rows assembled
plain_accepted = refl

-- so calling by it and calling by `f` are one contract,
like_is_plain : OneContract as_words call_like call_plain (0x4000000001000000 ∷ 2 ∷ 0x0000000000800000 ∷ [])
like_is_plain = (
  reviewed as_words like_accepted plain_accepted,
  (same_words call_like call_plain [] [] plenty plenty call_accepted call_accepted like_accepted plain_accepted).0 refl,
)

-- and one text of bytecode
like_is_plain_bytecode : OneContract bytecode_of call_like call_plain (bytes "0x4000000001000000\n0x2\n0x0000000000800000")
unfolding grouped lines_of_groups joined digits_of digit_count
like_is_plain_bytecode = (
  reviewed bytecode_of like_accepted plain_accepted,
  (same_bytecode call_like call_plain [] [] plenty plenty call_accepted call_accepted like_accepted plain_accepted).0 refl,
)

-- ---- a number in either spelling

-- document 02, Point 4: "`0x` and one to sixteen hexadecimal digits" where decimal n stood
abbrev mov_hexadecimal : List ℕ
mov_hexadecimal = bytes "main:\nmov r1 0xaBcD"

abbrev mov_decimal : List ℕ
mov_decimal = bytes "main:\nmov r1 43981"

abbrev number_accepted : Accepted
number_accepted = record { labels = 1; program = made MOV Empty (a_number 43981) (RegisterOperand R1) ∷ []; words = 0x4000000208000000 ∷ 0xabcd ∷ []; hosts = [] }

hexadecimal_accepted : assembled mov_hexadecimal [] plenty ≡ ok number_accepted
unfolding is_space is_digit is_letter is_word same total scan all parts ◌>>=◌ ◌>>◌ refuse_if refuse_at digit_value value_from numeral operations first_operation registers register_of special_of signed number_of placed filled_parts pieces_from line_pieces row_pieces is_source_number source_number shapes first_match arranged operands_of arranged_if is_call_row is_pair_row label_row row_of name_at cut_at_calls scopes_that rows_of_scopes instructions label_rows holder without_last_empty labels_after_head listed_labels hosts_from first_above127 read_rows rows_read sorted_of tabled hosts_of program_words general memory canonical_by canonical_from first_misplaced encoded_rows assembled
hexadecimal_accepted = refl

decimal_accepted : assembled mov_decimal [] plenty ≡ ok number_accepted
unfolding is_space is_digit is_letter is_word same total scan all parts ◌>>=◌ ◌>>◌ refuse_if refuse_at digit_value value_from numeral operations first_operation registers register_of special_of signed number_of placed filled_parts pieces_from line_pieces row_pieces is_source_number source_number shapes first_match arranged operands_of arranged_if is_call_row is_pair_row label_row row_of name_at cut_at_calls scopes_that rows_of_scopes instructions label_rows holder without_last_empty labels_after_head listed_labels hosts_from first_above127 read_rows rows_read sorted_of tabled hosts_of program_words general memory canonical_by canonical_from first_misplaced encoded_rows assembled
decimal_accepted = refl

-- so a constant pasted from the chain and the same in decimal are one contract
hexadecimal_is_decimal : OneContract as_words mov_hexadecimal mov_decimal (0x4000000208000000 ∷ 0xabcd ∷ [])
hexadecimal_is_decimal = (
  reviewed as_words hexadecimal_accepted decimal_accepted,
  (same_words mov_hexadecimal mov_decimal [] [] plenty plenty number_accepted number_accepted hexadecimal_accepted decimal_accepted).0 refl,
)
