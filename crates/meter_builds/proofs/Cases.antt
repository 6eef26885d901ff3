-- What is left in everything lent, by computation: after acceptance, after a refusal behind 7, and after 7, which goes by the shortest column. Expected values:
-- document 01.
use Prim.Native.Nat.{ℕ}
use mathlib.Core.Path.{◌≡◌, refl}
use mathlib.Core.List.{List, [], ◌∷◌, map}
use mathlib.Core.Bool.{Bool, true, false}
use Rattle.text.specs.Bytes.{bytes, is_space, is_digit, is_letter, is_word, same}
use Rattle.text.specs.Lists.{total}
use Rattle.text.specs.Scan.{scan, all, parts}
use Rattle.text.specs.Answer.{◌>>=◌, ◌>>◌, refuse_if, refuse_at, on_ok}
use Rattle.text_read.specs.Numerals.{digit_value, value_from, numeral}
use Rattle.vm_opcodes.specs.Operations.{operations, first_operation}
use Rattle.vm_hardware.specs.Registers.{registers, register_of, special_of}
use Rattle.vm_operands.specs.Numbers.{signed, number_of}
use Rattle.asm.specs.Parts.{placed, filled_parts, pieces_from, line_pieces, row_pieces, name_at}
use Rattle.asm.specs.Operands.{is_source_number, source_number, shapes, first_match}
use Rattle.asm.specs.Rows.{arranged, operands_of, arranged_if, is_call_row, is_pair_row, label_row, row_of, instructions, read_rows}
use Rattle.relocate.specs.Scopes.{cut_at_calls, scopes_that, rows_of_scopes}
use Rattle.relocate.specs.Labels.{label_rows, holder}
use Rattle.relocate.specs.Prophets.{without_last_empty, labels_after_head, listed_labels, hosts_from}
use Rattle.relocate.specs.Relocate.{first_above127, rows_read, sorted_of, tabled, hosts_of}
use Rattle.program.specs.Words.{program_words}
use Rattle.encoder.specs.Canonical.{general, memory, canonical_by, canonical_from, first_misplaced}
use Rattle.encoder.specs.Assemble.{encoded_rows, assembled}
use Rattle.meter_builds.specs.Lent.{Lent, lent_left}

-- five columns, words and hosts
abbrev lent : List ℕ → List Bool → List ℕ → List ℕ → List ℕ → List ℕ → List ℕ → Lent
lent kinds mapped starts lengths addresses words hosts = record {
  table = record { kinds = kinds; mapped = mapped; starts = starts; lengths = lengths; addresses = addresses };
  words = words;
  hosts = hosts;
}

-- as a caller left them, with two entries in all columns but the last, and one host
abbrev fresh : List ℕ → List ℕ → Lent
fresh addresses words = lent (9 ∷ 9 ∷ []) (false ∷ false ∷ []) (9 ∷ 9 ∷ []) (9 ∷ 9 ∷ []) addresses words (9 ∷ [])

-- the same with the row of main in the first entry
abbrev filled : List ℕ → Lent
filled words = lent (0 ∷ 9 ∷ []) (true ∷ false ∷ []) (0 ∷ 9 ∷ []) (4 ∷ 9 ∷ []) (0 ∷ 9 ∷ []) words (9 ∷ [])

-- what is lent for `main:`, `jmp 5`, and what it holds afterwards
abbrev cases : List (Lent × Lent)
cases =
    (fresh (9 ∷ 9 ∷ []) (9 ∷ 9 ∷ 9 ∷ []), filled (0x4000000004000000 ∷ 5 ∷ 9 ∷ []))
    -- 13: one word entry of two
    ∷ (fresh (9 ∷ 9 ∷ []) (9 ∷ []), filled (9 ∷ []))
    -- 7: one column has no entry
    ∷ (fresh [] (9 ∷ 9 ∷ 9 ∷ []), fresh [] (9 ∷ 9 ∷ 9 ∷ []))
    ∷ []

pub left_right : map (λ c. lent_left (bytes "main:\njmp 5") [] c.0) cases ≡ map (λ c. c.1) cases
unfolding is_space is_digit is_letter is_word same total scan all parts ◌>>=◌ ◌>>◌ refuse_if refuse_at on_ok digit_value value_from numeral operations first_operation registers register_of special_of signed number_of placed filled_parts pieces_from line_pieces row_pieces is_source_number source_number shapes first_match arranged operands_of arranged_if is_call_row is_pair_row label_row row_of name_at cut_at_calls scopes_that rows_of_scopes instructions label_rows holder without_last_empty labels_after_head listed_labels hosts_from first_above127 read_rows rows_read sorted_of tabled hosts_of program_words general memory canonical_by canonical_from first_misplaced encoded_rows assembled
left_right = refl
