-- Surveys that separate likely misreadings, by computation: blank lines, comments, brackets that take a counted word and no emitted one,
-- two mains, whitespace before a label. Expected values are counted by hand from document 01, and the words from document 02, point 1.
use Rattle.std.specs.Prelude.{Some, None}
use mathlib.Core.Path.{◌≡◌, refl}
use mathlib.Core.List.{List, [], ◌∷◌, map}
use Prim.Native.Nat.{ℕ}
use Rattle.text.specs.Bytes.{bytes, is_space, is_digit, is_letter, is_word, same}
use Rattle.text.specs.Lists.{total}
use Rattle.text.specs.Scan.{scan, all, parts}
use Rattle.text.specs.Answer.{Answer, ok, refused, ◌>>=◌}
use Rattle.text_read.specs.Numerals.{digit_value, value_from, numeral}
use Rattle.vm_opcodes.specs.Operations.{operations, first_operation}
use Rattle.vm_hardware.specs.Registers.{registers, register_of, special_of}
use Rattle.vm_operands.specs.Numbers.{signed, number_of}
use Rattle.asm.specs.Parts.{placed, filled_parts, pieces_from, line_pieces, row_pieces, name_at}
use Rattle.asm.specs.Operands.{is_source_number, source_number, shapes, first_match}
use Rattle.asm.specs.Rows.{arranged, operands_of, arranged_if, is_call_row, is_pair_row, label_row, row_of, read_rows, instructions}
use Rattle.asm.specs.Survey.{count_rows, first_call, main_start, main_end, survey_from, survey_of, joined_surveys, moved_survey}
use Rattle.asm.specs.declared.Tally.{Tally}

cases : List (List ℕ × Answer Tally)
cases =
    (bytes "", ok (record { rows = 0; labels = 0; instructions = 0; mains = 0; counted = 0; words = 0; call = None; main = None; end = None }))
    ∷ (
      bytes "f:\nret\n\n; c\nmain:\nmov r1 -1\ncall f\n.PROPHET0_0:\nend",
      ok (record { rows = 7; labels = 3; instructions = 4; mains = 1; counted = 6; words = 6; call = Some 0; main = Some 12; end = None }),
    )
    ∷ (
      bytes "main:\nmload r1 [r2,r3]\nmov r1 [r2]\nmstore [r2,5] r1\nadd r1 5 r2\ng:\nmain:",
      ok (record { rows = 7; labels = 3; instructions = 4; mains = 2; counted = 8; words = 6; call = Some 0; main = Some 0; end = Some 64 }),
    )
    ∷ (bytes ".LBL1_1:\n\tmain:\r\n end ;x\n", ok (record { rows = 3; labels = 2; instructions = 1; mains = 1; counted = 1; words = 1; call = Some 10; main = Some 10; end = None }))
    ∷ (bytes "Main:\nmain:\n f:", ok (record { rows = 3; labels = 3; instructions = 0; mains = 1; counted = 0; words = 0; call = Some 0; main = Some 6; end = Some 13 }))
    ∷ (bytes "\nmain:\n\n bad x\nworse", refused 3 1)
    ∷ (bytes "main :", refused 3 0)
    ∷ []

-- each text has the survey that it should have
surveys_right : map (λ c. survey_of c.0) cases ≡ map (λ c. c.1) cases
unfolding cases is_space is_digit is_letter is_word same total scan all parts ◌>>=◌ digit_value value_from numeral operations first_operation registers register_of special_of signed number_of placed filled_parts pieces_from line_pieces row_pieces name_at is_source_number source_number shapes first_match arranged operands_of arranged_if is_call_row is_pair_row label_row row_of read_rows instructions count_rows first_call main_start main_end survey_from
surveys_right = refl

-- main's scope that runs on into the second text ends at its first call label; an unreadable row of the second is counted after the first's
ends_later : joined_surveys (survey_of (bytes "main:\nend")) (moved_survey 10 (survey_of (bytes "end\nf:"))) ≡ ok (record { rows = 4; labels = 2; instructions = 2; mains = 1; counted = 2; words = 2; call = Some 0; main = Some 0; end = Some 14 })
unfolding is_space is_digit is_letter is_word same total scan all parts ◌>>=◌ operations first_operation registers register_of special_of placed filled_parts pieces_from line_pieces row_pieces name_at arranged operands_of arranged_if is_call_row is_pair_row label_row row_of read_rows instructions count_rows first_call main_start main_end survey_from joined_surveys
ends_later = refl

unreadable_later : joined_surveys (survey_of (bytes "main:\nend")) (moved_survey 10 (survey_of (bytes "end\n\n5"))) ≡ refused 3 3
unfolding is_space is_digit is_letter is_word same total scan all parts ◌>>=◌ operations first_operation registers register_of special_of placed filled_parts pieces_from line_pieces row_pieces name_at arranged operands_of arranged_if is_call_row is_pair_row label_row row_of read_rows instructions count_rows first_call main_start main_end survey_from joined_surveys
unreadable_later = refl
