-- The promises on the source of a bytecode, applied: to document 01's printing source, and to a bytecode whose first instruction is off its row.
use Rattle.std.specs.Prelude.{ℕ, ◌+◌, ◌*◌, ◌≤◌, ◌≡◌, refl, List, [], ◌∷◌, false, length, take, drop, replicate, Some, None}
use Rattle.std.proofs.Common.{sym, ◌∙◌, arith}
use Rattle.text.specs.Bytes.{bytes}
use Rattle.text.specs.Scan.{parts}
use Rattle.text.specs.Lines.{lines, ended}
use Rattle.text.specs.Answer.{ok, refused, ◌>>◌, refuse_if}
use Rattle.text.specs.All.{All}
use Rattle.text_write.specs.Digits.{digits_of, digit_count}
use Rattle.program.specs.Words.{program_words}
use Rattle.program.specs.Groups.{grouped}
use Rattle.program.specs.Bytecode.{lines_of_groups, joined, bytecode_of, within, text_left}
use Rattle.encoder.specs.Assemble.{Room, Accepted, assembled}
use Rattle.decoder.specs.Open.{opened}
use Rattle.source.specs.SourceText.{spaced_all, source_text, is_off_row, first_off_row, source_written}
use Rattle.promises.specs.Starred.{plenty, printing_source}
use Rattle.promises.proofs.SourcePromise.{no_prophets}
use Rattle.promises.proofs.Promises.{source_left, source_refused, first_off_row_lem, source_written_lem, source_fits, source_assembles, source_words_fit, source_reads_again, no_row_reads_so, source_of_accepted, source_same_words}
use Rattle.promises.proofs.Applied.{printing_program, printing_accepted, printing_accepted_lem, printing_opens}
use Rattle.promises.proofs.AppliedBytecode.{strange, strange_read, strange_opens}
use Rattle.std.proofs.lemmas.Option.{none-some}

-- ---- the printing source

abbrev printing_bytecode : List ℕ
printing_bytecode = bytecode_of printing_accepted.words

-- its program as a source: five lines
abbrev printing_text : List ℕ
printing_text = bytes "main:\nmov r1 18446744069414584320\ncall 5\nend\nret"

printing_lines : source_text printing_program ≡ printing_text
unfolding digits_of digit_count joined spaced_all
printing_lines = refl

-- none of its instructions is off its row,
printing_on_rows : All (λ i. is_off_row i ≡ false) printing_program
printing_on_rows = no_row_reads_so printing_source [] plenty printing_accepted printing_accepted_lem

printing_none : first_off_row 0 printing_program ≡ None
printing_none = (first_off_row_lem printing_bytecode printing_program printing_opens).1.1 printing_on_rows

-- so 26 never comes,
printing_no_26 : (room k : ℕ) → source_written printing_bytecode room ≡ refused 26 k → ⊥
printing_no_26 room k e = none-some k (sym printing_none ∙ (source_refused printing_bytecode printing_program printing_opens room k).0 e)

-- its 48 bytes are written into as many or more,
printing_written : (room : ℕ) → 48 ≤ room → source_written printing_bytecode room ≡ ok printing_text
unfolding digits_of digit_count joined spaced_all
printing_written room = source_written_lem printing_bytecode printing_program printing_opens room printing_none

-- and whatever is lent, the text or 23 is answered
printing_answer : (space : ℕ) → source_written printing_bytecode space ≡ within space printing_text
unfolding digits_of digit_count joined spaced_all
printing_answer = source_of_accepted printing_source [] plenty printing_accepted printing_accepted_lem

-- its bytecode has six lines: 131 bytes are enough
printing_fits : (length printing_text ≤ 5 + 21 * 6) × (length printing_text ≤ 2970976)
unfolding parts lines ended digits_of digit_count grouped lines_of_groups joined spaced_all
printing_fits = source_fits printing_bytecode printing_program printing_opens

-- a caller that lends 50 bytes holds the text and the other two,
abbrev printing_left : List ℕ
printing_left = text_left (source_written printing_bytecode 50) (replicate 50 7)

printing_left_lem : (take 48 printing_left ≡ printing_text) × (drop 48 printing_left ≡ 7 ∷ 7 ∷ [])
printing_left_lem = (source_left printing_bytecode (replicate 50 7)).0 printing_text (printing_written 50 (omega arith))

-- one that lends 47 holds what it lent
printing_short : source_written printing_bytecode 47 ≡ refused 23 0
unfolding ◌>>◌ refuse_if within
printing_short = printing_answer 47

printing_untouched : text_left (source_written printing_bytecode 47) (replicate 47 7) ≡ replicate 47 7
printing_untouched = (source_left printing_bytecode (replicate 47 7)).1 23 0 printing_short

-- one entry and six words
abbrev just_enough : Room
just_enough = record { entries = 1; words = 6; hosts = 0 }

abbrev printing_again : Accepted
printing_again = record { labels = 1; program = printing_program; words = printing_accepted.words; hosts = [] }

-- what was written assembles to the program that was read,
printing_assembles : assembled printing_text [] just_enough ≡ ok printing_again
unfolding program_words
printing_assembles =
    source_assembles printing_bytecode printing_program printing_opens 48 printing_text (printing_written 48 (omega arith)) (omega arith)
    [] no_prophets just_enough (omega arith) (omega arith)

-- and to the words of the source that they came from
printing_same : assembled printing_text [] just_enough ≡ ok printing_again
unfolding digits_of digit_count joined spaced_all
printing_same =
    source_same_words printing_source [] plenty printing_accepted printing_accepted_lem (omega arith)
    [] no_prophets just_enough (omega arith) (omega arith)

-- these six words are no more than the six lines of the bytecode,
printing_words_fit : length printing_accepted.words ≤ 6
unfolding parts lines ended digits_of digit_count program_words grouped lines_of_groups joined
printing_words_fit = source_words_fit printing_bytecode printing_program printing_opens

-- and their bytecode opens to the program again
printing_again_lem : opened (bytecode_of printing_again.words) ≡ ok printing_program
unfolding program_words
printing_again_lem = source_reads_again printing_bytecode printing_program printing_opens 48 printing_text (printing_written 48 (omega arith)) (omega arith)

-- ---- a ret with r1 in dst

strange_first : first_off_row 0 strange_read ≡ Some 0
strange_first = ((first_off_row_lem strange strange_read strange_opens).0 0).1 (_, refl, refl, λ j l b g. absurd (omega arith))

-- 26 comes, with its index, whatever is lent
strange_26 : (room : ℕ) → source_written strange room ≡ refused 26 0
strange_26 room = (source_refused strange strange_read strange_opens room 0).1 strange_first
