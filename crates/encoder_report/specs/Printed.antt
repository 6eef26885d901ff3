-- What printing a report answers, and what it leaves in the text that it was lent.
use Rattle.std.specs.Prelude.{ℕ, List, ◌++◌, cond, ltb, length, Result, Ok, Err}
use Rattle.text.specs.Bytes.{bytes}
use Rattle.text.specs.Answer.{Answer, ok, refused, over}
use Rattle.program.specs.Bytecode.{word_lines}
use Rattle.program.specs.declared.WriteRefusal.{WriteRefusal}
use Rattle.program.specs.declared.WriteRefusal.TheVariants.{TextTooShort}
use Rattle.encoder.specs.Printing.{two_fields, numbered_lines}

-- the count of bytes, or "23 the lent text is too short"
abbrev pub printed_numbered : Result ℕ WriteRefusal → Answer ℕ
printed_numbered (Ok n) = ok n
printed_numbered (Err TextTooShort) = refused 23 0

-- the answer for a report and a text of so many bytes
unfoldable pub printed_count : ℕ → List ℕ → Answer ℕ
printed_count room report = cond (ltb room (length report)) (refused 23 0) (ok (length report))

-- the text with the report from its start on, where there is room for it; otherwise the text untouched
unfoldable pub printed_into : List ℕ → List ℕ → List ℕ
printed_into report text = cond (ltb (length text) (length report)) text (over report text)

-- what is reported of an accepted source with these words
abbrev pub reported_words : List ℕ → List ℕ
reported_words words = two_fields (bytes "address") (bytes "word") ++ numbered_lines 0 (word_lines words)
