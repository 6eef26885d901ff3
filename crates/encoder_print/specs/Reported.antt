-- What is reported of what assembling answered.
use Rattle.std.specs.Prelude.{ℕ, List, take, Result, Ok, Err}
use Rattle.text.specs.Answer.{refused}
use Rattle.encoder.specs.Assemble.{assemble_number, assemble_detail}
use Rattle.encoder.specs.Printing.{reported}
use Rattle.encoder_report.specs.Printed.{reported_words}
use Rattle.encoder.specs.declared.AssembleRefusal.{AssembleRefusal}
use Rattle.encoder.specs.declared.Totals.{Totals}

-- how many words assembling wrote
abbrev pub word_count : Result Totals AssembleRefusal → ℕ
word_count (Err refusal) = 0
word_count (Ok totals) = totals.words

-- what is reported of an answer, where these are the words that assembling left
abbrev pub reported_assembly : Result Totals AssembleRefusal → List ℕ → List ℕ
reported_assembly (Err refusal) words = reported (refused (assemble_number refusal) (assemble_detail refusal))
reported_assembly (Ok totals) words = reported_words (take totals.words words)
