-- What opening a text and two calls of next answer.
use Rattle.std.specs.Prelude.{ℕ, List, [], ◌∷◌}
use Rattle.text.specs.Answer.{Answer}
use Rattle.program.specs.declared.BinaryInstruction.{BinaryInstruction}
use Rattle.decoder.specs.Open.{opened, run}
use Rattle.decoder.specs.Steps.{accepted_of, open_numbered, found_numbered}
use Rattle.calls_opened.specs.declared.Answers.{Answers}

-- whether a text opens, and the answers of calls in their order
pub record AnswersForm : Type 0 where
  pub opening : Answer (Unit {0})
  pub calls : List (Answer BinaryInstruction)

-- what came back, by number and detail
abbrev pub answers_form : Answers → AnswersForm
answers_form r = record { opening = open_numbered r.opening; calls = found_numbered r.first ∷ found_numbered r.second ∷ [] }

-- the answers of a run of two calls from the bytecode just opened, at its first line
abbrev pub answers_of : List ℕ → AnswersForm
answers_of s = record { opening = accepted_of (opened s); calls = run 2 s 0 }
