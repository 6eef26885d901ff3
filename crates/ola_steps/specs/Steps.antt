-- The answers of opening and of a call of next as numbers: refusal 0 means accepted, and "On refusal, fields other than refusal and detail are 0, but a
-- step's `line` stays where it was".
use Rattle.std.specs.Prelude.{ℕ}
use Rattle.text.specs.Answer.{Answer, ok, refused}
use Rattle.program.specs.declared.BinaryInstruction.{BinaryInstruction}
use Rattle.ola_places.specs.Places.{instruction_out, no_instruction}
use Rattle.ola_steps.specs.declared.OlaOpened.{OlaOpened}
use Rattle.ola_steps.specs.declared.OlaStep.{OlaStep}

abbrev pub opened_of : Answer (Unit {0}) → OlaOpened
opened_of (ok u) = record { refusal = 0; detail = 0 }
opened_of (refused n d) = record { refusal = n; detail = d }

abbrev pub step_refused : ℕ → ℕ → ℕ → OlaStep
step_refused n d line = record { refusal = n; detail = d; line = line; instruction = no_instruction }

-- an answer, and the line reached
abbrev pub step_of : Answer BinaryInstruction → ℕ → OlaStep
step_of (ok i) line = record { refusal = 0; detail = 0; line = line; instruction = instruction_out i }
step_of (refused n d) line = step_refused n d line
