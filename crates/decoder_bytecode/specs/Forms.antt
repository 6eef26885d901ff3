-- What opening a text and a call of next answer, and the reader that they return.
use Rattle.std.specs.Prelude.{ℕ, List}
use Rattle.std.specs.Borrow.{Bor}
use Rattle.text.specs.Answer.{Answer}
use Rattle.program.specs.declared.BinaryInstruction.{BinaryInstruction}
use Rattle.decoder.specs.Open.{opened}
use Rattle.decoder.specs.Steps.{accepted_of, open_numbered, found_numbered, stepped}
use Rattle.decoder_bytecode.specs.declared.Bytecode.{Bytecode}
use Rattle.decoder_bytecode.specs.declared.Opened.{Opened}
use Rattle.decoder_bytecode.specs.declared.Step.{Step}

-- accepted or refused, and the reader
pub record OpenedForm : Type 0 where
  pub answer : Answer (Unit {0})
  pub bytecode : Bytecode

-- an instruction or a refusal, and the reader
pub record StepForm : Type 0 where
  pub answer : Answer BinaryInstruction
  pub bytecode : Bytecode

-- what open returned, a refusal by its number and detail
abbrev pub open_form : Opened → OpenedForm
open_form r = record { answer = open_numbered r.opening; bytecode = r.bytecode }

-- "An opened bytecode keeps the caller's text and the line reached": its first line, after a refusal too
abbrev pub open_of : Bor (List ℕ) → OpenedForm
open_of t = record { answer = accepted_of (opened t.now); bytecode = record { text = t; line = 0 } }

-- what next returned, a refusal by its number and detail
abbrev pub step_form : Step → StepForm
step_form r = record { answer = found_numbered r.found; bytecode = r.bytecode }

-- "the next instruction is read as if the text began there"; the reader that is returned has the same text and the line reached, the same line
-- after a refusal
abbrev pub step_of : Bytecode → StepForm
step_of b = record {
  answer = (stepped b.text.now b.line).answer;
  bytecode = record { text = b.text; line = (stepped b.text.now b.line).line };
}
