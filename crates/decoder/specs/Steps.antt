-- What the reader's functions answer: opening, a call of next on a line or on an offset, a run by offsets, and one call of a run.
use Rattle.std.specs.Prelude.{ℕ, zero, suc, ◌+◌, List, [], ◌∷◌, ltb, length, drop, get_or, Result, Ok, Err, ⊤}
use Rattle.text.specs.Lines.{line_next}
use Rattle.text.specs.Answer.{Answer, ok, refused, ◌>>=◌, ◌>>◌, refuse_if}
use Rattle.program.specs.declared.BinaryInstruction.{BinaryInstruction}
use Rattle.decoder.specs.Open.{open_number, open_detail, max_bytecode_bytes, next_number, next_detail, next, instruction_read, line_after, run}
use Rattle.decoder.specs.declared.LineStep.{LineStep}
use Rattle.decoder.specs.declared.StepAt.{StepAt}
use Rattle.decoder.specs.declared.NextRefusal.{NextRefusal}
use Rattle.decoder.specs.declared.OpenRefusal.{OpenRefusal}

-- ---- opening

-- accepted or refused, the instructions left out
abbrev pub accepted_of : Answer (List BinaryInstruction) → Answer (Unit {0})
accepted_of (ok is) = ok tt
accepted_of (refused n d) = refused n d

-- an answer by its number and detail
abbrev pub open_numbered : Result ⊤ OpenRefusal → Answer (Unit {0})
open_numbered (Ok tt) = ok tt
open_numbered (Err refusal) = refused (open_number refusal) (open_detail refusal)

-- ---- one call

abbrev pub found_numbered : Result BinaryInstruction NextRefusal → Answer BinaryInstruction
found_numbered (Ok i) = ok i
found_numbered (Err refusal) = refused (next_number refusal) (next_detail refusal)

-- what a call answers, and the line of the reader that it returns
pub record Stepped : Type 0 where
  pub answer : Answer BinaryInstruction
  pub line : ℕ

abbrev pub line_numbered : LineStep → Stepped
line_numbered r = record { answer = found_numbered r.found; line = r.line }

-- a call of next on a text and a line
abbrev pub stepped : List ℕ → ℕ → Stepped
stepped text line = record { answer = instruction_read (next text line); line = line_after line (next text line) }

-- ---- the same by offsets

-- how many bytes n lines have at the start of a text, their endings with them
unfoldable pub lines_end : ℕ → List ℕ → ℕ
lines_end zero s = 0
lines_end (suc n) s = line_next s + lines_end n (drop (line_next s) s)

-- an instruction read, how many lines it has, and the offset of the line after it
pub record ReadAt : Type 0 where
  pub instruction : BinaryInstruction
  pub lines : ℕ
  pub offset : ℕ

-- the instruction whose first line begins at that byte, "as if the text began there"; 14 is about the whole text
unfoldable pub next_at : List ℕ → ℕ → Answer ReadAt
next_at text offset = do
  refuse_if (ltb max_bytecode_bytes (length text)) 14
  r ← next (drop offset text) 0
  ok (record { instruction = r.instruction; lines = r.line; offset = offset + lines_end r.line (drop offset text) })

abbrev pub instruction_at : Answer ReadAt → Answer BinaryInstruction
instruction_at (ok r) = ok r.instruction
instruction_at (refused n d) = refused n d

abbrev pub lines_at : Answer ReadAt → ℕ
lines_at (ok r) = r.lines
lines_at (refused n d) = 0

-- "The reader does not move on a refusal"
abbrev pub offset_after : ℕ → Answer ReadAt → ℕ
offset_after offset (ok r) = r.offset
offset_after offset (refused n d) = offset

pub record SteppedAt : Type 0 where
  pub answer : Answer BinaryInstruction
  pub lines : ℕ
  pub offset : ℕ

abbrev pub step_numbered : StepAt → SteppedAt
step_numbered r = record { answer = found_numbered r.found; lines = r.lines; offset = r.offset }

-- a call of next on a text and an offset
abbrev pub stepped_at : List ℕ → ℕ → SteppedAt
stepped_at text offset = record { answer = instruction_at (next_at text offset); lines = lines_at (next_at text offset); offset = offset_after offset (next_at text offset) }

-- ---- runs

-- the answers of k calls by offsets, one after the other
unfoldable pub run_at : ℕ → List ℕ → ℕ → List (Answer BinaryInstruction)
run_at zero text offset = []
run_at (suc k) text offset = instruction_at (next_at text offset) ∷ run_at k text (offset_after offset (next_at text offset))

-- the k-th call, from 0, of a run from the first line
abbrev pub nth_call : List ℕ → ℕ → Answer BinaryInstruction
nth_call text k = get_or (run (suc k) text 0) k (refused 20 0)
