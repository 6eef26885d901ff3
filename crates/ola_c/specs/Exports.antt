-- What the exported functions answer and leave, where an instruction is given as numbers: 255, which is this interface's own, where they name none.
use Rattle.std.specs.Prelude.{ℕ, List, length, Option, Some, None}
use Rattle.text.specs.Answer.{Answer, refused}
use Rattle.program.specs.Words.{encoded}
use Rattle.program.specs.Bytecode.{text_left}
use Rattle.program.specs.Listing.{row_written}
use Rattle.program_bytecode.specs.Written.{count_of}
use Rattle.decoder.specs.Steps.{Stepped, SteppedAt}
use Rattle.ola_answers.specs.Answers.{written_of, encoding_of}
use Rattle.ola_answers.specs.declared.OlaWritten.{OlaWritten}
use Rattle.ola_answers.specs.declared.OlaEncoding.{OlaEncoding}
use Rattle.ola_steps.specs.Steps.{step_of}
use Rattle.ola_steps.specs.declared.OlaStep.{OlaStep}
use Rattle.program.specs.declared.BinaryInstruction.{BinaryInstruction}

-- the version of the interface, as docs/CHANGES.md tells it
abbrev pub version : ℕ
version = 7

-- a call of next by its line
abbrev pub line_step : Stepped → OlaStep
line_step s = step_of s.answer s.line

-- and by its offset
abbrev pub offset_step : SteppedAt → OlaStep
offset_step s = step_of s.answer s.offset

-- encoding what was named
abbrev pub encoding_named : Option BinaryInstruction → OlaEncoding
encoding_named (Some i) = encoding_of (encoded i)
encoding_named None = encoding_of (refused 255 0)

-- the listing row of what was named, where the text has so many bytes
abbrev pub row_named : Option BinaryInstruction → ℕ → Answer (List ℕ)
row_named (Some i) room = row_written i room
row_named None room = refused 255 0

abbrev pub listed : Option BinaryInstruction → ℕ → OlaWritten
listed named room = written_of (count_of (row_named named room))

abbrev pub listed_text : Option BinaryInstruction → List ℕ → List ℕ
listed_text named text = text_left (row_named named (length text)) text
