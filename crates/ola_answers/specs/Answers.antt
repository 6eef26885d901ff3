-- The library's answers as numbers, all but those of opening and next: refusal 0 means accepted, and "On refusal, fields other than refusal and detail
-- are 0", but that a meter is the one that was given.
use Rattle.std.specs.Prelude.{ℕ, Option, Some, None}
use Rattle.text.specs.Answer.{Answer, ok, refused}
use Rattle.asm.specs.Parts.{Span}
use Rattle.relocate.specs.declared.RoomFigures.{RoomFigures}
use Rattle.program.specs.declared.InstructionWords.{InstructionWords}
use Rattle.encoder.specs.declared.Totals.{Totals}
use Rattle.meter.specs.declared.Meter.{Meter}
use Rattle.ola_answers.specs.declared.OlaAssembly.{OlaAssembly}
use Rattle.ola_answers.specs.declared.OlaMetered.{OlaMetered}
use Rattle.ola_answers.specs.declared.OlaRoom.{OlaRoom}
use Rattle.ola_answers.specs.declared.OlaWritten.{OlaWritten}
use Rattle.ola_answers.specs.declared.OlaEncoding.{OlaEncoding}
use Rattle.ola_answers.specs.declared.OlaName.{OlaName}

abbrev pub assembly_of : Answer Totals → OlaAssembly
assembly_of (ok t) = record { refusal = 0; detail = 0; labels = t.labels; words = t.words; hosts = t.hosts; kept = t.kept }
assembly_of (refused n d) = record { refusal = n; detail = d; labels = 0; words = 0; hosts = 0; kept = 0 }

-- beside it the meter after it, which a refusal does not make 0
abbrev pub metered_of : Answer Totals → Meter → OlaMetered
metered_of answer m = record { assembly = assembly_of answer; meter = m }

-- what a source takes
abbrev pub figures_out : Answer RoomFigures → OlaRoom
figures_out (ok f) = record { refusal = 0; detail = 0; labels = f.labels; instructions = f.instructions; counted = f.counted; words = f.words }
figures_out (refused n d) = record { refusal = n; detail = d; labels = 0; instructions = 0; counted = 0; words = 0 }

abbrev pub written_of : Answer ℕ → OlaWritten
written_of (ok n) = record { refusal = 0; detail = 0; written = n }
written_of (refused n d) = record { refusal = n; detail = d; written = 0 }

abbrev pub second_out : ℕ → Option ℕ → OlaEncoding
second_out w (Some v) = record { refusal = 0; detail = 0; count = 2; first = w; second = v }
second_out w None = record { refusal = 0; detail = 0; count = 1; first = w; second = 0 }

abbrev pub encoding_of : Answer InstructionWords → OlaEncoding
encoding_of (ok w) = second_out w.first w.second
encoding_of (refused n d) = record { refusal = n; detail = d; count = 0; first = 0; second = 0 }

-- the part of a source that a name is
abbrev pub name_of : Span → OlaName
name_of p = record { start = p.start; length = p.length }
