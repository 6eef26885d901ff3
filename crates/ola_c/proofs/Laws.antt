-- Laws of the exported functions: what a callee's answer is, its numbers are.
use Rattle.std.specs.Prelude.{Option, Some, None, Result, ⊤}
use Prim.Native.Nat.{ℕ}
use mathlib.Core.Path.{◌≡◌, ap, ◌∙◌}
use mathlib.Core.List.{List}
use borrow.Author.Rules.{rules}
use lib.ListN.{length}
use Rattle.text.specs.Answer.{Answer, ◌>>=◌, on_ok}
use Rattle.relocate.specs.Room.{room_numbered}
use Rattle.relocate.specs.declared.RoomFigures.{RoomFigures}
use Rattle.encoder.specs.Assemble.{numbered}
use Rattle.meter.specs.declared.Meter.{Meter}
use Rattle.meter.specs.declared.Metered.{Metered}
use Rattle.encoder.specs.declared.Totals.{Totals}
use Rattle.program.specs.Words.{encoded}
use Rattle.program.specs.Listing.{row_written}
use Rattle.program.specs.Bytecode.{text_left}
use Rattle.program.specs.declared.BinaryInstruction.{BinaryInstruction}
use Rattle.program_bytecode.specs.Written.{count_of, written_numbered}
use Rattle.program_encode.specs.Encoding.{encoding_numbered}
use Rattle.program_listing.specs.Row.{row_numbered}
use Rattle.source.specs.SourceText.{source_numbered}
use Rattle.decoder.specs.Steps.{open_numbered, found_numbered, Stepped, SteppedAt, line_numbered, step_numbered}
use Rattle.decoder.specs.declared.LineStep.{LineStep}
use Rattle.decoder.specs.declared.StepAt.{StepAt}
use Rattle.ola_places.specs.Places.{instruction_in}
use Rattle.ola_places.specs.declared.OlaInstruction.{OlaInstruction}
use Rattle.ola_answers.specs.Answers.{assembly_of, metered_of, figures_out, written_of, encoding_of}
use Rattle.ola_answers.specs.declared.OlaAssembly.{OlaAssembly}
use Rattle.ola_answers.specs.declared.OlaMetered.{OlaMetered}
use Rattle.ola_answers.specs.declared.OlaWritten.{OlaWritten}
use Rattle.ola_answers.specs.declared.OlaEncoding.{OlaEncoding}
use Rattle.ola_answers.specs.declared.OlaRoom.{OlaRoom}
use Rattle.ola_steps.specs.Steps.{opened_of, step_of}
use Rattle.ola_steps.specs.declared.OlaOpened.{OlaOpened}
use Rattle.ola_steps.specs.declared.OlaStep.{OlaStep}
use Rattle.ola_c.specs.Exports.{line_step, offset_step, encoding_named, listed, listed_text}
use Rattle.decoder.specs.declared.OpenRefusal.{OpenRefusal}
use Rattle.encoder.specs.declared.AssembleRefusal.{AssembleRefusal}
use Rattle.program.specs.declared.EncodeRefusal.{EncodeRefusal}
use Rattle.program.specs.declared.InstructionWords.{InstructionWords}
use Rattle.program.specs.declared.RowRefusal.{RowRefusal}
use Rattle.program.specs.declared.WriteRefusal.{WriteRefusal}
use Rattle.relocate.specs.declared.RelocateRefusal.{RelocateRefusal}
use Rattle.source.specs.declared.SourceRefusal.{SourceRefusal}

pub assembly_answers : (a : Result Totals AssembleRefusal) (x : Answer Totals) (r : OlaAssembly) → numbered a ≡ x → r ≡ assembly_of (numbered a) → r ≡ assembly_of x
assembly_answers a x r e g = g ∙ ap assembly_of e

pub metered_answers : (a : Metered) (x : Answer Totals) (m : Meter) (r : OlaMetered) → numbered a.assembly ≡ x → a.meter ≡ m
    → r ≡ metered_of (numbered a.assembly) a.meter → r ≡ metered_of x m
metered_answers a x m r e f g = rw (g, e, f)

pub room_answers : (a : Result RoomFigures RelocateRefusal) (x : Answer RoomFigures) (r : OlaRoom) → room_numbered a ≡ x → r ≡ figures_out (room_numbered a) → r ≡ figures_out x
room_answers a x r e g = g ∙ ap figures_out e

pub written_answers : (a : Result ℕ WriteRefusal) (x : Answer ℕ) (r : OlaWritten) → written_numbered a ≡ x → r ≡ written_of (written_numbered a) → r ≡ written_of x
written_answers a x r e g = g ∙ ap written_of e

pub source_answers : (a : Result ℕ SourceRefusal) (x : Answer ℕ) (r : OlaWritten) → source_numbered a ≡ x → r ≡ written_of (source_numbered a) → r ≡ written_of x
source_answers a x r e g = g ∙ ap written_of e

pub opened_answers : (a : Result ⊤ OpenRefusal) (x : Answer (Unit {0})) (r : OlaOpened) → open_numbered a ≡ x → r ≡ opened_of (open_numbered a) → r ≡ opened_of x
opened_answers a x r e g = g ∙ ap opened_of e

pub line_answers : (a : LineStep) (x : Stepped) (r : OlaStep) → line_numbered a ≡ x → r ≡ step_of (found_numbered a.found) a.line → r ≡ line_step x
line_answers a x r e g = g ∙ ap line_step e

pub offset_answers : (a : StepAt) (x : SteppedAt) (r : OlaStep) → step_numbered a ≡ x → r ≡ step_of (found_numbered a.found) a.offset → r ≡ offset_step x
offset_answers a x r e g = g ∙ ap offset_step e

pub ruleset answer_laws = (assembly_answers, metered_answers, room_answers, written_answers, source_answers, opened_answers, line_answers, offset_answers, rules)

-- ---- an instruction given as numbers

module _ (g : OlaInstruction) (m : Option BinaryInstruction) (e : m ≡ instruction_in g) where
  pub none_encoded : m ≡ None → record { refusal = 255; detail = 0; count = 0; first = 0; second = 0 } ≡ encoding_named (instruction_in g)
  none_encoded h = rw (← e, h)

  pub none_listed : (room : ℕ) → m ≡ None → record { refusal = 255; detail = 0; written = 0 } ≡ listed (instruction_in g) room
  unfolding ◌>>=◌
  none_listed room h = rw (← e, h)

  pub none_left : (text : List ℕ) → m ≡ None → text ≡ listed_text (instruction_in g) text
  unfolding on_ok
  none_left text h = rw (← e, h)

  module _ (i : BinaryInstruction) (h : m ≡ Some i) where
    pub named_encoded : (a : Result InstructionWords EncodeRefusal) (r : OlaEncoding) → encoding_numbered a ≡ encoded i → r ≡ encoding_of (encoding_numbered a) → r ≡ encoding_named (instruction_in g)
    named_encoded a r f w = rw (w, f, ← e, h)

    pub named_listed : (a : Result ℕ RowRefusal) (room : ℕ) (r : OlaWritten) → row_numbered a ≡ count_of (row_written i room) → r ≡ written_of (row_numbered a) → r ≡ listed (instruction_in g) room
    named_listed a room r f w = rw (w, f, ← e, h)

    pub named_left : (text left : List ℕ) → left ≡ text_left (row_written i (length text)) text → left ≡ listed_text (instruction_in g) text
    named_left text left f = rw (f, ← e, h)

pub ruleset encoding_laws = (none_encoded, named_encoded, rules)

pub ruleset listing_laws = (none_listed, none_left, named_listed, named_left, rules)
