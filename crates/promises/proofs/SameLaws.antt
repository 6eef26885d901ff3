-- Equal words, equal bytecode and the same canonical program are one thing for accepted sources.
use Rattle.std.specs.Prelude.{ℕ, ◌↔◌, ◌≡◌, List, map}
use Rattle.std.proofs.Common.{sym, ap, ◌∙◌}
use Rattle.text.specs.Answer.{ok}
use Rattle.text.proofs.AnswerLaws.{ok_same}
use Rattle.program.specs.Words.{program_words}
use Rattle.program.specs.Bytecode.{bytecode_of}
use Rattle.program.specs.declared.BinaryInstruction.{BinaryInstruction}
use Rattle.encoder.specs.Canonical.{canonical_program}
use Rattle.encoder.specs.Assemble.{Room, Accepted, assembled}
use Rattle.encoder.proofs.AcceptedLaws.{AcceptedRows, accepted_rows}
use Rattle.decoder.specs.Open.{opened}
use Rattle.decoder.proofs.BytecodeLaws.{opens}
use Rattle.promises.specs.Terms.{SameProgram, instruction_residue}
use Rattle.promises.proofs.InjectiveLaws.{programs_determine, as_read_programs, residues_same}
use Rattle.promises.specs.AcceptedLaws.{accepted_form, accepted_order, accepted_words, accepted_readable, accepted_short}

module _ (s t prophets others : List ℕ) (room space : Room) (a b : Accepted) (h : assembled s prophets room ≡ ok a) (k : assembled t others space ≡ ok b) where
  -- the same program is the equal program, since all numbers are below p
  same_equal : SameProgram a.program b.program → a.program ≡ b.program
  same_equal e =
      sym (residues_same a.program (accepted_order s prophets room a h)) ∙ e ∙ residues_same b.program (accepted_order t others space b k)

  equal_same : a.program ≡ b.program → SameProgram a.program b.program
  equal_same e = ap (λ (is : List BinaryInstruction). map instruction_residue is) e

  words_equal : a.words ≡ b.words → a.program ≡ b.program
  words_equal e =
      programs_determine a.program b.program (accepted_form s prophets room a h) (accepted_form t others space b k)
      (sym (accepted_words s prophets room a h) ∙ e ∙ accepted_words t others space b k)

  equal_words : a.program ≡ b.program → a.words ≡ b.words
  equal_words e = accepted_words s prophets room a h ∙ ap program_words e ∙ sym (accepted_words t others space b k)

  -- equal bytecode opens to equal instructions
  bytecode_equal : bytecode_of a.words ≡ bytecode_of b.words → a.program ≡ b.program
  bytecode_equal e =
      as_read_programs a.program b.program (accepted_form s prophets room a h) (accepted_form t others space b k)
      (ok_same
      (sym (opens a.program (accepted_readable s prophets room a h) (accepted_short s prophets room a h))
      ∙ ap (λ (ws : List ℕ). opened (bytecode_of ws)) (sym (accepted_words s prophets room a h))
      ∙ ap opened e
      ∙ ap (λ (ws : List ℕ). opened (bytecode_of ws)) (accepted_words t others space b k)
      ∙ opens b.program (accepted_readable t others space b k) (accepted_short t others space b k)))

  pub words_same : (a.words ≡ b.words) ↔ SameProgram a.program b.program
  words_same = (λ e. equal_same (words_equal e), λ e. equal_words (same_equal e))

  pub bytecode_same : (bytecode_of a.words ≡ bytecode_of b.words) ↔ SameProgram a.program b.program
  bytecode_same = (λ e. equal_same (bytecode_equal e), λ e. ap bytecode_of (equal_words (same_equal e)))

-- the program and the words are the source's alone, whatever the prophets and the room
pub program_alone : (s prophets others : List ℕ) (room space : Room) (a b : Accepted) → assembled s prophets room ≡ ok a → assembled s others space ≡ ok b
    → (a.program ≡ b.program) × (a.words ≡ b.words)
program_alone s prophets others room space a b h k = (same, x.words ∙ ap program_words same ∙ sym y.words)
  where
    x : AcceptedRows s prophets a
    x = accepted_rows s prophets room a h

    y : AcceptedRows s others b
    y = accepted_rows s others space b k

    same : a.program ≡ b.program
    same = ok_same (sym x.canonical ∙ ap (canonical_program s) (ok_same (sym x.sorted ∙ y.sorted)) ∙ y.canonical)
