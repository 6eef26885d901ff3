-- Laws of the reader's function: one call at an offset.
use Rattle.std.specs.Prelude.{Result, Ok, Err}
use Prim.Native.Nat.{ℕ, ◌+◌, ◌<◌, ◌≤◌}
use mathlib.Core.Path.{◌≡◌, refl, sym, ap, ◌∙◌}
use mathlib.Core.List.{List, [], ◌∷◌}
use mathlib.Core.Bool.{Bool, true, false, cond}
use native.Mathlib.Nat.{zero-add}
use borrow.Author.Tests.{lt-ltb, le-ltb}
use lib.ListN.{length, drop}
use Rattle.text.specs.Lines.{lines}
use Rattle.text.specs.Answer.{Answer, ok, refused, ◌>>=◌}
use Rattle.program.specs.Groups.{Group}
use Rattle.program.specs.declared.BinaryInstruction.{BinaryInstruction}
use Rattle.decoder.specs.Lines.{line_groups, is_complete, lines_in}
use Rattle.decoder.specs.Decode.{group_decoded}
use Rattle.decoder.specs.Open.{max_bytecode_bytes, next_number, next_detail, first_read}
use Rattle.decoder.specs.Steps.{lines_end, ReadAt, next_at, stepped_at}
use Rattle.decoder.specs.declared.NextRefusal.{NextRefusal}
use Rattle.decoder.proofs.OffsetLaws.{at_offset, short_at, long_at}
use Rattle.decoder_lines.specs.ReadFrom.{read_as, groups_read, read_from, at_numbered}
use Rattle.decoder_lines.specs.declared.InstructionAt.{InstructionAt}

-- reading from an offset with index 0 is what next reads there
first_groups : (offset : ℕ) (rest : List ℕ) (gs : List (Group (List ℕ))) → (first_read 0 gs >>= at_offset offset rest) ≡ groups_read 0 offset rest gs
unfolding first_read groups_read read_as ◌>>=◌
first_groups offset rest [] = refl
first_groups offset rest (g ∷ gs) = go (is_complete g) (group_decoded 0 g)
  where
    go : (t : Bool) (a : Answer BinaryInstruction)
        → (cond t (a >>= λ i. ok (record { instruction = i; line = 0 + lines_in g })) (refused 20 0) >>= at_offset offset rest)
        ≡ cond t (read_as a (lines_in g) (offset + lines_end (lines_in g) rest)) (refused 20 0)
    go true (ok i) = ap (λ (n : ℕ). ok (record { instruction = i; lines = n; offset = offset + lines_end n rest })) (zero-add (lines_in g))
    go true (refused n d) = refl
    go false a = refl

module _ (text : List ℕ) (offset : ℕ) where
  pub read_long : max_bytecode_bytes < length text → next_at text offset ≡ refused 14 0
  read_long h = long_at text (lt-ltb max_bytecode_bytes (length text) h) offset

  pub read_short : length text ≤ max_bytecode_bytes → (a : Answer ReadAt) → a ≡ read_from 0 text offset → next_at text offset ≡ a
  read_short h a e =
      short_at text (le-ltb max_bytecode_bytes (length text) h) offset
      ∙ first_groups offset (drop offset text) (line_groups (lines (drop offset text)))
      ∙ sym e

  module _ (r : Result InstructionAt NextRefusal) (e : next_at text offset ≡ at_numbered r) where
    pub step_read : (i : InstructionAt) → r ≡ Ok i → record { answer = ok i.instruction; lines = i.lines; offset = i.next } ≡ stepped_at text offset
    step_read i p = rw (e, p)

    pub step_refused : (f : NextRefusal) → r ≡ Err f → record { answer = refused (next_number f) (next_detail f); lines = 0; offset = offset } ≡ stepped_at text offset
    step_refused f p = rw (e, p)

pub ruleset at_laws = (read_long, read_short, step_read, step_refused)
