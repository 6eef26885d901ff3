-- A program whose names are all known: its first row, and the rest.
use Rattle.std.specs.Prelude.{Ok}
use Prim.Native.Nat.{ℕ, suc}
use mathlib.Core.Path.{◌≡◌}
use mathlib.Core.List.{List, ◌∷◌}
use Rattle.text.specs.Answer.{ok}
use Rattle.text.proofs.AnswerLaws.{ok_same, ok_bind}
use Rattle.asm.specs.declared.OlaAsmInstruction.{OlaAsmInstruction}
use Rattle.program.specs.declared.BinaryInstruction.{BinaryInstruction}
use Rattle.relocate.specs.Columns.{LookUp}
use Rattle.encoder_canonical.specs.Held.{held_canonical, canonical_numbered, held_program}
use Rattle.encoder_canonical.proofs.HeldLaws.{numbered_made}

-- an accepted program: its first row, and the rest
pub record Accepted (s : List ℕ) (look : LookUp) (k : ℕ) (i : OlaAsmInstruction) (is : List OlaAsmInstruction) (bs : List BinaryInstruction) : Type 0 where
  pub first : BinaryInstruction
  pub later : List BinaryInstruction
  pub held : held_canonical s look i ≡ Ok first
  pub rest : held_program s look (suc k) is ≡ ok later
  pub whole : first ∷ later ≡ bs

-- every accepted program with a row is so
pub accepted_first : (s : List ℕ) (look : LookUp) (k : ℕ) (i : OlaAsmInstruction) (is : List OlaAsmInstruction) (bs : List BinaryInstruction)
    → held_program s look k (i ∷ is) ≡ ok bs → Accepted s look k i is bs
unfolding held_program
accepted_first s look k i is bs e =
    let x = ok_bind (canonical_numbered k (held_canonical s look i)) _ bs e in
    let y = ok_bind (held_program s look (suc k) is) _ bs x.2 in
    record {
      first = x.0;
      later = y.0;
      held = numbered_made k (held_canonical s look i) x.0 x.1;
      rest = y.1;
      whole = ok_same y.2;
    }
