-- Refusals 10 to 12 and 25 over the instruction rows of a source, each name looked up.
use Rattle.std.specs.Prelude.{ℕ, List, Bool, ◌||◌, cond, Option, Some, None, Result, Ok, Err, ⊤}
use Rattle.text.specs.Answer.{Answer, ok, refused, ◌>>=◌, refuse_at}
use Rattle.asm.specs.Survey.{or_place}
use Rattle.asm.specs.declared.OlaAsmInstruction.{OlaAsmInstruction}
use Rattle.relocate.specs.Columns.{LookUp}
use Rattle.program.specs.Instructions.{is_number}
use Rattle.program.specs.declared.BinaryInstruction.{BinaryInstruction}
use Rattle.encoder.specs.Canonical.{first_misplaced}
use Rattle.encoder.specs.Assemble.{assemble_number, assemble_detail}
use Rattle.encoder_canonical.specs.Held.{held_program}
use Rattle.encoder.specs.declared.AssembleRefusal.{AssembleRefusal}

abbrev pub resolution_numbered : Result ⊤ AssembleRefusal → Answer (Unit {0})
resolution_numbered (Ok tt) = ok tt
resolution_numbered (Err f) = refused (assemble_number f) (assemble_detail f)

-- 10, 11 and 25, "whichever instruction comes first"; then 12, "the first over all instructions"
unfoldable pub held_passed : List ℕ → LookUp → List OlaAsmInstruction → Answer (Unit {0})
held_passed s look is = held_program s look 0 is >>= λ bs. refuse_at (first_misplaced 0 bs) 12

-- "a number, names resolved, in op0 or dst"
abbrev pub is_number_aside : BinaryInstruction → Bool
is_number_aside b = is_number b.op0 || is_number b.dst

-- the first such instruction so far, where instruction k comes next
abbrev pub aside_next : Option ℕ → BinaryInstruction → ℕ → Option ℕ
aside_next first b k = or_place first (cond (is_number_aside b) (Some k) None)
