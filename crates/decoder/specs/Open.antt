-- Opening bytecode, next instruction, and a run of calls; the number and detail of each refusal.
use Rattle.std.specs.Prelude.{ℕ, zero, suc, ◌+◌, List, [], ◌∷◌, cond, ltb, length, drop}
use Rattle.text.specs.Lines.{lines}
use Rattle.text.specs.Answer.{Answer, ok, refused, ◌>>=◌, ◌>>◌, refuse_if, refuse_at}
use Rattle.program.specs.Groups.{Group}
use Rattle.program.specs.declared.BinaryInstruction.{BinaryInstruction}
use Rattle.decoder.specs.Lines.{line_groups, is_complete, complete_of, lines_in, first_unreadable}
use Rattle.decoder.specs.Decode.{group_decoded}
use Rattle.decoder.specs.declared.OpenRefusal.{OpenRefusal}
use Rattle.decoder.specs.declared.OpenRefusal.TheVariants.{TextTooLong, FirstWordUnreadable, NoOperation, LineTooMany, SecondLineUnreadable, RegisterMissing}
use Rattle.decoder.specs.declared.NextRefusal.{NextRefusal}
use Rattle.decoder.specs.declared.NextRefusal.TheVariants.{Open, NoneLeft}

-- 01's number of a refusal
abbrev pub open_number : OpenRefusal → ℕ
open_number TextTooLong = 14
open_number (FirstWordUnreadable line) = 15
open_number (NoOperation index) = 16
open_number (LineTooMany index) = 17
open_number (SecondLineUnreadable index) = 18
open_number (RegisterMissing index) = 19

-- and its detail
abbrev pub open_detail : OpenRefusal → ℕ
open_detail TextTooLong = 0
open_detail (FirstWordUnreadable line) = line
open_detail (NoOperation index) = index
open_detail (LineTooMany index) = index
open_detail (SecondLineUnreadable index) = index
open_detail (RegisterMissing index) = index

abbrev pub next_number : NextRefusal → ℕ
next_number (Open refusal) = open_number refusal
next_number NoneLeft = 20

abbrev pub next_detail : NextRefusal → ℕ
next_detail (Open refusal) = open_detail refusal
next_detail NoneLeft = 0

-- every instruction, from index k on
unfoldable pub all_decoded : ℕ → List (Group (List ℕ)) → Answer (List BinaryInstruction)
all_decoded k [] = ok []
all_decoded k (g ∷ gs) = group_decoded k g >>= λ i. all_decoded (suc k) gs >>= λ is. ok (i ∷ is)

-- 14: "above 524,288 bytes"
abbrev pub max_bytecode_bytes : ℕ
max_bytecode_bytes = 524288

-- "Opening bytecode: 14 above 524,288 bytes; 15 ..., tested over the whole text; then by instruction (its index) 16 ... 17 ... 18 ... 19"
unfoldable pub opened : List ℕ → Answer (List BinaryInstruction)
opened text = do
  refuse_if (ltb max_bytecode_bytes (length text)) 14
  refuse_at (first_unreadable 0 (line_groups (lines text))) 15
  all_decoded 0 (complete_of (line_groups (lines text)))

-- an instruction read, and the line reached
pub record Read : Type 0 where
  pub instruction : BinaryInstruction
  pub line : ℕ

-- 20: "none complete left"
unfoldable pub first_read : ℕ → List (Group (List ℕ)) → Answer Read
first_read line [] = refused 20 0
first_read line (g ∷ gs) =
    cond (is_complete g) (group_decoded 0 g >>= λ i. ok (record { instruction = i; line = line + lines_in g })) (refused 20 0)

-- "Next instruction: 14, and 15 to 19 for the lines read only, with index 0": "the next instruction is read as if the text began there"
unfoldable pub next : List ℕ → ℕ → Answer Read
next text line = do
  refuse_if (ltb max_bytecode_bytes (length text)) 14
  first_read line (line_groups (drop line (lines text)))

-- "The reader does not move on a refusal"
abbrev pub line_after : ℕ → Answer Read → ℕ
line_after line (ok r) = r.line
line_after line (refused n d) = line

abbrev pub instruction_read : Answer Read → Answer BinaryInstruction
instruction_read (ok r) = ok r.instruction
instruction_read (refused n d) = refused n d

-- the answers of k calls one after the other, the first from a line, "each call gets the reader that the last one returned, the same one
-- after a refusal"
unfoldable pub run : ℕ → List ℕ → ℕ → List (Answer BinaryInstruction)
run zero text line = []
run (suc k) text line = let answer = next text line in instruction_read answer ∷ run k text (line_after line answer)
