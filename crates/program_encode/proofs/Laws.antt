-- Refusals 21 and 22 in the order in which they are asked: 21, then 22 for op0, op1 and dst, then the words.
use Rattle.std.specs.Prelude.{Some, None}
use mathlib.Core.Path.{◌≡◌, refl}
use mathlib.Core.Bool.{Bool, true, false, cond}
use Rattle.text.specs.Answer.{ok, refused, ◌>>◌, refuse_if, refuse_at}
use Rattle.program.specs.Instructions.{has_too_large}
use Rattle.program.specs.Words.{first_word, second_word, rejected_aside, rejected_in_op1, encoded}
use Rattle.program.specs.declared.BinaryInstruction.{BinaryInstruction}
use Rattle.program.specs.declared.InstructionWords.{InstructionWords}

pub asked : (i : BinaryInstruction)
    → encoded i
    ≡ cond (has_too_large i) (refused 21 0) (cond (rejected_aside i.op0) (refused 22 0) (cond (rejected_in_op1 i.opcode i.op1) (refused 22 1) (cond (rejected_aside i.dst) (refused 22 2) (ok (record { first = first_word i; second = second_word i })))))
unfolding encoded ◌>>◌ refuse_if refuse_at
asked i = go (has_too_large i) (rejected_aside i.op0) (rejected_in_op1 i.opcode i.op1) (rejected_aside i.dst) (record { first = first_word i; second = second_word i })
  where
    go : (t a b d : Bool) (w : InstructionWords) → (refuse_if t 21 >> (refuse_at (cond a (Some 0) (cond b (Some 1) (cond d (Some 2) None))) 22 >> ok w)) ≡ cond t (refused 21 0) (cond a (refused 22 0) (cond b (refused 22 1) (cond d (refused 22 2) (ok w))))
    go true a b d w = refl
    go false true b d w = refl
    go false false true d w = refl
    go false false false true w = refl
    go false false false false w = refl
