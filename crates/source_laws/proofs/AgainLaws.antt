-- The instructions of any text that opens, as canonical: how many words they have, and that they read back as they were read.
use Rattle.std.specs.Prelude.{Option, Some, None}
use Prim.Native.Nat.{ℕ, suc, ◌+◌, ◌≤◌}
use mathlib.Core.Path.{◌≡◌, refl, ap, ap₂, subst}
use mathlib.Core.List.{List, [], ◌∷◌, map}
use mathlib.Core.Bool.{Bool, true, false, cond}
use native.Mathlib.Omega.{arith}
use lib.Dec.{lit≤}
use lib.ListN.{length, length-append}
use Rattle.text.specs.Lists.{total}
use Rattle.text.specs.Lines.{lines}
use Rattle.text.specs.Answer.{ok, refused}
use Rattle.text.proofs.AnswerLaws.{not_ok, ok_same, ok_bind, if_passed, at_passed}
use Rattle.text.proofs.SumLaws.{total_most}
use Rattle.vm_opcodes.specs.Operations.{bit, operation_in}
use Rattle.vm_opcodes.specs.declared.OlaOpcode.{OlaOpcode}
use Rattle.vm_hardware.specs.Registers.{register_in}
use Rattle.vm_hardware.specs.declared.Place.TheVariants.{Op0, Op1, Dst}
use Rattle.vm_operands.specs.declared.ImmediateValue.{ImmediateValue}
use Rattle.vm_operands.specs.declared.OlaOperand.{OlaOperand}
use Rattle.vm_operands.specs.declared.OlaOperand.TheVariants.{Empty, ImmediateOperand}
use Rattle.program.specs.Instructions.{made, is_memory, carried}
use Rattle.program.specs.Groups.{Group}
use Rattle.program.specs.Words.{first_word, second_word, in_order, words_of, program_words}
use Rattle.program.specs.declared.BinaryInstruction.{BinaryInstruction}
use Rattle.decoder.specs.Lines.{first_of_line, second_of_line, line_groups, complete_of}
use Rattle.decoder.specs.Decode.{register_or, content_in, missing_op1, memory_built, memory_in, built_with, built_alone, on_number, two_due, on_operation, on_first, group_decoded}
use Rattle.decoder.specs.AsRead.{op1_as_read, as_read, op1_as_canonical, as_canonical}
use Rattle.decoder.specs.Open.{all_decoded, opened}
use Rattle.decoder.proofs.RoundTrip.{missing_empty}
use Rattle.source_laws.proofs.RowLengths.{held, weighed}
use Rattle.source_laws.proofs.LengthLaws.{opened_most}
use Rattle.vm_hardware.specs.declared.OlaRegister.{OlaRegister}

-- as canonical the instruction has at most n words and reads back
abbrev Again : ℕ → BinaryInstruction → Type 0
Again n i = (length (words_of (as_canonical i)) ≤ n) × (as_read (as_canonical i) ≡ i)

-- ---- read without a number

-- a place holds no number
none_carried : (f : Option OlaRegister) → carried (register_or Empty f) ≡ None
none_carried (Some r) = refl
none_carried None = refl

module _ (o : OlaOpcode) where
  op1_none : (f : Option OlaRegister) → carried (op1_as_canonical o (register_or (missing_op1 o) f)) ≡ None
  op1_none (Some r) = refl
  op1_none None = ap carried (missing_empty o)

  -- op1 reads as it did: empty, or psp in mov
  op1_again : (f : Option OlaRegister) → op1_as_read o (op1_as_canonical o (register_or (missing_op1 o) f)) ≡ register_or (missing_op1 o) f
  op1_again (Some r) = refl
  op1_again None = ap (op1_as_read o) (missing_empty o)

  alone_again : (w : ℕ) → Again 1 (built_alone o w)
  alone_again w = (
    rw (none_carried (register_in Dst w), op1_none (register_in Op1 w), none_carried (register_in Op0 w)) (lit≤ tt),
    ap (λ (q : OlaOperand). made o (content_in Op0 w) q (content_in Dst w)) (op1_again (register_in Op1 w)),
  )

-- ---- read with one

-- no instruction has more than two words
words_two : (i : BinaryInstruction) → length (words_of i) ≤ 2
words_two i = go (second_word i)
  where
    go : (v : Option ℕ) → length (in_order (first_word i) v) ≤ 2
    go None = lit≤ tt
    go (Some v) = lit≤ tt

module _ (k : ℕ) (i : BinaryInstruction) where
  -- what was read is the instruction
  same_again : (j : BinaryInstruction) → as_read (as_canonical j) ≡ j → ok j ≡ ok i → Again 2 i
  same_again j a e = (words_two (as_canonical i), subst (λ (b : BinaryInstruction). as_read (as_canonical b) ≡ b) (ok_same e) a)

  memory_again : (o : OlaOpcode) (v : ImmediateValue) (t : Bool) (dst op0 op1 : Option OlaRegister) → memory_built k o v t dst op0 op1 ≡ ok i → Again 2 i
  unfolding memory_built
  memory_again o v t None op0 op1 e = absurd (not_ok e)
  memory_again o v t (Some d) None op1 e = absurd (not_ok e)
  memory_again o v true (Some d) (Some a) op1 e = same_again _ refl e
  memory_again o v false (Some d) (Some a) None e = absurd (not_ok e)
  memory_again o v false (Some d) (Some a) (Some b) e = same_again _ refl e

  number_again : (o : OlaOpcode) (w : ℕ) (n : Option ImmediateValue) → on_number k o w n ≡ ok i → Again 2 i
  unfolding built_with on_number
  number_again o w None e = absurd (not_ok e)
  number_again o w (Some v) e = go (is_memory o) e
    where
      go : (t : Bool) → cond t (memory_in k o w v) (ok (made o (content_in Op0 w) (ImmediateOperand v) (content_in Dst w))) ≡ ok i → Again 2 i
      go true e = memory_again o v (bit 62 w) (register_in Dst w) (register_in Op0 w) (register_in Op1 w) e
      go false e = same_again _ refl e

  -- a word for its first line, and one for its second where it has one
  operation_again : (w : ℕ) (p : Option OlaOpcode) (second : Option (List ℕ)) → on_operation k w p second ≡ ok i → Again (1 + held (λ (l : List ℕ). 1) second) i
  unfolding on_operation
  operation_again w None second e = absurd (not_ok e)
  operation_again w (Some o) None e = subst (Again 1) (ok_same e) (alone_again o w)
  operation_again w (Some o) (Some l) e = go (two_due o w) e
    where
      go : (t : Bool) → cond t (on_number k o w (second_of_line l)) (refused 17 k) ≡ ok i → Again 2 i
      go true e = number_again o w (second_of_line l) e
      go false e = absurd (not_ok e)

  first_again : (n : Option ℕ) (second : Option (List ℕ)) → on_first k n second ≡ ok i → Again (1 + held (λ (l : List ℕ). 1) second) i
  unfolding on_first
  first_again None second e = absurd (not_ok e)
  first_again (Some w) second e = operation_again w (operation_in w) second e

group_again : (k : ℕ) (g : Group (List ℕ)) (i : BinaryInstruction) → group_decoded k g ≡ ok i → Again (weighed (λ l. 1) g) i
group_again k g i e = first_again k i (first_of_line g.first) g.second e

-- ---- all of them

words_long : (is : List BinaryInstruction) → length (program_words (map as_canonical is)) ≡ total (map (λ i. length (words_of (as_canonical i))) is)
unfolding program_words total
words_long [] = refl
words_long (i ∷ is) = let a = length-append (words_of (as_canonical i)) (program_words (map as_canonical is)) in let h = words_long is in omega arith

decoded_again : (k : ℕ) (gs : List (Group (List ℕ))) (is : List BinaryInstruction) → all_decoded k gs ≡ ok is → map as_read (map as_canonical is) ≡ is
unfolding all_decoded
decoded_again k [] is e = subst (λ (js : List BinaryInstruction). map as_read (map as_canonical js) ≡ js) (ok_same e) refl
decoded_again k (g ∷ gs) is e =
    let a = ok_bind (group_decoded k g) _ is e in
    let b = ok_bind (all_decoded (suc k) gs) _ is a.2 in
    subst (λ (js : List BinaryInstruction). map as_read (map as_canonical js) ≡ js) (ok_same b.2)
    (ap₂ (λ (j : BinaryInstruction) (js : List BinaryInstruction). j ∷ js) (group_again k g a.0 a.1).1 (decoded_again (suc k) gs b.0 b.1))

module _ (text : List ℕ) (is : List BinaryInstruction) (h : opened text ≡ ok is) where
  -- As canonical, the instructions of a text that opens have at most as many words as the text has lines.
  pub words_by_lines : length (program_words (map as_canonical is)) ≤ length (lines text)
  words_by_lines =
      let s = words_long is in
      let a = (opened_most (λ i. length (words_of (as_canonical i))) (λ l. 1) (λ k g i e. (group_again k g i e).0) text is h).1 in
      let b = total_most (λ (l : List ℕ). 1) 1 (λ l. omega arith) (lines text) in
      omega arith

  -- As canonical, they read back as they were read.
  pub read_again : map as_read (map as_canonical is) ≡ is
  unfolding opened
  read_again =
      let a = if_passed _ _ _ is h in
      let b = at_passed _ _ _ is a.1 in
      decoded_again 0 (complete_of (line_groups (lines text))) is b.1
