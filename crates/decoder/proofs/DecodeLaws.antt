-- What decoding a complete instruction answers.
use Rattle.std.specs.Prelude.{Option, Some, None}
use Prim.Native.Nat.{ℕ, ◌<◌}
use mathlib.Core.Path.{◌≡◌, refl, sym, ap, subst, ◌∙◌}
use mathlib.Core.List.{List}
use mathlib.Core.Bool.{Bool, true, false, not, ◌||◌, cond, true≢false, or-true}
use native.Mathlib.Omega.{arith}
use borrow.Author.Tests.{eqb-true}
use lib.Dec.{eqb}
use Rattle.text.specs.Answer.{Answer, ok, refused}
use Rattle.text.proofs.AnswerLaws.{not_ok, ok_same}
use Rattle.text_read.specs.Numerals.{hexadecimal}
use Rattle.text_read.proofs.Laws.{hexadecimal_below}
use Rattle.vm_opcodes.specs.Operations.{operations, operation_bit, bit, operation_in}
use Rattle.vm_opcodes.specs.declared.OlaOpcode.{OlaOpcode}
use Rattle.vm_opcodes.proofs.Laws.{first_holds}
use Rattle.vm_hardware.specs.Registers.{register_in}
use Rattle.vm_hardware.specs.declared.OlaRegister.{OlaRegister}
use Rattle.vm_hardware.specs.declared.OlaSpecialRegister.TheVariants.{PSP}
use Rattle.vm_hardware.specs.declared.Place.TheVariants.{Op0, Op1, Dst}
use Rattle.vm_operands.specs.Numbers.{order, immediate, number_of}
use Rattle.vm_operands.specs.declared.ImmediateValue.{ImmediateValue}
use Rattle.vm_operands.specs.declared.OlaOperand.{OlaOperand}
use Rattle.vm_operands.specs.declared.OlaOperand.TheVariants.{Empty, ImmediateOperand, SpecialReg}
use Rattle.vm_operands.proofs.Laws.{number_below}
use Rattle.program.specs.Instructions.{made, is_memory, is_mov, carried}
use Rattle.program.specs.Groups.{Group, has_second}
use Rattle.program.specs.declared.BinaryInstruction.{BinaryInstruction}
use Rattle.program.specs.CanonicalForm.{CanonicalForm, plain, numbered, offset, factored, or_empty, BelowOrder, no_number, below, InOrder}
use Rattle.decoder.specs.Lines.{has_prefix, number_found, first_of_line, second_of_line, word_has_second, is_here, is_complete}
use Rattle.decoder.specs.Decode.{register_or, content_in, missing_op1, memory_built, memory_in, built_with, on_number, two_due, on_operation, on_first, group_decoded}
use Rattle.decoder.specs.AsRead.{op1_as_canonical, as_canonical}
use Rattle.decoder.proofs.RoundTrip.{missing_empty}

-- ---- places

-- the register found, if one was
abbrev register_there : Option OlaRegister → Option OlaRegister
register_there (Some r) = Some r
register_there None = None

-- a place holds the register found or nothing, op1 with mov's psp taken as empty
content_there : (f : Option OlaRegister) → register_or Empty f ≡ or_empty (register_there f)
content_there (Some r) = refl
content_there None = refl

op1_there : (o : OlaOpcode) (f : Option OlaRegister) → op1_as_canonical o (register_or (missing_op1 o) f) ≡ or_empty (register_there f)
op1_there o (Some r) = refl
op1_there o None = missing_empty o

-- and no number
no_number_there : (other : OlaOperand) → BelowOrder (carried other) → (f : Option OlaRegister) → BelowOrder (carried (register_or other f))
no_number_there other h (Some r) = no_number
no_number_there other h None = h

missing_no_number : (o : OlaOpcode) → BelowOrder (carried (missing_op1 o))
missing_no_number o = go (is_mov o)
  where
    go : (b : Bool) → BelowOrder (carried (cond b (SpecialReg PSP) Empty))
    go true = no_number
    go false = no_number

-- ---- numbers

-- the number of a second line is below p
second_line_below : (l : List ℕ) (v : ImmediateValue) → second_of_line l ≡ Some v → v.number < order
second_line_below l v e = go (has_prefix l) (hexadecimal order l) refl e
  where
    go : (t : Bool) (n : Option ℕ) → hexadecimal order l ≡ n → cond t (number_found n) (number_of l) ≡ Some v → v.number < order
    go true (Some m) f e = let w : immediate m ≡ v = cc in rw (← w) (hexadecimal_below order m l f)
    go true None f e = let z : ◌≡◌ {A = ℕ} 0 1 = cc in omega arith
    go false n f e = number_below l v e

-- ---- the operation

-- a first word in which mload or mstore is found shows that it has a second
memory_second : (w : ℕ) (o : OlaOpcode) → operation_in w ≡ Some o → is_memory o ≡ true → has_second w ≡ true
memory_second w o e m = go (operation_bit o) (first_holds (λ q. bit (operation_bit q) w) operations o e) m
  where
    go : (k : ℕ) → bit k w ≡ true → (eqb k 22 || eqb k 21) ≡ true → has_second w ≡ true
    go k h m = at (eqb k 22) refl m
      where
        at : (t : Bool) → eqb k 22 ≡ t → (t || eqb k 21) ≡ true → has_second w ≡ true
        at true f m = rw (ap (λ n. bit n w) (sym (eqb-true k 22 f)) ∙ h, or-true (bit 62 w))
        at false f m = rw (ap (λ n. bit n w) (sym (eqb-true k 21 m)) ∙ h) (or-true (bit 62 w || bit 22 w))

-- so in one that shows none another operation is found
not_memory : (w : ℕ) (o : OlaOpcode) → operation_in w ≡ Some o → has_second w ≡ false → is_memory o ≡ false
not_memory w o e h = go (is_memory o) refl
  where
    go : (t : Bool) → is_memory o ≡ t → t ≡ false
    go true m = absurd (true≢false (sym (memory_second w o e m) ∙ h))
    go false m = refl

-- ---- what decoding answers

-- whatever the index is: an instruction that, with mov's psp taken as empty, is of canonical form, and whose numbers are below p; or a refusal
-- with that index, and its number is not 20
pub data Outcome : (ℕ → Answer BinaryInstruction) → Type 0 where
  reads : (i : BinaryInstruction) → CanonicalForm (as_canonical i) → InOrder i → Outcome (λ k. ok i)
  refuses : (n : ℕ) → eqb n 20 ≡ false → Outcome (λ k. refused n k)

module _ (o : OlaOpcode) where
  module _ (v : ImmediateValue) (h : v.number < order) where
    memory_outcome : is_memory o ≡ true → (t : Bool) (dst op0 op1 : Option OlaRegister) → Outcome (λ k. memory_built k o v t dst op0 op1)
    unfolding memory_built
    memory_outcome m t None op0 op1 = refuses 19 refl
    memory_outcome m t (Some d) None op1 = refuses 19 refl
    memory_outcome m true (Some d) (Some a) op1 = reads _ (offset o a d v m) (record { op0 = no_number; op1 = below h; dst = no_number })
    memory_outcome m false (Some d) (Some a) None = refuses 19 refl
    memory_outcome m false (Some d) (Some a) (Some b) = reads _ (factored o a b d v m) (record { op0 = no_number; op1 = below h; dst = no_number })

    number_outcome : is_memory o ≡ false → (op0 dst : Option OlaRegister) → Outcome (λ k. ok (made o (register_or Empty op0) (ImmediateOperand v) (register_or Empty dst)))
    number_outcome m op0 dst =
        reads (made o (register_or Empty op0) (ImmediateOperand v) (register_or Empty dst))
        (rw (content_there op0, content_there dst) (numbered o (register_there op0) (register_there dst) v m))
        (record { op0 = no_number_there Empty no_number op0; op1 = below h; dst = no_number_there Empty no_number dst })

    with_outcome : (w : ℕ) → Outcome (λ k. built_with k o w v)
    unfolding built_with
    with_outcome w = go (is_memory o) refl
      where
        go : (t : Bool) → is_memory o ≡ t → Outcome (λ k. cond t (memory_in k o w v) (ok (made o (content_in Op0 w) (ImmediateOperand v) (content_in Dst w))))
        go true m = memory_outcome m (bit 62 w) (register_in Dst w) (register_in Op0 w) (register_in Op1 w)
        go false m = number_outcome m (register_in Op0 w) (register_in Dst w)

  alone_outcome : is_memory o ≡ false → (op0 op1 dst : Option OlaRegister)
      → Outcome (λ k. ok (made o (register_or Empty op0) (register_or (missing_op1 o) op1) (register_or Empty dst)))
  alone_outcome m op0 op1 dst =
      reads (made o (register_or Empty op0) (register_or (missing_op1 o) op1) (register_or Empty dst))
      (rw (content_there op0, op1_there o op1, content_there dst) (plain o (register_there op0) (register_there op1) (register_there dst) m))
      (record {
        op0 = no_number_there Empty no_number op0;
        op1 = no_number_there (missing_op1 o) (missing_no_number o) op1;
        dst = no_number_there Empty no_number dst;
      })

  due_outcome : (w : ℕ) (l : List ℕ) (t : Bool) (n : Option ImmediateValue) → second_of_line l ≡ n → Outcome (λ k. cond t (on_number k o w n) (refused 17 k))
  unfolding on_number
  due_outcome w l true (Some v) e = with_outcome v (second_line_below l v e) w
  due_outcome w l true None e = refuses 18 refl
  due_outcome w l false n e = refuses 17 refl

-- a second line that is due is here
operation_outcome : (w : ℕ) (p : Option OlaOpcode) → operation_in w ≡ p → (second : Option (List ℕ)) → (not (has_second w) || is_here second) ≡ true
    → Outcome (λ k. on_operation k w p second)
unfolding on_operation
operation_outcome w None e second c = refuses 16 refl
operation_outcome w (Some o) e None c = alone_outcome o (not_memory w o e (none_due (has_second w) c)) (register_in Op0 w) (register_in Op1 w) (register_in Dst w)
  where
    none_due : (t : Bool) → (not t || false) ≡ true → t ≡ false
    none_due true c = sym c
    none_due false c = refl
operation_outcome w (Some o) e (Some l) c = due_outcome o w l (two_due o w) (second_of_line l) refl

first_outcome : (n : Option ℕ) (second : Option (List ℕ)) → (not (word_has_second n) || is_here second) ≡ true → Outcome (λ k. on_first k n second)
unfolding on_first
first_outcome None second c = refuses 15 refl
first_outcome (Some w) second c = operation_outcome w (operation_in w) refl second c

-- Decoding a complete instruction has one of these outcomes.
pub group_outcome : (g : Group (List ℕ)) → is_complete g ≡ true → Outcome (λ k. group_decoded k g)
group_outcome g c = first_outcome (first_of_line g.first) g.second c

-- an instruction that was read: at any index it is the same, and it has that form
pub record WasRead (f : ℕ → Answer BinaryInstruction) (i : BinaryInstruction) : Type 0 where
  pub any_index : (k : ℕ) → f k ≡ ok i
  pub form : CanonicalForm (as_canonical i)
  pub order : InOrder i

pub outcome_read : (f : ℕ → Answer BinaryInstruction) → Outcome f → (j : ℕ) (i : BinaryInstruction) → f j ≡ ok i → WasRead f i
outcome_read f (reads i' c o) j i e = subst (WasRead (λ k. ok i')) (ok_same e) (record { any_index = λ k. refl; form = c; order = o })
outcome_read f (refuses n h) j i e = absurd (not_ok e)
