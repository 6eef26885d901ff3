-- Instructions of canonical form: their second words show in their first, and lie below p where their numbers do.
use Rattle.std.specs.Prelude.{Option, Some, None, slice_get}
use Prim.Native.Nat.{ℕ, zero, suc, ◌+◌, ◌^◌, ◌<◌}
use mathlib.Core.Path.{◌≡◌, refl, sym, ap, ap₂, ◌∙◌}
use mathlib.Core.List.{List, ◌++◌, map}
use mathlib.Core.Bool.{Bool, true, false, ◌||◌, cond, or_comm}
use native.Mathlib.Omega.{arith}
use lib.ListN.{length, take, length-append}
use Rattle.text.specs.Lists.{total}
use Rattle.text.specs.All.{All, none_left, one_more}
use Rattle.text.proofs.EntryLaws.{at_behind}
use Rattle.vm_opcodes.specs.declared.OlaOpcode.{OlaOpcode}
use Rattle.vm_hardware.specs.declared.OlaRegister.{OlaRegister}
use Rattle.vm_operands.specs.declared.ImmediateValue.{ImmediateValue}
use Rattle.vm_operands.specs.declared.OlaOperand.TheVariants.{ImmediateOperand}
use Rattle.program.specs.Instructions.{made, is_number, is_memory, carried}
use Rattle.program.specs.Words.{first_word, last_of, second_word, in_order, words_of, program_words, emitted_length, words_before}
use Rattle.program.specs.Groups.{has_second}
use Rattle.program.specs.declared.BinaryInstruction.{BinaryInstruction}
use Rattle.program.specs.CanonicalForm.{CanonicalForm, plain, numbered, offset, factored, or_empty, BelowOrder, no_number, below, InOrder}
use Rattle.program.proofs.WordLaws.{first_lt, finds_second}
use Rattle.std.proofs.lemmas.Option.{none-some, same_Some}

-- whether there is one
abbrev pub is_some : {A : Type 0} → Option A → Bool
is_some None = false
is_some (Some a) = true

-- a register or nothing carries no number
carries_none : (a : Option OlaRegister) → carried (or_empty a) ≡ None
carries_none None = refl
carries_none (Some r) = refl

-- registers and empty places have no second word; a number in op1 is the second word
module _ (o : OlaOpcode) (a : Option OlaRegister) where
  pub second_none : (b d : Option OlaRegister) → second_word (made o (or_empty a) (or_empty b) (or_empty d)) ≡ None
  second_none b d = rw (carries_none d, carries_none b, carries_none a)

  pub second_number : (d : Option OlaRegister) (v : ImmediateValue) → second_word (made o (or_empty a) (ImmediateOperand v) (or_empty d)) ≡ Some v.number
  second_number d v = rw (carries_none d)

is_no_number : (a : Option OlaRegister) → is_number (or_empty a) ≡ false
is_no_number None = refl
is_no_number (Some r) = refl

-- there is a second word exactly for a number in op1 and for mload and mstore
pub second_shows : (i : BinaryInstruction) → CanonicalForm i → is_some (second_word i) ≡ (is_number i.op1 || is_memory i.opcode)
second_shows i (plain o a b d h) = rw (second_none o a b d, is_no_number b, h)
second_shows i (numbered o a d v h) = rw (second_number o a d v)
second_shows i (offset o a d v h) = refl
second_shows i (factored o a b d v h) = sym h

-- and that shows in the first word
pub second_in : (i : BinaryInstruction) → CanonicalForm i → is_some (second_word i) ≡ has_second (first_word i)
second_in i c = second_shows i c ∙ sym (finds_second i)

-- an instruction has as many words as are counted for it
pub words_emitted : (i : BinaryInstruction) → CanonicalForm i → length (words_of i) ≡ emitted_length i
words_emitted i c = counted (second_word i) ∙ ap (λ b. cond b 2 1) (second_shows i c ∙ or_comm (is_number i.op1) (is_memory i.opcode))
  where
    counted : (v : Option ℕ) → length (in_order (first_word i) v) ≡ cond (is_some v) 2 1
    counted None = refl
    counted (Some v) = refl

-- the words of the first n instructions are the words before instruction n
pub words_before_lem : (is : List BinaryInstruction) → All CanonicalForm is → (n : ℕ) → length (program_words (take n is)) ≡ words_before is n
unfolding program_words total
words_before_lem is cs zero = refl
words_before_lem is none_left (suc n) = refl
words_before_lem is (one_more {x = i} {xs = is'} c cs) (suc n) =
    length-append (words_of i) (program_words (take n is')) ∙ ap₂ ◌+◌ (words_emitted i c) (words_before_lem is' cs n)

-- where the words before an instruction end, its first word stands
pub first_there : (is : List BinaryInstruction) → All CanonicalForm is → (n : ℕ) (i : BinaryInstruction) → slice_get is n ≡ Some i
    → slice_get (program_words is) (words_before is n) ≡ Some (first_word i)
unfolding program_words total
first_there is none_left n i e = absurd (none-some i e)
first_there is (one_more {x = j} {xs = js} c cs) zero i e = first (second_word j) ∙ ap (λ (b : BinaryInstruction). Some (first_word b)) (same_Some j i e)
  where
    first : (v : Option ℕ) → slice_get (in_order (first_word j) v ++ program_words js) 0 ≡ Some (first_word j)
    first None = refl
    first (Some v) = refl
first_there is (one_more {x = j} {xs = js} c cs) (suc n) i e =
    ap (λ (k : ℕ). slice_get (words_of j ++ program_words js) (k + words_before js n)) (sym (words_emitted j c))
    ∙ at_behind (words_of j) (program_words js) (words_before js n)
    ∙ first_there js cs n i e

-- a program has as many words as are counted for its instructions
pub total_emitted : (is : List BinaryInstruction) → All CanonicalForm is → length (program_words is) ≡ total (map emitted_length is)
unfolding program_words total
total_emitted is none_left = refl
total_emitted is (one_more {x = i} {xs = is'} c cs) = length-append (words_of i) (program_words is') ∙ ap₂ ◌+◌ (words_emitted i c) (total_emitted is' cs)

-- the second word is below p where the instruction's numbers are
pub second_below : (i : BinaryInstruction) → CanonicalForm i → InOrder i → BelowOrder (second_word i)
second_below i c h = last (last h.op0 h.op1) h.dst
  where
    last : {u v : Option ℕ} → BelowOrder u → BelowOrder v → BelowOrder (last_of u v)
    last hu no_number = hu
    last hu (below hv) = below hv

-- words of instructions whose numbers are below p are 64-bit words
pub words_below : (is : List BinaryInstruction) → All CanonicalForm is → All InOrder is → All (λ w. w < 2 ^ 64) (program_words is)
unfolding program_words
words_below is none_left hs = none_left
words_below is (one_more {x = i} {xs = is'} c cs) (one_more h hs) = go (second_word i) (second_below i c h) (words_below is' cs hs)
  where
    go : (v : Option ℕ) → BelowOrder v → All (λ w. w < 2 ^ 64) (program_words is') → All (λ w. w < 2 ^ 64) (in_order (first_word i) v ++ program_words is')
    go v no_number r = one_more (first_lt i) r
    go v (below {v = n} hv) r = one_more (first_lt i) (one_more {x = n} (omega arith) r)
