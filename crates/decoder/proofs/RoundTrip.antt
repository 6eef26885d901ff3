-- An instruction of canonical form is read back from its words, with psp where mov's op1 is empty.
use Rattle.std.specs.Prelude.{Option, Some, None}
use Prim.Native.Nat.{ℕ}
use mathlib.Core.Path.{◌≡◌, refl, sym, ap, ◌∙◌}
use mathlib.Core.List.{List}
use mathlib.Core.Bool.{Bool, true, false, ◌||◌}
use Rattle.text.specs.Answer.{ok}
use Rattle.vm_opcodes.specs.declared.OlaOpcode.{OlaOpcode}
use Rattle.vm_hardware.specs.declared.OlaRegister.{OlaRegister}
use Rattle.vm_operands.specs.Numbers.{immediate}
use Rattle.vm_operands.specs.declared.OlaOperand.TheVariants.{Empty}
use Rattle.program.specs.Instructions.{made, register_in, is_memory, is_mov}
use Rattle.program.specs.Words.{first_word, second_word}
use Rattle.program.specs.declared.BinaryInstruction.{BinaryInstruction}
use Rattle.program.specs.CanonicalForm.{CanonicalForm, plain, numbered, offset, factored, or_empty}
use Rattle.program.proofs.WordLaws.{found_of, finds_operation, finds_op0, finds_op1, finds_dst, finds_number}
use Rattle.program.proofs.FormLaws.{is_some, second_none, second_number, second_shows}
use Rattle.decoder.specs.Lines.{second_of_line}
use Rattle.decoder.specs.Decode.{register_or, missing_op1, memory_built, built_with, built_alone, on_number, two_due, on_operation, decoded}
use Rattle.decoder.specs.AsRead.{op1_as_read, as_read, op1_as_canonical, as_canonical}

-- ---- what is found in a place is what stands there

content_found : (a : Option OlaRegister) → register_or Empty (found_of (register_in (or_empty a))) ≡ or_empty a
content_found None = refl
content_found (Some r) = refl

op1_found : (o : OlaOpcode) (b : Option OlaRegister) → register_or (missing_op1 o) (found_of (register_in (or_empty b))) ≡ op1_as_read o (or_empty b)
op1_found o None = refl
op1_found o (Some r) = refl

-- without a second word, what is built from the first is the instruction as it reads
pub reads_alone : (i : BinaryInstruction) → CanonicalForm i → second_word i ≡ None → built_alone i.opcode (first_word i) ≡ as_read i
reads_alone i (plain o a b d h) e = rw (finds_op0 i, content_found a, finds_op1 i, op1_found o b, finds_dst i, content_found d)
reads_alone i (numbered o a d v h) e = cc (second_number o a d v)
reads_alone i (offset o a d v h) e = cc
reads_alone i (factored o a b d v h) e = cc

-- with a second word, what is built from both is
pub reads_with : (k : ℕ) (i : BinaryInstruction) → CanonicalForm i → (v : ℕ) → second_word i ≡ Some v
    → built_with k i.opcode (first_word i) (immediate v) ≡ ok (as_read i)
unfolding built_with memory_built
reads_with k i (plain o a b d h) v e = cc (second_none o a b d)
reads_with k i (numbered o a d u h) v e =
    let n : v ≡ u.number = cc (second_number o a d u) in
    rw (h, n, finds_op0 i, content_found a, finds_dst i, content_found d)
reads_with k i (offset o a d u h) v e =
    let n : v ≡ u.number = cc in
    rw (h, n, finds_number i, finds_op0 i, finds_dst i)
reads_with k i (factored o a b d u h) v e =
    let n : v ≡ u.number = cc in
    rw (h, n, finds_number i, finds_op0 i, finds_op1 i, finds_dst i)

-- two lines are due exactly where there is a second word
pub two_due_lem : (i : BinaryInstruction) → CanonicalForm i → two_due i.opcode (first_word i) ≡ is_some (second_word i)
two_due_lem i c = ap (λ b. b || is_memory i.opcode) (finds_number i) ∙ sym (second_shows i c)

-- an instruction without a second word is decoded from its first
pub decodes_alone : (k : ℕ) (l : Option (List ℕ)) (i : BinaryInstruction) → CanonicalForm i → second_word i ≡ None → l ≡ None
    → decoded k (first_word i) l ≡ ok (as_read i)
unfolding on_operation
decodes_alone k l i c e f = rw (f, finds_operation i) (ap ok (reads_alone i c e))

-- and one with a second word from the first and a line that is the second
pub decodes_with : (k : ℕ) (l : Option (List ℕ)) (i : BinaryInstruction) → CanonicalForm i → (v : ℕ) → second_word i ≡ Some v
    → (t : List ℕ) → l ≡ Some t → second_of_line t ≡ Some (immediate v) → decoded k (first_word i) l ≡ ok (as_read i)
unfolding on_operation on_number
decodes_with k l i c v e t f g = rw (f, finds_operation i, two_due_lem i c, e, g) (reads_with k i c v e)

-- ---- reading undone

-- what a place without a number and without a register reads as is empty
pub missing_empty : (o : OlaOpcode) → op1_as_canonical o (missing_op1 o) ≡ Empty
missing_empty o = go (is_mov o) refl
  where
    go : (b : Bool) → is_mov o ≡ b → op1_as_canonical o (missing_op1 o) ≡ Empty
    go true e = rw (e, e)
    go false e = rw e

-- an instruction of canonical form is got back from how it reads
pub as_canonical_lem : (i : BinaryInstruction) → CanonicalForm i → as_canonical (as_read i) ≡ i
as_canonical_lem i (plain o a None d h) = ap (λ q. made o (or_empty a) q (or_empty d)) (missing_empty o)
as_canonical_lem i (plain o a (Some r) d h) = refl
as_canonical_lem i (numbered o a d v h) = refl
as_canonical_lem i (offset o a d v h) = refl
as_canonical_lem i (factored o a b d v h) = refl

-- canonical instructions that read as one are one
pub as_read_injective : (i j : BinaryInstruction) → CanonicalForm i → CanonicalForm j → as_read i ≡ as_read j → i ≡ j
as_read_injective i j ci cj e = sym (as_canonical_lem i ci) ∙ ap as_canonical e ∙ as_canonical_lem j cj
