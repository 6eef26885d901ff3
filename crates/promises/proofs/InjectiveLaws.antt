-- Canonical programs are determined by their words and by what is read back from them; numbers below p are their own residues.
use Rattle.std.specs.Prelude.{ℕ, ◌≡◌, refl, List, [], ◌∷◌, ◌++◌, map, Option, Some, None}
use Rattle.std.proofs.Common.{sym, ap, ap₂, ◌∙◌, mod-eq_of_lt}
use Rattle.text.specs.Answer.{ok}
use Rattle.text.specs.All.{All, none_left, one_more}
use Rattle.vm_opcodes.specs.Operations.{operation_in}
use Rattle.vm_operands.specs.Numbers.{immediate}
use Rattle.vm_operands.specs.declared.ImmediateValue.{ImmediateValue}
use Rattle.vm_operands.specs.declared.OlaOperand.{OlaOperand}
use Rattle.vm_operands.specs.declared.OlaOperand.TheVariants.{Empty, ImmediateOperand, RegisterOperand, RegisterWithOffset, RegisterWithFactor, SpecialReg}
use Rattle.program.specs.Instructions.{carried}
use Rattle.program.specs.Words.{first_word, second_word, in_order, program_words}
use Rattle.program.specs.Groups.{has_second}
use Rattle.program.specs.declared.BinaryInstruction.{BinaryInstruction}
use Rattle.program.specs.CanonicalForm.{CanonicalForm, BelowOrder, below, InOrder}
use Rattle.program.proofs.WordLaws.{finds_operation}
use Rattle.program.proofs.FormLaws.{is_some, second_in}
use Rattle.decoder.specs.Decode.{built_alone, built_with}
use Rattle.decoder.specs.AsRead.{as_read}
use Rattle.decoder.proofs.RoundTrip.{reads_alone, reads_with, as_read_injective}
use Rattle.promises.specs.Terms.{residue, content_residue, instruction_residue}

-- ---- one instruction

-- the first and the second word determine a canonical instruction
pub words_determine : (i j : BinaryInstruction) → CanonicalForm i → CanonicalForm j → first_word i ≡ first_word j → second_word i ≡ second_word j → i ≡ j
words_determine i j ci cj e f = as_read_injective i j ci cj (go (second_word j) f refl)
  where
    same_operation : i.opcode ≡ j.opcode
    same_operation =
        let p : Some i.opcode ≡ Some j.opcode = sym (finds_operation i) ∙ ap operation_in e ∙ finds_operation j in
        cc

    go : (v : Option ℕ) → second_word i ≡ v → second_word j ≡ v → as_read i ≡ as_read j
    go None p q = sym (reads_alone i ci p) ∙ ap₂ built_alone same_operation e ∙ reads_alone j cj q
    go (Some v) p q =
        let r : ok (as_read i) ≡ ok (as_read j) = sym (reads_with 0 i ci v p) ∙ ap₂ (λ o w. built_with 0 o w (immediate v)) same_operation e ∙ reads_with 0 j cj v q in
        cc

-- ---- programs

-- lists that begin with an instruction's words agree in the first word
first_same : (w x : ℕ) (v u : Option ℕ) (s t : List ℕ) → in_order w v ++ s ≡ in_order x u ++ t → w ≡ x
first_same w x None None s t h = cc
first_same w x None (Some u) s t h = cc
first_same w x (Some v) None s t h = cc
first_same w x (Some v) (Some u) s t h = cc

-- and, where both or neither have a second word, in that and in the rest
rest_same : (w x : ℕ) (v u : Option ℕ) (s t : List ℕ) → is_some v ≡ is_some u → in_order w v ++ s ≡ in_order x u ++ t → (v ≡ u) × (s ≡ t)
rest_same w x None None s t e h = (refl, cc)
rest_same w x None (Some u) s t e h = (cc, cc)
rest_same w x (Some v) None s t e h = (cc, cc)
rest_same w x (Some v) (Some u) s t e h = (cc, cc)

-- an instruction has a word
not_empty : (w : ℕ) (v : Option ℕ) (s : List ℕ) → in_order w v ++ s ≡ [] → ◌≡◌ {A = ℕ} 0 1
not_empty w None s h = cc
not_empty w (Some v) s h = cc

-- equal words mean equal canonical programs
pub programs_determine : (is js : List BinaryInstruction) → All CanonicalForm is → All CanonicalForm js → program_words is ≡ program_words js → is ≡ js
unfolding program_words
programs_determine [] [] a b h = refl
programs_determine [] (j ∷ js) a b h = let z = not_empty (first_word j) (second_word j) (program_words js) (sym h) in cc
programs_determine (i ∷ is) [] a b h = let z = not_empty (first_word i) (second_word i) (program_words is) h in cc
programs_determine (i ∷ is) (j ∷ js) (one_more ci a) (one_more cj b) h =
    let e = first_same (first_word i) (first_word j) (second_word i) (second_word j) (program_words is) (program_words js) h in
    let r = rest_same (first_word i) (first_word j) (second_word i) (second_word j) (program_words is) (program_words js)
    (second_in i ci ∙ ap has_second e ∙ sym (second_in j cj)) h in
    ap₂ ◌∷◌ (words_determine i j ci cj e r.0) (programs_determine is js a b r.1)

-- canonical programs that read as one are one
pub as_read_programs : (is js : List BinaryInstruction) → All CanonicalForm is → All CanonicalForm js → map as_read is ≡ map as_read js → is ≡ js
as_read_programs [] [] a b h = refl
as_read_programs [] (j ∷ js) a b h = cc
as_read_programs (i ∷ is) [] a b h = cc
as_read_programs (i ∷ is) (j ∷ js) (one_more ci a) (one_more cj b) h = ap₂ ◌∷◌ (as_read_injective i j ci cj cc) (as_read_programs is js a b cc)

-- ---- residues

number_same : (v : ImmediateValue) → BelowOrder (Some v.number) → residue v ≡ v
number_same v (below h) = ap immediate (mod-eq_of_lt h)

content_same : (o : OlaOperand) → BelowOrder (carried o) → content_residue o ≡ o
content_same Empty h = refl
content_same (ImmediateOperand v) h = ap ImmediateOperand (number_same v h)
content_same (RegisterOperand r) h = refl
content_same (RegisterWithOffset r v) h = ap (RegisterWithOffset r) (number_same v h)
content_same (RegisterWithFactor r v) h = ap (RegisterWithFactor r) (number_same v h)
content_same (SpecialReg s) h = refl

-- an instruction whose numbers are below p is its own residue
pub residue_same : (i : BinaryInstruction) → InOrder i → instruction_residue i ≡ i
residue_same i h = rw (content_same i.op0 h.op0, content_same i.op1 h.op1, content_same i.dst h.dst)

-- and so is a program of such instructions
pub residues_same : (is : List BinaryInstruction) → All InOrder is → map instruction_residue is ≡ is
residues_same is none_left = refl
residues_same is (one_more {x = i} {xs = is'} h hs) = ap₂ ◌∷◌ (residue_same i h) (residues_same is' hs)
