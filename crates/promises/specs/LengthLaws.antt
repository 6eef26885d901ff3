-- The words of an accepted source, each printed on a line of nineteen bytes, fit a text of 524,288 bytes.
use Rattle.std.specs.Prelude.{ℕ, suc, ◌*◌, ◌≤◌, ◌≡◌, List, [], ◌∷◌, map, Bool, not, ◌||◌, cond}
use Rattle.std.proofs.Math.Path.{refl, subst}
use Rattle.std.proofs.Common.{sym, ap, ◌∙◌}
use Rattle.std.proofs.Math.Bool.{true, false}
use native.Mathlib.Omega.{arith}
use Rattle.std.proofs.lemmas.Bool.{not-true}
use Rattle.text.specs.Lists.{total}
use Rattle.text.specs.Answer.{ok}
use Rattle.text.specs.All.{All, one_more}
use Rattle.text.proofs.AnswerLaws.{ok_same, ok_bind}
use Rattle.vm_opcodes.specs.Operations.{operations, row_places}
use Rattle.vm_opcodes.specs.declared.OlaOpcode.{OlaOpcode}
use Rattle.vm_opcodes.specs.declared.RowPlaces.{RowPlaces}
use Rattle.vm_opcodes.specs.declared.RowPlaces.TheVariants.{Bare}
use Rattle.vm_operands.specs.declared.OlaOperand.TheVariants.{Empty as NoContent}
use Rattle.asm.specs.Rows.{instructions}
use Rattle.asm.specs.declared.OlaAsmOperand.TheVariants.{Empty}
use Rattle.asm.specs.declared.OlaAsmInstruction.{OlaAsmInstruction}
use Rattle.vm_opcodes.proofs.Laws.{every_operation}
use Rattle.asm_laws.proofs.LengthLaws.{least_bytes, least_four, least_six, is_bare, is_bare_lem, BareIsEmpty}
use Rattle.relocate_laws.proofs.LengthLaws.{sorted_length, sorted_bytes, sorted_bare}
use Rattle.program.specs.Instructions.{is_number, is_memory}
use Rattle.program.specs.Words.{emitted_length}
use Rattle.program.specs.declared.BinaryInstruction.{BinaryInstruction}
use Rattle.encoder.specs.Canonical.{Names, names_of, plain, general, canonical_by, canonical_of, canonical_from}
use Rattle.encoder.specs.Assemble.{Room, Accepted, assembled}
use Rattle.encoder.proofs.Origins.{general_resolved}
use Rattle.encoder.proofs.AcceptedLaws.{accepted_rows}
use Rattle.decoder.specs.Open.{max_bytecode_bytes}

-- ---- the words of an instruction

most_two : (t : Bool) → cond t 2 1 ≤ 2
most_two true = omega arith
most_two false = omega arith

emitted_most : (b : BinaryInstruction) → emitted_length b ≤ 2
emitted_most b = most_two (is_memory b.opcode || is_number b.op1)

-- an operation that has no places is no mload or mstore
bare_no_memory : (o : OlaOpcode) → is_bare (row_places o) ≡ true → is_memory o ≡ false
unfolding operations
bare_no_memory o e =
    not-true (is_memory o)
    (ap (λ (t : Bool). not t || not (is_memory o)) (sym e) ∙ every_operation (λ o. not (is_bare (row_places o)) || not (is_memory o)) refl o)

module _ (names : Names) (k : ℕ) (i : OlaAsmInstruction) (b : BinaryInstruction) where
  -- one word where op1 is empty and the operation is no mload or mstore
  general_one : is_memory i.opcode ≡ false → i.op1 ≡ Empty → general names k i ≡ ok b → emitted_length b ≡ 1
  general_one m e h =
      let r = (general_resolved names k i b h).1 in
      let n : NoContent ≡ b.op1 = ok_same (ap (plain names k) (sym e) ∙ r.op1) in
      rw (← r.opcode, m, ← n)

  canonical_words : BareIsEmpty i → canonical_of names k i ≡ ok b → 19 * emitted_length b ≤ 7 * least_bytes i.opcode
  unfolding canonical_by
  canonical_words f h = go (is_bare (row_places i.opcode)) refl
    where
      go : (t : Bool) → is_bare (row_places i.opcode) ≡ t → 19 * emitted_length b ≤ 7 * least_bytes i.opcode
      go true e =
          let p : row_places i.opcode ≡ Bare = is_bare_lem (row_places i.opcode) e in
          let g : general names k i ≡ ok b = subst (λ (p : RowPlaces). canonical_by p names k i ≡ ok b) p h in
          let w = general_one (bare_no_memory i.opcode e) (f p).1 g in
          let l = least_four i.opcode in
          omega arith
      go false e = let w = emitted_most b in let l = least_six i.opcode e in omega arith

program_words_lem : (names : Names) (k : ℕ) (is : List OlaAsmInstruction) (bs : List BinaryInstruction) → All BareIsEmpty is → canonical_from names k is ≡ ok bs
    → 19 * total (map emitted_length bs) ≤ 7 * total (map (λ i. least_bytes i.opcode) is)
unfolding canonical_from total
program_words_lem names k [] bs f h = rw (← ok_same h) (omega arith)
program_words_lem names k (i ∷ is) bs (one_more e f) h =
    let x = ok_bind (canonical_of names k i) _ bs h in
    let y = ok_bind (canonical_from names (suc k) is) _ bs x.2 in
    let a = canonical_words names k i x.0 e x.1 in
    let b = program_words_lem names (suc k) is y.0 f y.1 in
    rw (← ok_same y.2) (omega arith)

-- nineteen bytes for every word of an accepted source are at most 524,288
pub words_fit : (s prophets : List ℕ) (room : Room) (a : Accepted) → assembled s prophets room ≡ ok a → 19 * total (map emitted_length a.program) ≤ max_bytecode_bytes
words_fit s prophets room a h =
    let r = accepted_rows s prophets room a h in
    let w = program_words_lem (names_of s r.rows) 0 (instructions r.rows) a.program (sorted_bare s r.rows r.sorted) r.canonical in
    let b = sorted_bytes s r.rows r.sorted in
    let l = sorted_length s r.rows r.sorted in
    omega arith
