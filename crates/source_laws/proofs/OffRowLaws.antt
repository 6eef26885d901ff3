-- Refusal 26: what is found off its row, what writing a source then answers, and that no row of a source reads so.
use Rattle.std.specs.Prelude.{Option, Some, None, slice_get}
use Prim.Native.Nat.{ℕ, zero, suc, ◌+◌, ◌<◌, ◌≤◌}
use mathlib.Core.Logic.{◌↔◌}
use mathlib.Core.Path.{◌≡◌, refl, sym, ap, subst, ◌∙◌}
use mathlib.Core.List.{List, [], ◌∷◌}
use mathlib.Core.Bool.{Bool, true, false, cond}
use native.Mathlib.Omega.{arith}
use native.Mathlib.Nat.{zero-add}
use borrow.Author.Tests.{le-ltb}
use lib.Dec.{ltb}
use lib.ListN.{length}
use Rattle.text.specs.Answer.{ok, refused, ◌>>=◌, ◌>>◌, refuse_if, refuse_at}
use Rattle.text.specs.All.{All, none_left, one_more}
use Rattle.text.proofs.AnswerLaws.{ok_same, ok_bind, if_passed, at_passed}
use Rattle.vm_opcodes.specs.Operations.{row_places}
use Rattle.vm_opcodes.specs.declared.OlaOpcode.{OlaOpcode}
use Rattle.vm_opcodes.specs.declared.RowPlaces.{RowPlaces}
use Rattle.vm_opcodes.specs.declared.RowPlaces.TheVariants.{DstOp0Op1, DstOp1, DstMemory, MemoryDst, Op0Op1, Op1, Bare}
use Rattle.vm_operands.specs.declared.OlaOperand.{OlaOperand}
use Rattle.asm.specs.Parts.{Part}
use Rattle.asm.specs.Rows.{arranged, row_of, instructions}
use Rattle.asm.specs.declared.OlaAsmOperand.{OlaAsmOperand}
use Rattle.asm.specs.declared.OlaAsmOperand.TheVariants.{Empty}
use Rattle.asm.specs.declared.OlaAsmInstruction.{OlaAsmInstruction}
use Rattle.asm.specs.declared.AsmRow.TheVariants.{Instruction}
use Rattle.asm_laws.proofs.LengthLaws.{instruction_row_lem}
use Rattle.asm_laws.proofs.ShapeLaws.{RowHolds}
use Rattle.relocate_laws.proofs.LengthLaws.{sorted_instructions_lem}
use Rattle.program.specs.Bytecode.{within}
use Rattle.program.specs.declared.BinaryInstruction.{BinaryInstruction}
use Rattle.encoder.specs.Canonical.{Names, names_of, plain}
use Rattle.encoder.specs.Assemble.{Room, Accepted, assembled}
use Rattle.encoder.proofs.Origins.{Resolved, anchored_counted, Origin, ordinary, load, store, canonical_origin}
use Rattle.encoder.proofs.AcceptedLaws.{accepted_rows, Pairs, no_pair, one_pair, canonical_pairs}
use Rattle.decoder.specs.Open.{opened}
use Rattle.source.specs.SourceText.{source_text, is_full, off_row, is_off_row, first_off_row, source_written}
use Rattle.std.proofs.lemmas.Option.{none-some, same_Some}

-- ---- the first that is off its row

-- instruction k is off its row, and none before it is
abbrev FirstOff : List BinaryInstruction → ℕ → Type 0
FirstOff is k =
    (i : BinaryInstruction) × (slice_get is k ≡ Some i) × (is_off_row i ≡ true)
    × ((j : ℕ) → j < k → (b : BinaryInstruction) → slice_get is j ≡ Some b → is_off_row b ≡ false)

-- one more instruction ahead, which is not off its row
first_behind : (i : BinaryInstruction) (is : List BinaryInstruction) (k : ℕ) → is_off_row i ≡ false → FirstOff is k → FirstOff (i ∷ is) (suc k)
first_behind i is k e (b, g, o, r) = (b, g, o, before)
  where
    before : (j : ℕ) → j < suc k → (c : BinaryInstruction) → slice_get (i ∷ is) j ≡ Some c → is_off_row c ≡ false
    before zero l c h = subst (λ (d : BinaryInstruction). is_off_row d ≡ false) (same_Some i c h) e
    before (suc j) l c h = r j (omega arith) c h

first_found : (n : ℕ) (is : List BinaryInstruction) (k : ℕ) → first_off_row n is ≡ Some k → (j : ℕ) × (k ≡ n + j) × FirstOff is j
unfolding first_off_row
first_found n [] k h = absurd (none-some k h)
first_found n (i ∷ is) k h = go (is_off_row i) refl (first_found (suc n) is k) h
  where
    go : (t : Bool) → is_off_row i ≡ t → (first_off_row (suc n) is ≡ Some k → (j : ℕ) × (k ≡ suc n + j) × FirstOff is j)
        → cond t (Some n) (first_off_row (suc n) is) ≡ Some k → (j : ℕ) × (k ≡ n + j) × FirstOff (i ∷ is) j
    go true e r h =
        let s = same_Some n k h in
        (0, omega arith, (i, refl, e, λ j l b g. absurd (omega arith)))
    go false e r h = let x = r h in let s = x.1 in (suc x.0, omega arith, first_behind i is x.0 e x.2)

found_first : (n : ℕ) (is : List BinaryInstruction) (k : ℕ) → FirstOff is k → first_off_row n is ≡ Some (n + k)
unfolding first_off_row
found_first n [] k (b, g, o, r) = absurd (none-some b g)
found_first n (i ∷ is) zero (b, g, o, r) =
    let e : is_off_row i ≡ true = ap is_off_row (same_Some i b g) ∙ o in
    let z : n ≡ n + 0 = omega arith in
    rw e (ap Some z)
found_first n (i ∷ is) (suc k) (b, g, o, r) =
    let e : is_off_row i ≡ false = r 0 (omega arith) i refl in
    let z : suc n + k ≡ n + suc k = omega arith in
    rw e (found_first (suc n) is k (b, g, o, λ j l c h. r (suc j) (omega arith) c h) ∙ ap Some z)

-- 26's index is that of the first instruction off its row
pub first_off_row_lem : (is : List BinaryInstruction) (k : ℕ) → (first_off_row 0 is ≡ Some k) ↔ FirstOff is k
first_off_row_lem is k = (
  λ h. let x = first_found 0 is k h in subst (FirstOff is) (sym (x.1 ∙ zero-add x.0)) x.2,
  λ f. found_first 0 is k f ∙ ap Some (zero-add k),
)

none_found : (n : ℕ) (is : List BinaryInstruction) → first_off_row n is ≡ None → All (λ i. is_off_row i ≡ false) is
unfolding first_off_row
none_found n [] h = none_left
none_found n (i ∷ is) h = go (is_off_row i) refl (none_found (suc n) is) h
  where
    go : (t : Bool) → is_off_row i ≡ t → (first_off_row (suc n) is ≡ None → All (λ i. is_off_row i ≡ false) is)
        → cond t (Some n) (first_off_row (suc n) is) ≡ None → All (λ i. is_off_row i ≡ false) (i ∷ is)
    go true e r h = absurd (none-some n (sym h))
    go false e r h = one_more e (r h)

found_none : (n : ℕ) (is : List BinaryInstruction) → All (λ i. is_off_row i ≡ false) is → first_off_row n is ≡ None
unfolding first_off_row
found_none n is none_left = refl
found_none n is (one_more {xs = js} e h) = rw e (found_none (suc n) js h)

-- there is none exactly where none is off its row
pub none_off_row : (is : List BinaryInstruction) → (first_off_row 0 is ≡ None) ↔ All (λ i. is_off_row i ≡ false) is
none_off_row is = (none_found 0 is, found_none 0 is)

-- ---- what writing answers

module _ (text : List ℕ) (is : List BinaryInstruction) (h : opened text ≡ ok is) where
  -- by what is found off its row, then by the room
  opened_written : (room : ℕ) → source_written text room ≡ (refuse_at (first_off_row 0 is) 26 >> within room (source_text is))
  unfolding source_written ◌>>=◌
  opened_written room = rw h

  -- 26 comes, with index k, exactly where instruction k is the first off its row
  pub source_refused : (room k : ℕ) → (source_written text room ≡ refused 26 k) ↔ (first_off_row 0 is ≡ Some k)
  unfolding ◌>>◌ refuse_at refuse_if within
  source_refused room k = (λ e. there (first_off_row 0 is) (sym (opened_written room) ∙ e), λ e. opened_written room ∙ rw e)
    where
      -- 23 is not 26
      fits : (t : Bool) → refuse_if t 23 >> ok (source_text is) ≡ refused 26 k → ⊥
      fits true e = let z : ◌≡◌ {A = ℕ} 23 26 = cc in omega arith
      fits false e = let z : ◌≡◌ {A = ℕ} 0 1 = cc in omega arith

      there : (o : Option ℕ) → refuse_at o 26 >> within room (source_text is) ≡ refused 26 k → o ≡ Some k
      there None e = absurd (fits (ltb room (length (source_text is))) e)
      there (Some d) e = cc

  -- where none is off its row and the text fits, it is written
  pub source_written_lem : (room : ℕ) → first_off_row 0 is ≡ None → length (source_text is) ≤ room → source_written text room ≡ ok (source_text is)
  unfolding ◌>>◌ refuse_at refuse_if within
  source_written_lem room e l = opened_written room ∙ rw (e, le-ltb room (length (source_text is)) l)

  -- where none is off its row, only the room is asked
  pub on_rows_written : (room : ℕ) → first_off_row 0 is ≡ None → source_written text room ≡ within room (source_text is)
  unfolding ◌>>◌ refuse_at
  on_rows_written room e = opened_written room ∙ rw e

-- a source that was written: what was opened, with none off its row, and its text
pub written_source : (text : List ℕ) (room : ℕ) (t : List ℕ) → source_written text room ≡ ok t
    → (is : List BinaryInstruction) × (opened text ≡ ok is) × (first_off_row 0 is ≡ None) × (t ≡ source_text is)
unfolding source_written within
written_source text room t e =
    let a = ok_bind (opened text) _ t e in
    let b = at_passed (first_off_row 0 a.0) 26 _ t a.2 in
    let c = if_passed _ 23 _ t b.1 in
    (a.0, a.1, b.0, sym (ok_same c.1))

-- ---- rows that were read

-- a row whose instruction has nothing in the places that it does not have
abbrev OnRow : RowPlaces → OlaAsmInstruction → Type 0
OnRow DstOp0Op1 i = Unit {0}
OnRow DstOp1 i = i.op0 ≡ Empty
OnRow DstMemory i = Unit {0}
OnRow MemoryDst i = Unit {0}
OnRow Op0Op1 i = i.dst ≡ Empty
OnRow Op1 i = (i.op0 ≡ Empty) × (i.dst ≡ Empty)
OnRow Bare i = (i.op0 ≡ Empty) × (i.op1 ≡ Empty) × (i.dst ≡ Empty)

arranged_on : (o : OlaOpcode) (p : RowPlaces) (os : List OlaAsmOperand) → RowHolds (OnRow p) (arranged o p os)
unfolding arranged
arranged_on o DstOp0Op1 [] = tt
arranged_on o DstOp0Op1 (a ∷ []) = tt
arranged_on o DstOp0Op1 (a ∷ b ∷ []) = tt
arranged_on o DstOp0Op1 (a ∷ b ∷ c ∷ []) = tt
arranged_on o DstOp0Op1 (a ∷ b ∷ c ∷ d ∷ e) = tt
arranged_on o DstOp1 [] = tt
arranged_on o DstOp1 (a ∷ []) = tt
arranged_on o DstOp1 (a ∷ b ∷ []) = refl
arranged_on o DstOp1 (a ∷ b ∷ c ∷ d) = tt
arranged_on o DstMemory [] = tt
arranged_on o DstMemory (a ∷ []) = tt
arranged_on o DstMemory (a ∷ b ∷ []) = tt
arranged_on o DstMemory (a ∷ b ∷ c ∷ d) = tt
arranged_on o MemoryDst [] = tt
arranged_on o MemoryDst (a ∷ []) = tt
arranged_on o MemoryDst (a ∷ b ∷ []) = tt
arranged_on o MemoryDst (a ∷ b ∷ c ∷ d) = tt
arranged_on o Op0Op1 [] = tt
arranged_on o Op0Op1 (a ∷ []) = tt
arranged_on o Op0Op1 (a ∷ b ∷ []) = refl
arranged_on o Op0Op1 (a ∷ b ∷ c ∷ d) = tt
arranged_on o Op1 [] = tt
arranged_on o Op1 (a ∷ []) = (refl, refl)
arranged_on o Op1 (a ∷ b ∷ c) = tt
arranged_on o Bare [] = (refl, refl, refl)
arranged_on o Bare (a ∷ b) = tt

row_on : (ps : List Part) (i : OlaAsmInstruction) → row_of ps ≡ Some (Instruction i) → OnRow (row_places i.opcode) i
row_on ps i h =
    let r = instruction_row_lem ps i h in
    subst (RowHolds (OnRow (row_places i.opcode))) r.placed (arranged_on i.opcode (row_places i.opcode) r.operands)

-- ---- their instructions

module _ (names : Names) (k : ℕ) where
  -- an empty place of the row is empty in the instruction
  empty_stays : (x : OlaAsmOperand) (c : OlaOperand) → x ≡ Empty → plain names k x ≡ ok c → is_full c ≡ false
  empty_stays x c e h = ap is_full (sym (ok_same (ap (plain names k) (sym e) ∙ h)))

  resolved_on : (p : RowPlaces) (i : OlaAsmInstruction) (b : BinaryInstruction) → Resolved names k i b → OnRow p i → off_row p b ≡ false
  resolved_on DstOp0Op1 i b r h = refl
  resolved_on DstOp1 i b r h = empty_stays i.op0 b.op0 h r.op0
  resolved_on DstMemory i b r h = refl
  resolved_on MemoryDst i b r h = refl
  resolved_on Op0Op1 i b r h = empty_stays i.dst b.dst h r.dst
  resolved_on Op1 i b r h = rw (empty_stays i.op0 b.op0 h.0 r.op0, empty_stays i.dst b.dst h.1 r.dst)
  resolved_on Bare i b r h =
      rw (empty_stays i.op0 b.op0 h.0 r.op0, empty_stays i.op1 b.op1 h.1 r.op1, empty_stays i.dst b.dst h.2 r.dst)

  origin_on : (i : OlaAsmInstruction) (b : BinaryInstruction) → Origin names k i b → OnRow (row_places i.opcode) i → is_off_row b ≡ false
  origin_on i b (ordinary m z r) h =
      ap (λ (o : OlaOpcode). off_row (row_places o) b) (sym r.opcode) ∙ resolved_on (row_places i.opcode) i b r h
  origin_on i b (load e a) h =
      ap (λ (o : OlaOpcode). off_row (row_places o) b) (sym (anchored_counted i.opcode i.op1 i.dst b a).2) ∙ ap (λ (p : RowPlaces). off_row p b) e
  origin_on i b (store e a) h =
      ap (λ (o : OlaOpcode). off_row (row_places o) b) (sym (anchored_counted i.opcode i.op0 i.op1 b a).2) ∙ ap (λ (p : RowPlaces). off_row p b) e

pairs_on : (names : Names) (k : ℕ) (is : List OlaAsmInstruction) (bs : List BinaryInstruction) → Pairs names k is bs
    → All (λ i. OnRow (row_places i.opcode) i) is → All (λ b. is_off_row b ≡ false) bs
pairs_on names k is bs no_pair none_left = none_left
pairs_on names k is bs (one_pair {i = i} {b = b} {is = js} {bs = cs} e p) (one_more h hs) =
    one_more (origin_on names k i b (canonical_origin names k i b e) h) (pairs_on names (suc k) js cs p hs)

-- no instruction of an accepted source is off its row
pub no_row_reads_so : (s prophets : List ℕ) (room : Room) (a : Accepted) → assembled s prophets room ≡ ok a → All (λ i. is_off_row i ≡ false) a.program
no_row_reads_so s prophets room a h =
    let r = accepted_rows s prophets room a h in
    pairs_on (names_of s r.rows) 0 (instructions r.rows) a.program
    (canonical_pairs (names_of s r.rows) 0 (instructions r.rows) a.program r.canonical)
    (sorted_instructions_lem (λ i. OnRow (row_places i.opcode) i) row_on s r.rows r.sorted)
