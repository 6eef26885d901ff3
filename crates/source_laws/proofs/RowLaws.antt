-- A source row reads back as its instruction.
use Rattle.std.specs.Prelude.{Option, Some, None}
use Prim.Native.Nat.{ℕ, ◌+◌, ◌<◌}
use mathlib.Core.Path.{◌≡◌, refl, sym, ap, ◌∙◌}
use mathlib.Core.List.{List, [], ◌∷◌, ◌++◌}
use mathlib.Core.Bool.{true, false, ◌||◌, true≢false}
use lib.ListN.{length}
use Rattle.text.specs.Bytes.{is_digit, is_letter, is_word, same}
use Rattle.text.specs.Scan.{scan, all, is_empty}
use Rattle.text.specs.All.{All, none_left, one_more}
use Rattle.text.specs.Answer.{ok, ◌>>=◌, ◌>>◌, refuse_at}
use Rattle.text.proofs.Laws.{both_false}
use Rattle.vm_opcodes.specs.Operations.{operations, row_places}
use Rattle.vm_opcodes.specs.declared.OlaOpcode.{OlaOpcode}
use Rattle.vm_opcodes.specs.declared.RowPlaces.{RowPlaces}
use Rattle.vm_opcodes.specs.declared.RowPlaces.TheVariants.{DstOp0Op1, DstOp1, DstMemory, MemoryDst, Op0Op1, Op1, Bare}
use Rattle.vm_opcodes.proofs.Laws.{agree}
use Rattle.vm_mnemonics.specs.Mnemonics.{mnemonic, operation_of}
use Rattle.vm_mnemonics.proofs.Laws.{read_back}
use Rattle.vm_hardware.specs.declared.OlaRegister.{OlaRegister}
use Rattle.vm_hardware.specs.declared.OlaSpecialRegister.TheVariants.{PSP}
use Rattle.vm_operands.specs.Numbers.{order}
use Rattle.vm_operands.specs.declared.ImmediateValue.{ImmediateValue}
use Rattle.vm_operands.specs.declared.OlaOperand.{OlaOperand}
use Rattle.vm_operands.specs.declared.OlaOperand.TheVariants.{Empty as NoContent, ImmediateOperand as ANumber, RegisterOperand as ARegister, RegisterWithOffset as AnOffset, RegisterWithFactor as AFactor, SpecialReg as ASpecial}
use Rattle.asm.specs.Parts.{placed, line_pieces}
use Rattle.asm.specs.Rows.{instruction_row, instruction, arranged, operands_of, arranged_if, is_call_row, is_pair_row, label_row, or_else_row, row_of}
use Rattle.asm.specs.Survey.{is_memory_row}
use Rattle.asm.specs.declared.OlaAsmOperand.{OlaAsmOperand}
use Rattle.asm.specs.declared.OlaAsmOperand.TheVariants.{Empty, ImmediateOperand, RegisterOperand, RegisterWithOffset, RegisterWithFactoredRegOffset, SpecialReg}
use Rattle.asm.specs.declared.AsmRow.{AsmRow}
use Rattle.program.specs.Instructions.{made, is_number}
use Rattle.program.specs.CanonicalForm.{or_empty, CanonicalForm, plain as registers, numbered, offset, factored, BelowOrder, below, InOrder}
use Rattle.program.specs.declared.BinaryInstruction.{BinaryInstruction}
use Rattle.encoder.specs.Canonical.{Names, plain, is_bracketed, anchored, general, memory, canonical_by}
use Rattle.encoder.proofs.Origins.{memory_rows}
use Rattle.source.specs.SourceText.{place_source, memory_source, places_source, spaced_all, source_row, is_full, off_row, is_off_row}
use Rattle.source_laws.proofs.ReadsAs.{is_row_byte, ReadsAs}
use Rattle.source_laws.proofs.PieceLaws.{is_plain, Piece, row_bytes_lem, row_pieces_lem}
use Rattle.source_laws.proofs.PlaceLaws.{Reads, register_reads, psp_reads, number_reads, offset_reads, factored_reads}

-- ---- the mnemonic

mnemonic_piece : (o : OlaOpcode) → Piece (mnemonic o)
unfolding operations all
mnemonic_piece o = record { some = agree (λ o. false) (λ o. is_empty (mnemonic o)) true refl o; plain = agree (λ o. true) (λ o. all is_plain (mnemonic o)) false refl o }

-- alone it is no label row
no_label : (i : ℕ) (o : OlaOpcode) → label_row (record { start = i; text = mnemonic o }) ≡ None
unfolding operations label_row is_call_row is_pair_row scan same is_word is_letter is_digit
no_label i = agree (λ o. None) (λ o. label_row (record { start = i; text = mnemonic o })) None refl

-- ---- a row of pieces that read as operands

-- texts and the operands that they read as
data ReadAll : List (List ℕ) → List OlaAsmOperand → Type 0 where
  all_read : ReadAll [] []
  one_read : {t : List ℕ} {o : OlaAsmOperand} {ts : List (List ℕ)} {os : List OlaAsmOperand} → Reads t o → ReadAll ts os → ReadAll (t ∷ ts) (o ∷ os)

pieces_of : {ts : List (List ℕ)} {os : List OlaAsmOperand} → ReadAll ts os → All Piece ts
pieces_of all_read = none_left
pieces_of (one_read h r) = one_more h.piece (pieces_of r)

operands_read : {ts : List (List ℕ)} {os : List OlaAsmOperand} → ReadAll ts os → (i : ℕ) → operands_of (placed i ts) ≡ Some os
unfolding operands_of placed
operands_read all_read i = refl
operands_read (one_read {t = t} h r) i = rw (h.read i, operands_read r (i + (length t + 1)))

row_read : (o : OlaOpcode) {ts : List (List ℕ)} {os : List OlaAsmOperand} → ReadAll ts os → (i : ℕ) → row_of (placed i (mnemonic o ∷ ts)) ≡ arranged o (row_places o) os
unfolding row_of placed arranged_if
row_read o all_read i =
    ap (λ (l : Option AsmRow). or_else_row l (arranged_if (operation_of (mnemonic o)) (Some []))) (no_label i o)
    ∙ ap (λ (f : Option OlaOpcode). arranged_if f (Some [])) (read_back o)
row_read o (one_read {t = t} {ts = ts} h r) i =
    ap (λ (f : Option OlaOpcode). arranged_if f (operands_of (placed (i + (length (mnemonic o) + 1)) (t ∷ ts)))) (read_back o)
    ∙ ap (λ (x : Option (List OlaAsmOperand)). arranged_if (Some o) x) (operands_read (one_read h r) (i + (length (mnemonic o) + 1)))

-- an instruction whose written places read as operands that, put into the row's places, are canonically the instruction
module _ (i : BinaryInstruction) (p : RowPlaces) (e : row_places i.opcode ≡ p) where
  row_text_lem : source_row i ≡ mnemonic i.opcode ++ spaced_all (places_source p i)
  row_text_lem = ap (λ (q : RowPlaces). mnemonic i.opcode ++ spaced_all (places_source q i)) e

  row_reads : {os : List OlaAsmOperand} → ReadAll (places_source p i) os → (x y z : OlaAsmOperand) → arranged i.opcode p os ≡ instruction i.opcode x y z
      → ((names : Names) (k : ℕ) → canonical_by p names k (instruction_row i.opcode x y z) ≡ ok i) → (is_number i.op0 || is_number i.dst) ≡ false → ReadsAs i
  row_reads {os} r x y z a c n = record {
    row = instruction_row i.opcode x y z;
    read = λ start.
        ap (λ (t : List ℕ). row_of (line_pieces (record { start = start; text = t }))) row_text_lem
        ∙ ap row_of (row_pieces_lem start (mnemonic i.opcode) (places_source p i) (mnemonic_piece i.opcode) (pieces_of r))
        ∙ row_read i.opcode r start
        ∙ ap (λ (q : RowPlaces). arranged i.opcode q os) e
        ∙ a;
    bytes = ap (all is_row_byte) row_text_lem ∙ row_bytes_lem (mnemonic i.opcode) (places_source p i) (mnemonic_piece i.opcode) (pieces_of r);
    canonical = λ names k. ap (λ (q : RowPlaces). canonical_by q names k (instruction_row i.opcode x y z)) e ∙ c names k;
    aside = n;
  }

-- ---- every row but those of mload and mstore

-- an operand that is canonically a content
record Means (x : OlaAsmOperand) (c : OlaOperand) : Type 0 where
  pub unbracketed : is_bracketed x ≡ false
  pub content : (names : Names) (k : ℕ) → plain names k x ≡ ok c

-- a content whose text reads as an operand that is canonically the content
record Back (c : OlaOperand) : Type 0 where
  pub operand : OlaAsmOperand
  pub reads : Reads (place_source c) operand
  pub means : Means operand c

or_empty_back : (r : Option OlaRegister) → Back (or_empty r)
or_empty_back None = record { operand = SpecialReg PSP; reads = psp_reads; means = record { unbracketed = refl; content = λ names k. refl } }
or_empty_back (Some r) = record { operand = RegisterOperand r; reads = register_reads r; means = record { unbracketed = refl; content = λ names k. refl } }

number_back : (v : ImmediateValue) → v.number < order → Back (ANumber v)
number_back v h = record { operand = ImmediateOperand v; reads = number_reads v h; means = record { unbracketed = refl; content = λ names k. refl } }

-- a place that the row does not have
no_place : (c : OlaOperand) → is_full c ≡ false → Means Empty c
no_place NoContent h = record { unbracketed = refl; content = λ names k. refl }
no_place (ANumber v) h = absurd (true≢false h)
no_place (ARegister r) h = absurd (true≢false h)
no_place (AnOffset r v) h = absurd (true≢false h)
no_place (AFactor r v) h = absurd (true≢false h)
no_place (ASpecial s) h = absurd (true≢false h)

general_canonical : (o : OlaOpcode) {x y z : OlaAsmOperand} {a b d : OlaOperand} → Means x a → Means y b → Means z d → (names : Names) (k : ℕ)
    → general names k (instruction_row o x y z) ≡ ok (made o a b d)
unfolding general ◌>>=◌ ◌>>◌ refuse_at
general_canonical o f g h names k =
    rw (f.unbracketed, g.unbracketed, h.unbracketed, f.content names k, g.content names k, h.content names k)

module _ (o : OlaOpcode) (a b d : OlaOperand) (f : Back a) (g : Back b) (h : Back d) (n : (is_number a || is_number d) ≡ false) where
  general_reads : (p : RowPlaces) → row_places o ≡ p → is_memory_row p ≡ false → off_row p (made o a b d) ≡ false → ReadsAs (made o a b d)
  unfolding arranged canonical_by
  general_reads DstOp0Op1 e m q =
      row_reads (made o a b d) DstOp0Op1 e (one_read h.reads (one_read f.reads (one_read g.reads all_read))) f.operand g.operand h.operand refl
      (general_canonical o f.means g.means h.means) n
  general_reads DstOp1 e m q =
      row_reads (made o a b d) DstOp1 e (one_read h.reads (one_read g.reads all_read)) Empty g.operand h.operand refl
      (general_canonical o (no_place a q) g.means h.means) n
  general_reads DstMemory e m q = absurd (true≢false m)
  general_reads MemoryDst e m q = absurd (true≢false m)
  general_reads Op0Op1 e m q =
      row_reads (made o a b d) Op0Op1 e (one_read f.reads (one_read g.reads all_read)) f.operand g.operand Empty refl
      (general_canonical o f.means g.means (no_place d q)) n
  general_reads Op1 e m q =
      let s = both_false (is_full a) (is_full d) q in
      row_reads (made o a b d) Op1 e (one_read g.reads all_read) Empty g.operand Empty refl
      (general_canonical o (no_place a s.0) g.means (no_place d s.1)) n
  general_reads Bare e m q =
      let s = both_false (is_full a || is_full b) (is_full d) q in
      let t = both_false (is_full a) (is_full b) s.0 in
      row_reads (made o a b d) Bare e all_read Empty Empty Empty refl
      (general_canonical o (no_place a t.0) (no_place b t.1) (no_place d s.1)) n

-- ---- mload and mstore

module _ (o : OlaOpcode) (a d : OlaRegister) (c : OlaOperand) (x : OlaAsmOperand) (r : Reads (memory_source (made o (ARegister a) c (ARegister d))) x)
    (w : (k : ℕ) (z : OlaOperand) → anchored k o x z ≡ ok (made o (ARegister a) c z)) where
  memory_reads : (p : RowPlaces) → row_places o ≡ p → is_memory_row p ≡ true → ReadsAs (made o (ARegister a) c (ARegister d))
  unfolding arranged canonical_by memory ◌>>=◌
  memory_reads DstOp0Op1 e m = absurd (true≢false (sym m))
  memory_reads DstOp1 e m = absurd (true≢false (sym m))
  memory_reads DstMemory e m =
      row_reads (made o (ARegister a) c (ARegister d)) DstMemory e (one_read (register_reads d) (one_read r all_read)) Empty x (RegisterOperand d) refl
      (λ names k. w k (ARegister d)) refl
  memory_reads MemoryDst e m =
      row_reads (made o (ARegister a) c (ARegister d)) MemoryDst e (one_read r (one_read (register_reads d) all_read)) x (RegisterOperand d) Empty refl
      (λ names k. w k (ARegister d)) refl
  memory_reads Op0Op1 e m = absurd (true≢false (sym m))
  memory_reads Op1 e m = absurd (true≢false (sym m))
  memory_reads Bare e m = absurd (true≢false (sym m))

-- ---- every form

no_number_aside : (a d : Option OlaRegister) → (is_number (or_empty a) || is_number (or_empty d)) ≡ false
no_number_aside None None = refl
no_number_aside None (Some d) = refl
no_number_aside (Some a) None = refl
no_number_aside (Some a) (Some d) = refl

in_order : {v : ℕ} → BelowOrder (Some v) → v < order
in_order (below h) = h

-- the source row of a canonical instruction that is not off its row reads as that instruction
pub reads_as : (i : BinaryInstruction) → CanonicalForm i → InOrder i → is_off_row i ≡ false → ReadsAs i
reads_as i (registers o a b d m) n q =
    general_reads o (or_empty a) (or_empty b) (or_empty d) (or_empty_back a) (or_empty_back b) (or_empty_back d) (no_number_aside a d) (row_places o) refl (sym (memory_rows o) ∙ m) q
reads_as i (numbered o a d v m) n q =
    general_reads o (or_empty a) (ANumber v) (or_empty d) (or_empty_back a) (number_back v (in_order n.op1)) (or_empty_back d) (no_number_aside a d) (row_places o) refl
    (sym (memory_rows o) ∙ m) q
reads_as i (offset o a d v m) n q =
    memory_reads o a d (ANumber v) (RegisterWithOffset a v) (offset_reads a v (in_order n.op1)) (λ k z. refl) (row_places o) refl (sym (memory_rows o) ∙ m)
reads_as i (factored o a b d v m) n q =
    memory_reads o a d (AFactor b v) (RegisterWithFactoredRegOffset a b v) (factored_reads a b v (in_order n.op1)) (λ k z. refl) (row_places o) refl (sym (memory_rows o) ∙ m)
