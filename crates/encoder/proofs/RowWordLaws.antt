-- An instruction has as many words as are counted for its row.
use Rattle.std.specs.Prelude.{Option, None}
use Prim.Native.Nat.{ℕ, suc}
use mathlib.Core.Path.{◌≡◌, refl, sym, ap, ap₂, ◌∙◌}
use mathlib.Core.List.{List, ◌∷◌, map}
use mathlib.Core.Bool.{Bool, true, ◌||◌, cond}
use lib.ListN.{length}
use Rattle.text.specs.Lists.{total}
use Rattle.text.specs.Answer.{ok}
use Rattle.text.proofs.AnswerLaws.{ok_same}
use Rattle.vm_opcodes.specs.Operations.{row_places}
use Rattle.vm_operands.specs.declared.OlaOperand.{OlaOperand}
use Rattle.asm.specs.Rows.{instructions}
use Rattle.asm.specs.Survey.{is_memory_row, takes_word, word_count}
use Rattle.asm.specs.declared.OlaAsmOperand.{OlaAsmOperand}
use Rattle.asm.specs.declared.OlaAsmOperand.TheVariants.{Empty, ImmediateOperand, RegisterOperand, RegisterWithOffset, RegisterWithFactoredRegOffset, SpecialReg, Label, Identifier}
use Rattle.asm.specs.declared.OlaAsmInstruction.{OlaAsmInstruction}
use Rattle.asm.specs.declared.AsmRow.{AsmRow}
use Rattle.relocate.specs.Labels.{LabelRow, call_kind, jmp_kind}
use Rattle.program.specs.Instructions.{is_number, is_memory}
use Rattle.program.specs.Words.{emitted_length, program_words}
use Rattle.program.specs.declared.BinaryInstruction.{BinaryInstruction}
use Rattle.program.proofs.FormLaws.{total_emitted}
use Rattle.encoder.specs.Canonical.{Names, names_of, holder_of, looked_up, plain, canonical_program, first_misplaced}
use Rattle.encoder.proofs.Origins.{memory_rows, anchored_counted, Origin, ordinary, load, store, canonical_origin}
use Rattle.encoder.proofs.AcceptedLaws.{Pairs, no_pair, one_pair, canonical_pairs, looked_up_lem, canonical_form}

-- ---- one row

found_words : (names : Names) (k : ℕ) (found : Option LabelRow) (c : OlaOperand) → looked_up names k found ≡ ok c → is_number c ≡ true
found_words names k found c e = sym (ap is_number (looked_up_lem names k found c e).2)

-- what is made of an operand is a number exactly where the operand takes a word
plain_words : (names : Names) (k : ℕ) (x : OlaAsmOperand) (c : OlaOperand) → plain names k x ≡ ok c → is_number c ≡ takes_word x
plain_words names k Empty c e = sym (ap is_number (ok_same e))
plain_words names k (ImmediateOperand v) c e = sym (ap is_number (ok_same e))
plain_words names k (RegisterOperand r) c e = sym (ap is_number (ok_same e))
plain_words names k (RegisterWithOffset r v) c e = sym (ap is_number (ok_same e))
plain_words names k (RegisterWithFactoredRegOffset r t v) c e = sym (ap is_number (ok_same e))
plain_words names k (SpecialReg t) c e = sym (ap is_number (ok_same e))
plain_words names k (Label start n) c e = found_words names k (holder_of names jmp_kind start n) c e
plain_words names k (Identifier start n) c e = found_words names k (holder_of names call_kind start n) c e

two_words : (m t : Bool) → m ≡ true → ◌≡◌ {A = ℕ} (cond (m || t) 2 1) 2
two_words m t e = rw e

-- mload and mstore have two words
memory_words : (i : OlaAsmInstruction) (b : BinaryInstruction) → is_memory_row (row_places i.opcode) ≡ true → i.opcode ≡ b.opcode → emitted_length b ≡ word_count i
memory_words i b m e =
    two_words (is_memory b.opcode) (is_number b.op1) (ap is_memory (sym e) ∙ memory_rows i.opcode ∙ m)
    ∙ sym (two_words (is_memory_row (row_places i.opcode)) (takes_word i.op1) m)

-- an instruction has as many words as are counted for its row
row_words : (names : Names) (k : ℕ) (i : OlaAsmInstruction) (b : BinaryInstruction) → Origin names k i b → emitted_length b ≡ word_count i
row_words names k i b (ordinary m z r) =
    ap₂ (λ (s t : Bool). cond (s || t) 2 1) (ap is_memory (sym r.opcode) ∙ memory_rows i.opcode) (plain_words names k i.op1 b.op1 r.op1)
row_words names k i b (load e a) = memory_words i b (ap is_memory_row e) (anchored_counted i.opcode i.op1 i.dst b a).2
row_words names k i b (store e a) = memory_words i b (ap is_memory_row e) (anchored_counted i.opcode i.op0 i.op1 b a).2

-- ---- all rows

-- as many instructions as rows
pub pairs_length : (names : Names) (k : ℕ) (is : List OlaAsmInstruction) (bs : List BinaryInstruction) → Pairs names k is bs → length is ≡ length bs
pairs_length names k is bs no_pair = refl
pairs_length names k is bs (one_pair {is = js} {bs = cs} e p) = ap suc (pairs_length names (suc k) js cs p)

-- as many words as are counted, one by one
pairs_words : (names : Names) (k : ℕ) (is : List OlaAsmInstruction) (bs : List BinaryInstruction) → Pairs names k is bs → map emitted_length bs ≡ map word_count is
pairs_words names k is bs no_pair = refl
pairs_words names k is bs (one_pair {i = i} {b = b} {is = js} {bs = cs} e p) =
    ap₂ ◌∷◌ (row_words names k i b (canonical_origin names k i b e)) (pairs_words names (suc k) js cs p)

module _ (s : List ℕ) (rows : List AsmRow) (is : List BinaryInstruction) (canonical : canonical_program s rows ≡ ok is) where
  made_of : Pairs (names_of s rows) 0 (instructions rows) is
  made_of = canonical_pairs (names_of s rows) 0 (instructions rows) is canonical

  -- each instruction has as many words as are counted for its row
  pub rows_words : map emitted_length is ≡ map word_count (instructions rows)
  rows_words = pairs_words (names_of s rows) 0 (instructions rows) is made_of

  -- a program that refusals 10 to 12 and 25 let pass has as many words as are counted for its rows
  pub program_words_lem : first_misplaced 0 is ≡ None → length (program_words is) ≡ total (map word_count (instructions rows))
  program_words_lem placed = total_emitted is (canonical_form s rows is canonical placed) ∙ ap total rows_words

  -- and as many instructions as instruction rows
  pub rows_length : length (instructions rows) ≡ length is
  rows_length = pairs_length (names_of s rows) 0 (instructions rows) is made_of
