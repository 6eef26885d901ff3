-- With the label table of sorted rows, a row made canonical by the table is the row made canonical by the sorted rows.
use Rattle.std.specs.Prelude.{Option, Some, None, Result, Ok, Err}
use Prim.Native.Nat.{ℕ, suc}
use mathlib.Core.Path.{◌≡◌, refl, ap, ◌∙◌}
use mathlib.Core.List.{List, [], ◌∷◌}
use mathlib.Core.Bool.{Bool, true, false, cond}
use Rattle.text.specs.Answer.{Answer, ok, refused, ◌>>=◌, ◌>>◌, refuse_at}
use Rattle.text.proofs.AnswerLaws.{not_ok, ok_same}
use Rattle.vm_opcodes.specs.Operations.{row_places}
use Rattle.vm_opcodes.specs.declared.OlaOpcode.{OlaOpcode}
use Rattle.vm_opcodes.specs.declared.RowPlaces.{RowPlaces}
use Rattle.vm_opcodes.specs.declared.RowPlaces.TheVariants.{DstOp0Op1, DstOp1, DstMemory, MemoryDst, Op0Op1, Op1, Bare}
use Rattle.vm_operands.specs.declared.OlaOperand.{OlaOperand}
use Rattle.asm.specs.Parts.{name_at}
use Rattle.asm.specs.Rows.{instructions}
use Rattle.asm.specs.declared.OlaAsmOperand.{OlaAsmOperand}
use Rattle.asm.specs.declared.OlaAsmOperand.TheVariants.{Empty, ImmediateOperand, RegisterOperand, RegisterWithOffset, RegisterWithFactoredRegOffset, SpecialReg, Label, Identifier}
use Rattle.asm.specs.declared.OlaAsmInstruction.{OlaAsmInstruction}
use Rattle.asm.specs.declared.AsmRow.{AsmRow}
use Rattle.relocate.specs.Labels.{LabelRow, call_kind, jmp_kind, address_of, table_of}
use Rattle.relocate.specs.Columns.{looked_in}
use Rattle.relocate_laws.proofs.ColumnLaws.{found_by, held_label}
use Rattle.program.specs.Instructions.{made}
use Rattle.program.specs.declared.BinaryInstruction.{BinaryInstruction}
use Rattle.encoder.specs.Canonical.{Names, names_of, holder_of, looked_up, plain, has_bracket, general, anchored, memory, canonical_by, canonical_of, canonical_from}
use Rattle.encoder_canonical.specs.Held.{held_number, held_plain, together, held_general, held_anchored, held_memory, held_by, held_canonical, canonical_numbered, held_program}
use Rattle.encoder_canonical.specs.declared.CanonicalRefusal.{CanonicalRefusal}
use Rattle.encoder_canonical.specs.declared.CanonicalRefusal.TheVariants.{Unknown, Misused, Bracketed}

-- 10, at instruction k
abbrev resolved_numbered : ℕ → Option OlaOperand → Answer OlaOperand
resolved_numbered k (Some c) = ok c
resolved_numbered k None = refused 10 k

-- an accepted row is one that was made
pub numbered_made : (k : ℕ) (f : Result BinaryInstruction CanonicalRefusal) (b : BinaryInstruction) → canonical_numbered k f ≡ ok b → f ≡ Ok b
numbered_made k (Ok c) b e = ap Ok (ok_same e)
numbered_made k (Err Unknown) b e = absurd (not_ok e)
numbered_made k (Err Misused) b e = absurd (not_ok e)
numbered_made k (Err Bracketed) b e = absurd (not_ok e)

-- three places together
abbrev in_turn : OlaOpcode → Answer OlaOperand → Answer OlaOperand → Answer OlaOperand → Answer BinaryInstruction
in_turn o op0 op1 dst = op0 >>= λ a. op1 >>= λ b. dst >>= λ d. ok (made o a b d)

-- brackets answer first
numbered_bracketed : (k : ℕ) (t : Bool) (c : Result BinaryInstruction CanonicalRefusal) (x : Answer BinaryInstruction) → canonical_numbered k c ≡ x
    → canonical_numbered k (cond t (Err Bracketed) c) ≡ (refuse_at (cond t (Some k) None) 25 >> x)
unfolding ◌>>◌ refuse_at
numbered_bracketed k true c x e = refl
numbered_bracketed k false c x e = e

-- the first unknown place answers
numbered_together : (k : ℕ) (o : OlaOpcode) (p q r : Option OlaOperand)
    → canonical_numbered k (together o p q r) ≡ in_turn o (resolved_numbered k p) (resolved_numbered k q) (resolved_numbered k r)
unfolding ◌>>=◌
numbered_together k o (Some a) (Some b) (Some d) = refl
numbered_together k o (Some a) (Some b) None = refl
numbered_together k o (Some a) None r = refl
numbered_together k o None q r = refl

-- a memory operand
numbered_anchored : (k : ℕ) (o : OlaOpcode) (x : OlaAsmOperand) (value : OlaOperand) → canonical_numbered k (held_anchored o x value) ≡ anchored k o x value
numbered_anchored k o Empty value = refl
numbered_anchored k o (ImmediateOperand v) value = refl
numbered_anchored k o (RegisterOperand r) value = refl
numbered_anchored k o (RegisterWithOffset r v) value = refl
numbered_anchored k o (RegisterWithFactoredRegOffset r t v) value = refl
numbered_anchored k o (SpecialReg t) value = refl
numbered_anchored k o (Label start n) value = refl
numbered_anchored k o (Identifier start n) value = refl

-- an mload or mstore
numbered_memory : (k : ℕ) (o : OlaOpcode) (x y : OlaAsmOperand) → canonical_numbered k (held_memory o x y) ≡ memory k o x y
unfolding held_memory memory ◌>>=◌
numbered_memory k o x Empty = refl
numbered_memory k o x (ImmediateOperand v) = refl
numbered_memory k o x (RegisterOperand r) = numbered_anchored k o x _
numbered_memory k o x (RegisterWithOffset r v) = refl
numbered_memory k o x (RegisterWithFactoredRegOffset r t v) = refl
numbered_memory k o x (SpecialReg t) = refl
numbered_memory k o x (Label start n) = refl
numbered_memory k o x (Identifier start n) = refl

module _ (s : List ℕ) (rows : List AsmRow) where
  abbrev names : Names
  names = names_of s rows

  module _ (k : ℕ) where
    -- a name that was looked up
    numbered_found : (found : Option LabelRow) → resolved_numbered k (held_number (found_by (λ l. address_of (instructions rows) l.marks) found)) ≡ looked_up names k found
    numbered_found None = refl
    numbered_found (Some l) = refl

    -- one place
    numbered_plain : (x : OlaAsmOperand) → resolved_numbered k (held_plain s (looked_in s (table_of rows)) x) ≡ plain names k x
    numbered_plain Empty = refl
    numbered_plain (ImmediateOperand v) = refl
    numbered_plain (RegisterOperand r) = refl
    numbered_plain (RegisterWithOffset r v) = refl
    numbered_plain (RegisterWithFactoredRegOffset r t v) = refl
    numbered_plain (SpecialReg t) = refl
    numbered_plain (Label start n) = rw (held_label s (name_at s start n) rows jmp_kind refl) (numbered_found (holder_of names jmp_kind start n))
    numbered_plain (Identifier start n) = rw (held_label s (name_at s start n) rows call_kind refl) (numbered_found (holder_of names call_kind start n))

    -- any operation but mload and mstore
    numbered_general : (i : OlaAsmInstruction) → canonical_numbered k (held_general s (looked_in s (table_of rows)) i) ≡ general names k i
    unfolding held_general general
    numbered_general i =
        numbered_bracketed k (has_bracket i) _ (in_turn i.opcode (plain names k i.op0) (plain names k i.op1) (plain names k i.dst))
        (numbered_together k i.opcode (held_plain s (looked_in s (table_of rows)) i.op0) (held_plain s (looked_in s (table_of rows)) i.op1) (held_plain s (looked_in s (table_of rows)) i.dst)
        ∙ rw (numbered_plain i.op0, numbered_plain i.op1, numbered_plain i.dst))

    -- a row by its places
    numbered_by : (p : RowPlaces) (i : OlaAsmInstruction) → canonical_numbered k (held_by p s (looked_in s (table_of rows)) i) ≡ canonical_by p names k i
    unfolding held_by canonical_by
    numbered_by DstOp0Op1 i = numbered_general i
    numbered_by DstOp1 i = numbered_general i
    numbered_by DstMemory i = numbered_memory k i.opcode i.op1 i.dst
    numbered_by MemoryDst i = numbered_memory k i.opcode i.op0 i.op1
    numbered_by Op0Op1 i = numbered_general i
    numbered_by Op1 i = numbered_general i
    numbered_by Bare i = numbered_general i

    -- a row by the table of the sorted rows is the row by the sorted rows, refusals 10, 11 and 25 too
    pub held_canonical_lem : (i : OlaAsmInstruction) → canonical_numbered k (held_canonical s (looked_in s (table_of rows)) i) ≡ canonical_of names k i
    held_canonical_lem i = numbered_by (row_places i.opcode) i

  -- so is a list of rows
  pub held_program_lem : (k : ℕ) (is : List OlaAsmInstruction) → held_program s (looked_in s (table_of rows)) k is ≡ canonical_from names k is
  unfolding held_program canonical_from
  held_program_lem k [] = refl
  held_program_lem k (i ∷ is) = rw (held_canonical_lem k i, held_program_lem (suc k) is)
