-- "The canonical program of an accepted source is its instruction rows in sorted order, each made such an instruction".
use Rattle.std.specs.Prelude.{ℕ, suc, List, [], ◌∷◌, Bool, true, false, ◌||◌, cond, Option, Some, None}
use Rattle.text.specs.Answer.{Answer, ok, refused, ◌>>=◌, ◌>>◌, refuse_at}
use Rattle.vm_opcodes.specs.Operations.{row_places}
use Rattle.vm_opcodes.specs.declared.OlaOpcode.{OlaOpcode}
use Rattle.vm_opcodes.specs.declared.RowPlaces.{RowPlaces}
use Rattle.vm_opcodes.specs.declared.RowPlaces.TheVariants.{DstOp0Op1, DstOp1, DstMemory, MemoryDst, Op0Op1, Op1, Bare}
use Rattle.vm_operands.specs.declared.OlaOperand.{OlaOperand}
use Rattle.vm_operands.specs.declared.OlaOperand.TheVariants.{Empty as NoContent, ImmediateOperand as ANumber, RegisterOperand as ARegister, RegisterWithFactor as AFactor}
use Rattle.asm.specs.Rows.{instructions}
use Rattle.asm.specs.Parts.{name_at}
use Rattle.asm.specs.declared.OlaAsmOperand.{OlaAsmOperand}
use Rattle.asm.specs.declared.OlaAsmOperand.TheVariants.{Empty, ImmediateOperand, RegisterOperand, RegisterWithOffset, RegisterWithFactoredRegOffset, SpecialReg, Label, Identifier}
use Rattle.asm.specs.declared.OlaAsmInstruction.{OlaAsmInstruction}
use Rattle.asm.specs.declared.AsmRow.{AsmRow}
use Rattle.relocate.specs.Labels.{LabelRow, call_kind, jmp_kind, label_rows, address_of, holder}
use Rattle.program.specs.Instructions.{made, a_number, is_number}
use Rattle.program.specs.declared.BinaryInstruction.{BinaryInstruction}

-- what names are looked up in: the source, its label rows and its instruction rows, in sorted order
pub record Names : Type 0 where
  pub source : List ℕ
  pub labels : List LabelRow
  pub instructions : List OlaAsmInstruction

abbrev pub names_of : List ℕ → List AsmRow → Names
names_of s rows = record { source = s; labels = label_rows 0 rows; instructions = instructions rows }

-- the row that holds the name that stands at a place of the source
abbrev pub holder_of : Names → ℕ → ℕ → ℕ → Option LabelRow
holder_of names kind start n = holder names.source kind (name_at names.source start n) names.labels

-- "What is looked up becomes a number, the address of the row that holds"; 10 "a name or label that no mapped row of its kind holds",
-- at instruction k
abbrev pub looked_up : Names → ℕ → Option LabelRow → Answer OlaOperand
looked_up names k None = refused 10 k
looked_up names k (Some l) = ok (a_number (address_of names.instructions l.marks))

-- a place of any operation but mload and mstore: "pc, psp ... become empty; Label operands look only at `.LBL` rows, names only at call rows".
-- Brackets never come here: `general` refuses them first
abbrev pub plain : Names → ℕ → OlaAsmOperand → Answer OlaOperand
plain names k Empty = ok NoContent
plain names k (ImmediateOperand v) = ok (ANumber v)
plain names k (RegisterOperand r) = ok (ARegister r)
plain names k (RegisterWithOffset r v) = ok NoContent
plain names k (RegisterWithFactoredRegOffset r t v) = ok NoContent
plain names k (SpecialReg t) = ok NoContent
plain names k (Label start n) = looked_up names k (holder_of names jmp_kind start n)
plain names k (Identifier start n) = looked_up names k (holder_of names call_kind start n)

abbrev pub is_bracketed : OlaAsmOperand → Bool
is_bracketed Empty = false
is_bracketed (ImmediateOperand v) = false
is_bracketed (RegisterOperand r) = false
is_bracketed (RegisterWithOffset r v) = true
is_bracketed (RegisterWithFactoredRegOffset r t v) = true
is_bracketed (SpecialReg t) = false
is_bracketed (Label start n) = false
is_bracketed (Identifier start n) = false

-- an operand in brackets in any place of a row
abbrev pub has_bracket : OlaAsmInstruction → Bool
has_bracket i = is_bracketed i.op0 || is_bracketed i.op1 || is_bracketed i.dst

-- every row but those of mload and mstore; 25 "for a bracketed operand outside mload and mstore", "in the walk of 10 and 11, before either at
-- the same instruction"
unfoldable pub general : Names → ℕ → OlaAsmInstruction → Answer BinaryInstruction
general names k i = do
  refuse_at (cond (has_bracket i) (Some k) None) 25
  op0 ← plain names k i.op0
  op1 ← plain names k i.op1
  dst ← plain names k i.dst
  ok (made i.opcode op0 op1 dst)

-- 11: a value that "is no plain register"
abbrev pub value_of : ℕ → OlaAsmOperand → Answer OlaOperand
value_of k Empty = refused 11 k
value_of k (ImmediateOperand v) = refused 11 k
value_of k (RegisterOperand r) = ok (ARegister r)
value_of k (RegisterWithOffset r v) = refused 11 k
value_of k (RegisterWithFactoredRegOffset r t v) = refused 11 k
value_of k (SpecialReg t) = refused 11 k
value_of k (Label start n) = refused 11 k
value_of k (Identifier start n) = refused 11 k

-- "For mload and mstore op0 is the anchor, op1 the offset number or register with factor, dst the value register"; 11 where the "memory
-- operand is not bracketed"
abbrev pub anchored : ℕ → OlaOpcode → OlaAsmOperand → OlaOperand → Answer BinaryInstruction
anchored k o Empty value = refused 11 k
anchored k o (ImmediateOperand v) value = refused 11 k
anchored k o (RegisterOperand r) value = refused 11 k
anchored k o (RegisterWithOffset r v) value = ok (made o (ARegister r) (ANumber v) value)
anchored k o (RegisterWithFactoredRegOffset r t v) value = ok (made o (ARegister r) (AFactor t v) value)
anchored k o (SpecialReg t) value = refused 11 k
anchored k o (Label start n) value = refused 11 k
anchored k o (Identifier start n) value = refused 11 k

unfoldable pub memory : ℕ → OlaOpcode → OlaAsmOperand → OlaAsmOperand → Answer BinaryInstruction
memory k o bracketed value = value_of k value >>= λ v. anchored k o bracketed v

-- "mload and mstore look nothing up": mload's memory operand stands in op1 of the row, mstore's in op0
unfoldable pub canonical_by : RowPlaces → Names → ℕ → OlaAsmInstruction → Answer BinaryInstruction
canonical_by DstOp0Op1 names k i = general names k i
canonical_by DstOp1 names k i = general names k i
canonical_by DstMemory names k i = memory k i.opcode i.op1 i.dst
canonical_by MemoryDst names k i = memory k i.opcode i.op0 i.op1
canonical_by Op0Op1 names k i = general names k i
canonical_by Op1 names k i = general names k i
canonical_by Bare names k i = general names k i

-- the canonical instruction of an instruction row, whose index is k
abbrev pub canonical_of : Names → ℕ → OlaAsmInstruction → Answer BinaryInstruction
canonical_of names k i = canonical_by (row_places i.opcode) names k i

-- 10, 11 or 25, "whichever instruction comes first"
unfoldable pub canonical_from : Names → ℕ → List OlaAsmInstruction → Answer (List BinaryInstruction)
canonical_from names k [] = ok []
canonical_from names k (i ∷ is) = canonical_of names k i >>= λ b. canonical_from names (suc k) is >>= λ bs. ok (b ∷ bs)

-- the canonical program of sorted rows
abbrev pub canonical_program : List ℕ → List AsmRow → Answer (List BinaryInstruction)
canonical_program s rows = canonical_from (names_of s rows) 0 (instructions rows)

-- 12: "a number, names resolved, in op0 or dst, the first over all instructions"
unfoldable pub first_misplaced : ℕ → List BinaryInstruction → Option ℕ
first_misplaced k [] = None
first_misplaced k (i ∷ is) = let later = first_misplaced (suc k) is in cond (is_number i.op0 || is_number i.dst) (Some k) later
