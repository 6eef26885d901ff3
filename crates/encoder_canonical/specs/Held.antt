-- The canonical instruction of a row, its names looked up in the label table: HeldLaws says that with the table of sorted rows this is `canonical_of`.
use Rattle.std.specs.Prelude.{ℕ, suc, List, [], ◌∷◌, cond, Option, Some, None, Result, Ok, Err}
use Rattle.text.specs.Answer.{Answer, ok, refused, ◌>>=◌}
use Rattle.vm_opcodes.specs.Operations.{row_places}
use Rattle.vm_opcodes.specs.declared.OlaOpcode.{OlaOpcode}
use Rattle.vm_opcodes.specs.declared.RowPlaces.{RowPlaces}
use Rattle.vm_opcodes.specs.declared.RowPlaces.TheVariants.{DstOp0Op1, DstOp1, DstMemory, MemoryDst, Op0Op1, Op1, Bare}
use Rattle.vm_operands.specs.declared.OlaOperand.{OlaOperand}
use Rattle.vm_operands.specs.declared.OlaOperand.TheVariants.{Empty as NoContent, ImmediateOperand as ANumber, RegisterOperand as ARegister, RegisterWithFactor as AFactor}
use Rattle.asm.specs.Parts.{name_at}
use Rattle.asm.specs.declared.OlaAsmOperand.{OlaAsmOperand}
use Rattle.asm.specs.declared.OlaAsmOperand.TheVariants.{Empty, ImmediateOperand, RegisterOperand, RegisterWithOffset, RegisterWithFactoredRegOffset, SpecialReg, Label, Identifier}
use Rattle.asm.specs.declared.OlaAsmInstruction.{OlaAsmInstruction}
use Rattle.relocate.specs.Labels.{call_kind, jmp_kind}
use Rattle.relocate.specs.Columns.{LookUp}
use Rattle.program.specs.Instructions.{made, a_number}
use Rattle.program.specs.declared.BinaryInstruction.{BinaryInstruction}
use Rattle.encoder.specs.Canonical.{has_bracket}
use Rattle.relocate.specs.declared.WordAddress.{WordAddress}
use Rattle.encoder_canonical.specs.declared.CanonicalRefusal.{CanonicalRefusal}
use Rattle.encoder_canonical.specs.declared.CanonicalRefusal.TheVariants.{Unknown, Misused, Bracketed}

-- ---- one place

-- "What is looked up becomes a number, the address of the row that holds"
abbrev pub held_number : Option WordAddress → Option OlaOperand
held_number (Some a) = Some (a_number a.0)
held_number None = None

-- a place of any operation but mload and mstore: "pc, psp ... become empty; Label operands look only at `.LBL` rows, names only at call rows".
-- Brackets never come here: `held_general` refuses them first
abbrev pub held_plain : List ℕ → LookUp → OlaAsmOperand → Option OlaOperand
held_plain s look Empty = Some NoContent
held_plain s look (ImmediateOperand v) = Some (ANumber v)
held_plain s look (RegisterOperand r) = Some (ARegister r)
held_plain s look (RegisterWithOffset r v) = Some NoContent
held_plain s look (RegisterWithFactoredRegOffset r t v) = Some NoContent
held_plain s look (SpecialReg t) = Some NoContent
held_plain s look (Label start n) = held_number (look jmp_kind (name_at s start n))
held_plain s look (Identifier start n) = held_number (look call_kind (name_at s start n))

-- ---- one row

-- the three places of a row together; a name that is unknown makes the row unknown
abbrev pub together : OlaOpcode → Option OlaOperand → Option OlaOperand → Option OlaOperand → Result BinaryInstruction CanonicalRefusal
together o (Some op0) (Some op1) (Some dst) = Ok (made o op0 op1 dst)
together o (Some op0) (Some op1) None = Err Unknown
together o (Some op0) None dst = Err Unknown
together o None op1 dst = Err Unknown

-- brackets are asked for before any name is looked up
unfoldable pub held_general : List ℕ → LookUp → OlaAsmInstruction → Result BinaryInstruction CanonicalRefusal
held_general s look i = cond (has_bracket i) (Err Bracketed) (together i.opcode (held_plain s look i.op0) (held_plain s look i.op1) (held_plain s look i.dst))

-- "For mload and mstore op0 is the anchor, op1 the offset number or register with factor, dst the value register"
abbrev pub held_anchored : OlaOpcode → OlaAsmOperand → OlaOperand → Result BinaryInstruction CanonicalRefusal
held_anchored o Empty value = Err Misused
held_anchored o (ImmediateOperand v) value = Err Misused
held_anchored o (RegisterOperand r) value = Err Misused
held_anchored o (RegisterWithOffset r v) value = Ok (made o (ARegister r) (ANumber v) value)
held_anchored o (RegisterWithFactoredRegOffset r t v) value = Ok (made o (ARegister r) (AFactor t v) value)
held_anchored o (SpecialReg t) value = Err Misused
held_anchored o (Label start n) value = Err Misused
held_anchored o (Identifier start n) value = Err Misused

-- "an mload or mstore whose value is no plain register or whose memory operand is not bracketed" is misused
unfoldable pub held_memory : OlaOpcode → OlaAsmOperand → OlaAsmOperand → Result BinaryInstruction CanonicalRefusal
held_memory o bracketed Empty = Err Misused
held_memory o bracketed (ImmediateOperand v) = Err Misused
held_memory o bracketed (RegisterOperand r) = held_anchored o bracketed (ARegister r)
held_memory o bracketed (RegisterWithOffset r v) = Err Misused
held_memory o bracketed (RegisterWithFactoredRegOffset r t v) = Err Misused
held_memory o bracketed (SpecialReg t) = Err Misused
held_memory o bracketed (Label start n) = Err Misused
held_memory o bracketed (Identifier start n) = Err Misused

-- "mload and mstore look nothing up": mload's memory operand stands in op1 of the row, mstore's in op0
unfoldable pub held_by : RowPlaces → List ℕ → LookUp → OlaAsmInstruction → Result BinaryInstruction CanonicalRefusal
held_by DstOp0Op1 s look i = held_general s look i
held_by DstOp1 s look i = held_general s look i
held_by DstMemory s look i = held_memory i.opcode i.op1 i.dst
held_by MemoryDst s look i = held_memory i.opcode i.op0 i.op1
held_by Op0Op1 s look i = held_general s look i
held_by Op1 s look i = held_general s look i
held_by Bare s look i = held_general s look i

-- the canonical instruction of an instruction row
abbrev pub held_canonical : List ℕ → LookUp → OlaAsmInstruction → Result BinaryInstruction CanonicalRefusal
held_canonical s look i = held_by (row_places i.opcode) s look i

-- ---- the rows of a source

-- 10, 11 or 25, at instruction k
abbrev pub canonical_numbered : ℕ → Result BinaryInstruction CanonicalRefusal → Answer BinaryInstruction
canonical_numbered k (Ok b) = ok b
canonical_numbered k (Err Unknown) = refused 10 k
canonical_numbered k (Err Misused) = refused 11 k
canonical_numbered k (Err Bracketed) = refused 25 k

-- 10, 11 or 25, "whichever instruction comes first", where k instructions stand ahead
unfoldable pub held_program : List ℕ → LookUp → ℕ → List OlaAsmInstruction → Answer (List BinaryInstruction)
held_program s look k [] = ok []
held_program s look k (i ∷ is) = canonical_numbered k (held_canonical s look i) >>= λ b. held_program s look (suc k) is >>= λ bs. ok (b ∷ bs)
