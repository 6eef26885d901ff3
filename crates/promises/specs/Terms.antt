-- The words of the promises: the same program, the position of an instruction, which prophets are kept, and rows by lines.
use Rattle.std.specs.Prelude.{ℕ, zero, suc, ◌%◌, ◌≡◌, ltb, length, Some, slice_get}
use mathlib.Core.List.{List, map, Memᴰ}
use Rattle.text.specs.Answer.{Answer, ◌>>◌, refuse_if, refuse_at}
use Rattle.vm_hardware.specs.declared.Place.{Place}
use Rattle.vm_hardware.specs.declared.Place.TheVariants.{Op0, Op1, Dst}
use Rattle.vm_operands.specs.Numbers.{order, immediate}
use Rattle.vm_operands.specs.declared.ImmediateValue.{ImmediateValue}
use Rattle.vm_operands.specs.declared.OlaOperand.{OlaOperand}
use Rattle.vm_operands.specs.declared.OlaOperand.TheVariants.{Empty, ImmediateOperand, RegisterOperand, RegisterWithOffset, RegisterWithFactor, SpecialReg}
use Rattle.asm.specs.Parts.{row_pieces, placed_lines}
use Rattle.asm.specs.Rows.{read_rows}
use Rattle.asm.specs.declared.OlaAsmOperand.{OlaAsmOperand}
use Rattle.asm.specs.declared.OlaAsmInstruction.{OlaAsmInstruction}
use Rattle.asm.specs.declared.AsmRow.{AsmRow}
use Rattle.relocate.specs.Labels.{LabelRow}
use Rattle.relocate.specs.Prophets.{kept_from}
use Rattle.relocate.specs.Relocate.{first_above127}
use Rattle.program.specs.Instructions.{made, a_number}
use Rattle.program.specs.Words.{first_word, words_before}
use Rattle.program.specs.declared.BinaryInstruction.{BinaryInstruction}
use Rattle.encoder.specs.Canonical.{Names, holder_of}
use Rattle.encoder.specs.Assemble.{Accepted}

-- ---- the same program: "one by one the same operation, the same contents or emptiness of each place, and numbers equal modulo p"

abbrev pub residue : ImmediateValue → ImmediateValue
residue v = immediate (v.number % order)

abbrev pub content_residue : OlaOperand → OlaOperand
content_residue Empty = Empty
content_residue (ImmediateOperand v) = ImmediateOperand (residue v)
content_residue (RegisterOperand r) = RegisterOperand r
content_residue (RegisterWithOffset r v) = RegisterWithOffset r (residue v)
content_residue (RegisterWithFactor r v) = RegisterWithFactor r (residue v)
content_residue (SpecialReg s) = SpecialReg s

-- an instruction with its numbers taken modulo p
abbrev pub instruction_residue : BinaryInstruction → BinaryInstruction
instruction_residue i = made i.opcode (content_residue i.op0) (content_residue i.op1) (content_residue i.dst)

abbrev pub SameProgram : List BinaryInstruction → List BinaryInstruction → Type 0
SameProgram is js = map instruction_residue is ≡ map instruction_residue js

-- ---- names in operands

-- what stands in a place of a row, and of an instruction
abbrev pub operand_at : Place → OlaAsmInstruction → OlaAsmOperand
operand_at Op0 i = i.op0
operand_at Op1 i = i.op1
operand_at Dst i = i.dst

abbrev pub content_at : Place → BinaryInstruction → OlaOperand
content_at Op0 i = i.op0
content_at Op1 i = i.op1
content_at Dst i = i.dst

-- ---- positions

-- instruction n of an accepted source is there, and its first word stands where the words before it end
abbrev pub Stands : Accepted → ℕ → Type 0
Stands a n = (j : BinaryInstruction) × (slice_get a.program n ≡ Some j) × (slice_get a.words (words_before a.program n) ≡ Some (first_word j))

-- an address that is the position of instruction n
abbrev pub IsPosition : Accepted → ℕ → ℕ → Type 0
IsPosition a n address = (address ≡ words_before a.program n) × Stands a n

-- or that of the instruction before it, 0 where it is the first
abbrev pub IsPositionBefore : Accepted → ℕ → ℕ → Type 0
IsPositionBefore a zero address = address ≡ 0
IsPositionBefore a (suc n) address = IsPosition a n address

-- "the count of words before the instruction marked by the row that holds its name": the row of a kind that holds the name at a place of the
-- source, a content that is that count, and the instruction there
abbrev pub HoldsPosition : Names → Accepted → ℕ → ℕ → ℕ → OlaOperand → Type 0
HoldsPosition names a kind start n content =
    (l : LabelRow) × (holder_of names kind start n ≡ Some l) × (content ≡ a_number (words_before a.program l.marks)) × Stands a l.marks

-- ---- prophets

-- the prophet at place k of the list is kept, on host h
abbrev pub IsKept : List ℕ → ℕ → ℕ → Type 0
IsKept hosts k h = Memᴰ (record { host = h; place = k }) (kept_from 0 hosts)

-- ---- lines

-- refusals 1 to 3 and the rows of a source, by the lines that Rust's `lines` gives
abbrev pub rows_by_lines : List ℕ → Answer (List AsmRow)
rows_by_lines s = do
  refuse_if (ltb 65536 (length s)) 1
  refuse_at (first_above127 0 s) 2
  read_rows 0 (row_pieces (placed_lines s))
