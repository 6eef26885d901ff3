-- Rows: label rows, and instruction rows with "Operand counts and places ... those of `split_ola_asm_pieces`".
use Rattle.std.specs.Prelude.{ℕ, suc, ◌+◌, ◌-◌, List, [], ◌∷◌, Bool, ◌&&◌, ◌||◌, cond, ltb, length, drop, Option, Some, None}
use Rattle.std.proofs.Math.Seq.{slice}
use Rattle.text.specs.Bytes.{bytes, is_digit, is_word, same}
use Rattle.text.specs.Scan.{scan}
use Rattle.text.specs.Answer.{Answer, ok, refused, ◌>>=◌}
use Rattle.vm_opcodes.specs.Operations.{row_places}
use Rattle.vm_opcodes.specs.declared.OlaOpcode.{OlaOpcode}
use Rattle.vm_opcodes.specs.declared.RowPlaces.{RowPlaces}
use Rattle.vm_opcodes.specs.declared.RowPlaces.TheVariants.{DstOp0Op1, DstOp1, DstMemory, MemoryDst, Op0Op1, Op1, Bare}
use Rattle.vm_mnemonics.specs.Mnemonics.{operation_of}
use Rattle.asm.specs.Parts.{Part, line_pieces, line_at, next_line}
use Rattle.asm.specs.Operands.{byte_is, is_pair, operand_of}
use Rattle.asm.specs.declared.OlaAsmOperand.{OlaAsmOperand}
use Rattle.asm.specs.declared.OlaAsmOperand.TheVariants.{Empty, ImmediateOperand, RegisterOperand, RegisterWithOffset, RegisterWithFactoredRegOffset, SpecialReg, Label, Identifier}
use Rattle.asm.specs.declared.OlaAsmInstruction.{OlaAsmInstruction}
use Rattle.asm.specs.declared.AsmRow.{AsmRow}
use Rattle.asm.specs.declared.AsmRow.TheVariants.{Instruction, LabelCall, LabelJmp, LabelProphet}
use Rattle.asm.specs.declared.RowAt.{RowAt}
use Rattle.asm.specs.declared.LineRead.{LineRead}
use Rattle.asm.specs.declared.LineRead.TheVariants.{Blank, Row, Unreadable as NoRow}

-- ---- instruction rows

-- an instruction row from its operation and operands
abbrev pub instruction_row : OlaOpcode → OlaAsmOperand → OlaAsmOperand → OlaAsmOperand → OlaAsmInstruction
instruction_row o op0 op1 dst = record { opcode = o; op0 = op0; op1 = op1; dst = dst }

abbrev pub instruction : OlaOpcode → OlaAsmOperand → OlaAsmOperand → OlaAsmOperand → Option AsmRow
instruction o op0 op1 dst = Some (Instruction (instruction_row o op0 op1 dst))

-- operands put into the places of the operation's row, where there are as many as it has; mload's memory operand stands in op1,
-- mstore's in op0 with the value in op1
unfoldable pub arranged : OlaOpcode → RowPlaces → List OlaAsmOperand → Option AsmRow
arranged o DstOp0Op1 [] = None
arranged o DstOp0Op1 (a ∷ []) = None
arranged o DstOp0Op1 (a ∷ b ∷ []) = None
arranged o DstOp0Op1 (a ∷ b ∷ c ∷ []) = instruction o b c a
arranged o DstOp0Op1 (a ∷ b ∷ c ∷ d ∷ e) = None
arranged o DstOp1 [] = None
arranged o DstOp1 (a ∷ []) = None
arranged o DstOp1 (a ∷ b ∷ []) = instruction o Empty b a
arranged o DstOp1 (a ∷ b ∷ c ∷ d) = None
arranged o DstMemory [] = None
arranged o DstMemory (a ∷ []) = None
arranged o DstMemory (a ∷ b ∷ []) = instruction o Empty b a
arranged o DstMemory (a ∷ b ∷ c ∷ d) = None
arranged o MemoryDst [] = None
arranged o MemoryDst (a ∷ []) = None
arranged o MemoryDst (a ∷ b ∷ []) = instruction o a b Empty
arranged o MemoryDst (a ∷ b ∷ c ∷ d) = None
arranged o Op0Op1 [] = None
arranged o Op0Op1 (a ∷ []) = None
arranged o Op0Op1 (a ∷ b ∷ []) = instruction o a b Empty
arranged o Op0Op1 (a ∷ b ∷ c ∷ d) = None
arranged o Op1 [] = None
arranged o Op1 (a ∷ []) = instruction o Empty a Empty
arranged o Op1 (a ∷ b ∷ c) = None
arranged o Bare [] = instruction o Empty Empty Empty
arranged o Bare (a ∷ b) = None

abbrev pub one_operand_more : Option OlaAsmOperand → Option (List OlaAsmOperand) → Option (List OlaAsmOperand)
one_operand_more None os = None
one_operand_more (Some o) None = None
one_operand_more (Some o) (Some os) = Some (o ∷ os)

-- every piece as an operand, or none where one is no operand
unfoldable pub operands_of : List Part → Option (List OlaAsmOperand)
operands_of [] = Some []
operands_of (q ∷ qs) = one_operand_more (operand_of q) (operands_of qs)

unfoldable pub arranged_if : Option OlaOpcode → Option (List OlaAsmOperand) → Option AsmRow
arranged_if None os = None
arranged_if (Some o) None = None
arranged_if (Some o) (Some os) = arranged o (row_places o) os

-- ---- label rows

-- "call (one or more letters, digits or underscores, optionally a dot and digits)", ending in a colon
unfoldable pub is_call_row : List ℕ → Bool
is_call_row x =
    let k = scan is_word x in
    let m = scan is_digit (drop (k + 1) x) in
    ltb 0 k && (same (drop k x) (bytes ":") || (byte_is x k 46 && ltb 0 m && same (drop (k + 1 + m) x) (bytes ":")))

-- "`.LBL1_2`, `.PROPHET1_2`, each ending in a colon", by their letters
unfoldable pub is_pair_row : List ℕ → List ℕ → Bool
is_pair_row letters x =
    let n = length letters in
    byte_is x 0 46 && same (slice 1 (n + 1) x) letters && is_pair (slice (n + 1) (length x - 1) x) && byte_is x (length x - 1) 58

-- a label row of one piece, without its colon
unfoldable pub label_row : Part → Option AsmRow
label_row q =
    cond (is_call_row q.text) (Some (LabelCall q.start (length q.text - 1)))
    (cond (is_pair_row (bytes "LBL") q.text) (Some (LabelJmp q.start (length q.text - 1)))
    (cond (is_pair_row (bytes "PROPHET") q.text) (Some (LabelProphet q.start (length q.text - 1)))
    None))

abbrev pub or_else_row : Option AsmRow → Option AsmRow → Option AsmRow
or_else_row (Some r) other = Some r
or_else_row None other = other

-- a row from its pieces: a label row, or a mnemonic and its operands
unfoldable pub row_of : List Part → Option AsmRow
row_of [] = None
row_of (q ∷ []) = or_else_row (label_row q) (arranged_if (operation_of q.text) (Some []))
row_of (q ∷ r ∷ rs) = arranged_if (operation_of q.text) (operands_of (r ∷ rs))

abbrev pub of_row : Option AsmRow → LineRead
of_row (Some r) = Row r
of_row None = NoRow

-- what a line is: no row where it has no piece
abbrev pub line_of : List Part → LineRead
line_of [] = Blank
line_of (q ∷ qs) = of_row (row_of (q ∷ qs))

-- the line of a text that starts at place i, and where the line after it starts
abbrev pub row_at : List ℕ → ℕ → RowAt
row_at s i = record { read = line_of (line_pieces (line_at s i)); next = next_line s i }

-- ---- the rows of a text

-- 3: "an unreadable row (non-empty rows before it)"
abbrev pub row_read : ℕ → Option AsmRow → Answer AsmRow
row_read k (Some r) = ok r
row_read k None = refused 3 k

-- every row, where k rows stand ahead
unfoldable pub read_rows : ℕ → List (List Part) → Answer (List AsmRow)
read_rows k [] = ok []
read_rows k (ps ∷ rest) = row_read k (row_of ps) >>= λ r. read_rows (suc k) rest >>= λ rs. ok (r ∷ rs)

-- the instruction rows, in order
unfoldable pub instructions : List AsmRow → List OlaAsmInstruction
instructions [] = []
instructions (Instruction i ∷ rs) = i ∷ instructions rs
instructions (LabelCall start n ∷ rs) = instructions rs
instructions (LabelJmp start n ∷ rs) = instructions rs
instructions (LabelProphet start n ∷ rs) = instructions rs

-- ---- lengths

-- "1 ... where it is a number, name, label or bracketed"
abbrev pub counted : OlaAsmOperand → ℕ
counted Empty = 0
counted (ImmediateOperand v) = 1
counted (RegisterOperand r) = 0
counted (RegisterWithOffset r v) = 1
counted (RegisterWithFactoredRegOffset r s v) = 1
counted (SpecialReg s) = 0
counted (Label start n) = 1
counted (Identifier start n) = 1

-- "Counted length: 1, plus 1 for op0 and 1 for op1"
abbrev pub counted_length : OlaAsmInstruction → ℕ
counted_length i = 1 + counted i.op0 + counted i.op1
