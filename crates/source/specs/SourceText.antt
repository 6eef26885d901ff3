-- 02, Point 7, "Source from bytecode": `main:` and one row an instruction; refusal 26.
use Rattle.std.specs.Prelude.{ℕ, suc, List, [], ◌∷◌, ◌++◌, map, Bool, true, false, ◌||◌, cond, Option, Some, None, Result, Ok, Err}
use Rattle.text.specs.Bytes.{bytes}
use Rattle.text.specs.Answer.{Answer, ok, refused, ◌>>=◌, ◌>>◌, refuse_at}
use Rattle.text_write.specs.Digits.{decimal_text}
use Rattle.vm_opcodes.specs.Operations.{row_places}
use Rattle.vm_opcodes.specs.declared.RowPlaces.{RowPlaces}
use Rattle.vm_opcodes.specs.declared.RowPlaces.TheVariants.{DstOp0Op1, DstOp1, DstMemory, MemoryDst, Op0Op1, Op1, Bare}
use Rattle.vm_mnemonics.specs.Mnemonics.{mnemonic}
use Rattle.vm_hardware.specs.Registers.{register_text, special_text}
use Rattle.vm_hardware.specs.declared.OlaSpecialRegister.TheVariants.{PSP}
use Rattle.vm_operands.specs.declared.OlaOperand.{OlaOperand}
use Rattle.vm_operands.specs.declared.OlaOperand.TheVariants.{Empty, ImmediateOperand, RegisterOperand, RegisterWithOffset, RegisterWithFactor, SpecialReg}
use Rattle.program.specs.Bytecode.{joined, within}
use Rattle.program.specs.declared.BinaryInstruction.{BinaryInstruction}
use Rattle.decoder.specs.Open.{opened, open_number, open_detail}
use Rattle.source.specs.declared.SourceRefusal.{SourceRefusal}
use Rattle.source.specs.declared.SourceRefusal.TheVariants.{Open, OffRow, TextTooShort}

-- ---- a row

-- "numbers in decimal", "psp for an empty place that the row needs"; a register and its number as they stand in brackets. No bytecode reads a register
-- with offset
abbrev pub place_source : OlaOperand → List ℕ
place_source Empty = special_text PSP
place_source (ImmediateOperand v) = decimal_text v.number
place_source (RegisterOperand r) = register_text r
place_source (RegisterWithOffset r v) = register_text r ++ bytes "," ++ decimal_text v.number
place_source (RegisterWithFactor r v) = register_text r ++ bytes "," ++ decimal_text v.number
place_source (SpecialReg s) = special_text s

-- "memory operands as `[r2,5]` or `[r2,r3,5]` whatever the number"
abbrev pub memory_source : BinaryInstruction → List ℕ
memory_source i = bytes "[" ++ place_source i.op0 ++ bytes "," ++ place_source i.op1 ++ bytes "]"

-- "places ... as listed"
abbrev pub places_source : RowPlaces → BinaryInstruction → List (List ℕ)
places_source DstOp0Op1 i = place_source i.dst ∷ place_source i.op0 ∷ place_source i.op1 ∷ []
places_source DstOp1 i = place_source i.dst ∷ place_source i.op1 ∷ []
places_source DstMemory i = place_source i.dst ∷ memory_source i ∷ []
places_source MemoryDst i = memory_source i ∷ place_source i.dst ∷ []
places_source Op0Op1 i = place_source i.op0 ∷ place_source i.op1 ∷ []
places_source Op1 i = place_source i.op1 ∷ []
places_source Bare i = []

-- "and spaces as listed": one before each
unfoldable pub spaced_all : List (List ℕ) → List ℕ
spaced_all [] = []
spaced_all (p ∷ ps) = bytes " " ++ p ++ spaced_all ps

abbrev pub source_row : BinaryInstruction → List ℕ
source_row i = mnemonic i.opcode ++ spaced_all (places_source (row_places i.opcode) i)

-- "prints `main:` and one row an instruction, ... no final line feed"
abbrev pub source_text : List BinaryInstruction → List ℕ
source_text is = joined (bytes "main:" ∷ map source_row is)

-- ---- 26

abbrev pub is_full : OlaOperand → Bool
is_full Empty = false
is_full (ImmediateOperand v) = true
is_full (RegisterOperand r) = true
is_full (RegisterWithOffset r v) = true
is_full (RegisterWithFactor r v) = true
is_full (SpecialReg s) = true

-- "contents in a place that its operation's row does not have"
abbrev pub off_row : RowPlaces → BinaryInstruction → Bool
off_row DstOp0Op1 i = false
off_row DstOp1 i = is_full i.op0
off_row DstMemory i = false
off_row MemoryDst i = false
off_row Op0Op1 i = is_full i.dst
off_row Op1 i = is_full i.op0 || is_full i.dst
off_row Bare i = is_full i.op0 || is_full i.op1 || is_full i.dst

abbrev pub is_off_row : BinaryInstruction → Bool
is_off_row i = off_row (row_places i.opcode) i

-- "the index of the first such instruction", counted from k
unfoldable pub first_off_row : ℕ → List BinaryInstruction → Option ℕ
first_off_row k [] = None
first_off_row k (i ∷ is) = let later = first_off_row (suc k) is in cond (is_off_row i) (Some k) later

-- ---- writing

-- 26 "after 14 to 19 and before 23"
unfoldable pub source_written : List ℕ → ℕ → Answer (List ℕ)
source_written bytecode room = do
  is ← opened bytecode
  refuse_at (first_off_row 0 is) 26
  within room (source_text is)

abbrev pub source_refusal_number : SourceRefusal → ℕ
source_refusal_number (Open f) = open_number f
source_refusal_number (OffRow index) = 26
source_refusal_number TextTooShort = 23

abbrev pub source_refusal_detail : SourceRefusal → ℕ
source_refusal_detail (Open f) = open_detail f
source_refusal_detail (OffRow index) = index
source_refusal_detail TextTooShort = 0

-- an answer by its number and detail, or its count
abbrev pub source_numbered : Result ℕ SourceRefusal → Answer ℕ
source_numbered (Ok n) = ok n
source_numbered (Err f) = refused (source_refusal_number f) (source_refusal_detail f)
