-- A listing row in two steps, as it is written: whether a place that it needs is empty, and its text where none is; what writing it answers.
use Rattle.std.specs.Prelude.{ℕ, List, [], ◌∷◌, ◌++◌, Bool, true, false, ◌||◌, Result, Ok, Err}
use Rattle.text.specs.Bytes.{bytes}
use Rattle.text.specs.Answer.{Answer, ok, refused}
use Rattle.text_write.specs.Digits.{fewest_text}
use Rattle.vm_opcodes.specs.declared.RowPlaces.{RowPlaces}
use Rattle.vm_opcodes.specs.declared.RowPlaces.TheVariants.{DstOp0Op1, DstOp1, DstMemory, MemoryDst, Op0Op1, Op1, Bare}
use Rattle.vm_hardware.specs.Registers.{register_text, special_text}
use Rattle.vm_hardware.specs.declared.OlaRegister.{OlaRegister}
use Rattle.vm_operands.specs.declared.OlaOperand.{OlaOperand}
use Rattle.vm_operands.specs.declared.OlaOperand.TheVariants.{Empty, ImmediateOperand, RegisterOperand, RegisterWithOffset, RegisterWithFactor, SpecialReg}
use Rattle.program.specs.Refusals.{row_number, row_detail}
use Rattle.program.specs.declared.BinaryInstruction.{BinaryInstruction}
use Rattle.program.specs.declared.RowRefusal.{RowRefusal}
use Rattle.program_listing.specs.Places.{as_text, spaced_by, bracketed_by, placed_by}

abbrev pub row_numbered : Result ℕ RowRefusal → Answer ℕ
row_numbered (Ok n) = ok n
row_numbered (Err f) = refused (row_number f) (row_detail f)

-- ---- 24: "a place that it needs is empty"

abbrev pub is_empty_place : OlaOperand → Bool
is_empty_place Empty = true
is_empty_place (ImmediateOperand v) = false
is_empty_place (RegisterOperand r) = false
is_empty_place (RegisterWithOffset r v) = false
is_empty_place (RegisterWithFactor r v) = false
is_empty_place (SpecialReg s) = false

abbrev pub lacks_two : OlaOperand → OlaOperand → Bool
lacks_two a b = is_empty_place a || is_empty_place b

abbrev pub lacks_three : OlaOperand → OlaOperand → OlaOperand → Bool
lacks_three a b c = is_empty_place a || lacks_two b c

abbrev pub lacks_place : RowPlaces → BinaryInstruction → Bool
lacks_place DstOp0Op1 i = lacks_three i.dst i.op0 i.op1
lacks_place DstOp1 i = lacks_two i.dst i.op1
lacks_place DstMemory i = lacks_three i.dst i.op0 i.op1
lacks_place MemoryDst i = lacks_three i.op0 i.op1 i.dst
lacks_place Op0Op1 i = lacks_two i.op0 i.op1
lacks_place Op1 i = is_empty_place i.op1
lacks_place Bare i = false

-- ---- the text where no place that it needs is empty

-- "a register with offset as `r1+0x2`"
abbrev pub offset_text : OlaRegister → ℕ → List ℕ
offset_text r v = register_text r ++ (bytes "+" ++ fewest_text v)

-- "a register with factor as `0x2*r1`"
abbrev pub factor_text : OlaRegister → ℕ → List ℕ
factor_text r v = fewest_text v ++ (bytes "*" ++ register_text r)

abbrev pub content_text : OlaOperand → List ℕ
content_text Empty = []
content_text (ImmediateOperand v) = fewest_text v.number
content_text (RegisterOperand r) = register_text r
content_text (RegisterWithOffset r v) = offset_text r v.number
content_text (RegisterWithFactor r v) = factor_text r v.number
content_text (SpecialReg s) = special_text s

-- the same as its pieces
abbrev pub content_pieces : OlaOperand → List (List ℕ)
content_pieces Empty = []
content_pieces (ImmediateOperand v) = fewest_text v.number ∷ []
content_pieces (RegisterOperand r) = register_text r ∷ []
content_pieces (RegisterWithOffset r v) = register_text r ∷ bytes "+" ∷ fewest_text v.number ∷ []
content_pieces (RegisterWithFactor r v) = fewest_text v.number ∷ bytes "*" ∷ register_text r ∷ []
content_pieces (SpecialReg s) = special_text s ∷ []

-- "after one space each"
abbrev pub spaced_text : OlaOperand → List ℕ
spaced_text = spaced_by as_text content_text

-- `[op0+op1]`, after one space
abbrev pub bracketed_text : OlaOperand → OlaOperand → List ℕ
bracketed_text = bracketed_by as_text content_text 43

abbrev pub placed_text : RowPlaces → BinaryInstruction → List ℕ
placed_text = placed_by as_text content_text 43
