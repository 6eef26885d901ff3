-- Inputs that separate likely misreadings of bytecode lines, decoding, opening and next instruction, by computation. Expected values:
-- document 01, READINGS 13 to 22, and document 02's Point 4, by which nothing changes here.
use Prim.Native.Nat.{ℕ, ◌<◌}
use mathlib.Core.Path.{◌≡◌, refl}
use mathlib.Core.List.{List, [], ◌∷◌, map}
use borrow.Author.Tests.{lt-ltb}
use lib.ListN.{length}
use Rattle.text.specs.Bytes.{bytes, is_digit}
use Rattle.text.specs.Scan.{scan, all, parts}
use Rattle.text.specs.Lines.{lines, ended}
use Rattle.text.specs.Answer.{Answer, ok, refused, ◌>>=◌, ◌>>◌, refuse_if, refuse_at}
use Rattle.text_read.specs.Numerals.{digit_value, value_from, numeral, unprefixed, hexadecimal}
use Rattle.vm_opcodes.specs.Operations.{operations, first_operation}
use Rattle.vm_opcodes.specs.declared.OlaOpcode.TheVariants.{ADD, MOV, CALL, RET, MLOAD, MSTORE, NOT}
use Rattle.vm_hardware.specs.Registers.{registers, first_register}
use Rattle.vm_hardware.specs.declared.OlaRegister.TheVariants.{R0, R1, R2, R3}
use Rattle.vm_hardware.specs.declared.OlaSpecialRegister.TheVariants.{PC, PSP}
use Rattle.vm_operands.specs.Numbers.{immediate, signed, number_of}
use Rattle.vm_operands.specs.declared.OlaOperand.TheVariants.{Empty, RegisterOperand, RegisterWithFactor, SpecialReg}
use Rattle.program.specs.Instructions.{made, a_number}
use Rattle.program.specs.Groups.{grouped}
use Rattle.program.specs.declared.BinaryInstruction.{BinaryInstruction}
use Rattle.decoder.specs.Lines.{complete_of, first_unreadable}
use Rattle.decoder.specs.Decode.{memory_built, built_with, on_number, on_operation, on_first}
use Rattle.decoder.specs.AsRead.{as_canonical}
use Rattle.decoder.specs.Open.{Read, next_number, next_detail, all_decoded, opened, first_read, next, run}
use Rattle.decoder.specs.declared.OpenRefusal.TheVariants.{TextTooLong, FirstWordUnreadable, NoOperation, LineTooMany, SecondLineUnreadable, RegisterMissing}
use Rattle.decoder.specs.declared.NextRefusal.{NextRefusal}
use Rattle.decoder.specs.declared.NextRefusal.TheVariants.{Open, NoneLeft}

abbrev ret : BinaryInstruction
ret = made RET Empty Empty Empty

abbrev call : ℕ → BinaryInstruction
call n = made CALL Empty (a_number n) Empty

-- what opening a text answers
abbrev open_cases : List (List ℕ × Answer (List BinaryInstruction))
open_cases =
    -- READING 13: lines
    ([], ok [])
    ∷ (bytes "\n", refused 15 0)
    ∷ (bytes "0x800000\n", ok (ret ∷ []))
    ∷ (bytes "0x800000\r\n0x800000", ok (ret ∷ ret ∷ []))
    ∷ (bytes "0x800000\r", refused 15 0)
    ∷ (bytes "0x800000\n\n", refused 15 1)
    -- READING 14: first words
    ∷ (bytes "0x+800000", ok (ret ∷ []))
    ∷ (bytes "+800000", ok (ret ∷ []))
    ∷ (bytes "0x0x800000", ok (ret ∷ []))
    ∷ (bytes "800000", ok (ret ∷ []))
    ∷ (bytes "0x0000000000000000000000800000", ok (ret ∷ []))
    ∷ (bytes "-0", refused 15 0)
    ∷ (bytes "+0x800000", refused 15 0)
    ∷ (bytes "0X800000", refused 15 0)
    ∷ (bytes "0x", refused 15 0)
    ∷ (bytes "0x_1", refused 15 0)
    ∷ (bytes " 0x800000", refused 15 0)
    ∷ (bytes "0x800000 ", refused 15 0)
    ∷ (bytes "0x10000000000000000", refused 15 0)
    -- READING 15: second lines
    ∷ (bytes "0x4000000001000000\n10", ok (call 10 ∷ []))
    ∷ (bytes "0x4000000001000000\n0x10", ok (call 16 ∷ []))
    ∷ (bytes "0x4000000001000000\n0x0x10", ok (call 16 ∷ []))
    ∷ (bytes "0x4000000001000000\n0xFF", ok (call 255 ∷ []))
    -- 02, Point 4: "Reading of bytecode is as before", any count of digits and a plus behind `0x` among it
    ∷ (bytes "0x4000000001000000\n0x00000000000000005", ok (call 5 ∷ []))
    ∷ (bytes "0x4000000001000000\n0x0x5", ok (call 5 ∷ []))
    ∷ (bytes "0x4000000001000000\n0x+5", ok (call 5 ∷ []))
    ∷ (bytes "0x4000000001000000\n-0x5", refused 18 0)
    ∷ (bytes "0x4000000001000000\n16", ok (call 16 ∷ []))
    ∷ (bytes "0x4000000001000000\n-5", ok (call 18446744069414584316 ∷ []))
    ∷ (bytes "0x4000000001000000\n-0", ok (call 0 ∷ []))
    ∷ (bytes "0x4000000001000000\n0x-5", refused 18 0)
    ∷ (bytes "0x4000000001000000\nff", refused 18 0)
    ∷ (bytes "0x4000000001000000\n\n", refused 18 0)
    ∷ (bytes "0x4000000001000000\n18446744069414584320", ok (call 18446744069414584320 ∷ []))
    ∷ (bytes "0x4000000001000000\n18446744069414584321", refused 18 0)
    ∷ (bytes "0x4000000001000000\n0xffffffff00000001", refused 18 0)
    ∷ (bytes "0x4000000001000000\n-170141183460469231731687303715884105728", refused 18 0)
    -- READING 16: lines are parted by bits 62, 22 and 21, whatever the operation is
    ∷ (bytes "0x80400000\nx", refused 17 0)
    ∷ (bytes "0x80400000", ok [])
    ∷ (bytes "0x80200000\n0x800000", refused 17 0)
    -- READING 17 and 18: a dropped last first word; 15 before 16 to 19
    ∷ (bytes "0x800000\n0x4000000001000000", ok (ret ∷ []))
    ∷ (bytes "0x0\nx", refused 15 1)
    ∷ (bytes "0x0\n0x4000000001000000", refused 16 0)
    ∷ (bytes "0x800000\n0x10", refused 16 1)
    ∷ (bytes "0x4000000001000000\nx\n0x0", refused 18 0)
    ∷ (bytes "0x4000000000000000\nx", refused 16 0)
    -- 19, and READING 19: the number counts beside a register bit of op1
    ∷ (bytes "0x0000000000400000\n0x1", refused 19 0)
    ∷ (bytes "0x0040000000400000\n0x1", refused 19 0)
    ∷ (bytes "0x0000000200400000\n0x1", refused 19 0)
    ∷ (bytes "0x0040000200400000\n0x1", refused 19 0)
    ∷ (bytes "0x0040200200400000\n0x2", ok (made MLOAD (RegisterOperand R2) (RegisterWithFactor R3 (immediate 2)) (RegisterOperand R1) ∷ []))
    ∷ (bytes "0x4040200200200000\n0x2", ok (made MSTORE (RegisterOperand R2) (a_number 2) (RegisterOperand R1) ∷ []))
    ∷ (bytes "0x4040200280000000\n0x2", ok (made ADD (RegisterOperand R2) (a_number 2) (RegisterOperand R1) ∷ []))
    -- READING 20 and 21
    ∷ (bytes "0x4000000000800000\n7", ok (made RET Empty (a_number 7) Empty ∷ []))
    ∷ (bytes "0x0000000208000000", ok (made MOV Empty (SpecialReg PSP) (RegisterOperand R1) ∷ []))
    ∷ (bytes "0x0000000280000000", ok (made ADD Empty Empty (RegisterOperand R1) ∷ []))
    -- the highest operation bit, the lowest register bit; bits 63 and 4 to 0 are ignored
    ∷ (bytes "0x800000008080001f", ok (made ADD Empty Empty Empty ∷ []))
    ∷ (bytes "0x0030000600900000", ok (made RET (RegisterOperand R0) Empty (RegisterOperand R1) ∷ []))
    ∷ []

abbrev read : BinaryInstruction → ℕ → Answer Read
read i line = ok (record { instruction = i; line = line })

-- what the next instruction from a line is
abbrev next_cases : List (List ℕ × ℕ × Answer Read)
next_cases =
    (bytes "0x4000000001000000\n10\n0x800000", 0, read (call 10) 2)
    ∷ (bytes "0x4000000001000000\n10\n0x800000", 2, read ret 3)
    -- read as if the text began there
    ∷ (bytes "0x4000000001000000\n10\n0x800000", 1, refused 16 0)
    ∷ (bytes "0x4000000001000000\n10\n0x800000", 3, refused 20 0)
    -- READING 22: a line past the end
    ∷ (bytes "0x800000", 9, refused 20 0)
    ∷ ([], 0, refused 20 0)
    -- for the lines read only, with index 0
    ∷ (bytes "0x800000\nx", 0, read ret 1)
    ∷ (bytes "0x800000\nx", 1, refused 15 0)
    ∷ (bytes "0x800000\n0x4000000001000000\nx", 1, refused 18 0)
    ∷ (bytes "0x800000\n0x80400000\nx", 1, refused 17 0)
    ∷ (bytes "0x800000\n0x400000\n1", 1, refused 19 0)
    -- READING 17
    ∷ (bytes "0x800000\n0x4000000001000000", 1, refused 20 0)
    ∷ []

-- the reader moves on, and does not on a refusal
abbrev run_cases : List (ℕ × List ℕ × List (Answer BinaryInstruction))
run_cases =
    (4, bytes "0x4000000001000000\n10\n0x800000", ok (call 10) ∷ ok ret ∷ refused 20 0 ∷ refused 20 0 ∷ [])
    ∷ (1, bytes "0x4000000001000000\n10\n0x800000", ok (call 10) ∷ [])
    ∷ (3, bytes "0x800000\nx\n0x800000", ok ret ∷ refused 15 0 ∷ refused 15 0 ∷ [])
    ∷ []

-- every refusal by its number and detail
abbrev next_refused : NextRefusal → Answer Read
next_refused refusal = refused (next_number refusal) (next_detail refusal)

abbrev refusal_cases : List (Answer Read × Answer Read)
refusal_cases =
    (next_refused (Open TextTooLong), refused 14 0)
    ∷ (next_refused (Open (FirstWordUnreadable 2)), refused 15 2)
    ∷ (next_refused (Open (NoOperation 3)), refused 16 3)
    ∷ (next_refused (Open (LineTooMany 4)), refused 17 4)
    ∷ (next_refused (Open (SecondLineUnreadable 5)), refused 18 5)
    ∷ (next_refused (Open (RegisterMissing 6)), refused 19 6)
    ∷ (next_refused NoneLeft, refused 20 0)
    ∷ []

-- psp is taken as empty for mov alone, and in op1 alone
abbrev canonical_cases : List (BinaryInstruction × BinaryInstruction)
canonical_cases =
    (made MOV Empty (SpecialReg PSP) (RegisterOperand R1), made MOV Empty Empty (RegisterOperand R1))
    ∷ (made MOV Empty (SpecialReg PC) (RegisterOperand R1), made MOV Empty (SpecialReg PC) (RegisterOperand R1))
    ∷ (made MOV (SpecialReg PSP) (a_number 7) (SpecialReg PSP), made MOV (SpecialReg PSP) (a_number 7) (SpecialReg PSP))
    ∷ (made NOT Empty (SpecialReg PSP) (RegisterOperand R1), made NOT Empty (SpecialReg PSP) (RegisterOperand R1))
    ∷ []

-- the cases are exported, since modules that export are checked first: a wrong definition is told by its case, then by the laws
pub opens_right : map (λ c. opened c.0) open_cases ≡ map (λ c. c.1) open_cases
unfolding is_digit scan all parts lines ended ◌>>=◌ ◌>>◌ refuse_if refuse_at digit_value value_from numeral unprefixed hexadecimal operations first_operation registers first_register signed number_of grouped complete_of first_unreadable memory_built built_with on_number on_operation on_first all_decoded opened first_read next run
opens_right = refl

pub nexts_right : map (λ c. next c.0 c.1) next_cases ≡ map (λ c. c.2) next_cases
unfolding is_digit scan all parts lines ended ◌>>=◌ ◌>>◌ refuse_if refuse_at digit_value value_from numeral unprefixed hexadecimal operations first_operation registers first_register signed number_of grouped complete_of first_unreadable memory_built built_with on_number on_operation on_first all_decoded opened first_read next run
nexts_right = refl

pub runs_right : map (λ c. run c.0 c.1 0) run_cases ≡ map (λ c. c.2) run_cases
unfolding is_digit scan all parts lines ended ◌>>=◌ ◌>>◌ refuse_if refuse_at digit_value value_from numeral unprefixed hexadecimal operations first_operation registers first_register signed number_of grouped complete_of first_unreadable memory_built built_with on_number on_operation on_first all_decoded opened first_read next run
runs_right = refl

pub canonicals_right : map (λ c. as_canonical c.0) canonical_cases ≡ map (λ c. c.1) canonical_cases
canonicals_right = refl

pub refusals_right : map (λ c. c.0) refusal_cases ≡ map (λ c. c.1) refusal_cases
refusals_right = refl

-- 14 stands before everything else, whatever the line is
too_long : (text : List ℕ) → 524288 < length text → opened text ≡ refused 14 0
unfolding opened refuse_if ◌>>◌
too_long text h = rw (lt-ltb 524288 (length text) h)

next_too_long : (text : List ℕ) (line : ℕ) → 524288 < length text → next text line ≡ refused 14 0
unfolding next refuse_if ◌>>◌
next_too_long text line h = rw (lt-ltb 524288 (length text) h)
