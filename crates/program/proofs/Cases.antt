-- Inputs that separate likely misreadings of words, bytecode text, listing rows, lent texts and refusals 21 to 24, by computation. Expected values:
-- document 01, READINGS 23 to 25, and `encode` and `get_asm_form_code` of core/src/program/binary_program.rs.
use Rattle.std.specs.Prelude.{Some, None}
use Prim.Native.Nat.{ℕ, ◌^◌}
use mathlib.Core.Path.{◌≡◌, refl}
use mathlib.Core.List.{List, [], ◌∷◌, map}
use Rattle.text.specs.Bytes.{bytes}
use Rattle.text.specs.Answer.{Answer, ok, refused, ◌>>=◌, ◌>>◌, refuse_if, refuse_at, on_ok}
use Rattle.text_write.specs.Digits.{digits_of, digit_count}
use Rattle.vm_opcodes.specs.declared.OlaOpcode.TheVariants.{ADD, MOV, JMP, CJMP, RET, MLOAD, MSTORE, END, RC, ASSERT, NOT, TLOAD, EVENT}
use Rattle.vm_hardware.specs.declared.OlaRegister.TheVariants.{R0, R1, R2, R3, R9}
use Rattle.vm_hardware.specs.declared.OlaSpecialRegister.TheVariants.{PC, PSP}
use Rattle.vm_hardware.specs.declared.Place.TheVariants.{Op0, Op1, Dst}
use Rattle.vm_operands.specs.Numbers.{order, immediate}
use Rattle.vm_operands.specs.declared.OlaOperand.{OlaOperand}
use Rattle.vm_operands.specs.declared.OlaOperand.TheVariants.{Empty, RegisterOperand, RegisterWithOffset, RegisterWithFactor, SpecialReg}
use Rattle.program.specs.Instructions.{made, a_number}
use Rattle.program.specs.Words.{encoded}
use Rattle.program.specs.Groups.{grouped}
use Rattle.program.specs.Bytecode.{bytecode_of, bytecode_written, within, lines_of_groups, joined, text_left}
use Rattle.program.specs.Listing.{memory_text, spaced, places_text, row_text, row_written}
use Rattle.program.specs.Refusals.{encode_number, encode_detail, write_number, write_detail, row_number, row_detail}
use Rattle.program.specs.declared.EncodeRefusal.{EncodeRefusal}
use Rattle.program.specs.declared.EncodeRefusal.TheVariants.{NumberTooLarge, Rejected}
use Rattle.program.specs.declared.WriteRefusal.{WriteRefusal}
use Rattle.program.specs.declared.WriteRefusal.TheVariants.{TextTooShort}
use Rattle.program.specs.declared.RowRefusal.{RowRefusal}
use Rattle.program.specs.declared.RowRefusal.TheVariants.{NumberTooLarge as RowNumberTooLarge, PlaceEmpty, TextTooShort as RowTextTooShort}
use Rattle.program.specs.declared.BinaryInstruction.{BinaryInstruction}
use Rattle.program.specs.declared.InstructionWords.{InstructionWords}

abbrev one : ℕ → Answer InstructionWords
one w = ok (record { first = w; second = None })

abbrev two : ℕ → ℕ → Answer InstructionWords
two w v = ok (record { first = w; second = Some v })

abbrev r1 : OlaOperand
r1 = RegisterOperand R1

abbrev r2 : OlaOperand
r2 = RegisterOperand R2

abbrev encode_cases : List (BinaryInstruction × Answer InstructionWords)
encode_cases =
    (made MOV Empty (a_number 18446744069414584320) r1, two 0x4000000208000000 18446744069414584320)
    ∷ (made MOV Empty (SpecialReg PC) r1, one 0x0000000208000000)
    ∷ (made MOV Empty (SpecialReg PSP) r1, one 0x0000000208000000)
    ∷ (made MOV Empty Empty r1, one 0x0000000208000000)
    ∷ (made MLOAD r2 (a_number 0) r1, two 0x4040000200400000 0)
    ∷ (made MLOAD r2 (RegisterWithFactor R3 (immediate 1)) r1, two 0x0040200200400000 1)
    ∷ (made ADD (RegisterOperand R0) (RegisterOperand R9) (RegisterOperand R9), one 0x0018020080000000)
    ∷ (made END Empty Empty Empty, one 0x0000000000100000)
    ∷ (made EVENT Empty Empty Empty, one 0x0000000000000020)
    -- READING 24: an offset alone makes two words with bit 62 clear; an mload that carries no number makes one
    ∷ (made ADD (RegisterWithOffset R2 (immediate 7)) r1 r1, two 0x0040080280000000 7)
    ∷ (made MLOAD r2 r1 r1, one 0x0040080200400000)
    -- the last of op0, op1, dst
    ∷ (made ADD (RegisterWithOffset R2 (immediate 7)) (a_number 8) (RegisterWithOffset R1 (immediate 9)), two 0x4040000280000000 9)
    ∷ (made ADD (RegisterWithOffset R2 (immediate 7)) (a_number 8) r1, two 0x4040000280000000 8)
    -- 22, first of op0, op1, dst
    ∷ (made ADD (a_number 5) r1 (a_number 6), refused 22 0)
    ∷ (made ADD (SpecialReg PC) r1 r1, refused 22 0)
    ∷ (made ADD (RegisterWithFactor R1 (immediate 2)) (SpecialReg PC) r1, refused 22 0)
    ∷ (made ADD r1 (SpecialReg PSP) (a_number 6), refused 22 1)
    ∷ (made MOV Empty (SpecialReg PSP) (SpecialReg PSP), refused 22 2)
    ∷ (made ADD r1 r1 (RegisterWithFactor R1 (immediate 2)), refused 22 2)
    -- 21 before 22, in any place
    ∷ (made ADD (a_number 5) r1 (a_number order), refused 21 0)
    ∷ (made ADD (RegisterWithOffset R1 (immediate order)) r1 r1, refused 21 0)
    ∷ (made RET Empty (RegisterWithFactor R1 (immediate (2 ^ 64))) Empty, refused 21 0)
    ∷ []

abbrev bytecode_cases : List (List ℕ × List ℕ)
bytecode_cases =
    ([], [])
    ∷ (0x0000000000800000 ∷ [], bytes "0x0000000000800000")
    ∷ (0x4000000208000000 ∷ 18446744069414584320 ∷ 0x0000000000100000 ∷ [], bytes "0x4000000208000000\n0xffffffff00000000\n0x0000000000100000")
    -- READING 25: the word after a number is a first word again
    ∷ (2 ^ 62 ∷ 2 ^ 62 ∷ 2 ^ 23 ∷ [], bytes "0x4000000000000000\n0x4000000000000000\n0x0000000000800000")
    ∷ (2 ^ 22 ∷ 10 ∷ 2 ^ 21 ∷ 11 ∷ [], bytes "0x0000000000400000\n0xa\n0x0000000000200000\n0xb")
    ∷ (2 ^ 20 ∷ 10 ∷ [], bytes "0x0000000000100000\n0x000000000000000a")
    ∷ (2 ^ 62 ∷ [], bytes "0x4000000000000000")
    ∷ (0 ∷ 0 ∷ [], bytes "0x0000000000000000\n0x0000000000000000")
    ∷ []

abbrev row_cases : List (BinaryInstruction × Answer (List ℕ))
row_cases =
    (made ADD r1 (a_number 5) r2, ok (bytes "add r2 r1 0x5"))
    ∷ (made TLOAD r1 r2 r1, ok (bytes "tload r1 r1 r2"))
    ∷ (made MOV Empty (SpecialReg PSP) r1, ok (bytes "mov r1 psp"))
    ∷ (made NOT Empty (SpecialReg PC) r1, ok (bytes "not r1 pc"))
    ∷ (made MLOAD r2 (a_number 0) r1, ok (bytes "mload r1 [r2+0x0]"))
    ∷ (made MSTORE r2 (RegisterWithFactor R3 (immediate 2)) r1, ok (bytes "mstore [r2+0x2*r3] r1"))
    ∷ (made CJMP r1 (a_number 18446744069414584320) Empty, ok (bytes "cjmp r1 0xffffffff00000000"))
    ∷ (made EVENT r1 (RegisterWithOffset R1 (immediate 2)) Empty, ok (bytes "log r1 r1+0x2"))
    ∷ (made JMP Empty (a_number 16) Empty, ok (bytes "jmp 0x10"))
    ∷ (made RC Empty r1 Empty, ok (bytes "range r1"))
    -- READING 20: ret and end list alone
    ∷ (made RET Empty (a_number 7) Empty, ok (bytes "ret"))
    ∷ (made END r1 r1 r1, ok (bytes "end"))
    -- 24: a place that the row needs is empty
    ∷ (made ADD r1 r1 Empty, refused 24 0)
    ∷ (made MLOAD Empty r1 r1, refused 24 0)
    ∷ (made MSTORE r1 Empty r1, refused 24 0)
    ∷ (made ASSERT r1 Empty r1, refused 24 0)
    -- READING 23: 21 first, also for a place that the row does not list
    ∷ (made RET Empty (a_number order) Empty, refused 21 0)
    ∷ (made ASSERT (RegisterWithOffset R1 (immediate order)) Empty Empty, refused 21 0)
    ∷ []

-- 23 last: a text one byte too short, and one just long enough
abbrev room_cases : List (Answer (List ℕ) × Answer (List ℕ))
room_cases =
    (row_written (made RET Empty Empty Empty) 2, refused 23 0)
    ∷ (row_written (made RET Empty Empty Empty) 3, ok (bytes "ret"))
    ∷ (row_written (made ADD Empty Empty Empty) 0, refused 24 0)
    ∷ (row_written (made ADD (a_number order) Empty Empty) 0, refused 21 0)
    ∷ (bytecode_written (2 ^ 23 ∷ []) 17, refused 23 0)
    ∷ (bytecode_written (2 ^ 23 ∷ []) 18, ok (bytes "0x0000000000800000"))
    ∷ (bytecode_written [] 0, ok [])
    ∷ []

-- every refusal by its number and detail
abbrev encode_refused : EncodeRefusal → Answer (List ℕ)
encode_refused refusal = refused (encode_number refusal) (encode_detail refusal)

abbrev write_refused : WriteRefusal → Answer (List ℕ)
write_refused refusal = refused (write_number refusal) (write_detail refusal)

abbrev row_refused : RowRefusal → Answer (List ℕ)
row_refused refusal = refused (row_number refusal) (row_detail refusal)

abbrev refusal_cases : List (Answer (List ℕ) × Answer (List ℕ))
refusal_cases =
    (encode_refused NumberTooLarge, refused 21 0)
    ∷ (encode_refused (Rejected Op0), refused 22 0)
    ∷ (encode_refused (Rejected Op1), refused 22 1)
    ∷ (encode_refused (Rejected Dst), refused 22 2)
    ∷ (write_refused TextTooShort, refused 23 0)
    ∷ (row_refused RowNumberTooLarge, refused 21 0)
    ∷ (row_refused PlaceEmpty, refused 24 0)
    ∷ (row_refused RowTextTooShort, refused 23 0)
    ∷ []

-- a lent text afterwards: written over from its start with the rest untouched, or untouched where it was refused
abbrev text_cases : List (List ℕ × List ℕ)
text_cases =
    (text_left (row_written (made RET Empty Empty Empty) 5) (bytes "abcde"), bytes "retde")
    ∷ (text_left (row_written (made RET Empty Empty Empty) 3) (bytes "abc"), bytes "ret")
    ∷ (text_left (row_written (made RET Empty Empty Empty) 2) (bytes "ab"), bytes "ab")
    ∷ (text_left (row_written (made ADD Empty Empty Empty) 5) (bytes "abcde"), bytes "abcde")
    ∷ (text_left (bytecode_written (2 ^ 23 ∷ []) 20) (bytes "abcdefghijklmnopqrst"), bytes "0x0000000000800000st")
    ∷ (text_left (bytecode_written (2 ^ 23 ∷ []) 17) (bytes "abcdefghijklmnopq"), bytes "abcdefghijklmnopq")
    ∷ (text_left (bytecode_written [] 3) (bytes "abc"), bytes "abc")
    ∷ []

encodes_right : map (λ c. encoded c.0) encode_cases ≡ map (λ c. c.1) encode_cases
unfolding encoded ◌>>=◌ ◌>>◌ refuse_if refuse_at
encodes_right = refl

bytecodes_right : map (λ c. bytecode_of c.0) bytecode_cases ≡ map (λ c. c.1) bytecode_cases
unfolding digits_of digit_count grouped lines_of_groups joined
bytecodes_right = refl

rows_right : map (λ c. row_text c.0) row_cases ≡ map (λ c. c.1) row_cases
unfolding digits_of digit_count memory_text spaced places_text row_text ◌>>=◌ ◌>>◌ refuse_if
rows_right = refl

rooms_right : map (λ c. c.0) room_cases ≡ map (λ c. c.1) room_cases
unfolding digits_of digit_count memory_text spaced places_text row_text row_written within grouped lines_of_groups joined ◌>>=◌ ◌>>◌ refuse_if
rooms_right = refl

refusals_right : map (λ c. c.0) refusal_cases ≡ map (λ c. c.1) refusal_cases
refusals_right = refl

texts_right : map (λ c. c.0) text_cases ≡ map (λ c. c.1) text_cases
unfolding digits_of digit_count memory_text spaced places_text row_text row_written within grouped lines_of_groups joined ◌>>=◌ ◌>>◌ refuse_if on_ok
texts_right = refl
