-- Inputs that separate likely misreadings of operand shapes, rows, counted lengths and surveys, by computation. Expected values: documents 01 and
-- 02 (Point 1, words; Point 2, labels; Point 4, hexadecimal), READINGS 1 to 5 and 11, and the patterns of assembler/src/operands.rs and assembler/src/asm.rs.
use Rattle.std.specs.Prelude.{Option, Some, None}
use Prim.Native.Nat.{ℕ}
use mathlib.Core.Path.{◌≡◌, refl}
use mathlib.Core.List.{List, [], ◌∷◌, map}
use Rattle.text.specs.Bytes.{bytes, is_space, is_digit, is_letter, is_word, same}
use Rattle.text.specs.Lists.{total}
use Rattle.text.specs.Scan.{scan, all, parts}
use Rattle.text.specs.Answer.{Answer, ok, refused, ◌>>=◌}
use Rattle.text_read.specs.Numerals.{digit_value, value_from, numeral, unprefixed, hexadecimal}
use Rattle.vm_opcodes.specs.Operations.{operations, first_operation}
use Rattle.vm_opcodes.specs.declared.OlaOpcode.TheVariants.{ADD, MOV, CJMP, RET, MLOAD, MSTORE, JMP, SIGCHECK, EVENT}
use Rattle.vm_hardware.specs.Registers.{registers, register_of, special_of}
use Rattle.vm_hardware.specs.declared.OlaRegister.TheVariants.{R1, R2, R3, R9}
use Rattle.vm_hardware.specs.declared.OlaSpecialRegister.TheVariants.{PC, PSP}
use Rattle.vm_operands.specs.Numbers.{immediate, signed, number_of}
use Rattle.asm.specs.Parts.{placed, filled_parts, pieces_from, line_pieces, row_pieces, name_at, source_pieces}
use Rattle.asm.specs.Operands.{is_source_number, source_number, shapes, first_match, operand_of}
use Rattle.asm.specs.Rows.{arranged, operands_of, arranged_if, is_call_row, is_pair_row, label_row, row_of, read_rows, instruction, instructions, counted_length}
use Rattle.asm.specs.Survey.{word_count, count_rows, first_call, main_start, main_end, survey_from, survey_of}
use Rattle.asm.specs.declared.OlaAsmOperand.TheVariants.{Empty, ImmediateOperand, RegisterOperand, RegisterWithOffset, RegisterWithFactoredRegOffset, SpecialReg, Label, Identifier}
use Rattle.asm.specs.declared.AsmRow.TheVariants.{Instruction, LabelCall, LabelJmp, LabelProphet}
use Rattle.asm.specs.declared.Tally.{Tally}
use Rattle.asm.specs.declared.AsmRow.{AsmRow}
use Rattle.asm.specs.declared.OlaAsmOperand.{OlaAsmOperand}

-- a piece that starts at byte 7
abbrev piece : List ℕ → Option OlaAsmOperand
piece x = operand_of (record { start = 7; text = x })

abbrev operand_cases : List (List ℕ × Option OlaAsmOperand)
operand_cases =
    (bytes "+5", Some (ImmediateOperand (immediate 5)))
    ∷ (bytes "-0", Some (ImmediateOperand (immediate 0)))
    ∷ (bytes "-1", Some (ImmediateOperand (immediate 18446744069414584320)))
    ∷ (bytes "007", Some (ImmediateOperand (immediate 7)))
    ∷ (bytes "18446744069414584321", None)
    ∷ (bytes "-18446744069414584321", None)
    ∷ (bytes "1a", None)
    ∷ (bytes "+", None)
    -- 02, Point 4: "`0x` and one to sixteen hexadecimal digits of either case"
    ∷ (bytes "0x5", Some (ImmediateOperand (immediate 5)))
    ∷ (bytes "0xaBcD", Some (ImmediateOperand (immediate 0xabcd)))
    ∷ (bytes "0x0123456789abcdef", Some (ImmediateOperand (immediate 0x0123456789abcdef)))
    ∷ (bytes "0xFEDCBA9876543210", Some (ImmediateOperand (immediate 0xfedcba9876543210)))
    ∷ (bytes "0x0000000000000005", Some (ImmediateOperand (immediate 5)))
    ∷ (bytes "0x00000000000000005", None)
    ∷ (bytes "0x10000000000000000", None)
    -- "below p"
    ∷ (bytes "0xffffffff00000000", Some (ImmediateOperand (immediate 18446744069414584320)))
    ∷ (bytes "0xffffffff00000001", None)
    ∷ (bytes "0xffffffffffffffff", None)
    -- "without sign", and no other spelling
    ∷ (bytes "-0x5", None)
    ∷ (bytes "+0x5", None)
    ∷ (bytes "0x+5", None)
    ∷ (bytes "0x-5", None)
    ∷ (bytes "0x", None)
    ∷ (bytes "0X5", None)
    ∷ (bytes "0x0x5", None)
    ∷ (bytes "00x5", None)
    ∷ (bytes "x5", Some (Identifier 7 2))
    ∷ (bytes "0xg", None)
    ∷ (bytes "0x5_", None)
    ∷ (bytes "0x5:", None)
    ∷ (bytes "r0x1", Some (Identifier 7 4))
    -- "bracketed operands, rows and the room figures follow it"
    ∷ (bytes "[r2,0xA]", Some (RegisterWithOffset R2 (immediate 10)))
    ∷ (bytes "[r2,0xffffffff00000000]", Some (RegisterWithOffset R2 (immediate 18446744069414584320)))
    ∷ (bytes "[r2,0xffffffff00000001]", None)
    ∷ (bytes "[r2,0x00000000000000005]", None)
    ∷ (bytes "[r2,-0xA]", None)
    ∷ (bytes "[r2,0x]", None)
    ∷ (bytes "[0x5]", None)
    ∷ (bytes "[r2,r3,0xa]", Some (RegisterWithFactoredRegOffset R2 R3 (immediate 10)))
    ∷ (bytes "[r2,r3,0xffffffff00000001]", None)
    ∷ (bytes "[r2,0x1,0xa]", None)
    -- no other digits of an operand are n
    ∷ (bytes ".LBL0x1_2", None)
    ∷ (bytes "r9", Some (RegisterOperand R9))
    ∷ (bytes "r10", Some (Identifier 7 3))
    ∷ (bytes "R1", Some (Identifier 7 2))
    ∷ (bytes "r", Some (Identifier 7 1))
    ∷ (bytes "[r2,r3,-1]", Some (RegisterWithFactoredRegOffset R2 R3 (immediate 18446744069414584320)))
    ∷ (bytes "[r2,r3,18446744069414584321]", None)
    ∷ (bytes "[r2,r3]", Some (RegisterWithFactoredRegOffset R2 R3 (immediate 1)))
    ∷ (bytes "[r2,r3,]", None)
    ∷ (bytes "[r2,r3,4", None)
    ∷ (bytes "[r2,r3,4]]", None)
    ∷ (bytes "[r2]", Some (RegisterWithOffset R2 (immediate 0)))
    ∷ (bytes "[r2,+7]", Some (RegisterWithOffset R2 (immediate 7)))
    ∷ (bytes "[r2,18446744069414584321]", None)
    ∷ (bytes "[r2,]", None)
    ∷ (bytes "[r2,f]", None)
    ∷ (bytes "[r10]", None)
    ∷ (bytes "[2]", None)
    ∷ (bytes "r2]", None)
    ∷ (bytes "[]", None)
    ∷ (bytes ".LBL1_2", Some (Label 7 7))
    ∷ (bytes ".LBL12_34", Some (Label 7 9))
    ∷ (bytes ".ABC1_2", None)
    -- 02, Point 2: "A letter or underscore before LBL is a name"
    ∷ (bytes "xLBL0_12", Some (Identifier 7 8))
    ∷ (bytes "_LBL1_2", Some (Identifier 7 7))
    ∷ (bytes "rLBL1_2", Some (Identifier 7 7))
    ∷ (bytes "LLBL1_2", Some (Identifier 7 7))
    -- "Any other character than a dot makes the row unreadable"
    ∷ (bytes "5LBL1_2", None)
    ∷ (bytes "-LBL1_2", None)
    ∷ (bytes "/LBL1_2", None)
    ∷ (bytes "[LBL1_2", None)
    ∷ (bytes ":LBL1_2", None)
    ∷ (1 ∷ bytes "LBL1_2", None)
    ∷ (127 ∷ bytes "LBL1_2", None)
    -- as before
    ∷ (bytes "LBL1_2", Some (Identifier 7 6))
    ∷ (bytes "xxLBL1_2", Some (Identifier 7 8))
    ∷ (bytes "xLBL1_", Some (Identifier 7 6))
    ∷ (bytes "xLBL1_2_3", Some (Identifier 7 9))
    ∷ (bytes "..LBL1_2", None)
    ∷ (bytes ".LBL1_", None)
    ∷ (bytes ".LBL_1", None)
    ∷ (bytes ".LBL1_2_3", None)
    ∷ (bytes "pc", Some (SpecialReg PC))
    ∷ (bytes "psp", Some (SpecialReg PSP))
    ∷ (bytes "pcx", Some (Identifier 7 3))
    -- a name may begin as another shape does
    ∷ (bytes "p", Some (Identifier 7 1))
    ∷ (bytes "psp1", Some (Identifier 7 4))
    ∷ (bytes "ret1", Some (Identifier 7 4))
    ∷ (bytes "r1x", Some (Identifier 7 3))
    ∷ (bytes "__f_1", Some (Identifier 7 5))
    ∷ (bytes "_1", None)
    ∷ (bytes "__", None)
    ∷ (bytes "f.1", None)
    ∷ (bytes "a-b", None)
    ∷ (bytes "main:", None)
    ∷ []

-- the rows of a source
abbrev rows_of : List ℕ → List (Option AsmRow)
rows_of s = map row_of (source_pieces s)

abbrev row_cases : List (List ℕ × List (Option AsmRow))
row_cases =
    (bytes "mload r1 [r2]", instruction MLOAD Empty (RegisterWithOffset R2 (immediate 0)) (RegisterOperand R1) ∷ [])
    ∷ (bytes "mstore [r1,2] r3", instruction MSTORE (RegisterWithOffset R1 (immediate 2)) (RegisterOperand R3) Empty ∷ [])
    ∷ (bytes "add r1 r2 5", instruction ADD (RegisterOperand R2) (ImmediateOperand (immediate 5)) (RegisterOperand R1) ∷ [])
    ∷ (bytes "mov r1 r2", instruction MOV Empty (RegisterOperand R2) (RegisterOperand R1) ∷ [])
    ∷ (bytes "cjmp r1 5", instruction CJMP (RegisterOperand R1) (ImmediateOperand (immediate 5)) Empty ∷ [])
    ∷ (bytes "sigcheck r1 r2", instruction SIGCHECK Empty (RegisterOperand R2) (RegisterOperand R1) ∷ [])
    ∷ (bytes "log r1 r2", instruction EVENT (RegisterOperand R1) (RegisterOperand R2) Empty ∷ [])
    ∷ (bytes "jmp f", instruction JMP Empty (Identifier 4 1) Empty ∷ [])
    ∷ (bytes "  jmp\tf\r\n", instruction JMP Empty (Identifier 6 1) Empty ∷ [])
    ∷ (bytes "ret ; jmp f", instruction RET Empty Empty Empty ∷ [])
    ∷ (bytes "; ret\n\n \t", [])
    ∷ (bytes "add r1 r2", None ∷ [])
    ∷ (bytes "add r1 r2 r3 r1", None ∷ [])
    ∷ (bytes "mov r1", None ∷ [])
    ∷ (bytes "mov r1 r2 r3", None ∷ [])
    ∷ (bytes "jmp", None ∷ [])
    ∷ (bytes "ret r1", None ∷ [])
    ∷ (bytes "MOV r1 r2", None ∷ [])
    ∷ (bytes "event r1 r2", None ∷ [])
    ∷ (bytes "mov r1, r2", None ∷ [])
    ∷ (bytes "mload r1 [r2, 5]", None ∷ [])
    ∷ (bytes "call f.1", None ∷ [])
    -- the row, whatever else stands in it
    ∷ (bytes "mload r1 xLBL1_2", instruction MLOAD Empty (Identifier 9 7) (RegisterOperand R1) ∷ [])
    ∷ (bytes "mload r1 5LBL1_2", None ∷ [])
    ∷ (bytes "add 5LBL1_2 r1 .LBL1_2", None ∷ [])
    -- "bracketed operands, rows and the room figures follow it"
    ∷ (bytes "add r1 0x5 0x6", instruction ADD (ImmediateOperand (immediate 5)) (ImmediateOperand (immediate 6)) (RegisterOperand R1) ∷ [])
    ∷ (bytes "mload r1 [r2,0xA]", instruction MLOAD Empty (RegisterWithOffset R2 (immediate 10)) (RegisterOperand R1) ∷ [])
    ∷ (bytes "mstore [r1,r2,0xa] r3", instruction MSTORE (RegisterWithFactoredRegOffset R1 R2 (immediate 10)) (RegisterOperand R3) Empty ∷ [])
    ∷ (bytes "mov r1 0x00000000000000005", None ∷ [])
    ∷ (bytes "mov r1 0x 5", None ∷ [])
    ∷ (bytes "mov r1 0x;5", None ∷ [])
    ∷ (bytes "0x5 r1 r2", None ∷ [])
    ∷ (bytes "0x5:", Some (LabelCall 0 3) ∷ [])
    ∷ (bytes ".LBL0x1_2:", None ∷ [])
    ∷ (bytes ".PROPHET0x1_2:", None ∷ [])
    ∷ (bytes "f:", Some (LabelCall 0 1) ∷ [])
    ∷ (bytes "\n main: ; x", Some (LabelCall 2 4) ∷ [])
    ∷ (bytes "f.1:", Some (LabelCall 0 3) ∷ [])
    ∷ (bytes "_1:", Some (LabelCall 0 2) ∷ [])
    ∷ (bytes "12:", Some (LabelCall 0 2) ∷ [])
    ∷ (bytes "r1:", Some (LabelCall 0 2) ∷ [])
    ∷ (bytes "pc:", Some (LabelCall 0 2) ∷ [])
    ∷ (bytes "ret:", Some (LabelCall 0 3) ∷ [])
    ∷ (bytes "xLBL1_1:", Some (LabelCall 0 7) ∷ [])
    ∷ (bytes "5LBL1_2:", Some (LabelCall 0 7) ∷ [])
    ∷ (bytes ".LBL1_2:", Some (LabelJmp 0 7) ∷ [])
    ∷ (bytes ".PROPHET1_2:", Some (LabelProphet 0 11) ∷ [])
    ∷ (bytes ".LBL1_2", None ∷ [])
    ∷ (bytes ".LBL1_2 :", None ∷ [])
    ∷ (bytes ".LBL1:", None ∷ [])
    ∷ (bytes ".PROPHET1_:", None ∷ [])
    ∷ (bytes ":", None ∷ [])
    ∷ (bytes "f.:", None ∷ [])
    ∷ (bytes "f.1.2:", None ∷ [])
    ∷ (bytes "f::", None ∷ [])
    ∷ (bytes "main:\rend", None ∷ [])
    ∷ ((114 ∷ 101 ∷ 116 ∷ 28 ∷ []), None ∷ [])
    ∷ []

-- the counted length and the words of the first row, where it is an instruction
abbrev length_of : List (Option AsmRow) → Option (ℕ × ℕ)
length_of [] = None
length_of (None ∷ rs) = None
length_of (Some (Instruction i) ∷ rs) = Some (counted_length i, word_count i)
length_of (Some (LabelCall a n) ∷ rs) = None
length_of (Some (LabelJmp a n) ∷ rs) = None
length_of (Some (LabelProphet a n) ∷ rs) = None

abbrev length_cases : List (List ℕ × Option (ℕ × ℕ))
length_cases =
    (bytes "cjmp f 6", Some (3, 2))
    ∷ (bytes "mov 5 r1", Some (1, 1))
    ∷ (bytes "mov r1 5", Some (2, 2))
    ∷ (bytes "mov r1 [r2]", Some (2, 1))
    ∷ (bytes "mov r1 [r2,r3]", Some (2, 1))
    ∷ (bytes "mov r1 pc", Some (1, 1))
    -- two reasons for a second word, and still no third
    ∷ (bytes "mstore 5 6", Some (3, 2))
    ∷ (bytes "mstore [r1] 5", Some (3, 2))
    ∷ (bytes "mload r1 5", Some (2, 2))
    ∷ (bytes "mstore [r2,r3] r1", Some (2, 2))
    ∷ (bytes "mload r1 [r2]", Some (2, 2))
    ∷ (bytes "mload r1 [r2,0xA]", Some (2, 2))
    ∷ (bytes "mov r1 0xA", Some (2, 2))
    ∷ (bytes "mov 0xA r1", Some (1, 1))
    -- more words than are counted, which 11 turns away
    ∷ (bytes "mload r1 r2", Some (1, 2))
    -- op0 takes no word, which 12 turns away
    ∷ (bytes "add r1 5 r2", Some (2, 1))
    ∷ (bytes "add r1 r2 r3", Some (1, 1))
    ∷ (bytes "jmp .LBL1_1", Some (2, 2))
    ∷ (bytes "jmp nowhere", Some (2, 2))
    ∷ (bytes "end", Some (1, 1))
    ∷ []

-- rows, label rows, instructions and mains; counted length and words; where the first call label and main's scope start, and where that ends
abbrev sums : ℕ → ℕ → ℕ → ℕ → ℕ → ℕ → Option ℕ → Option ℕ → Option ℕ → Answer Tally
sums r l i m n w c s e = ok (record { rows = r; labels = l; instructions = i; mains = m; counted = n; words = w; call = c; main = s; end = e })

abbrev survey_cases : List (List ℕ × Answer Tally)
survey_cases =
    -- "A scope runs from one call label to the next"
    (bytes "f:\nret\nmain:\njmp 1\n.LBL1_1:\nend\ng:", sums 7 4 3 1 4 4 (Some 0) (Some 7) (Some 32))
    -- READING 4: "The main scope is the call label `main` exactly; `main.1:` is another name"
    ∷ (bytes "main.1:\nMain:\nend", sums 3 2 1 0 1 1 (Some 0) None None)
    -- 3: "an unreadable row (non-empty rows before it)"
    ∷ (bytes "main:\n\nend\nfoo", refused 3 2)
    ∷ []

-- the cases are exported, since modules that export are checked first: a wrong definition is told by its case, then by the laws. What unfolds a bytecode's
-- numbers is here for the wrong definition that has them: its cases compute too.
pub operands_right : map (λ c. piece c.0) operand_cases ≡ map (λ c. c.1) operand_cases
unfolding is_digit is_letter is_word same scan all digit_value value_from numeral unprefixed hexadecimal registers register_of special_of signed number_of is_source_number source_number shapes first_match
operands_right = refl

pub rows_right : map (λ c. rows_of c.0) row_cases ≡ map (λ c. c.1) row_cases
unfolding is_space is_digit is_letter is_word same scan all parts digit_value value_from numeral operations first_operation registers register_of special_of signed number_of placed filled_parts pieces_from line_pieces row_pieces is_source_number source_number shapes first_match arranged operands_of arranged_if is_call_row is_pair_row label_row row_of
rows_right = refl

pub lengths_right : map (λ c. length_of (rows_of c.0)) length_cases ≡ map (λ c. c.1) length_cases
unfolding is_space is_digit is_letter is_word same scan all parts digit_value value_from numeral operations first_operation registers register_of special_of signed number_of placed filled_parts pieces_from line_pieces row_pieces is_source_number source_number shapes first_match arranged operands_of arranged_if is_call_row is_pair_row label_row row_of
lengths_right = refl

pub surveys_right : map (λ c. survey_of c.0) survey_cases ≡ map (λ c. c.1) survey_cases
unfolding is_space is_digit is_letter is_word same total scan all parts ◌>>=◌ digit_value value_from numeral operations first_operation registers register_of special_of signed number_of placed filled_parts pieces_from line_pieces row_pieces name_at is_source_number source_number shapes first_match arranged operands_of arranged_if is_call_row is_pair_row label_row row_of read_rows instructions count_rows first_call main_start main_end survey_from
surveys_right = refl
