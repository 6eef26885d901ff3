-- What the rows of a text add up to, and what two such sums are together.
use Rattle.std.specs.Prelude.{ℕ, suc, ◌+◌, List, [], ◌∷◌, map, Bool, true, false, ◌||◌, cond, length, Option, Some, None, Result, Ok, Err}
use Rattle.text.specs.Bytes.{bytes, same}
use Rattle.text.specs.Lists.{total}
use Rattle.text.specs.Answer.{Answer, ok, refused, ◌>>=◌}
use Rattle.vm_opcodes.specs.Operations.{row_places}
use Rattle.vm_opcodes.specs.declared.RowPlaces.{RowPlaces}
use Rattle.vm_opcodes.specs.declared.RowPlaces.TheVariants.{DstOp0Op1, DstOp1, DstMemory, MemoryDst, Op0Op1, Op1, Bare}
use Rattle.asm.specs.Parts.{name_at, pieces_after}
use Rattle.asm.specs.Rows.{read_rows, instructions, counted_length}
use Rattle.asm.specs.declared.OlaAsmOperand.{OlaAsmOperand}
use Rattle.asm.specs.declared.OlaAsmOperand.TheVariants.{Empty, ImmediateOperand, RegisterOperand, RegisterWithOffset, RegisterWithFactoredRegOffset, SpecialReg, Label, Identifier}
use Rattle.asm.specs.declared.OlaAsmInstruction.{OlaAsmInstruction}
use Rattle.asm.specs.declared.AsmRow.{AsmRow}
use Rattle.asm.specs.declared.AsmRow.TheVariants.{Instruction, LabelCall, LabelJmp, LabelProphet}
use Rattle.asm.specs.declared.RowCount.{RowCount}
use Rattle.asm.specs.declared.Tally.{Tally}

-- ---- words

-- mload and mstore
abbrev pub is_memory_row : RowPlaces → Bool
is_memory_row DstOp0Op1 = false
is_memory_row DstOp1 = false
is_memory_row DstMemory = true
is_memory_row MemoryDst = true
is_memory_row Op0Op1 = false
is_memory_row Op1 = false
is_memory_row Bare = false

-- "a number, name or label"
abbrev pub takes_word : OlaAsmOperand → Bool
takes_word Empty = false
takes_word (ImmediateOperand v) = true
takes_word (RegisterOperand r) = false
takes_word (RegisterWithOffset r v) = false
takes_word (RegisterWithFactoredRegOffset r t v) = false
takes_word (SpecialReg t) = false
takes_word (Label start n) = true
takes_word (Identifier start n) = true

-- "one for an instruction, one more for mload, mstore or an op1 that is a number, name or label"
abbrev pub word_count : OlaAsmInstruction → ℕ
word_count i = cond (is_memory_row (row_places i.opcode) || takes_word i.op1) 2 1

-- ---- counts and places

-- a count of rows as `RowCount` holds it
abbrev pub row_count : ℕ → RowCount
row_count n = record { 0 = n }

abbrev pub is_label_row : AsmRow → Bool
is_label_row (Instruction i) = false
is_label_row (LabelCall start n) = true
is_label_row (LabelJmp start n) = true
is_label_row (LabelProphet start n) = true

-- the call label `main` of a text s
abbrev pub is_main_row : List ℕ → AsmRow → Bool
is_main_row s (Instruction i) = false
is_main_row s (LabelCall start n) = same (name_at s start n) (bytes "main")
is_main_row s (LabelJmp start n) = false
is_main_row s (LabelProphet start n) = false

-- how many rows pass a test
unfoldable pub count_rows : (AsmRow → Bool) → List AsmRow → ℕ
count_rows f [] = 0
count_rows f (r ∷ rs) = cond (f r) (suc (count_rows f rs)) (count_rows f rs)

-- where a call label starts
abbrev pub call_place : AsmRow → Option ℕ
call_place (Instruction i) = None
call_place (LabelCall start n) = Some start
call_place (LabelJmp start n) = None
call_place (LabelProphet start n) = None

-- the first of two places
abbrev pub or_place : Option ℕ → Option ℕ → Option ℕ
or_place (Some i) other = Some i
or_place None other = other

-- where the first call label starts
unfoldable pub first_call : List AsmRow → Option ℕ
first_call [] = None
first_call (r ∷ rs) = or_place (call_place r) (first_call rs)

-- where main's scope begins, at its call label
unfoldable pub main_start : List ℕ → List AsmRow → Option ℕ
main_start s [] = None
main_start s (r ∷ rs) = cond (is_main_row s r) (call_place r) (main_start s rs)

-- where it ends, at the next call label; nothing where it runs to the text's end
unfoldable pub main_end : List ℕ → List AsmRow → Option ℕ
main_end s [] = None
main_end s (r ∷ rs) = cond (is_main_row s r) (first_call rs) (main_end s rs)

-- what the rows of a text s add up to
abbrev pub tally_of : List ℕ → List AsmRow → Tally
tally_of s rs = record {
  rows = length rs;
  labels = count_rows is_label_row rs;
  instructions = length (instructions rs);
  mains = count_rows (is_main_row s) rs;
  counted = total (map counted_length (instructions rs));
  words = total (map word_count (instructions rs));
  call = first_call rs;
  main = main_start s rs;
  end = main_end s rs;
}

-- ---- the survey

-- what stands in a text from place i on, the start of a line: its sums, or its first unreadable row
unfoldable pub survey_from : List ℕ → ℕ → Answer Tally
survey_from s i = read_rows 0 (pieces_after s i) >>= λ rs. ok (tally_of s rs)

-- the survey of a text
abbrev pub survey_of : List ℕ → Answer Tally
survey_of s = survey_from s 0

-- an answer by its number, detail and sums
abbrev pub survey_numbered : Result Tally RowCount → Answer Tally
survey_numbered (Ok t) = ok t
survey_numbered (Err rows) = refused 3 rows.0

-- ---- two texts one after the other

-- main's end, where it begins in the first: there, or at the first call label of the second
abbrev pub joined_end : Option ℕ → Option ℕ → Option ℕ → Option ℕ → Option ℕ
joined_end (Some i) end call other = or_place end call
joined_end None end call other = other

abbrev pub joined : Tally → Tally → Tally
joined f g = record {
  rows = f.rows + g.rows;
  labels = f.labels + g.labels;
  instructions = f.instructions + g.instructions;
  mains = f.mains + g.mains;
  counted = f.counted + g.counted;
  words = f.words + g.words;
  call = or_place f.call g.call;
  main = or_place f.main g.main;
  end = joined_end f.main f.end g.call g.end;
}

-- the first text's unreadable row, or the second's after the first's rows, or the sums together
unfoldable pub joined_surveys : Answer Tally → Answer Tally → Answer Tally
joined_surveys (refused n d) g = refused n d
joined_surveys (ok f) (refused n d) = refused n (f.rows + d)
joined_surveys (ok f) (ok g) = ok (joined f g)

abbrev pub moved_place : ℕ → Option ℕ → Option ℕ
moved_place n (Some i) = Some (n + i)
moved_place n None = None

-- the sums of a text that stands n bytes further on
abbrev pub moved_tally : ℕ → Tally → Tally
moved_tally n t = record {
  rows = t.rows;
  labels = t.labels;
  instructions = t.instructions;
  mains = t.mains;
  counted = t.counted;
  words = t.words;
  call = moved_place n t.call;
  main = moved_place n t.main;
  end = moved_place n t.end;
}

abbrev pub moved_survey : ℕ → Answer Tally → Answer Tally
moved_survey n (ok t) = ok (moved_tally n t)
moved_survey n (refused k d) = refused k d
