-- Refusals 1 to 7 by one survey, and the sorted rows line by line: main's stretch of the source, what stands before it, what stands after it.
use Rattle.std.specs.Prelude.{ℕ, ◌+◌, ◌-◌, List, [], ◌∷◌, ◌++◌, ◌&&◌, cond, eqb, leb, ltb, length, take, Option, Some, None, Result, Ok, Err}
use Rattle.text.specs.Answer.{Answer, ok, refused, ◌>>=◌, ◌>>◌, refuse_if, refuse_at}
use Rattle.asm.specs.Parts.{Part, pieces_after}
use Rattle.asm.specs.Rows.{row_of, row_at, instructions}
use Rattle.asm.specs.Survey.{survey_of}
use Rattle.asm.specs.declared.OlaAsmInstruction.{OlaAsmInstruction}
use Rattle.asm.specs.declared.AsmRow.{AsmRow}
use Rattle.asm.specs.declared.RowAt.{RowAt}
use Rattle.asm.specs.declared.Tally.{Tally}
use Rattle.relocate.specs.Relocate.{relocate_number, relocate_detail, first_above127}
use Rattle.relocate.specs.declared.Layout.{Layout}
use Rattle.relocate.specs.declared.RelocateRefusal.{RelocateRefusal}

abbrev pub place_or : ℕ → Option ℕ → ℕ
place_or n (Some i) = i
place_or n None = n

-- main's scope runs to the text's end where no call label follows
abbrev pub layout_of : List ℕ → Tally → Layout
layout_of s t = record {
  labels = t.labels;
  instructions = t.instructions;
  counted = t.counted;
  words = t.words;
  start = place_or 0 t.main;
  end = place_or (length s) t.end;
}

-- refusals 1 to 6, told by the survey's sums: StretchLaws says that this is `sorted_of`
unfoldable pub laid_out : List ℕ → Answer Layout
laid_out s = do
  refuse_if (ltb 65536 (length s)) 1
  refuse_at (first_above127 0 s) 2
  t ← survey_of s
  refuse_if (eqb t.rows 0) 4
  refuse_if (eqb t.mains 0) 5
  refuse_if (ltb 1 t.mains) 6
  ok (layout_of s t)

-- and 7: StretchLaws says that this is `tabled`
unfoldable pub measured : List ℕ → ℕ → Answer Layout
measured s room = do
  l ← laid_out s
  refuse_if (ltb room l.labels) 7
  ok l

-- an answer by its number and detail, or its layout
abbrev pub measured_numbered : Result Layout RelocateRefusal → Answer Layout
measured_numbered (Ok l) = ok l
measured_numbered (Err f) = refused (relocate_number f) (relocate_detail f)

-- ---- the sorted rows, line by line

-- a line read at another place
abbrev pub further : ℕ → ℕ → RowAt → RowAt
further add take r = record { read = r.read; next = r.next + add - take }

-- the line at place v of the sorted source: main's stretch comes first, then what stands before it, then what stands after it
unfoldable pub sorted_row_at : List ℕ → ℕ → ℕ → ℕ → RowAt
sorted_row_at s start end v =
    cond (leb start end && leb end (length s))
    (cond (ltb v (end - start)) (further 0 start (row_at (take end s) (start + v)))
    (cond (ltb v end) (further (end - start) 0 (row_at (take start s) (v - (end - start))))
    (row_at s v)))
    (row_at s v)

-- ---- all of them

-- a row in front, where it was read as one
abbrev pub on_read : Option AsmRow → List AsmRow → List AsmRow
on_read (Some r) rs = r ∷ rs
on_read None rs = rs

-- the rows that pieces are read as, the unreadable ones left out
unfoldable pub readable : List (List Part) → List AsmRow
readable [] = []
readable (ps ∷ pss) = on_read (row_of ps) (readable pss)

-- the rows of what stands in a text from place i on
abbrev pub stretch_rows : List ℕ → ℕ → List AsmRow
stretch_rows s i = readable (pieces_after s i)

-- main's rows, what stands before them, what stands after them
abbrev pub layout_rows : List ℕ → Layout → List AsmRow
layout_rows s l = stretch_rows (take l.end s) l.start ++ stretch_rows (take l.start s) 0 ++ stretch_rows s l.end

-- the rows of the sorted source from place v on, where main's scope runs from start to end
unfoldable pub sorted_from : List ℕ → ℕ → ℕ → ℕ → List AsmRow
sorted_from s start end v =
    cond (ltb v (end - start)) (stretch_rows (take end s) (start + v) ++ stretch_rows (take start s) 0 ++ stretch_rows s end)
    (cond (ltb v end) (stretch_rows (take start s) (v - (end - start)) ++ stretch_rows s end) (stretch_rows s v))

-- the sorted instruction rows; none where start and end are no stretch of the source
unfoldable pub sorted_instructions : List ℕ → ℕ → ℕ → List OlaAsmInstruction
sorted_instructions s start end = cond (leb start end && leb end (length s)) (instructions (sorted_from s start end 0)) []
