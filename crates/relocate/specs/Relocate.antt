-- "When an operation declines", refusals 1 to 9 in their order, and the number and detail of each.
use Rattle.std.specs.Prelude.{ℕ, suc, List, [], ◌∷◌, cond, eqb, ltb, length, Option, Some, None}
use Rattle.text.specs.Scan.{is_empty}
use Rattle.text.specs.Answer.{Answer, ok, ◌>>=◌, ◌>>◌, refuse_if, refuse_at}
use Rattle.asm.specs.Parts.{source_pieces}
use Rattle.asm.specs.Rows.{read_rows}
use Rattle.asm.specs.declared.AsmRow.{AsmRow}
use Rattle.relocate.specs.Scopes.{sorted_rows, main_count}
use Rattle.relocate.specs.Labels.{label_rows}
use Rattle.relocate.specs.Prophets.{listed_labels, hosts_from}
use Rattle.relocate.specs.declared.RelocateRefusal.{RelocateRefusal}
use Rattle.relocate.specs.declared.RelocateRefusal.TheVariants.{SourceTooLong, ByteAbove127, UnreadableRow, NoRow, NoMain, TwoMains, TableTooShort, ProphetListMalformed, ProphetUnknown}

-- 01's number of a refusal
abbrev pub relocate_number : RelocateRefusal → ℕ
relocate_number SourceTooLong = 1
relocate_number (ByteAbove127 offset) = 2
relocate_number (UnreadableRow rows) = 3
relocate_number NoRow = 4
relocate_number NoMain = 5
relocate_number TwoMains = 6
relocate_number TableTooShort = 7
relocate_number ProphetListMalformed = 8
relocate_number (ProphetUnknown index) = 9

-- and its detail
abbrev pub relocate_detail : RelocateRefusal → ℕ
relocate_detail SourceTooLong = 0
relocate_detail (ByteAbove127 offset) = offset
relocate_detail (UnreadableRow rows) = rows.0
relocate_detail NoRow = 0
relocate_detail NoMain = 0
relocate_detail TwoMains = 0
relocate_detail TableTooShort = 0
relocate_detail ProphetListMalformed = 0
relocate_detail (ProphetUnknown index) = index

-- 2: "a byte of the source above 127 (the offset of the first, from 0)"
unfoldable pub first_above127 : ℕ → List ℕ → Option ℕ
first_above127 k [] = None
first_above127 k (b ∷ bs) = let later = first_above127 (suc k) bs in cond (ltb 127 b) (Some k) later

-- refusals 1 to 3: the rows of a source, as written
unfoldable pub rows_read : List ℕ → Answer (List AsmRow)
rows_read s = do
  refuse_if (ltb 65536 (length s)) 1
  refuse_at (first_above127 0 s) 2
  read_rows 0 (source_pieces s)

-- refusals 1 to 6: the rows of a source in sorted order
unfoldable pub sorted_of : List ℕ → Answer (List AsmRow)
sorted_of s = do
  rows ← rows_read s
  refuse_if (is_empty rows) 4
  refuse_if (eqb (main_count s rows) 0) 5
  refuse_if (ltb 1 (main_count s rows)) 6
  ok (sorted_rows s rows)

-- refusals 1 to 7, which "leave the table untouched": 7 "label table shorter than the label rows"
unfoldable pub tabled : List ℕ → ℕ → Answer (List AsmRow)
tabled s room = do
  rows ← sorted_of s
  refuse_if (ltb room (length (label_rows 0 rows))) 7
  ok rows

-- refusals 8 and 9: the host of each listed prophet
unfoldable pub hosts_of : List ℕ → List AsmRow → List ℕ → Answer (List ℕ)
hosts_of s rows list = listed_labels list >>= λ labels. hosts_from s rows 0 labels
