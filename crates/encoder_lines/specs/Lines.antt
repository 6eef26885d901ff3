-- The canonical instruction of a line of the sorted source, its names looked up in the label table.
use Rattle.std.specs.Prelude.{ℕ, List, Option, Some, None, Result, Ok, Err}
use Rattle.asm.specs.declared.AsmRow.{AsmRow}
use Rattle.asm.specs.declared.AsmRow.TheVariants.{Instruction, LabelCall, LabelJmp, LabelProphet}
use Rattle.asm.specs.declared.LineRead.{LineRead}
use Rattle.asm.specs.declared.LineRead.TheVariants.{Blank, Row, Unreadable}
use Rattle.relocate.specs.Layout.{sorted_row_at}
use Rattle.relocate.specs.Columns.{LookUp}
use Rattle.encoder_canonical.specs.Held.{held_canonical}
use Rattle.encoder_lines.specs.declared.CanonicalAt.{CanonicalAt}
use Rattle.program.specs.declared.BinaryInstruction.{BinaryInstruction}
use Rattle.encoder_canonical.specs.declared.CanonicalRefusal.{CanonicalRefusal}
use Rattle.encoder_canonical.specs.declared.CanonicalRefusal.TheVariants.{Unknown, Misused, Bracketed}

-- what an instruction row becomes, as the answer for its line
abbrev pub of_canonical : Result BinaryInstruction CanonicalRefusal → Result (Option BinaryInstruction) CanonicalRefusal
of_canonical (Ok b) = Ok (Some b)
of_canonical (Err Unknown) = Err Unknown
of_canonical (Err Misused) = Err Misused
of_canonical (Err Bracketed) = Err Bracketed

abbrev pub canonical_row : List ℕ → LookUp → AsmRow → Result (Option BinaryInstruction) CanonicalRefusal
canonical_row s look (Instruction i) = of_canonical (held_canonical s look i)
canonical_row s look (LabelCall start n) = Ok None
canonical_row s look (LabelJmp start n) = Ok None
canonical_row s look (LabelProphet start n) = Ok None

-- the canonical instruction of a line that is an instruction row
abbrev pub canonical_line : List ℕ → LookUp → LineRead → Result (Option BinaryInstruction) CanonicalRefusal
canonical_line s look Blank = Ok None
canonical_line s look (Row r) = canonical_row s look r
canonical_line s look Unreadable = Ok None

-- the line at place v of the sorted source, and the place of the line after it
abbrev pub canonical_at : List ℕ → LookUp → ℕ → ℕ → ℕ → CanonicalAt
canonical_at s look start end v = let r = sorted_row_at s start end v in record { found = canonical_line s look r.read; next = r.next }
