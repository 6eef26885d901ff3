-- The label table entry by entry: the next label row of a walk over the sorted rows.
use Rattle.std.specs.Prelude.{ℕ, zero, suc, ◌*◌, ◌<◌, ◌≤◌, List, false, cond, ltb, length, set, Option, Some, None}
use Rattle.asm.specs.declared.LineRead.{LineRead}
use Rattle.asm.specs.declared.LineRead.TheVariants.{Blank, Row, Unreadable}
use Rattle.relocate.specs.Layout.{sorted_row_at}
use Rattle.relocate.specs.declared.LabelEntry.{LabelEntry}
use Rattle.relocate.specs.declared.Layout.{Layout}
use Rattle.relocate_rows.specs.declared.Progress.{Progress}
use Rattle.relocate_rows.specs.Entries.{label_entry, entry_of_row, after}
use Rattle.relocate_entries.specs.declared.Walk.{Walk}
use Rattle.relocate_entries.specs.declared.LabelStep.{LabelStep}

-- the place is one of the source, main's scope is a stretch of it, and no count is larger than what stands before the place allows
pub record WalkFits (s : List ℕ) (l : Layout) (w : Walk) : Type 0 where
  pub short : length s ≤ 65536
  pub ordered : l.start ≤ l.end
  pub ended : l.end ≤ length s
  pub within : w.at ≤ length s
  pub seen : w.progress.seen ≤ w.at
  pub address : w.progress.address ≤ 3 * w.at

-- the entry that a line has, and how far the walk has come after it
abbrev pub entry_in : ℕ → Progress → LineRead → Option LabelEntry
entry_in t p Blank = None
entry_in t p (Row r) = entry_of_row t p r
entry_in t p Unreadable = None

abbrev pub after_line : Progress → LineRead → Progress
after_line p Blank = p
after_line p (Row r) = after p r
after_line p Unreadable = p

abbrev pub step_at : LabelEntry → Progress → ℕ → LabelStep
step_at e p at = record { entry = e; walk = record { progress = p; at = at } }

-- an entry that was found, or what comes after the line
abbrev pub or_later : Option LabelEntry → Progress → ℕ → LabelStep → LabelStep
or_later (Some e) p at later = step_at e p at
or_later None p at later = later

-- the next label row among the next n lines; an entry of nothing where there is none
unfoldable pub label_step_in : ℕ → List ℕ → Layout → Progress → ℕ → LabelStep
label_step_in zero s l p at = step_at (label_entry 0 false 0 0 0) p at
label_step_in (suc n) s l p at =
    let line = sorted_row_at s l.start l.end at in
    let done = after_line p line.read in
    let later = label_step_in n s l done line.next in
    cond (ltb at (length s)) (or_later (entry_in l.instructions p line.read) done line.next later) (step_at (label_entry 0 false 0 0 0) p at)

-- the next label row: a source has no more lines than bytes
abbrev pub label_step : List ℕ → Layout → Walk → LabelStep
label_step s l w = label_step_in (length s) s l w.progress w.at

-- how far the walk has come after n label rows
unfoldable pub walk_at : List ℕ → Layout → ℕ → Walk
walk_at s l zero = record { progress = record { seen = 0; address = 0; host = 0 }; at = 0 }
walk_at s l (suc n) = (label_step s l (walk_at s l n)).walk

-- the walk fits before each of the first n label rows
abbrev pub Fillable : List ℕ → Layout → ℕ → Type 0
Fillable s l n = (i : ℕ) → i < n → WalkFits s l (walk_at s l i)

-- a table with its first n entries filled
unfoldable pub entries_filled : List ℕ → Layout → List LabelEntry → ℕ → List LabelEntry
entries_filled s l table zero = table
entries_filled s l table (suc n) = set (entries_filled s l table n) n (label_step s l (walk_at s l n)).entry
