-- The entries that a label table's columns hold.
use Rattle.std.specs.Prelude.{ℕ, List, length}
use Rattle.relocate.specs.Columns.{entries_of}
use Rattle.relocate.specs.declared.LabelEntry.{LabelEntry}
use Rattle.relocate_names.specs.declared.Columns.{Columns}

abbrev pub entries_in : Columns → List LabelEntry
entries_in t = entries_of t.kinds.now t.mapped.now t.starts.now t.lengths.now t.addresses.now

-- and how many
abbrev pub entry_count : Columns → ℕ
entry_count t = length (entries_in t)
