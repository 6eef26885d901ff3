-- The table that the program lends, before assembling, and the entry that it looks at.
use Rattle.std.specs.Prelude.{false, List, get_or, replicate}
use Rattle.relocate.specs.declared.LabelEntry.{LabelEntry}

abbrev pub blank : LabelEntry
blank = record { kind = 0; mapped = false; start = 0; length = 0; address = record { 0 = 0 } }

abbrev pub blanks : List LabelEntry
blanks = replicate 4 blank

abbrev pub third : List LabelEntry → LabelEntry
third table = get_or table 2 blank
