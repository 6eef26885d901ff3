-- n entries stand in the columns, and the walk has come as far as they take it.
use Rattle.std.proofs.Common.{length, ◌-◌}
use Rattle.relocate_table.proofs.FillLaws.{Filling}
use Rattle.relocate_table.proofs.ColumnsMut.fill.Given as goal

abbrev pub invariant-loop-at : goal.invariant-loop-at
invariant-loop-at l = Filling l.source l.room l.layout l.initial.self l.progress l.n l.at l.self

abbrev pub decreases-loop-at : goal.decreases-loop-at
decreases-loop-at l = length l.source - l.at
