-- The first i entries are filled, and the walk has come as far as they take it.
use Rattle.std.specs.Prelude.{◌≡◌, ◌≤◌, length}
use Rattle.relocate_entries.specs.Steps.{walk_at, entries_filled}
use Rattle.relocate_entries.proofs.fill_entries.Given as goal

abbrev pub invariant-loop-i : goal.invariant-loop-i
invariant-loop-i l = (l.i ≤ l.n) × (l.walk ≡ walk_at l.source l.layout l.i) × (l.table ≡ entries_filled l.source l.layout l.initial.table l.i) × (length l.table ≡ length l.initial.table)
