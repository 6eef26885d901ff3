-- `relocate_kept::kept_few` meets its contract.
use Prim.Native.Nat.{◌+◌, ◌≤◌}
use mathlib.Core.Path.{◌≡◌}
use lib.ListN.{length, drop}
use Rattle.relocate.specs.Prophets.{kept_from, kept_count}
use Rattle.relocate_kept.proofs.kept_few.Given as goal

abbrev pub invariant-loop-i : goal.invariant-loop-i
invariant-loop-i l = (kept_count l.hosts ≡ l.count + length (kept_from l.i (drop l.i l.hosts))) × (l.count ≤ l.i)
