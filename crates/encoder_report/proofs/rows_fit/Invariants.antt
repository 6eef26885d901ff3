-- `rows_fit` meets its contract.
use Prim.Native.Nat.{◌+◌, ◌≤◌}
use mathlib.Core.Path.{◌≡◌}
use mathlib.Core.Bool.{false}
use lib.ListN.{length, drop}
use Rattle.encoder_report.specs.Left.{rows_left}
use Rattle.encoder_report.proofs.rows_fit.Given as goal

abbrev pub invariant-loop-i : goal.invariant-loop-i
invariant-loop-i l = (l.at ≤ l.room) × (l.start + length (rows_left 0 false l.words) ≡ l.at + length (rows_left l.i l.number (drop l.i l.words)))
