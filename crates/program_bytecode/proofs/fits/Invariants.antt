-- `fits` meets its contract.
use Prim.Native.Nat.{◌+◌, ◌≤◌}
use mathlib.Core.Path.{◌≡◌}
use mathlib.Core.Bool.{true, false}
use lib.Dec.{eqb}
use lib.ListN.{length, drop}
use Rattle.program_bytecode.specs.Left.{left_text}
use Rattle.program_bytecode.proofs.fits.Given as goal

abbrev pub invariant-loop-i : goal.invariant-loop-i
invariant-loop-i l = (l.at ≤ l.room) × (length (left_text true false l.words) ≡ l.at + length (left_text (eqb l.i 0) l.number (drop l.i l.words)))
