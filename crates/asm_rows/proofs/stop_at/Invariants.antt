use Rattle.std.proofs.Common.{◌≡◌, ◌≤◌, max, length}
use Rattle.asm_rows.specs.Found.{stop_at}
use Rattle.asm_rows.proofs.stop_at.Given as goal

abbrev pub invariant-loop-i : goal.invariant-loop-i
invariant-loop-i l = (stop_at l.source l.at l.mark ≡ stop_at l.source l.i l.mark) × (l.i ≤ max l.at (length l.source))
