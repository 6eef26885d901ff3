use Prim.Native.Nat.{◌+◌, ◌≤◌}
use mathlib.Core.Path.{◌≡◌}
use lib.ListN.{length, drop}
use Rattle.text.specs.Scan.{scan}
use Rattle.text.specs.Lines.{not_feed}
use Rattle.text_lines.proofs.feed_at.Given as goal

abbrev pub invariant-loop-i : goal.invariant-loop-i
invariant-loop-i l = (l.i ≤ length l.text) × (scan not_feed l.text ≡ l.i + scan not_feed (drop l.i l.text))
