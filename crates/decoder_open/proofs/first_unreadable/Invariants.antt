-- `decoder_open::first_unreadable` meets its contract.
use Prim.Native.Nat.{◌-◌, ◌≤◌}
use mathlib.Core.Path.{◌≡◌}
use lib.ListN.{length, drop}
use Rattle.text.specs.Lines.{lines}
use Rattle.decoder.specs.Lines.{line_groups, first_unreadable}
use Rattle.decoder_open.proofs.first_unreadable.Given as goal

abbrev pub invariant-loop-next : goal.invariant-loop-next
invariant-loop-next l = record {
  left : first_unreadable l.first (line_groups (lines (drop l.offset l.text))) ≡ first_unreadable l.line (line_groups (lines (drop l.at l.text)));
  within : l.line ≤ l.at;
}

abbrev pub decreases-loop-next : goal.decreases-loop-next
decreases-loop-next l = length l.text - l.at
