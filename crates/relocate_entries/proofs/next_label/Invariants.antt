use Prim.Native.Nat.{◌-◌}
use lib.ListN.{length}
use Rattle.relocate_entries.proofs.NextLaws.{Stepping}
use Rattle.relocate_entries.proofs.next_label.Given as goal

abbrev pub invariant-loop-at : goal.invariant-loop-at
invariant-loop-at l = Stepping l.source l.layout l.initial.progress l.initial.at l.progress l.at

abbrev pub decreases-loop-at : goal.decreases-loop-at
decreases-loop-at l = length l.source - l.at
