-- `relocate_prophets::check_labels` meets its contract.
use Prim.Native.Nat.{◌-◌, ◌≤◌}
use mathlib.Core.Path.{◌≡◌}
use lib.ListN.{length}
use Rattle.relocate.specs.Columns.{held_hosts_from, host_count}
use Rattle.relocate_chains.specs.ByChains.{by_chains}
use Rattle.relocate_prophets.specs.Walk.{lines_from}
use Rattle.relocate_prophets.proofs.HostLaws.{counted}
use Rattle.relocate_prophets.proofs.check_labels.Given as goal

abbrev pub invariant-loop-at : goal.invariant-loop-at
invariant-loop-at l = (host_count (held_hosts_from (by_chains l.table) 0 (lines_from l.prophets l.start)) ≡ counted l.index (held_hosts_from (by_chains l.table) l.index (lines_from l.prophets l.at))) × (l.index ≤ l.at)

abbrev pub decreases-loop-at : goal.decreases-loop-at
decreases-loop-at l = length l.prophets - l.at
