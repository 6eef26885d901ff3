-- `relocate_prophets::put_hosts` meets its contract.
use Prim.Native.Nat.{◌+◌, ◌-◌, ◌≤◌}
use mathlib.Core.Path.{◌≡◌}
use lib.ListN.{length}
use lib.Seq.{sets}
use Rattle.relocate_chains.specs.ByChains.{by_chains}
use Rattle.relocate_prophets.specs.Walk.{lines_from, hosts_in}
use Rattle.relocate_prophets.proofs.put_hosts.Given as goal

abbrev pub invariant-loop-at : goal.invariant-loop-at
invariant-loop-at l = (sets l.initial.hosts 0 (hosts_in (by_chains l.table) (lines_from l.prophets l.start)) ≡ sets l.hosts l.written (hosts_in (by_chains l.table) (lines_from l.prophets l.at))) × (l.written ≤ l.at) × (length l.hosts ≡ length l.initial.hosts) × (l.written + length (lines_from l.prophets l.at) ≤ length l.hosts)

abbrev pub decreases-loop-at : goal.decreases-loop-at
decreases-loop-at l = length l.prophets - l.at
