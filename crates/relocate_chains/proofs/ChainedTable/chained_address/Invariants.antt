-- `ChainedTable::chained_address` meets its contract.
use Prim.Native.Nat.{◌≤◌}
use mathlib.Core.Path.{◌≡◌}
use lib.ListN.{length}
use Rattle.relocate_names.specs.Entries.{entries_in}
use Rattle.relocate_chains.specs.Chains.{sought_from}
use Rattle.relocate_chains.specs.ByChains.{by_chains}
use Rattle.relocate_chains.proofs.ChainedTable.chained_address.Given as goal

abbrev pub invariant-loop-at : goal.invariant-loop-at
invariant-loop-at l = record {
  within : l.i ≤ length (entries_in l.self.columns);
  found : by_chains l.self l.kind l.name ≡ sought_from l.self.source.now (entries_in l.self.columns) l.self.chains.now l.kind l.name l.i l.at;
}

abbrev pub decreases-loop-at : goal.decreases-loop-at
decreases-loop-at l = l.i
