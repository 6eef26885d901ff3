-- `encoder_walks::resolve_within` meets its contract: after each line what is passed so far and what is left make what the whole passes.
use Prim.Native.Nat.{◌-◌, ◌≤◌}
use mathlib.Core.Path.{◌≡◌}
use lib.ListN.{length}
use Rattle.relocate.specs.Layout.{sorted_instructions}
use Rattle.relocate_chains.specs.ByChains.{by_chains}
use Rattle.encoder_canonical.specs.Held.{held_program}
use Rattle.encoder_walks.specs.Walks.{held_passed}
use Rattle.encoder_walks.proofs.LineLaws.{rows_from}
use Rattle.encoder_walks.proofs.WalkLaws.{passed}
use Rattle.encoder_walks.proofs.resolve_within.Given as goal

abbrev pub invariant-loop-at : goal.invariant-loop-at
invariant-loop-at l = (held_passed l.table.source.now (by_chains l.table) (sorted_instructions l.table.source.now l.start l.end) ≡ passed l.aside l.index (held_program l.table.source.now (by_chains l.table) l.index (rows_from l.table.source.now l.start l.end l.at))) × (l.index ≤ l.at)

abbrev pub decreases-loop-at : goal.decreases-loop-at
decreases-loop-at l = length l.table.source.now - l.at
