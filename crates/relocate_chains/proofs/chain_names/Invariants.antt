-- `relocate_chains::chain_names` meets its contract.
use mathlib.Core.Path.{◌≡◌}
use lib.ListN.{drop}
use Rattle.relocate_names.specs.Entries.{entries_in}
use Rattle.relocate_chains.specs.Chains.{chained}
use Rattle.relocate_chains.proofs.chain_names.Given as goal

abbrev pub invariant-loop-i : goal.invariant-loop-i
invariant-loop-i l = chained l.source 0 (entries_in l.columns) l.initial.chains ≡ chained l.source l.i (drop l.i (entries_in l.columns)) l.chains
