-- `ChainedTable::chained_address` meets its contract.
use native.Mathlib.Omega.{arith}
use Rattle.relocate_chains.proofs.SearchLaws.{chained_laws}
use Rattle.relocate_chains.proofs.ChainedTable.chained_address.Goals.{else-mapped-i-via-then-mapped-i+then-kinds-i+else-same_name, else-mapped-i-via-then-mapped-i+else-kinds-i, else-mapped-i-via-else-mapped-i}
use Rattle.relocate_chains.proofs.ChainedTable.chained_address.Goals as goal

pub loop-at-init : goal.loop-at-init
loop-at-init c = record { within = search chained_laws; found = search chained_laws }

pub returns-then-i-at : goal.returns-then-i-at
returns-then-i-at c = let i = c.loop-at.invariant.found in search chained_laws

pub returns-then-same_name : goal.returns-then-same_name
returns-then-same_name c = search chained_laws

pub loop-at-preserved : goal.loop-at-preserved
loop-at-preserved c = record {
  within = omega (arith, c.loop-at.invariant.within, c.if-i-at.false);
  found = elim c.else-mapped-i.branch [
    | else-mapped-i-via-then-mapped-i+then-kinds-i+else-same_name w ↦ search chained_laws
    | else-mapped-i-via-then-mapped-i+else-kinds-i w ↦ search chained_laws
    | else-mapped-i-via-else-mapped-i w ↦ search chained_laws
  ];
}

pub returns : goal.returns
returns c = search chained_laws
