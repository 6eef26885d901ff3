-- `relocate_names::held_address` meets its contract.
use mathlib.Core.Path.{◌≡◌}
use lib.ListN.{take}
use Rattle.relocate.specs.Columns.{entries_of, held_address}
use Rattle.relocate_names.proofs.held_address.Given as goal

abbrev pub invariant-loop-i : goal.invariant-loop-i
invariant-loop-i l =
    held_address l.source l.kind l.name (entries_of l.kinds l.mapped l.starts l.lengths l.addresses)
    ≡ held_address l.source l.kind l.name (take l.i (entries_of l.kinds l.mapped l.starts l.lengths l.addresses))
