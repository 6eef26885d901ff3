-- `relocate_kept::kept_many` meets its contract.
use Prim.Native.Nat.{◌≤◌}
use lib.ListN.{length}
use Rattle.relocate_kept.proofs.KeptLaws.{Walked}
use Rattle.relocate_kept.proofs.kept_many.Given as goal

abbrev pub invariant-loop-host : goal.invariant-loop-host
invariant-loop-host l = record { walked : Walked l.hosts (length l.yielded) l.marks l.count; few : l.count ≤ length l.yielded }
