-- `relocate_chains::bucket_of` meets its contract.
use Prim.Native.Nat.{◌<◌}
use mathlib.Core.Path.{◌≡◌}
use lib.ListN.{drop}
use Rattle.relocate_chains.specs.Chains.{bucket_from, bucket_of}
use Rattle.relocate_chains.proofs.bucket_of.Given as goal

abbrev pub invariant-loop-b : goal.invariant-loop-b
invariant-loop-b l = (bucket_of l.name ≡ bucket_from l.bucket (drop l.b-index l.name)) × (l.bucket < 1024)
