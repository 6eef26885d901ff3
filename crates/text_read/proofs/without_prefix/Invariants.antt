-- `without_prefix`: what is left of the text loses the same `0x` as the whole.
use mathlib.Core.Path.{◌≡◌}
use lib.ListN.{length}
use Rattle.text_read.specs.Numerals.{unprefixed}
use Rattle.text_read.proofs.without_prefix.Given as goal

abbrev pub invariant-loop-rest : goal.invariant-loop-rest
invariant-loop-rest l = unprefixed l.text ≡ unprefixed l.rest

abbrev pub decreases-loop-rest : goal.decreases-loop-rest
decreases-loop-rest l = length l.rest
