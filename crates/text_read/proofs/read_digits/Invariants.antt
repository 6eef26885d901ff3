-- `read_digits` answers the numeral: what is left of the text, after the value so far, says what the whole text says.
use Prim.Native.Nat.{◌+◌}
use mathlib.Core.Path.{◌≡◌}
use lib.ListN.{drop}
use Rattle.text_read.specs.Numerals.{numeral}
use Rattle.text_read.proofs.Laws.{numeral_from}
use Rattle.text_read.proofs.read_digits.Given as goal

abbrev pub invariant-loop-b : goal.invariant-loop-b
invariant-loop-b l = numeral l.base (l.most + 1) l.digits ≡ numeral_from l.base (l.most + 1) l.value (drop l.b-index l.digits)
