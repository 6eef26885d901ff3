-- put_digits: the digits of what is left of the number, and behind them those written, are all the digits.
use mathlib.Core.Path.{◌≡◌}
use mathlib.Core.List.{◌++◌}
use lib.ListN.{length, drop}
use Rattle.text_write.specs.Digits.{digits_of}
use Rattle.text_digits.proofs.put_digits.Given as goal

abbrev pub invariant-loop-i : goal.invariant-loop-i
invariant-loop-i l = digits_of l.base (length l.initial.bytes) l.number ≡ digits_of l.base l.i l.rest ++ drop l.i l.bytes
