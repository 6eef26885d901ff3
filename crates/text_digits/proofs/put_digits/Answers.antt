-- put_digits: the digits of what is left of the number, and behind them those written, are all the digits.
use native.Mathlib.Omega.{arith}
use Rattle.text_digits.proofs.Steps.{digits_end}
use Rattle.text_digits.proofs.put_digits.Goals as goal

pub returns : goal.returns
returns c = digits_end _ _ _ _ _ (omega arith) c.loop-i.invariant
