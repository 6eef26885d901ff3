-- count_digits: the digits counted and those still to count are one more than all, since both count the first of the rest.
use native.Mathlib.Omega.{arith}
use Rattle.text_digits.proofs.Steps.{count_laws, more_end}
use Rattle.text_digits.proofs.count_digits.Goals as goal

pub returns-then-rest-base : goal.returns-then-rest-base
returns-then-rest-base c = search count_laws

pub loop-count-preserved : goal.loop-count-preserved
loop-count-preserved c = search count_laws

pub returns : goal.returns
returns c = more_end _ _ _ _ c.loop-count-test.false (c.loop-count.auto.count-end (omega arith)) c.loop-count.invariant
