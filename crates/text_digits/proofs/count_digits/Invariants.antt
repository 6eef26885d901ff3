-- count_digits: the digits counted and those still to count are one more than all, since both count the first of the rest.
use Prim.Native.Nat.{◌+◌, ◌-◌}
use mathlib.Core.Path.{◌≡◌}
use Rattle.text_write.specs.Digits.{digit_count}
use Rattle.text_digits.proofs.count_digits.Given as goal

abbrev pub invariant-loop-count : goal.invariant-loop-count
invariant-loop-count l = 1 + digit_count l.base 63 l.number ≡ l.count + digit_count l.base (64 - l.count) l.rest
