-- `read_digits` answers the numeral: what is left of the text, after the value so far, says what the whole text says.
use mathlib.Core.Path.{◌≡◌, ◌∙◌}
use Rattle.std.specs.Prelude.{None}
use native.Mathlib.Omega.{arith}
use Rattle.std.proofs.Common.{rules}
use Rattle.text_read.proofs.Laws.{read_other, read_over}
use Rattle.text_read.proofs.read_digits.Goals as goal

pub returns-then-base-digit : goal.returns-then-base-digit
returns-then-base-digit c = read_other _ _ _ c.loop-b.b-index c.loop-b.value _ c.loop-b-test.true c.digit_value-digit.ensures c.if-base-digit.true c.loop-b.invariant

pub returns-in_err-checked_mul : goal.returns-in_err-checked_mul
returns-in_err-checked_mul c =
    let n : c.from_residual.result ≡ None = search rules in
    n ∙ read_over _ _ _ c.loop-b.b-index c.loop-b.value _ (omega arith) c.loop-b-test.true c.digit_value-digit.ensures c.if-base-digit.false (omega (arith, c.in_err-checked_mul.ensures)) c.loop-b.invariant

pub returns-in_err-value : goal.returns-in_err-value
returns-in_err-value c =
    let n : c.from_residual-in_err-value.result ≡ None = search rules in
    n ∙ read_over _ _ _ c.loop-b.b-index c.loop-b.value _ (omega arith) c.loop-b-test.true c.digit_value-digit.ensures c.if-base-digit.false (omega arith) c.loop-b.invariant
