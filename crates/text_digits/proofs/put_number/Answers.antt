-- put_number: the refusals, then the prefix and the digits.
use native.Mathlib.Omega.{arith}
use mathlib.Core.Path.{refl}
use Rattle.text_digits.proofs.Steps.{number_put, number_short}
use Rattle.text_digits.proofs.put_number.Goals as goal

pub returns-in_err-first : goal.returns-in_err-first
returns-in_err-first c = number_short _ _ _ _ _ _ c.from_residual.result c.from_residual.ensures (omega (arith, c.in_err-first.ensures))

pub returns-in_err-end : goal.returns-in_err-end
returns-in_err-end c = number_short _ _ _ _ _ _ c.from_residual-in_err-end.result c.from_residual-in_err-end.ensures (omega (arith, c.in_err-end.ensures))

pub returns-then-text-end : goal.returns-then-text-end
returns-then-text-end c = number_short _ _ _ _ _ _ _ refl (omega arith)

pub returns : goal.returns
returns c = number_put c.args.text.now c.args.prefix.now c.args.at c.args.base c.args.count c.args.number c.in_ok-first.first c.in_ok-end.end c.copy_from_slice.new.self c.put_digits.new.bytes (omega arith) (omega arith) c.if-text-end.false c.copy_from_slice.ensures.after c.put_digits.ensures
