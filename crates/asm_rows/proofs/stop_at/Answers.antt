-- `stop_at` meets its contract.
use Rattle.std.proofs.Common.{arith, ◌≡◌, ◌∙◌}
use Rattle.asm_rows.proofs.EndLaws.{stop_end}
use Rattle.asm_rows.proofs.stop_at.Goals as goal

pub returns : goal.returns
returns c = let e : c.max.result ≡ c.loop-i.i = omega arith in e ∙ stop_end _ _ _ _ c.loop-i.invariant.0 c.loop-i-test.false
