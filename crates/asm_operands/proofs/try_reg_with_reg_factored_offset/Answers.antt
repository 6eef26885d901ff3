use mathlib.Core.Path.{ap, ◌∙◌}
use Rattle.std.specs.Prelude.{Ok}
use Rattle.asm_operands.proofs.Laws.{factored_is}
use Rattle.asm_operands.proofs.try_reg_with_reg_factored_offset.Goals as goal

pub returns : goal.returns
returns c =
    factored_is _ _ c.anchor.ensures _ c.in-Some.is _ c.second.ensures _ c.in-Some-second.is _ c.byte_is.ensures c.if-not-byte_is.false _ c.source_number.ensures _ (c.in_ok-factor.was ∙ ap Ok c.in-Some-2.is)
