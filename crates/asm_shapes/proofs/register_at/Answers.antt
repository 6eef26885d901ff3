use Rattle.asm_shapes.proofs.Laws.{register_there}
use Rattle.asm_shapes.proofs.register_at.Goals as goal

pub returns : goal.returns
returns c = register_there _ _ _ c.in_ok-get.ensures.lookup.0.2 c.in_ok-get-2.ensures.lookup.0.1 _ c.in_ok-get-2.ensures.lookup.0.2 _ c.register_from_str.ensures
