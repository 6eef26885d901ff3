-- `is_main` meets its contract.
use Rattle.asm_survey.proofs.Laws.{main_same}
use Rattle.asm_survey.proofs.is_main.Goals as goal

pub returns-then-length-eq4 : goal.returns-then-length-eq4
returns-then-length-eq4 c = main_same _ _ _ c.if-length-eq4.true _ c.in-Some.ensures.lookup.0.2 _ c.starts_with.ensures.value
