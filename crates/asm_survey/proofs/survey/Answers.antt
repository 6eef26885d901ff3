-- `survey` meets its contract: after each line the sums so far and the survey of what is left make the survey of the whole.
use Rattle.asm_survey.proofs.WalkLaws.{walk_laws}
use Rattle.asm_survey.proofs.survey.Goals as goal

pub loop-at-preserved : goal.loop-at-preserved
loop-at-preserved c = (search walk_laws, search walk_laws, search walk_laws)
