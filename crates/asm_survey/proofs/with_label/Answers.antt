use Rattle.asm_survey.proofs.Laws.{more_laws}
use Rattle.asm_survey.proofs.with_label.Goals as goal

pub returns : goal.returns
returns c = search more_laws
