-- `lay_out` meets its contract: a survey's refusal is passed on.
use Rattle.std.proofs.Common.{rules}
use Rattle.relocate_measure.proofs.Laws.{survey_refused}
use Rattle.relocate_measure.proofs.lay_out.Goals as goal

pub returns-in_err-tally : goal.returns-in_err-tally
returns-in_err-tally c =
    let law = survey_refused _ _ c.if-source-gt-MOST_BYTES.false c.scan-n.ensures c.if-n-source.false _ c.survey.ensures in
    search rules
