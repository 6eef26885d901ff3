-- `survey` meets its contract: after each line the sums so far and the survey of what is left make the survey of the whole.
use Prim.Native.Nat.{◌-◌, ◌≤◌}
use mathlib.Core.Path.{◌≡◌}
use lib.ListN.{length}
use Rattle.text.specs.Answer.{ok}
use Rattle.asm.specs.Survey.{survey_of, survey_from, joined_surveys}
use Rattle.asm_survey.specs.Small.{Small}
use Rattle.asm_survey.proofs.survey.Given as goal

abbrev pub invariant-loop-at : goal.invariant-loop-at
invariant-loop-at l = (survey_of l.source ≡ joined_surveys (ok l.found) (survey_from l.source l.at)) × (l.at ≤ length l.source) × Small l.found l.at

abbrev pub decreases-loop-at : goal.decreases-loop-at
decreases-loop-at l = length l.source - l.at
