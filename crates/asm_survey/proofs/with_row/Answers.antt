use Rattle.text.specs.Lists.{total}
use Rattle.asm.specs.Rows.{instructions}
use Rattle.asm.specs.Survey.{count_rows, first_call, main_start, main_end}
use Rattle.asm_survey.proofs.Laws.{row_laws}
use Rattle.asm_survey.proofs.with_row.Goals as goal

pub returns-in-Instruction : goal.returns-in-Instruction
returns-in-Instruction c = search row_laws

pub returns-in-LabelCall : goal.returns-in-LabelCall
returns-in-LabelCall c = search row_laws

-- a label of the two other kinds
pub returns-in-LabelJmp : goal.returns-in-LabelJmp
unfolding count_rows instructions total first_call main_start main_end
returns-in-LabelJmp c = search row_laws
