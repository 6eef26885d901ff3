-- `write_row` meets its contract.
use Rattle.source_write.proofs.Laws.{row_laws}
use Rattle.source_write.proofs.write_row.Goals as goal

pub overflow_add-result-in-Some : goal.overflow_add-result-in-Some
overflow_add-result-in-Some c = search row_laws

pub returns-in-Some : goal.returns-in-Some
returns-in-Some c = search row_laws

pub returns-in-None : goal.returns-in-None
returns-in-None c = absurd (search row_laws)
