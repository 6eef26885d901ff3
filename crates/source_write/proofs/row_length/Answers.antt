-- `row_length` meets its contract.
use Rattle.source_write.proofs.Laws.{length_laws}
use Rattle.source_write.proofs.row_length.Goals as goal

pub overflow_add-result : goal.overflow_add-result
overflow_add-result c = search length_laws

pub returns-in-Some : goal.returns-in-Some
returns-in-Some c = search length_laws

pub returns-in-None : goal.returns-in-None
returns-in-None c = absurd (search length_laws)
