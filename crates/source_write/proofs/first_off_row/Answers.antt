-- `first_off_row` meets its contract.
use Rattle.source_write.proofs.Laws.{off_laws}
use Rattle.source_write.proofs.first_off_row.Goals as goal

pub overflow_add-index : goal.overflow_add-index
overflow_add-index c = search off_laws

pub loop-read-preserved : goal.loop-read-preserved
loop-read-preserved c = record { passed = search off_laws; counted = search off_laws }

pub returns : goal.returns
returns c = search off_laws
