-- `write_source` meets its contract.
use Rattle.source_write.proofs.Laws.{source_laws}
use Rattle.source_write.proofs.write_source.Goals as goal

pub returns-in-Err : goal.returns-in-Err
returns-in-Err c = search source_laws

pub returns-in-Some : goal.returns-in-Some
returns-in-Some c = search source_laws

pub returns-in-None : goal.returns-in-None
returns-in-None c = search source_laws
