-- `write_fitting` meets its contract.
use Rattle.source_write.proofs.Laws.{fitting_laws}
use Rattle.source_write.proofs.write_fitting.Goals as goal

pub returns-then-not-source_fits : goal.returns-then-not-source_fits
returns-then-not-source_fits c = search fitting_laws

pub returns : goal.returns
returns c = search fitting_laws
