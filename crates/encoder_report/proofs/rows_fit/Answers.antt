-- `rows_fit` meets its contract.
use Rattle.encoder_report.proofs.Laws.{fit_laws}
use Rattle.encoder_report.proofs.rows_fit.Goals as goal

pub returns-then-room-at : goal.returns-then-room-at
returns-then-room-at c = search fit_laws

pub loop-i-preserved : goal.loop-i-preserved
loop-i-preserved c = (search fit_laws, search fit_laws)

pub returns : goal.returns
returns c = search fit_laws
