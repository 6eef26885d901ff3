-- `write_refusal` meets its contract.
use Rattle.encoder_report.proofs.Laws.{refusal_laws}
use Rattle.encoder_report.proofs.write_refusal.Goals as goal

pub returns : goal.returns
returns c = search refusal_laws
