-- `write_fields` meets its contract.
use Rattle.encoder_report.proofs.Laws.{fields_laws}
use Rattle.encoder_report.proofs.write_fields.Goals as goal

pub returns : goal.returns
returns c = search fields_laws
