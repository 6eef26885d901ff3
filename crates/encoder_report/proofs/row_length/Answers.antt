-- `row_length` meets its contract.
use Rattle.encoder_report.proofs.Laws.{row_laws}
use Rattle.encoder_report.proofs.row_length.Goals as goal

pub write_fields-requires : goal.write_fields-requires
write_fields-requires c = search row_laws
