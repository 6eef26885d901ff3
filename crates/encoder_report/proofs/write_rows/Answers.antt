-- `write_rows` meets its contract.
use Rattle.encoder_report.proofs.Laws.{rows_laws}
use Rattle.encoder_report.proofs.write_rows.Goals as goal

pub write_fields-at-requires : goal.write_fields-at-requires
write_fields-at-requires c = search rows_laws

pub loop-i-preserved : goal.loop-i-preserved
loop-i-preserved c = (search rows_laws, search rows_laws)

pub returns : goal.returns
returns c = search rows_laws
