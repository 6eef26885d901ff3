-- `write_rows` meets its contract.
use Rattle.source_write.proofs.Laws.{rows_laws}
use Rattle.source_write.proofs.write_rows.Goals as goal

pub write_row-end-requires : goal.write_row-end-requires
write_row-end-requires c = search rows_laws

pub loop-read-preserved : goal.loop-read-preserved
loop-read-preserved c = record { kept = search rows_laws; long = search rows_laws; written = search rows_laws }

pub returns : goal.returns
returns c = (search rows_laws, search rows_laws)
