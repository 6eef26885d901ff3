-- `write_field` meets its contract.
use Rattle.program_bytecode.proofs.Laws.{put_laws}
use Rattle.encoder_report.proofs.write_field.Goals as goal

pub overflow_add-result : goal.overflow_add-result
overflow_add-result c = search put_laws

pub returns : goal.returns
returns c = search put_laws
