-- `write_line` meets its contract.
use Rattle.program_bytecode.proofs.Laws.{put_laws}
use Rattle.program_bytecode.proofs.write_line.Goals as goal

pub overflow_add-result : goal.overflow_add-result
overflow_add-result c = search put_laws

pub returns : goal.returns
returns c = search put_laws
