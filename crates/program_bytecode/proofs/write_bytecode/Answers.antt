-- `write_bytecode` meets its contract.
use Rattle.program_bytecode.proofs.Laws.{bytecode_laws}
use Rattle.program_bytecode.proofs.write_bytecode.Goals as goal

pub returns-then-not-fits : goal.returns-then-not-fits
returns-then-not-fits c = search bytecode_laws

pub returns : goal.returns
returns c = search bytecode_laws
