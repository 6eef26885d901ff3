-- `fits` meets its contract.
use Rattle.program_bytecode.proofs.Laws.{fits_laws}
use Rattle.program_bytecode.proofs.fits.Goals as goal

pub returns-then-room-at : goal.returns-then-room-at
returns-then-room-at c = search fits_laws

pub loop-i-preserved : goal.loop-i-preserved
loop-i-preserved c = (search fits_laws, search fits_laws)

pub returns : goal.returns
returns c = search fits_laws
