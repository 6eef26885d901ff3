-- `push` meets its contract.
use Rattle.program_listing.proofs.Places.{put_laws}
use Rattle.program_listing.proofs.row.Row.push.Goals as goal

pub returns-then-self-lt82 : goal.returns-then-self-lt82
returns-then-self-lt82 c = search put_laws

pub returns-else-self-lt82 : goal.returns-else-self-lt82
returns-else-self-lt82 c = search put_laws
