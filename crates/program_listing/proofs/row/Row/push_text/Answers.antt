-- `push_text` meets its contract.
use Rattle.program_listing.proofs.Places.{put_laws}
use Rattle.program_listing.proofs.row.Row.push_text.Goals as goal

pub overflow_add-self : goal.overflow_add-self
overflow_add-self c = search put_laws

pub invariant_of-self : goal.invariant_of-self
invariant_of-self c = search put_laws

pub returns : goal.returns
returns c = search put_laws
