-- `push_memory` meets its contract.
use Rattle.program_listing.proofs.Places.{with_both}
use Rattle.program_listing.proofs.row.push_memory.Goals as goal

pub returns : goal.returns
returns g c = simp with_both (cc)
