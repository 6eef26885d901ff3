-- `push_spaced` meets its contract.
use Rattle.program_listing.proofs.row.push_spaced.Goals as goal

pub returns : goal.returns
returns g c = cc
