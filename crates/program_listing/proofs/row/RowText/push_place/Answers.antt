-- `push_place` meets its contract.
use Rattle.program_listing.proofs.Places.{alone_laws}
use Rattle.program_listing.proofs.row.RowText.push_place.Goals as goal

pub returns-then-place-le23 : goal.returns-then-place-le23
returns-then-place-le23 g c = search alone_laws

pub returns-else-place-le23 : goal.returns-else-place-le23
returns-else-place-le23 g c = search alone_laws
