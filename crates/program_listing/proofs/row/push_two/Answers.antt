-- `push_two` meets its contract.
use borrow.Author.Rules.{rules}
use Rattle.program_listing.proofs.Places.{both_behind}
use Rattle.program_listing.proofs.row.push_two.Goals as goal

pub returns : goal.returns
returns g c = search (rules, both_behind)
