-- `relocate_names::held_address` meets its contract: the row that is met holds the name.
use Rattle.relocate_names.proofs.NameLaws.{held_laws}
use Rattle.relocate_names.proofs.held_address.Goals as goal

pub returns-then-same_name : goal.returns-then-same_name
returns-then-same_name c = search held_laws
