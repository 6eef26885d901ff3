-- `relocate_prophets::write_hosts` meets its contract.
use Rattle.relocate_prophets.proofs.HostLaws.{write_laws}
use Rattle.relocate_prophets.proofs.write_hosts.Goals as goal

pub returns-in-Some : goal.returns-in-Some
returns-in-Some c = search write_laws
