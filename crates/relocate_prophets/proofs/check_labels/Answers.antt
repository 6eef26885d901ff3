-- `relocate_prophets::check_labels` meets its contract.
use Rattle.relocate_prophets.proofs.HostLaws.{count_laws}
use Rattle.relocate_prophets.proofs.check_labels.Goals as goal

pub loop-at-preserved : goal.loop-at-preserved
loop-at-preserved c = (search count_laws, search count_laws)
