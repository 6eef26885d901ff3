-- `relocate_prophets::put_hosts` meets its contract.
use Rattle.relocate_prophets.proofs.HostLaws.{put_laws}
use Rattle.relocate_prophets.proofs.put_hosts.Goals as goal

pub bounds-hosts-written : goal.bounds-hosts-written
bounds-hosts-written c = search put_laws

pub loop-at-preserved : goal.loop-at-preserved
loop-at-preserved c = (search put_laws, search put_laws, search put_laws, search put_laws)
