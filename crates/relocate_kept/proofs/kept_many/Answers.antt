-- `relocate_kept::kept_many` meets its contract.
use native.Mathlib.Omega.{arith}
use Rattle.std.proofs.lemmas.List.{length_push}
use Rattle.std.proofs.lemmas.Iterator.Adapters.{YieldsList-from_rev_slice}
use Rattle.std.proofs.lemmas.Iterator.Consumers.{YieldsList-at, YieldsList-turn, YieldsList-end}
use Rattle.relocate_kept.proofs.KeptLaws.{walk_start, walk_fits, walk_later, walk_here, walk_end}
use Rattle.relocate_kept.proofs.kept_many.Goals as goal

pub loop-host-init : goal.loop-host-init
loop-host-init c = record { walked = walk_start c.args.hosts.now; few = omega arith }

pub overflow_add-marks : goal.overflow_add-marks
overflow_add-marks c =
    let turn = YieldsList-turn (YieldsList-at c.into_iter-host-iterator.ensures.into_iter_gives (YieldsList-from_rev_slice c.args.hosts.now cc)) c.loop-host.yielded _ c.loop-host.yielded_by _ _ c.in-Some.field-0 c.in-Some.is c.next.ensures.steps in
    walk_fits c.args.hosts.now _ c.requires _ turn c.loop-host.marks _ c.loop-host.invariant.walked (omega arith)

pub loop-host-preserved-then-word-shift-eq0 : goal.loop-host-preserved-then-word-shift-eq0
loop-host-preserved-then-word-shift-eq0 c =
    let turn = YieldsList-turn (YieldsList-at c.into_iter-host-iterator.ensures.into_iter_gives (YieldsList-from_rev_slice c.args.hosts.now cc)) c.loop-host.yielded _ c.loop-host.yielded_by _ _ c.in-Some.field-0 c.in-Some.is c.next.ensures.steps in
    let n = length_push c.loop-host.yielded c.in-Some.field-0 in
    record { walked = rw n (walk_here c.args.hosts.now _ c.requires _ turn c.loop-host.marks _ c.loop-host.invariant.walked (omega arith)); few = let f = c.loop-host.invariant.few in omega arith }

pub loop-host-preserved : goal.loop-host-preserved
loop-host-preserved c =
    let turn = YieldsList-turn (YieldsList-at c.into_iter-host-iterator.ensures.into_iter_gives (YieldsList-from_rev_slice c.args.hosts.now cc)) c.loop-host.yielded _ c.loop-host.yielded_by _ _ c.in-Some.field-0 c.in-Some.is c.next.ensures.steps in
    let n = length_push c.loop-host.yielded c.in-Some.field-0 in
    record { walked = rw n (walk_later c.args.hosts.now _ c.requires _ turn c.loop-host.marks _ c.loop-host.invariant.walked c.if-word-shift-eq0.false); few = let f = c.loop-host.invariant.few in omega arith }

pub returns : goal.returns
returns c =
    let end = YieldsList-end (YieldsList-at c.into_iter-host-iterator.ensures.into_iter_gives (YieldsList-from_rev_slice c.args.hosts.now cc)) c.loop-host.yielded _ c.loop-host.yielded_by _ _ c.in-None.is c.next.ensures.steps in
    walk_end _ _ _ _ c.loop-host.invariant.walked end.1
