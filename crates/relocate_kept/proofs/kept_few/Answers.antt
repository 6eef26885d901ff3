-- `relocate_kept::kept_few` meets its contract.
use native.Mathlib.Omega.{arith}
use Rattle.relocate_kept.proofs.KeptLaws.{kept_later, kept_here, kept_end}
use Rattle.relocate_kept.proofs.kept_few.Goals.{then-not-contains, else-not-contains}
use Rattle.relocate_kept.proofs.kept_few.Goals as goal

pub loop-i-preserved : goal.loop-i-preserved
loop-i-preserved c =
    let (counted, few) = c.loop-i.invariant in
    elim c.if-not-contains.branch [
      | then-not-contains w ↦ (rw w.count-is (kept_here _ _ _ counted _ c.loop-i-test.true c.contains.ensures.value w.if-not-contains.true), omega (arith, w.count-is))
      | else-not-contains w ↦ (rw w.count-is (kept_later _ _ _ counted _ c.loop-i-test.true c.contains.ensures.value w.if-not-contains.false), omega (arith, w.count-is))
    ]

pub returns : goal.returns
returns c = kept_end _ _ _ c.loop-i.invariant.0 c.loop-i-test.false
