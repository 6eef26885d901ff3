-- `next_label` goes on past a line with no entry.
use Rattle.relocate_entries.proofs.NextLaws.{stepping_other, stepping_row}
use Rattle.relocate_entries.proofs.next_label.Goals as goal

pub loop-at-preserved-in_default : goal.loop-at-preserved-in_default
loop-at-preserved-in_default c = stepping_other c.loop-at.invariant _ c.sorted_row-line.ensures c.loop-at-test.true c.in_default.not-Row

pub loop-at-preserved : goal.loop-at-preserved
loop-at-preserved c = stepping_row c.loop-at.invariant _ c.sorted_row-line.ensures c.loop-at-test.true _ c.in-Row.is _ c.row_entry-found.ensures _ _ c.row_after.ensures c.in-Some.is c.in_default-found.is
