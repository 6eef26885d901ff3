-- `fill` meets its contract.
use Rattle.relocate_table.proofs.FillLaws.{filling_begin, filling_less, filling_other, filling_room, filling_none, filling_put, filling_done}
use Rattle.relocate_table.proofs.ColumnsMut.fill.Goals.{in-Some, in_default-row_entry}
use Rattle.relocate_table.proofs.ColumnsMut.fill.Goals as goal

pub loop-at-init : goal.loop-at-init
loop-at-init c = filling_begin _ _ _ _ c.requires.room_value

pub put-requires : goal.put-requires
put-requires c = record { in_bounds = filling_room c.loop-at.invariant _ c.sorted_row-line.ensures c.loop-at-test.true _ c.in-Row.is _ c.row_entry.ensures _ c.in-Some.is c.requires.room_in_bounds }

pub loop-at-smaller-in-Row : goal.loop-at-smaller-in-Row
loop-at-smaller-in-Row c = filling_less c.loop-at.invariant _ c.sorted_row-line.ensures c.loop-at-test.true

pub loop-at-preserved-in-Row : goal.loop-at-preserved-in-Row
loop-at-preserved-in-Row c =
    elim c.match-row_entry.branch [
      | in-Some w ↦ rw (w.self-is, w.n-is) (filling_put c.loop-at.invariant _ c.sorted_row-line.ensures c.loop-at-test.true _ c.in-Row.is _ c.row_entry.ensures _ _ _ c.advance-progress.ensures w.in-Some.is w.put.ensures.same_slices w.put.ensures.columns_after)
      | in_default-row_entry w ↦ rw (w.self-is, w.n-is) (filling_none c.loop-at.invariant _ c.sorted_row-line.ensures c.loop-at-test.true _ c.in-Row.is _ c.row_entry.ensures _ c.advance-progress.ensures w.in_default-row_entry.is)
    ]

pub loop-at-smaller : goal.loop-at-smaller
loop-at-smaller c = filling_less c.loop-at.invariant _ c.sorted_row-line.ensures c.loop-at-test.true

pub loop-at-preserved : goal.loop-at-preserved
loop-at-preserved c = filling_other c.loop-at.invariant _ c.sorted_row-line.ensures c.loop-at-test.true c.in_default.not-Row

pub returns-clause-columns_after : goal.returns-clause-columns_after
returns-clause-columns_after c = filling_done c.loop-at.invariant c.loop-at-test.false c.requires.room_value c.requires.room_in_bounds
