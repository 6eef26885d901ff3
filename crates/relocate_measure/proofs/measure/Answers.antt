-- `measure` meets its contract.
use Rattle.relocate_measure.proofs.Laws.{table_short, table_fits}
use Rattle.relocate_measure.proofs.measure.Goals as goal

pub returns-then-room-layout : goal.returns-then-room-layout
returns-then-room-layout c = table_short _ _ c.lay_out.ensures _ c.in_ok-layout.was _ c.if-room-layout.true

pub returns : goal.returns
returns c = table_fits _ _ c.lay_out.ensures _ c.in_ok-layout.was _ c.if-room-layout.false
