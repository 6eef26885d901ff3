-- `label_table` meets its contract: a refusal leaves every column as it was.
use Rattle.relocate_table.proofs.TableLaws.{column_kept}
use Rattle.relocate_table.proofs.label_table.Goals as goal

pub returns-in_err-layout-clause-kinds_after : goal.returns-in_err-layout-clause-kinds_after
returns-in_err-layout-clause-kinds_after c = column_kept _ _ _ c.shortest-room.ensures _ c.measure.ensures _ _ _ c.in_err-layout.was

pub returns-in_err-layout-clause-mapped_after : goal.returns-in_err-layout-clause-mapped_after
returns-in_err-layout-clause-mapped_after c = column_kept _ _ _ c.shortest-room.ensures _ c.measure.ensures _ _ _ c.in_err-layout.was

pub returns-in_err-layout-clause-starts_after : goal.returns-in_err-layout-clause-starts_after
returns-in_err-layout-clause-starts_after c = column_kept _ _ _ c.shortest-room.ensures _ c.measure.ensures _ _ _ c.in_err-layout.was

pub returns-in_err-layout-clause-lengths_after : goal.returns-in_err-layout-clause-lengths_after
returns-in_err-layout-clause-lengths_after c = column_kept _ _ _ c.shortest-room.ensures _ c.measure.ensures _ _ _ c.in_err-layout.was

pub returns-in_err-layout-clause-addresses_after : goal.returns-in_err-layout-clause-addresses_after
returns-in_err-layout-clause-addresses_after c = column_kept _ _ _ c.shortest-room.ensures _ c.measure.ensures _ _ _ c.in_err-layout.was
