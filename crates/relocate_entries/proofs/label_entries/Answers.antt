-- `label_entries` meets its contract: what is to be filled fits the table, and filled it is what refusals 1 to 7 leave.
use Rattle.relocate_entries.proofs.EntryStepLaws.{rows_fit, fillable, entries_left_in, refused_left}
use Rattle.relocate_entries.proofs.label_entries.Goals as goal

pub returns-in_err-layout-clause-table_after : goal.returns-in_err-layout-clause-table_after
returns-in_err-layout-clause-table_after c = refused_left _ _ _ c.measure.ensures _ c.in_err-layout.was

pub fill_entries-requires : goal.fill_entries-requires
fill_entries-requires c = (rows_fit _ _ _ c.measure.ensures _ c.in_ok-layout.was, fillable _ _ _ c.measure.ensures _ c.in_ok-layout.was)

pub returns-clause-table_after : goal.returns-clause-table_after
returns-clause-table_after c = entries_left_in _ _ _ c.measure.ensures _ c.in_ok-layout.was _ c.fill_entries.ensures
