-- `room_of` meets its contract.
use Rattle.relocate_measure.proofs.Laws.{room_is}
use Rattle.relocate_measure.proofs.room_of.Goals as goal

pub returns : goal.returns
returns c = room_is _ _ c.lay_out.ensures _ c.in_ok-layout.was
