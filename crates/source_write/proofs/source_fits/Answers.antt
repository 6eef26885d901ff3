-- `source_fits` meets its contract.
use Rattle.source_write.proofs.Laws.{fit_laws, fit_over, row_over}
use Rattle.source_write.proofs.source_fits.Goals as goal

pub returns-then-room-end : goal.returns-then-room-end
returns-then-room-end c = row_over c.args.bytecode.now c.loop-read.at c.loop-read.end c.loop-read.invariant.long _ c.decode_at.ensures _ c.in-Ok.is _ _ c.loop-read.invariant.within c.row_length-n.ensures c.if-room-end.true

pub loop-read-preserved : goal.loop-read-preserved
loop-read-preserved c = record { within = search fit_laws; long = search fit_laws }

pub returns : goal.returns
returns c = fit_over c.args.bytecode.now c.loop-read.at c.loop-read.end c.loop-read.invariant.long _ c.decode_at.ensures _ _ c.loop-read.invariant.within c.in_default.is
