-- How many bytes are left.
use Rattle.std.proofs.Common.{length}
use Rattle.pieces.proofs.print_row.Given as goal

abbrev pub decreases-loop-rest : goal.decreases-loop-rest
decreases-loop-rest g l = length l.rest
