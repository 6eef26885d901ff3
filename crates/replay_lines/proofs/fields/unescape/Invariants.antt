-- How many bytes are left.
use Rattle.std.proofs.Common.{length}
use Rattle.replay_lines.proofs.fields.unescape.Given as goal

abbrev pub decreases-loop-byte : goal.decreases-loop-byte
decreases-loop-byte l = length l.rest
