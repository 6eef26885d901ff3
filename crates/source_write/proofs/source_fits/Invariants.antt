-- `source_fits` meets its contract.
use Rattle.std.proofs.Common.{◌≡◌, ◌+◌, ◌-◌, ◌≤◌, length}
use Rattle.source_write.specs.Rest.{instructions_from, rows_text}
use Rattle.source_write.proofs.source_fits.Given as goal

abbrev pub invariant-loop-read : goal.invariant-loop-read
invariant-loop-read l = record {
  within : l.end ≤ l.room;
  long : 5 + length (rows_text (instructions_from l.bytecode 0)) ≡ l.end + length (rows_text (instructions_from l.bytecode l.at));
}

abbrev pub decreases-loop-read : goal.decreases-loop-read
decreases-loop-read l = length l.bytecode - l.at
