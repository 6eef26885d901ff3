-- `first_off_row` meets its contract.
use Rattle.std.proofs.Common.{◌≡◌, ◌-◌, ◌≤◌, length}
use Rattle.source.specs.SourceText.{first_off_row}
use Rattle.source_write.specs.Rest.{instructions_from}
use Rattle.source_write.proofs.first_off_row.Given as goal

abbrev pub invariant-loop-read : goal.invariant-loop-read
invariant-loop-read l = record {
  passed : first_off_row 0 (instructions_from l.bytecode 0) ≡ first_off_row l.index (instructions_from l.bytecode l.at);
  counted : l.index ≤ l.at;
}

abbrev pub decreases-loop-read : goal.decreases-loop-read
decreases-loop-read l = length l.bytecode - l.at
