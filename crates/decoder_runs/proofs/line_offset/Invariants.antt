-- `line_offset` answers where a line starts: the bytes passed and those of the lines that are left are those of all.
use Rattle.std.proofs.Common.{◌≡◌, ◌+◌, ◌-◌, ◌≤◌, length, drop}
use Rattle.decoder.specs.Steps.{lines_end}
use Rattle.decoder_runs.proofs.line_offset.Given as goal

abbrev pub invariant-loop : goal.invariant-loop
invariant-loop l = record {
  passed : lines_end l.line l.text ≡ l.at + lines_end (l.line - l.counter) (drop l.at l.text);
  within : l.at ≤ length l.text;
}
