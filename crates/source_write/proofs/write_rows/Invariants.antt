-- `write_rows` meets its contract.
use Rattle.std.proofs.Common.{◌≡◌, ◌+◌, ◌-◌, length}
use lib.Seq.{sets}
use Rattle.source_write.specs.Rest.{instructions_from, rows_text}
use Rattle.source_write.proofs.write_rows.Given as goal

abbrev pub invariant-loop-read : goal.invariant-loop-read
invariant-loop-read l = record {
  kept : length l.text ≡ length l.initial.text;
  long : 5 + length (rows_text (instructions_from l.bytecode 0)) ≡ l.end + length (rows_text (instructions_from l.bytecode l.at));
  written : sets l.initial.text 5 (rows_text (instructions_from l.bytecode 0)) ≡ sets l.text l.end (rows_text (instructions_from l.bytecode l.at));
}

abbrev pub decreases-loop-read : goal.decreases-loop-read
decreases-loop-read l = length l.bytecode - l.at
