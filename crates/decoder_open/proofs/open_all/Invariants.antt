-- `decoder_open::open_all` meets its contract: after each instruction what is left opens as the whole does, from the line and the index reached.
use Prim.Native.Nat.{◌-◌, ◌≤◌}
use mathlib.Core.Path.{◌≡◌}
use lib.ListN.{length, drop}
use Rattle.text.specs.Lines.{lines}
use Rattle.decoder.specs.Lines.{line_groups, complete_of, first_unreadable}
use Rattle.decoder.specs.Open.{all_decoded}
use Rattle.decoder.specs.Steps.{accepted_of}
use Rattle.decoder_open.proofs.open_all.Given as goal

abbrev pub invariant-loop-read : goal.invariant-loop-read
invariant-loop-read l = record {
  read : accepted_of (all_decoded 0 (complete_of (line_groups (lines l.text)))) ≡ accepted_of (all_decoded l.index (complete_of (line_groups (lines (drop l.at l.text)))));
  unread : first_unreadable 0 (line_groups (lines l.text)) ≡ first_unreadable l.line (line_groups (lines (drop l.at l.text)));
  counted : l.index ≤ l.line;
  within : l.line ≤ l.at;
}

abbrev pub decreases-loop-read : goal.decreases-loop-read
decreases-loop-read l = length l.text - l.at
