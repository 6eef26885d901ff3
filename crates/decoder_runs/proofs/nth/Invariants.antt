-- `nth` answers the k-th call of a run: the calls that are left from the offset reached end in that call.
use Rattle.std.proofs.Common.{◌≡◌, ◌-◌}
use Rattle.decoder.specs.Steps.{nth_call}
use Rattle.decoder.proofs.OffsetLaws.{call_at}
use Rattle.decoder_runs.proofs.nth.Given as goal

abbrev pub invariant-loop : goal.invariant-loop
invariant-loop l = nth_call l.text l.k ≡ call_at (l.k - l.counter) l.text l.offset
