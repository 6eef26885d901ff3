-- `encoder_assemble::write_words` meets its contract: what was written and the words that are left make all of them.
use Prim.Native.Nat.{◌+◌, ◌-◌, ◌≤◌}
use mathlib.Core.Path.{◌≡◌}
use lib.ListN.{length}
use lib.Seq.{sets}
use Rattle.relocate.specs.Layout.{sorted_instructions}
use Rattle.relocate_chains.specs.ByChains.{by_chains}
use Rattle.encoder_walks.proofs.LineLaws.{rows_from}
use Rattle.encoder_assemble.specs.Written.{held_words}
use Rattle.encoder_assemble.proofs.write_words.Given as goal

abbrev pub invariant-loop-at : goal.invariant-loop-at
invariant-loop-at l = (sets l.initial.words 0 (held_words l.table.source.now (by_chains l.table) (sorted_instructions l.table.source.now l.start l.end)) ≡ sets l.words l.written (held_words l.table.source.now (by_chains l.table) (rows_from l.table.source.now l.start l.end l.at))) × (l.written + length (held_words l.table.source.now (by_chains l.table) (rows_from l.table.source.now l.start l.end l.at)) ≤ length l.words) × (length l.words ≡ length l.initial.words)

abbrev pub decreases-loop-at : goal.decreases-loop-at
decreases-loop-at l = length l.table.source.now - l.at
