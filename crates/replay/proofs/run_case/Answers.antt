-- The array's length is told by a lemma: computing it takes seconds.
use Rattle.std.proofs.Common.{ℕ, sym}
use Rattle.std.proofs.lemmas.List.{length-replicate}
use Rattle.replay.proofs.run_case.Goals as goal

pub slice_bounds-unescape-end : goal.slice_bounds-unescape-end
slice_bounds-unescape-end c = sym (length-replicate {A = ℕ} 524300 0)
