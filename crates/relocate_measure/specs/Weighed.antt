-- Refusals 4 to 6 by a survey's sums.
use Rattle.std.specs.Prelude.{ℕ, eqb, ltb}
use Rattle.text.specs.Answer.{Answer, ok, ◌>>◌, refuse_if}
use Rattle.asm.specs.declared.Tally.{Tally}
use Rattle.relocate.specs.Layout.{place_or}
use Rattle.relocate.specs.declared.Layout.{Layout}

-- of a source of n bytes
unfoldable pub weighed : ℕ → Tally → Answer Layout
weighed n t = do
  refuse_if (eqb t.rows 0) 4
  refuse_if (eqb t.mains 0) 5
  refuse_if (ltb 1 t.mains) 6
  ok (record { labels = t.labels; instructions = t.instructions; counted = t.counted; words = t.words; start = place_or 0 t.main; end = place_or n t.end })
