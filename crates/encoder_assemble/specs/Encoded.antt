-- What assembling answers over sorted rows.
use Rattle.std.specs.Prelude.{ℕ, List}
use Rattle.text.specs.Answer.{Answer, ok, ◌>>=◌}
use Rattle.asm.specs.declared.AsmRow.{AsmRow}
use Rattle.encoder.specs.Assemble.{Room, totals_of, encoded_rows}
use Rattle.encoder.specs.declared.Totals.{Totals}

-- refusals 8 to 13 and 25 over sorted rows, or the counts
abbrev pub encoded_totals : List ℕ → List AsmRow → List ℕ → Room → Answer Totals
encoded_totals s rows list room = encoded_rows s rows list room >>= λ a. ok (totals_of a)
