-- The chains of a source's label table: there is a cell for each entry, so what is found by them is what the table holds.
use Prim.Native.Nat.{ℕ, ◌≤◌}
use mathlib.Core.Path.{◌≡◌, ap, ◌∙◌}
use mathlib.Core.List.{List}
use native.Mathlib.Omega.{arith}
use lib.ListN.{length, length-map, replicate}
use Rattle.text.specs.Answer.{Answer, ok, ◌>>=◌}
use Rattle.text.proofs.AnswerLaws.{ok_bind, if_passed}
use Rattle.asm.specs.Rows.{instructions}
use Rattle.asm.specs.declared.AsmRow.{AsmRow}
use Rattle.relocate.specs.Labels.{label_rows, entry_of, table_of}
use Rattle.relocate.specs.Relocate.{sorted_of, tabled}
use Rattle.relocate.specs.Layout.{measured, layout_rows}
use Rattle.relocate.specs.Columns.{looked_in}
use Rattle.relocate.specs.declared.LabelEntry.{LabelEntry}
use Rattle.relocate.specs.declared.Layout.{Layout}
use Rattle.relocate_laws.proofs.LengthLaws.{sorted_length}
use Rattle.relocate_laws.proofs.StretchLaws.{tabled_measured}
use Rattle.relocate_chains.specs.Chains.{chains_left, chained_address}
use Rattle.relocate_chains.proofs.ChainLaws.{chains_look}
use Rattle.encoder_assemble.proofs.LabelLaws.{label_bytes}

module _ (s : List ℕ) (n : ℕ) (l : Layout) (h : measured s n ≡ ok l) where
  -- the rows of a source that passes refusals 1 to 7 are its sorted rows
  sorted_rows_lem : sorted_of s ≡ ok (layout_rows s l)
  unfolding tabled ◌>>=◌
  sorted_rows_lem =
      let t : tabled s n ≡ ok (layout_rows s l) = tabled_measured s n ∙ ap (λ (y : Answer Layout). y >>= λ l. ok (layout_rows s l)) h in
      let a = ok_bind (sorted_of s) _ (layout_rows s l) t in
      let b = if_passed _ 7 _ (layout_rows s l) a.2 in
      a.1 ∙ b.1

  -- its table has 21,845 entries at most
  table_fits : length (table_of (layout_rows s l)) ≤ 21845
  table_fits =
      let rows : List AsmRow = layout_rows s l in
      let a = sorted_length s rows sorted_rows_lem in
      let b = label_bytes s rows sorted_rows_lem in
      let c = length-map (label_rows 0 rows) (entry_of (instructions rows)) in
      omega arith

  -- so what is found by its chains is what the table holds
  pub chains_ready : (es : List LabelEntry) → es ≡ table_of (layout_rows s l) → (chains : List ℕ) → chains ≡ chains_left s es (replicate 22870 0)
      → chained_address s es chains ≡ looked_in s (table_of (layout_rows s l))
  chains_ready es e chains g =
      let f = table_fits in
      let k : length es ≡ length (table_of (layout_rows s l)) = ap length e in
      ap (chained_address s es) g ∙ chains_look s es 22870 (omega arith) (omega arith) ∙ ap (looked_in s) e
