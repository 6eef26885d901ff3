-- What a measured source says of its label table: its entries are those of its sorted rows, row by row.
use Prim.Native.Nat.{ℕ, ◌≤◌}
use mathlib.Core.Path.{◌≡◌, ap, ◌∙◌}
use mathlib.Core.List.{List}
use native.Mathlib.Omega.{arith}
use lib.ListN.{length, length-map}
use Rattle.text.specs.Answer.{Answer, ok, refused, ◌>>=◌}
use Rattle.asm.specs.Rows.{instructions}
use Rattle.asm.specs.declared.AsmRow.{AsmRow}
use Rattle.relocate.specs.Labels.{label_rows, entry_of, table_of}
use Rattle.relocate.specs.Relocate.{tabled}
use Rattle.relocate.specs.Layout.{measured, layout_rows, sorted_from}
use Rattle.relocate.specs.declared.LabelEntry.{LabelEntry}
use Rattle.relocate.specs.declared.Layout.{Layout}
use Rattle.relocate_laws.proofs.StretchLaws.{tabled_measured, measured_order, measured_within, measured_room, measured_labels, measured_instructions}
use Rattle.relocate_laws.proofs.WalkLaws.{sorted_start}
use Rattle.relocate_rows.specs.declared.Progress.{Progress}
use Rattle.relocate_rows.specs.Entries.{entries_after}
use Rattle.relocate_rows.proofs.EntryLaws.{table_entries}

-- the entries of the sorted rows from a place on
abbrev pub entries_from : List ℕ → Layout → Progress → ℕ → List LabelEntry
entries_from s l p at = entries_after l.instructions p (sorted_from s l.start l.end at)

-- all of them
abbrev pub all_entries : List ℕ → Layout → List LabelEntry
all_entries s l = entries_from s l (record { seen = 0; address = 0; host = 0 }) 0

-- what a measured source says of its table
pub record Laid (s : List ℕ) (room : ℕ) (l : Layout) : Type 0 where
  pub rows : List AsmRow
  pub ordered : l.start ≤ l.end
  pub ended : l.end ≤ length s
  pub table : tabled s room ≡ ok rows
  pub entries : all_entries s l ≡ table_of rows
  pub many : l.labels ≡ length (all_entries s l)
  pub enough : length (all_entries s l) ≤ room

-- every measured source does
pub laid : (s : List ℕ) (room : ℕ) (l : Layout) → measured s room ≡ ok l → Laid s room l
unfolding ◌>>=◌
laid s room l h =
    let a = measured_order s room l h in
    let b = measured_room s room l h in
    let c = measured_labels s room l h in
    let k = length-map (label_rows 0 (layout_rows s l)) (entry_of (instructions (layout_rows s l))) in
    let e : all_entries s l ≡ table_of (layout_rows s l) = rw (sorted_start s l.start l.end a, measured_instructions s room l h) (table_entries (layout_rows s l)) in
    let d = ap length e in
    record {
      rows = layout_rows s l;
      ordered = omega arith;
      ended = measured_within s room l h;
      table = tabled_measured s room ∙ ap (λ (x : Answer Layout). x >>= λ l. ok (layout_rows s l)) h;
      entries = e;
      many = omega arith;
      enough = omega arith;
    }

-- where the measure refuses, there is no table
pub not_tabled : (s : List ℕ) (room n d : ℕ) → measured s room ≡ refused n d → tabled s room ≡ refused n d
unfolding ◌>>=◌
not_tabled s room n d h = tabled_measured s room ∙ ap (λ (x : Answer Layout). x >>= λ l. ok (layout_rows s l)) h
