-- What the five columns hold as they are filled.
use Rattle.std.specs.Prelude.{ℕ, ◌≤◌, ◌≡◌, List, length, map}
use Rattle.std.proofs.lemmas.List.Edits.{sets}
use Rattle.text.specs.Answer.{Answer}
use Rattle.asm.specs.declared.AsmRow.{AsmRow}
use Rattle.relocate.specs.Columns.{column_left, kind_of, mapped_of, start_of, length_of, address_in}
use Rattle.relocate.specs.declared.LabelEntry.{LabelEntry}
use Rattle.relocate_table.specs.declared.ColumnsMut.{ColumnsMut}

-- each column has n places
pub record Holds (c : ColumnsMut) (n : ℕ) : Type 0 where
  pub kinds : n ≤ length c.kinds.now
  pub mapped : n ≤ length c.mapped.now
  pub starts : n ≤ length c.starts.now
  pub lengths : n ≤ length c.lengths.now
  pub addresses : n ≤ length c.addresses.now

-- the columns are the same slices as before
pub record SameSlices (c d : ColumnsMut) : Type 0 where
  pub kinds : d.kinds.ghost_name ≡ c.kinds.ghost_name
  pub mapped : d.mapped.ghost_name ≡ c.mapped.ghost_name
  pub starts : d.starts.ghost_name ≡ c.starts.ghost_name
  pub lengths : d.lengths.ghost_name ≡ c.lengths.ghost_name
  pub addresses : d.addresses.ghost_name ≡ c.addresses.ghost_name

-- the columns d are the columns c with entries from place n on
pub record Puts (c d : ColumnsMut) (n : ℕ) (es : List LabelEntry) : Type 0 where
  pub kinds : d.kinds.now ≡ sets c.kinds.now n (map kind_of es)
  pub mapped : d.mapped.now ≡ sets c.mapped.now n (map mapped_of es)
  pub starts : d.starts.now ≡ sets c.starts.now n (map start_of es)
  pub lengths : d.lengths.now ≡ sets c.lengths.now n (map length_of es)
  pub addresses : d.addresses.now ≡ sets c.addresses.now n (map address_in es)

-- the columns d are the columns c as a table leaves them
pub record Left (c d : ColumnsMut) (answer : Answer (List AsmRow)) : Type 0 where
  pub kinds : d.kinds.now ≡ column_left answer kind_of c.kinds.now
  pub mapped : d.mapped.now ≡ column_left answer mapped_of c.mapped.now
  pub starts : d.starts.now ≡ column_left answer start_of c.starts.now
  pub lengths : d.lengths.now ≡ column_left answer length_of c.lengths.now
  pub addresses : d.addresses.now ≡ column_left answer address_in c.addresses.now
