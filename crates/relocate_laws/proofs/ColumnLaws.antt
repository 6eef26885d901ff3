-- The label table as columns: the row that holds a name is the same by the table as by the sorted rows, and columns hold the table's entries.
use Rattle.std.specs.Prelude.{Option, Some, None}
use Prim.Native.Nat.{ℕ, suc}
use mathlib.Core.Path.{◌≡◌, refl, ap, ◌∙◌}
use mathlib.Core.List.{List, [], ◌∷◌, map}
use mathlib.Core.Bool.{Bool, true, false, ◌&&◌, cond}
use native.Mathlib.Omega.{arith}
use borrow.Author.Tests.{eqb-true}
use lib.Dec.{eqb}
use lib.ListN.{length, take, length-map}
use lib.Seq.{take_at}
use Rattle.text.specs.Bytes.{same}
use Rattle.text.specs.Answer.{Answer, ok, refused, ◌>>=◌, over}
use Rattle.asm.specs.Parts.{name_at}
use Rattle.asm.specs.Rows.{instructions}
use Rattle.asm.specs.declared.OlaAsmInstruction.{OlaAsmInstruction}
use Rattle.asm.specs.declared.AsmRow.{AsmRow}
use Rattle.relocate.specs.Labels.{LabelRow, prophet_kind, label_rows, address_of, host_of, marked_address, entry_of, table_of, names, later_or, holder}
use Rattle.relocate.specs.Prophets.{listed_labels, host_found, hosts_from}
use Rattle.relocate.specs.Relocate.{hosts_of}
use Rattle.relocate.specs.Columns.{kind_of, mapped_of, start_of, length_of, address_in, entries_of, later_address, held_address, looked_in, held_host, held_hosts_from, held_hosts}
use Rattle.relocate.specs.declared.LabelEntry.{LabelEntry}
use Rattle.relocate.specs.declared.WordAddress.{WordAddress}

-- ---- the row that holds a name

-- the address of a row that was found
abbrev pub found_by : (LabelRow → ℕ) → Option LabelRow → Option WordAddress
found_by f (Some l) = Some (record { 0 = f l })
found_by f None = None

-- the rows that have a name are mapped and of its kind
pub names_told : (s : List ℕ) (kind : ℕ) (x : List ℕ) (l : LabelRow) → names s kind x l ≡ true → (l.mapped ≡ true) × (eqb l.kind kind ≡ true)
names_told s kind x l h = go l.mapped (eqb l.kind kind) (same (name_at s l.start l.length) x) h
  where
    go : (a b c : Bool) → a && b && c ≡ true → (a ≡ true) × (b ≡ true)
    go true true c e = (refl, refl)
    go true false c e = let z : ◌≡◌ {A = ℕ} 0 1 = cc in absurd (omega arith)
    go false b c e = let z : ◌≡◌ {A = ℕ} 0 1 = cc in absurd (omega arith)

-- where an entry's address is f of its row, for the rows that have the name
module _ (s : List ℕ) (kind : ℕ) (x : List ℕ) (is : List OlaAsmInstruction) (f : LabelRow → ℕ) (agrees : (l : LabelRow) → names s kind x l ≡ true → marked_address is l ≡ f l) where
  held_rows : (ls : List LabelRow) → held_address s kind x (map (entry_of is) ls) ≡ found_by f (holder s kind x ls)
  unfolding held_address holder
  held_rows [] = refl
  held_rows (l ∷ ls) = go (names s kind x l) refl (held_address s kind x (map (entry_of is) ls)) (holder s kind x ls) (held_rows ls)
    where
      go : (t : Bool) → names s kind x l ≡ t → (a : Option WordAddress) (o : Option LabelRow) → a ≡ found_by f o
          → later_address a (cond t (Some (record { 0 = marked_address is l })) None) ≡ found_by f (later_or o (cond t (Some l) None))
      go t e a (Some m) h = ap (λ (b : Option WordAddress). later_address b (cond t (Some (record { 0 = marked_address is l })) None)) h
      go true e a None h = rw h (ap (λ (n : ℕ). Some (record { 0 = n })) (agrees l e))
      go false e a None h = rw h

module _ (s : List ℕ) (x : List ℕ) (rows : List AsmRow) where
  -- a call or `.LBL` name is found at the address that the row that holds it marks
  pub held_label : (kind : ℕ) → eqb kind prophet_kind ≡ false
      → held_address s kind x (table_of rows) ≡ found_by (λ l. address_of (instructions rows) l.marks) (holder s kind x (label_rows 0 rows))
  held_label kind h = held_rows s kind x (instructions rows) (λ l. address_of (instructions rows) l.marks) agrees (label_rows 0 rows)
    where
      agrees : (l : LabelRow) → names s kind x l ≡ true → marked_address (instructions rows) l ≡ address_of (instructions rows) l.marks
      agrees l e =
          let w = names_told s kind x l e in
          let k : eqb l.kind prophet_kind ≡ false = ap (λ (n : ℕ). eqb n prophet_kind) (eqb-true l.kind kind w.1) ∙ h in
          rw (w.0, k)

  -- a prophet's name is found at the host of the row that holds it
  pub held_prophet : held_address s prophet_kind x (table_of rows) ≡ found_by (λ l. host_of (instructions rows) l.marks) (holder s prophet_kind x (label_rows 0 rows))
  held_prophet = held_rows s prophet_kind x (instructions rows) (λ l. host_of (instructions rows) l.marks) agrees (label_rows 0 rows)
    where
      agrees : (l : LabelRow) → names s prophet_kind x l ≡ true → marked_address (instructions rows) l ≡ host_of (instructions rows) l.marks
      agrees l e = let w = names_told s prophet_kind x l e in rw (w.0, w.1)

-- ---- prophets

held_hosts_from_lem : (s : List ℕ) (rows : List AsmRow) (k : ℕ) (xs : List (List ℕ)) → held_hosts_from (looked_in s (table_of rows)) k xs ≡ hosts_from s rows k xs
unfolding held_hosts_from hosts_from ◌>>=◌
held_hosts_from_lem s rows k [] = refl
held_hosts_from_lem s rows k (x ∷ xs) = rw (held_prophet s x rows) (go (holder s prophet_kind x (label_rows 0 rows)) (held_hosts_from_lem s rows (suc k) xs))
  where
    go : (o : Option LabelRow) → held_hosts_from (looked_in s (table_of rows)) (suc k) xs ≡ hosts_from s rows (suc k) xs
        → (held_host k (found_by (λ l. host_of (instructions rows) l.marks) o) >>= λ h. held_hosts_from (looked_in s (table_of rows)) (suc k) xs >>= λ hs. ok (h ∷ hs))
        ≡ (host_found (instructions rows) k o >>= λ h. hosts_from s rows (suc k) xs >>= λ hs. ok (h ∷ hs))
    go None e = refl
    go (Some l) e = ap (λ (a : Answer (List ℕ)). a >>= λ hs. ok (host_of (instructions rows) l.marks ∷ hs)) e

-- refusals 8 and 9 and the hosts by the label table are those by the sorted rows
pub held_hosts_lem : (s : List ℕ) (rows : List AsmRow) (list : List ℕ) → held_hosts (looked_in s (table_of rows)) list ≡ hosts_of s rows list
unfolding held_hosts hosts_of ◌>>=◌
held_hosts_lem s rows list = go (listed_labels list)
  where
    go : (a : Answer (List (List ℕ))) → (a >>= λ xs. held_hosts_from (looked_in s (table_of rows)) 0 xs) ≡ (a >>= λ xs. hosts_from s rows 0 xs)
    go (ok xs) = held_hosts_from_lem s rows 0 xs
    go (refused n d) = refl

-- ---- the entries of columns

-- the entries of a table's columns are the table
pub entries_columns : (es : List LabelEntry) → entries_of (map kind_of es) (map mapped_of es) (map start_of es) (map length_of es) (map address_in es) ≡ es
unfolding entries_of
entries_columns [] = refl
entries_columns (e ∷ es) = ap (λ (l : List LabelEntry). e ∷ l) (entries_columns es)

-- a column written over an older one, cut to as many entries as were written
pub taken_over : {A : Type 0} (field : LabelEntry → A) (es : List LabelEntry) (old : List A) → take (length es) (over (map field es) old) ≡ map field es
taken_over field es old = take_at (map field es) _ (length es) (length-map es field)

-- the same of all five
pub taken_columns : (es : List LabelEntry) (kinds : List ℕ) (mapped : List Bool) (starts lengths addresses : List ℕ)
    → entries_of
    (take (length es) (over (map kind_of es) kinds))
    (take (length es) (over (map mapped_of es) mapped))
    (take (length es) (over (map start_of es) starts))
    (take (length es) (over (map length_of es) lengths))
    (take (length es) (over (map address_in es) addresses))
    ≡ es
taken_columns es kinds mapped starts lengths addresses =
    rw (taken_over kind_of es kinds, taken_over mapped_of es mapped, taken_over start_of es starts, taken_over length_of es lengths, taken_over address_in es addresses)
    (entries_columns es)
