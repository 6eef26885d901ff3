-- The label table as it is left, as entries and as parallel columns, and the row that holds a name in it.
use Rattle.std.specs.Prelude.{ℕ, suc, List, [], ◌∷◌, map, Bool, ◌&&◌, cond, eqb, ltb, length, Option, Some, None, Result, Ok, Err}
use Rattle.text.specs.Bytes.{same}
use Rattle.text.specs.Answer.{Answer, ok, refused, ◌>>=◌, over, on_ok}
use Rattle.asm.specs.Parts.{name_at}
use Rattle.asm.specs.declared.AsmRow.{AsmRow}
use Rattle.relocate.specs.Labels.{prophet_kind, table_of}
use Rattle.relocate.specs.Prophets.{listed_labels}
use Rattle.relocate.specs.Relocate.{relocate_number, relocate_detail, tabled}
use Rattle.relocate.specs.declared.LabelEntry.{LabelEntry}
use Rattle.relocate.specs.declared.RelocateRefusal.{RelocateRefusal}
use Rattle.relocate.specs.declared.WordAddress.{WordAddress}

-- "Refusals up to 7 in this order leave the table untouched, those after 7 leave it filled"; "entries past these are untouched"
abbrev pub table_left : List ℕ → List LabelEntry → List LabelEntry
table_left s table = on_ok (tabled s (length table)) (λ rows. over (table_of rows) table) table

-- what a column holds afterwards: "one entry for each label row in sorted order", "entries past these are untouched"; a refusal leaves it as it was
abbrev pub column_left : {A : Type 0} → Answer (List AsmRow) → (LabelEntry → A) → List A → List A
column_left answer field old = on_ok answer (λ rows. over (map field (table_of rows)) old) old

-- the columns of an entry
abbrev pub kind_of : LabelEntry → ℕ
kind_of e = e.kind

abbrev pub mapped_of : LabelEntry → Bool
mapped_of e = e.mapped

abbrev pub start_of : LabelEntry → ℕ
start_of e = e.start

abbrev pub length_of : LabelEntry → ℕ
length_of e = e.length

abbrev pub address_in : LabelEntry → ℕ
address_in e = e.address.0

-- the entries that columns hold, as many as the shortest has
unfoldable pub entries_of : List ℕ → List Bool → List ℕ → List ℕ → List ℕ → List LabelEntry
entries_of [] ms ss ls as' = []
entries_of (k ∷ ks) [] ss ls as' = []
entries_of (k ∷ ks) (m ∷ ms) [] ls as' = []
entries_of (k ∷ ks) (m ∷ ms) (s ∷ ss) [] as' = []
entries_of (k ∷ ks) (m ∷ ms) (s ∷ ss) (l ∷ ls) [] = []
entries_of (k ∷ ks) (m ∷ ms) (s ∷ ss) (l ∷ ls) (a ∷ as') =
    record { kind = k; mapped = m; start = s; length = l; address = record { 0 = a } } ∷ entries_of ks ms ss ls as'

-- an entry that has the name and is mapped
abbrev pub entry_names : List ℕ → ℕ → List ℕ → LabelEntry → Bool
entry_names s kind x e = e.mapped && eqb e.kind kind && same (name_at s e.start e.length) x

abbrev pub later_address : Option WordAddress → Option WordAddress → Option WordAddress
later_address (Some a) other = Some a
later_address None other = other

-- "Of equal names of one kind the last mapped row in sorted order holds"
unfoldable pub held_address : List ℕ → ℕ → List ℕ → List LabelEntry → Option WordAddress
held_address s kind x [] = None
held_address s kind x (e ∷ es) = later_address (held_address s kind x es) (cond (entry_names s kind x e) (Some e.address) None)

-- how a name of a kind is looked up
abbrev pub LookUp : Type 0
LookUp = ℕ → List ℕ → Option WordAddress

-- in the entries of a table
abbrev pub looked_in : List ℕ → List LabelEntry → LookUp
looked_in s es kind x = held_address s kind x es

-- ---- prophets, each looked up

-- 9 "a prophet that no mapped prophet row names (its index from 0)"
abbrev pub held_host : ℕ → Option WordAddress → Answer ℕ
held_host k (Some a) = ok a.0
held_host k None = refused 9 k

-- each prophet's host, in list order, counted from k
unfoldable pub held_hosts_from : LookUp → ℕ → List (List ℕ) → Answer (List ℕ)
held_hosts_from look k [] = ok []
held_hosts_from look k (x ∷ xs) = held_host k (look prophet_kind x) >>= λ h. held_hosts_from look (suc k) xs >>= λ hs. ok (h ∷ hs)

-- refusals 8 and 9: ColumnLaws says that with the table of sorted rows this is `hosts_of`
unfoldable pub held_hosts : LookUp → List ℕ → Answer (List ℕ)
held_hosts look list = listed_labels list >>= λ labels. held_hosts_from look 0 labels

-- how many prophets are listed
abbrev pub host_count : Answer (List ℕ) → Answer ℕ
host_count answer = answer >>= λ hs. ok (length hs)

abbrev pub listed_numbered : Result ℕ RelocateRefusal → Answer ℕ
listed_numbered (Ok n) = ok n
listed_numbered (Err f) = refused (relocate_number f) (relocate_detail f)

-- the hosts written from the start on, where there is room for them
abbrev pub hosts_put : Answer (List ℕ) → List ℕ → List ℕ
hosts_put answer old = on_ok answer (λ hs. cond (ltb (length old) (length hs)) old (over hs old)) old
