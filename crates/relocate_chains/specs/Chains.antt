-- The label table's entries chained by the bucket of their name: ChainLaws says that with these chains the row that is found is the one that holds the name.
use Rattle.std.specs.Prelude.{ℕ, zero, suc, ◌+◌, ◌*◌, ◌%◌, List, [], ◌∷◌, false, cond, eqb, ltb, length, get_or, set, Option, Some, None}
use Rattle.asm.specs.Parts.{name_at}
use Rattle.relocate.specs.Columns.{entry_names, later_address}
use Rattle.relocate.specs.declared.LabelEntry.{LabelEntry}
use Rattle.relocate.specs.declared.WordAddress.{WordAddress}

abbrev pub buckets : ℕ
buckets = 1024

-- the bucket of a name: each byte is added to 31 times what came before it, modulo the number of buckets
unfoldable pub bucket_from : ℕ → List ℕ → ℕ
bucket_from h [] = h
bucket_from h (b ∷ x) = bucket_from ((h * 31 + b) % buckets) x

abbrev pub bucket_of : List ℕ → ℕ
bucket_of x = bucket_from 0 x

abbrev pub entry_bucket : List ℕ → LabelEntry → ℕ
entry_bucket s e = bucket_of (name_at s e.start e.length)

-- the chains with the entries from place i on: an entry's cell takes what its bucket's cell held, which then holds the entry's place, counted from 1
unfoldable pub chained : List ℕ → ℕ → List LabelEntry → List ℕ → List ℕ
chained s i [] chains = chains
chained s i (e ∷ es) chains = chained s (suc i) es (set (set chains (buckets + i) (get_or chains (entry_bucket s e) 0)) (entry_bucket s e) (suc i))

-- what the chains hold afterwards: they are left as they are where there is no cell for each bucket and each entry, or where there are more entries than a cell can count
abbrev pub chains_left : List ℕ → List LabelEntry → List ℕ → List ℕ
chains_left s es chains = cond (ltb (length chains) (buckets + length es)) chains (cond (ltb 65535 (length es)) chains (chained s 0 es chains))

-- past the last entry
abbrev pub no_entry : LabelEntry
no_entry = record { kind = 0; mapped = false; start = 0; length = 0; address = record { 0 = 0 } }

-- among the first k entries, the first on the chain from the place `at`, counted from 1, that has the name and is mapped
unfoldable pub sought_from : List ℕ → List LabelEntry → List ℕ → ℕ → List ℕ → ℕ → ℕ → Option WordAddress
sought_from s es chains kind x zero at = None
sought_from s es chains kind x (suc k) at =
    cond
    (eqb at (suc k))
    (later_address
    (cond (entry_names s kind x (get_or es k no_entry)) (Some (get_or es k no_entry).address) None)
    (sought_from s es chains kind x k (get_or chains (buckets + k) 0)))
    (sought_from s es chains kind x k at)

-- the address of the row that holds a name of a kind, by the chains
unfoldable pub chained_address : List ℕ → List LabelEntry → List ℕ → ℕ → List ℕ → Option WordAddress
chained_address s es chains kind x = sought_from s es chains kind x (length es) (get_or chains (bucket_of x) 0)
