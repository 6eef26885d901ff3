-- Tables that separate likely misreadings of the chains, by computation.
use Rattle.std.specs.Prelude.{Option, Some, None}
use Prim.Native.Nat.{ℕ}
use mathlib.Core.Path.{◌≡◌, refl}
use mathlib.Core.List.{List, [], ◌∷◌, ◌++◌, map}
use mathlib.Core.Bool.{Bool, true, false}
use lib.ListN.{replicate}
use Rattle.text.specs.Bytes.{bytes, same}
use Rattle.asm.specs.Parts.{name_at}
use Rattle.relocate.specs.declared.LabelEntry.{LabelEntry}
use Rattle.relocate_chains.specs.Chains.{bucket_from, bucket_of, chained, chains_left, sought_from, chained_address}
use Rattle.relocate.specs.declared.WordAddress.{WordAddress}

-- names and their buckets: `a` and `cd` are in one
abbrev bucket_cases : List (List ℕ × ℕ)
bucket_cases = ([], 0) ∷ (bytes "a", 97) ∷ (bytes "cd", 97) ∷ (bytes "dc", 127) ∷ (bytes "main", 441) ∷ []

-- a source with the names `a`, `cd`, `a` and `b`, at 0, 2, 5 and 7
abbrev source : List ℕ
source = bytes "a cd a b"

-- kind, mapped, start, length, address
abbrev entry : ℕ → Bool → ℕ → ℕ → ℕ → LabelEntry
entry k m s n a = record { kind = k; mapped = m; start = s; length = n; address = record { 0 = a } }

abbrev at : ℕ → Option WordAddress
at a = Some (record { 0 = a })

-- how many cells there are, the entries chained in them, a name of kind 0, and what is found
abbrev table_cases : List (ℕ × List LabelEntry × List ℕ × Option WordAddress)
table_cases =
    -- of two entries of one name the later is found
    (1026, entry 0 true 0 1 3 ∷ entry 0 true 5 1 8 ∷ [], bytes "a", at 8)
    -- where it is unmapped, or of another kind, the earlier is
    ∷ (1026, entry 0 true 0 1 3 ∷ entry 0 false 5 1 8 ∷ [], bytes "a", at 3)
    ∷ (1026, entry 0 true 0 1 3 ∷ entry 1 true 5 1 8 ∷ [], bytes "a", at 3)
    -- two names in one bucket, and the later of a name behind another's
    ∷ (1026, entry 0 true 0 1 3 ∷ entry 0 true 2 2 5 ∷ [], bytes "a", at 3)
    ∷ (1026, entry 0 true 0 1 3 ∷ entry 0 true 2 2 5 ∷ [], bytes "cd", at 5)
    ∷ (1027, entry 0 true 0 1 3 ∷ entry 0 true 5 1 8 ∷ entry 0 true 2 2 5 ∷ [], bytes "a", at 8)
    -- entries of another bucket between two of one
    ∷ (1028, entry 0 true 0 1 3 ∷ entry 0 true 7 1 6 ∷ entry 0 false 5 1 8 ∷ [], bytes "a", at 3)
    -- a name that no entry has, in a bucket with entries and in one without
    ∷ (1026, entry 0 true 0 1 3 ∷ entry 0 true 7 1 6 ∷ [], bytes "cd", None)
    ∷ (1026, entry 0 true 0 1 3 ∷ entry 0 true 2 2 5 ∷ [], bytes "b", None)
    ∷ (1024, [], bytes "a", None)
    -- one cell too few
    ∷ (1025, entry 0 true 0 1 3 ∷ entry 0 true 7 1 6 ∷ [], bytes "a", None)
    ∷ []

-- entries and cells, where a name of no bytes is sought, and what is found: the name's bucket is 0
abbrev place_cases : List (List LabelEntry × List ℕ × Option WordAddress)
place_cases =
    (entry 0 true 0 0 3 ∷ [], 1 ∷ [], at 3)
    -- a place past the entries
    ∷ (entry 0 true 0 0 3 ∷ [], 2 ∷ [], None)
    -- an entry's cell that leads back to the entry, and one that leads to a later entry
    ∷ (entry 0 false 0 0 3 ∷ [], 1 ∷ replicate 1023 0 ++ 1 ∷ [], None)
    ∷ (entry 0 false 0 0 3 ∷ entry 0 true 0 0 4 ∷ [], 1 ∷ replicate 1023 0 ++ 2 ∷ [], None)
    ∷ []

-- the cases are exported, since modules that export are checked first: a wrong definition is told by its case, then by the laws
pub buckets_right : map (λ c. bucket_of c.0) bucket_cases ≡ map (λ c. c.1) bucket_cases
unfolding bucket_from
buckets_right = refl

pub tables_right : map (λ c. chained_address source c.1 (chains_left source c.1 (replicate c.0 0)) 0 c.2) table_cases ≡ map (λ c. c.3) table_cases
unfolding same name_at bucket_from chained sought_from chained_address
tables_right = refl

pub places_right : map (λ c. chained_address source c.0 c.1 0 []) place_cases ≡ map (λ c. c.2) place_cases
unfolding same name_at bucket_from sought_from chained_address
places_right = refl
