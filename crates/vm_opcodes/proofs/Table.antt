-- A table's rule: one test of the whole table, which antt computes, gives each of its entries.
use mathlib.Core.Path.{◌≡◌, refl, sym, ap, ◌∙◌}
use mathlib.Core.Bool.{cond}
use mathlib.Core.List.{List, [], ◌∷◌, map}
use Prim.Native.Nat.{ℕ, zero, suc, ◌+◌, ◌<◌}
use native.Mathlib.Nat.{add-zero, zero-add, add-suc, suc-add, le_of_suc-le-suc, not-suc-le-zero}
use native.Mathlib.Omega.{arith}
use denote.Ref.{Bor}
use lib.Dec.{ltb}
use lib.ListN.{length, get_or}
use Rattle.std.specs.Prelude.{Option, Some, None}
use Rattle.std.specs.Option.{option_copied}
use Rattle.std.specs.Slice.{IsItemAt}

-- ---- a table of any entries that is a list's image

module _ {X Y : Type 0} (f : X → Y) (d : X) (e : Y) where
  mapped : (xs : List X) (k : ℕ) → k < length xs → get_or (map f xs) k e ≡ f (get_or xs k d)
  mapped [] k h = absurd (not-suc-le-zero h)
  mapped (x ∷ xs) zero h = refl
  mapped (x ∷ xs) (suc k) h = mapped xs k (le_of_suc-le-suc h)

  -- entry k is the image of the list's entry k; d and e stand past the ends and do not matter
  pub at : (xs : List X) (table : List Y) → table ≡ map f xs → (k : ℕ) → k < length xs → get_or table k e ≡ f (get_or xs k d)
  at xs table t k h = ap (λ (l : List Y). get_or l k e) t ∙ mapped xs k h

-- what `get` and `copied` give of a table: its entry i, or none past its end; d stands past the end and does not matter
pub copied_at : {Y : Type 0} (table : List Y) (d : Y) (i : ℕ) (r : Option (Bor Y)) → IsItemAt table i r → option_copied r ≡ cond (ltb i (length table)) (Some (get_or table i d)) None
copied_at table d i None h = rw (← h.0)
copied_at table d i (Some x) h = rw (← h.0) (ap Some (h.4 (omega arith) d))

-- ---- a table of n entries by their places: entry i is f i
module _ {Y : Type 0} (f : ℕ → Y) (e : Y) where
  -- n entries from place k on
  abbrev pub entries : ℕ → ℕ → List Y
  entries zero k = []
  entries (suc n) k = f k ∷ entries n (suc k)

  entry : (n k i : ℕ) → i < n → get_or (entries n k) i e ≡ f (k + i)
  entry zero k i h = absurd (not-suc-le-zero h)
  entry (suc n) k zero h = ap f (sym (add-zero k))
  entry (suc n) k (suc i) h = entry n (suc k) i (le_of_suc-le-suc h) ∙ ap f (suc-add k i ∙ sym (add-suc k i))

  pub placed : (n : ℕ) (table : List Y) → table ≡ entries n 0 → (i : ℕ) → i < n → get_or table i e ≡ f i
  placed n table t i h = ap (λ (l : List Y). get_or l i e) t ∙ entry n 0 i h ∙ ap f (zero-add i)
