-- The bucket of a name, byte by byte, and the cells of the chains.
use Prim.Native.Nat.{ℕ, ◌+◌, ◌*◌, ◌%◌, ◌<◌, ◌≤◌}
use mathlib.Core.Path.{◌≡◌, sym, ◌∙◌}
use mathlib.Core.List.{List, [], ◌∷◌}
use native.Mathlib.Omega.{arith}
use borrow.Author.Rules.{rules}
use lib.ListN.{length, get_or, drop, drop_of_length-le}
use Rattle.text.proofs.Laws.{drop_next}
use Rattle.relocate_chains.specs.Chains.{bucket_from, bucket_of}

module _ (x : List ℕ) (h i : ℕ) (e : bucket_of x ≡ bucket_from h (drop i x)) where
  -- a byte is added
  pub bucket_more : (b : ℕ) → i < length x → b ≡ get_or x i 0 → bucket_of x ≡ bucket_from ((h * 31 + b) % 1024) (drop (i + 1) x)
  unfolding bucket_from
  bucket_more b k q = e ∙ rw (drop_next x i k, q)

  -- the name's end
  pub bucket_end : length x ≤ i → h ≡ bucket_of x
  unfolding bucket_from
  bucket_end k = sym (e ∙ rw (drop_of_length-le x k))

pub ruleset bucket_laws = (bucket_more, bucket_end, rules)

-- there are 1024 buckets
pub bucket_from_small : (h : ℕ) (x : List ℕ) → h < 1024 → bucket_from h x < 1024
unfolding bucket_from
bucket_from_small h [] k = k
bucket_from_small h (b ∷ x) k = bucket_from_small ((h * 31 + b) % 1024) x (omega arith)

pub bucket_small : (x : List ℕ) → bucket_of x < 1024
bucket_small x = bucket_from_small 0 x (omega arith)
