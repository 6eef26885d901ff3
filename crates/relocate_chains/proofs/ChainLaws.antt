-- With the entries of a label table chained, where no bucket had an entry, the row found by the chains is the one that holds the name.
use Rattle.std.specs.Prelude.{Option, Some, None}
use Prim.Native.Nat.{ℕ, zero, suc, ◌+◌, ◌<◌, ◌≤◌}
use mathlib.Core.Path.{◌≡◌, refl, sym, ap, subst, ◌∙◌}
use mathlib.Core.List.{List, [], ◌∷◌}
use mathlib.Core.Bool.{Bool, true, false, cond, ◌&&◌}
use native.Mathlib.Omega.{arith}
use native.Mathlib.Nat.{le_refl}
use borrow.Author.Tests.{le-ltb, ne_eqb, eqb-true, eqb-false}
use lib.Dec.{eqb}
use lib.ListN.{length, get_or, set, take, drop, replicate, length-set, length-drop, length-replicate, get_or-replicate}
use lib.Seq.{drop-cons, take-suc, take-length, get_or-set_same, get_or-set_other}
use Rattle.text.specs.Bytes.{same}
use Rattle.text.proofs.SameLaws.{same_equal}
use Rattle.asm.specs.Parts.{name_at}
use Rattle.relocate.specs.Columns.{entry_names, later_address, held_address}
use Rattle.relocate.specs.declared.LabelEntry.{LabelEntry}
use Rattle.relocate_names.proofs.NameLaws.{held_last}
use Rattle.relocate_chains.specs.Chains.{bucket_of, entry_bucket, no_entry, chained, chains_left, sought_from, chained_address}
use Rattle.relocate_chains.proofs.BucketLaws.{bucket_small}
use Rattle.relocate_chains.proofs.SearchLaws.{sought_at}
use Rattle.relocate.specs.declared.WordAddress.{WordAddress}

-- ---- what the cells hold

module _ (s : List ℕ) (es : List LabelEntry) where
  -- the bucket of the entry at a place
  abbrev bucket_at : ℕ → ℕ
  bucket_at k = entry_bucket s (get_or es k no_entry)

  -- the place of the last of the first k entries in a bucket, counted from 1, 0 where there is none
  last_in : ℕ → ℕ → ℕ
  last_in zero b = 0
  last_in (suc k) b = cond (eqb (bucket_at k) b) (suc k) (last_in k b)

  -- it is among the first k
  last_within : (k b : ℕ) → last_in k b ≤ k
  unfolding last_in
  last_within zero b = le_refl 0
  last_within (suc k) b = go (eqb (bucket_at k) b) (last_within k b)
    where
      go : (t : Bool) → last_in k b ≤ k → cond t (suc k) (last_in k b) ≤ suc k
      go true h = le_refl (suc k)
      go false h = omega arith

-- the first i entries are chained: a bucket's cell holds the place of its last entry, an entry's cell that of the entry before it in its bucket
record Held (s : List ℕ) (es : List LabelEntry) (i : ℕ) (ch : List ℕ) : Type 0 where
  room : 1024 + length es ≤ length ch
  bucket : (b : ℕ) → b < 1024 → get_or ch b 0 ≡ last_in s es i b
  entry : (k : ℕ) → k < i → get_or ch (1024 + k) 0 ≡ last_in s es k (bucket_at s es k)

module _ (s : List ℕ) (es : List LabelEntry) where
  -- none is at the start
  held_none : (n : ℕ) → 1024 + length es ≤ n → Held s es 0 (replicate n 0)
  unfolding last_in
  held_none n h =
      record {
        room = let l = length-replicate {A = ℕ} n 0 in omega arith;
        bucket = λ b k. get_or-replicate n b 0 0 (omega arith);
        entry = λ k a. absurd (omega arith);
      }

  -- one more is
  held_more : (i : ℕ) (ch : List ℕ) → i < length es → Held s es i ch → Held s es (suc i) (set (set ch (1024 + i) (get_or ch (bucket_at s es i) 0)) (bucket_at s es i) (suc i))
  unfolding last_in
  held_more i ch h c =
      record {
        room = simp length-set c.room;
        bucket = λ b k. new b k (eqb at b) refl;
        entry = λ k a. get_or-set_other cells at (1024 + k) (suc i) 0 (λ q. omega (arith, small)) ∙ old k a (eqb k i) refl;
      }
    where
      at : ℕ
      at = bucket_at s es i

      -- with the entry's cell written
      cells : List ℕ
      cells = set ch (1024 + i) (get_or ch at 0)

      small : at < 1024
      small = bucket_small (name_at s (get_or es i no_entry).start (get_or es i no_entry).length)

      -- the cells of buckets
      new : (b : ℕ) → b < 1024 → (t : Bool) → eqb at b ≡ t → get_or (set cells at (suc i)) b 0 ≡ cond t (suc i) (last_in s es i b)
      new b k true e =
          let l = length-set ch (1024 + i) (get_or ch at 0) in
          ap (λ (n : ℕ). get_or (set cells at (suc i)) n 0) (sym (eqb-true at b e)) ∙ get_or-set_same cells at (suc i) 0 (omega (arith, small, c.room))
      new b k false e = get_or-set_other cells at b (suc i) 0 (λ q. eqb-false at b e (sym q)) ∙ get_or-set_other ch (1024 + i) b (get_or ch at 0) 0 (λ q. omega arith) ∙ c.bucket b k

      -- the cells of entries
      old : (k : ℕ) → k < suc i → (t : Bool) → eqb k i ≡ t → get_or cells (1024 + k) 0 ≡ last_in s es k (bucket_at s es k)
      old k a true e = rw (eqb-true k i e) (get_or-set_same ch (1024 + i) (get_or ch at 0) 0 (omega (arith, c.room)) ∙ c.bucket at small)
      old k a false e = get_or-set_other ch (1024 + i) (1024 + k) (get_or ch at 0) 0 (λ q. eqb-false k i e (omega arith)) ∙ c.entry k (let q = eqb-false k i e in omega arith)

  -- the rest is
  held_rest : (rest : List LabelEntry) (i : ℕ) (ch : List ℕ) → i ≤ length es → drop i es ≡ rest → Held s es i ch → Held s es (length es) (chained s i rest ch)
  unfolding chained
  held_rest [] i ch h e c =
      let l = length-drop i es in
      let m = ap length e in
      let q : i ≡ length es = omega arith in
      subst (λ (n : ℕ). Held s es n ch) q c
  held_rest (f ∷ rest) i ch h e c =
      let l = length-drop i es in
      let m = ap length e in
      let k : i < length es = omega arith in
      let d = drop-cons es i no_entry k in
      let q : f ≡ get_or es i no_entry = cc in
      let r : drop (suc i) es ≡ rest = cc in
      rw q (held_rest rest (suc i) _ k r (held_more i ch k c))

  -- ---- what the search finds

  module _ (ch : List ℕ) (c : Held s es (length es) ch) (kind : ℕ) (x : List ℕ) where
    -- an entry in another bucket does not have the name
    other_bucket : (e : LabelEntry) → (entry_bucket s e ≡ bucket_of x → ⊥) → entry_names s kind x e ≡ false
    other_bucket e h = go (same (name_at s e.start e.length) x) refl
      where
        off : (a b : Bool) → a && b && false ≡ false
        off true true = refl
        off true false = refl
        off false true = refl
        off false false = refl

        go : (t : Bool) → same (name_at s e.start e.length) x ≡ t → e.mapped && eqb e.kind kind && t ≡ false
        go true q = absurd (h (ap bucket_of (same_equal _ _ q)))
        go false q = off e.mapped (eqb e.kind kind)

    -- the search does not stop at an entry that is not at the place
    sought_before : (k at : ℕ) → at ≤ k → sought_from s es ch kind x (suc k) at ≡ sought_from s es ch kind x k at
    unfolding sought_from
    sought_before k at h = rw (ne_eqb at (suc k) (λ e. omega arith))

    -- from the bucket's last among the first k entries the search finds the row among them that holds the name
    sought_held : (k : ℕ) → k ≤ length es → sought_from s es ch kind x k (last_in s es k (bucket_of x)) ≡ held_address s kind x (take k es)
    unfolding last_in sought_from held_address
    sought_held zero h = refl
    sought_held (suc k) h = go (eqb (bucket_at s es k) (bucket_of x)) refl (sought_held k (omega arith))
      where
        here : LabelEntry
        here = get_or es k no_entry

        found : Option WordAddress
        found = cond (entry_names s kind x here) (Some here.address) None

        held : held_address s kind x (take (suc k) es) ≡ later_address found (held_address s kind x (take k es))
        held = ap (held_address s kind x) (take-suc es k no_entry h) ∙ held_last s kind x (take k es) here

        go : (t : Bool) → eqb (bucket_at s es k) (bucket_of x) ≡ t → sought_from s es ch kind x k (last_in s es k (bucket_of x)) ≡ held_address s kind x (take k es)
            → sought_from s es ch kind x (suc k) (cond t (suc k) (last_in s es k (bucket_of x))) ≡ held_address s kind x (take (suc k) es)
        go true e f = sought_at s es ch kind x (suc k) k (le_refl (suc k)) ∙ ap (later_address found) (ap (sought_from s es ch kind x k) (c.entry k h ∙ ap (last_in s es k) (eqb-true _ _ e)) ∙ f) ∙ sym held
        go false e f = sought_before k (last_in s es k (bucket_of x)) (last_within s es k (bucket_of x)) ∙ f ∙ sym (held ∙ rw (other_bucket here (eqb-false _ _ e)))

-- the row found by the chains is the one that holds the name
pub chains_hold : (s : List ℕ) (es : List LabelEntry) (n : ℕ) → 1024 + length es ≤ n → length es ≤ 65535 → (kind : ℕ) (x : List ℕ)
    → chained_address s es (chains_left s es (replicate n 0)) kind x ≡ held_address s kind x es
unfolding chained_address
chains_hold s es n h few kind x =
    let l = length-replicate {A = ℕ} n 0 in
    let t = le-ltb (length (replicate {A = ℕ} n 0)) (1024 + length es) (omega arith) in
    let ch = chained s 0 es (replicate n 0) in
    let c : Held s es (length es) ch = held_rest s es es 0 (replicate n 0) (omega arith) refl (held_none s es n h) in
    let u = le-ltb 65535 (length es) few in
    rw (t, u) (ap (sought_from s es ch kind x (length es)) (c.bucket (bucket_of x) (bucket_small x)) ∙ sought_held s es ch c kind x (length es) (le_refl _) ∙ ap (held_address s kind x) (take-length es))

-- so the two ways to look a name up are one
pub chains_look : (s : List ℕ) (es : List LabelEntry) (n : ℕ) → 1024 + length es ≤ n → length es ≤ 65535 → chained_address s es (chains_left s es (replicate n 0)) ≡ (λ kind x. held_address s kind x es)
chains_look s es n h few = λ i kind x. chains_hold s es n h few kind x i
