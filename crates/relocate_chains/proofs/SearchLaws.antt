-- The search for the row that holds a name, along the chain of the name's bucket.
use Rattle.std.specs.Prelude.{Option, Some, None}
use Prim.Native.Nat.{ℕ, zero, suc, ◌+◌, ◌-◌, ◌<◌, ◌≤◌}
use mathlib.Core.Path.{◌≡◌, refl, sym, ap, ◌∙◌}
use mathlib.Core.List.{List}
use mathlib.Core.Bool.{Bool, true, false, cond}
use native.Mathlib.Omega.{arith}
use borrow.Author.Rules.{rules}
use borrow.Author.Tests.{eq-eqb, ne_eqb, eqb-true, eqb-false}
use lib.Dec.{eqb}
use lib.ListN.{length, get_or}
use Rattle.text.specs.Bytes.{same}
use Rattle.asm.specs.Parts.{name_at}
use Rattle.relocate.specs.Columns.{entries_of, entry_names, later_address}
use Rattle.relocate.specs.declared.WordAddress.{WordAddress}
use Rattle.relocate.specs.declared.LabelEntry.{LabelEntry}
use Rattle.relocate_names.proofs.NameLaws.{entries_length, entry_at, entries_at}
use Rattle.relocate_chains.specs.Chains.{bucket_of, no_entry, sought_from, chained_address}

-- ---- from a place on

module _ (s : List ℕ) (es : List LabelEntry) (ch : List ℕ) (kind : ℕ) (x : List ℕ) where
  -- the place is none of the first k entries', and no entry is found
  pub sought_past : (k at : ℕ) → k < at → sought_from s es ch kind x k at ≡ None
  unfolding sought_from
  sought_past zero at h = refl
  sought_past (suc k) at h = rw (ne_eqb at (suc k) (λ e. omega arith)) (sought_past k at (omega arith))

  -- nor at 0, which is no entry's place
  pub sought_none : (k : ℕ) → sought_from s es ch kind x k 0 ≡ None
  unfolding sought_from
  sought_none zero = refl
  sought_none (suc k) = rw (ne_eqb 0 (suc k) (λ e. omega arith)) (sought_none k)

  -- the entry at place j has the name, or the search goes on from the place that its cell holds
  abbrev from : ℕ → Option WordAddress
  from j = later_address (cond (entry_names s kind x (get_or es j no_entry)) (Some (get_or es j no_entry).address) None) (sought_from s es ch kind x j (get_or ch (1024 + j) 0))

  -- so it goes at an entry's place
  pub sought_at : (k j : ℕ) → j < k
      → sought_from s es ch kind x k (suc j) ≡ later_address (cond (entry_names s kind x (get_or es j no_entry)) (Some (get_or es j no_entry).address) None) (sought_from s es ch kind x j (get_or ch (1024 + j) 0))
  unfolding sought_from
  sought_at zero j h = absurd (omega arith)
  sought_at (suc k) j h = go (eqb (suc j) (suc k)) refl (sought_at k j)
    where
      go : (t : Bool) → eqb (suc j) (suc k) ≡ t → (j < k → sought_from s es ch kind x k (suc j) ≡ from j) → sought_from s es ch kind x (suc k) (suc j) ≡ from j
      go true e f = let q : k ≡ j = (let p = eqb-true (suc j) (suc k) e in omega arith) in rw (e, q)
      go false e f = let q = eqb-false (suc j) (suc k) e in rw e (f (omega arith))

-- ---- among the entries of five columns

module _ (s : List ℕ) (kind : ℕ) (x ks : List ℕ) (ms : List Bool) (ss ls as' ch : List ℕ) where
  abbrev entries : List LabelEntry
  entries = entries_of ks ms ss ls as'

  -- the search begins at the place that the bucket's cell holds
  pub chained_start : (n b at : ℕ) → n ≡ length (entries_of ks ms ss ls as') → b ≡ bucket_of x → at ≡ get_or ch b 0
      → chained_address s (entries_of ks ms ss ls as') ch kind x ≡ sought_from s (entries_of ks ms ss ls as') ch kind x n at
  unfolding chained_address
  chained_start n b at e f g = rw (g, f, e)

  module _ (i at : ℕ) (k : chained_address s (entries_of ks ms ss ls as') ch kind x ≡ sought_from s (entries_of ks ms ss ls as') ch kind x i at) where
    -- it ends at 0
    pub chained_none : at ≤ 0 → None ≡ chained_address s (entries_of ks ms ss ls as') ch kind x
    chained_none h = let e : at ≡ 0 = omega arith in sym (k ∙ ap (sought_from s entries ch kind x i) e ∙ sought_none s entries ch kind x i)

    -- and at a place that is not in front of the one passed
    pub chained_past : i < at → None ≡ chained_address s (entries_of ks ms ss ls as') ch kind x
    chained_past h = sym (k ∙ sought_past s entries ch kind x i at h)

    module _ (a : 0 < at) (z : at ≤ i) (b : i ≤ length (entries_of ks ms ss ls as')) where
      -- the entry at the place reached
      turn : (t : Bool) → entry_names s kind x (entry_at ks ms ss ls as' (at - 1)) ≡ t
          → chained_address s entries ch kind x ≡ later_address (cond t (Some (record { 0 = get_or as' (at - 1) 0 })) None) (sought_from s entries ch kind x (at - 1) (get_or ch (1024 + (at - 1)) 0))
      turn t h =
          let n = entries_length ks ms ss ls as' in
          let j : at ≡ suc (at - 1) = omega arith in
          let e : get_or entries (at - 1) no_entry ≡ entry_at ks ms ss ls as' (at - 1) = entries_at ks ms ss ls as' (at - 1) (omega arith) (omega arith) (omega arith) (omega arith) (omega arith) in
          k
          ∙ ap (sought_from s entries ch kind x i) j
          ∙ sought_at s entries ch kind x i (at - 1) (omega arith)
          ∙ ap (λ (e : LabelEntry). later_address (cond (entry_names s kind x e) (Some e.address) None) (sought_from s entries ch kind x (at - 1) (get_or ch (1024 + (at - 1)) 0))) e
          ∙ rw h

      -- the search goes on where the entry does not have the name
      on : (r : ℕ) → r ≡ get_or ch (1024 + (at - 1)) 0 → entry_names s kind x (entry_at ks ms ss ls as' (at - 1)) ≡ false → chained_address s entries ch kind x ≡ sought_from s entries ch kind x (at - 1) r
      on r q h = turn false h ∙ ap (sought_from s entries ch kind x (at - 1)) (sym q)

      -- so where it is unmapped
      pub chained_unmapped : (r : ℕ) → r ≡ get_or ch (1024 + (at - 1)) 0 → get_or ms (at - 1) false ≡ false
          → chained_address s (entries_of ks ms ss ls as') ch kind x ≡ sought_from s (entries_of ks ms ss ls as') ch kind x (at - 1) r
      chained_unmapped r q h = on r q (rw h)

      module _ (h : get_or ms (at - 1) false ≡ true) where
        -- where it is of another kind
        pub chained_other : (r : ℕ) → r ≡ get_or ch (1024 + (at - 1)) 0 → (get_or ks (at - 1) 0 ≡ kind → ⊥)
            → chained_address s (entries_of ks ms ss ls as') ch kind x ≡ sought_from s (entries_of ks ms ss ls as') ch kind x (at - 1) r
        chained_other r q n = on r q (rw (h, ne_eqb _ _ n))

        module _ (m : get_or ks (at - 1) 0 ≡ kind) (t : Bool) (n : t ≡ same (name_at s (get_or ss (at - 1) 0) (get_or ls (at - 1) 0)) x) where
          -- whether it has the name is what the comparison told
          named : entry_names s kind x (entry_at ks ms ss ls as' (at - 1)) ≡ t
          named = rw (h, eq-eqb _ _ m) (sym n)

          -- and where it has another name
          pub chained_miss : (r : ℕ) → r ≡ get_or ch (1024 + (at - 1)) 0 → t ≡ false
              → chained_address s (entries_of ks ms ss ls as') ch kind x ≡ sought_from s (entries_of ks ms ss ls as') ch kind x (at - 1) r
          chained_miss r q e = on r q (named ∙ e)

          -- otherwise the entry is found
          pub chained_hit : (w : WordAddress) → t ≡ true → w ≡ record { 0 = get_or as' (at - 1) 0 } → Some w ≡ chained_address s (entries_of ks ms ss ls as') ch kind x
          chained_hit w e v = ap Some v ∙ sym (turn true (named ∙ e))

pub ruleset chained_laws = (chained_start, chained_none, chained_past, chained_unmapped, chained_other, chained_miss, chained_hit, rules)
