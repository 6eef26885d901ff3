-- The loop that chains a table's entries: the chains to be left are those reached with the entries that follow chained.
use Prim.Native.Nat.{ℕ, suc, ◌+◌, ◌<◌, ◌≤◌}
use mathlib.Core.Path.{◌≡◌, sym, ap, ◌∙◌}
use mathlib.Core.List.{List, ◌∷◌}
use mathlib.Core.Bool.{Bool}
use native.Mathlib.Omega.{arith}
use native.Mathlib.Numerals.{add-one}
use borrow.Author.Rules.{rules}
use borrow.Author.Tests.{lt-ltb, le-ltb}
use lib.ListN.{length, get_or, set, drop, drop_of_length-le}
use lib.Seq.{drop-cons}
use Rattle.asm.specs.Parts.{name_at}
use Rattle.relocate.specs.Columns.{entries_of}
use Rattle.relocate.specs.declared.LabelEntry.{LabelEntry}
use Rattle.relocate_names.proofs.NameLaws.{entries_length, entry_at, entries_at}
use Rattle.relocate_chains.specs.Chains.{bucket_of, no_entry, chained, chains_left}

module _ (s ks : List ℕ) (ms : List Bool) (ss ls as' : List ℕ) (n : ℕ) (e : n ≡ length (entries_of ks ms ss ls as')) (ch₀ : List ℕ) where
  abbrev entries : List LabelEntry
  entries = entries_of ks ms ss ls as'

  -- without a cell for each bucket and each entry the chains are left as they are
  pub few_cells : length ch₀ < 1024 + n → ch₀ ≡ chains_left s (entries_of ks ms ss ls as') ch₀
  few_cells h = rw (lt-ltb (length ch₀) (1024 + length entries) (omega arith))

  -- nor are more entries chained than a cell can count
  pub many_entries : 1024 + n ≤ length ch₀ → 65535 < n → ch₀ ≡ chains_left s (entries_of ks ms ss ls as') ch₀
  many_entries b h = rw (le-ltb (length ch₀) (1024 + length entries) (omega arith), lt-ltb 65535 (length entries) (omega arith))

  module _ (i : ℕ) (ch : List ℕ) (k : chained s 0 (entries_of ks ms ss ls as') ch₀ ≡ chained s i (drop i (entries_of ks ms ss ls as')) ch) where
    -- an entry is chained
    pub link_more : (p : List ℕ) (b : ℕ) → i < n → p ≡ name_at s (get_or ss i 0) (get_or ls i 0) → b ≡ bucket_of p
        → chained s 0 (entries_of ks ms ss ls as') ch₀ ≡ chained s (i + 1) (drop (i + 1) (entries_of ks ms ss ls as')) (set (set ch (1024 + i) (get_or ch b 0)) b (i + 1))
    unfolding chained
    link_more p b h q r =
        let l = entries_length ks ms ss ls as' in
        let d : drop i entries ≡ entry_at ks ms ss ls as' i ∷ drop (suc i) entries = drop-cons entries i no_entry (omega arith) ∙ ap (λ (e : LabelEntry). e ∷ drop (suc i) entries) (entries_at ks ms ss ls as' i (omega arith) (omega arith) (omega arith) (omega arith) (omega arith)) in
        k ∙ ap (λ (es : List LabelEntry). chained s i es ch) d ∙ rw (r, q, add-one i)

    -- all are
    pub link_end : n ≤ i → 1024 + n ≤ length ch₀ → n ≤ 65535 → ch ≡ chains_left s (entries_of ks ms ss ls as') ch₀
    unfolding chained
    link_end h b c =
        let d = drop_of_length-le entries {i = i} (omega arith) in
        let t = le-ltb (length ch₀) (1024 + length entries) (omega arith) in
        let u = le-ltb 65535 (length entries) (omega arith) in
        sym (rw (t, u) (k ∙ rw d))

pub ruleset link_laws = (few_cells, many_entries, link_more, link_end, rules)
