-- Names as parts of a source, and the search for the row that holds one, from the table's last entry backwards.
use Rattle.std.specs.Prelude.{Option, Some, None}
use Prim.Native.Nat.{ℕ, zero, suc, ◌+◌, ◌-◌, ◌<◌, ◌≤◌}
use mathlib.Core.Path.{◌≡◌, refl, sym, ap, ◌∙◌}
use mathlib.Core.List.{List, [], ◌∷◌, ◌++◌}
use mathlib.Core.Bool.{Bool, true, false, cond}
use native.Mathlib.Omega.{arith}
use native.Mathlib.Nat.{suc-min-suc}
use borrow.Author.Rules.{rules}
use borrow.Author.Tests.{eq-eqb, ne_eqb}
use lib.ListN.{length, get_or, take, drop}
use lib.Seq.{take-suc, take_all}
use Rattle.text.specs.Bytes.{same}
use Rattle.asm.specs.Parts.{bytes_in, name_at}
use Rattle.asm.proofs.SpanLaws.{span_past, span_long, span_within}
use Rattle.relocate.specs.Columns.{entries_of, entry_names, later_address, held_address}
use Rattle.relocate.specs.declared.WordAddress.{WordAddress}
use Rattle.relocate.specs.declared.LabelEntry.{LabelEntry}
use Rattle.relocate_names.specs.Shortest.{shortest_of}

-- ---- a name as a part of a source

module _ (s : List ℕ) (start n : ℕ) where
  -- a part that starts past the end is empty
  pub name_past : length s < start → [] ≡ name_at s start n
  unfolding name_at
  name_past h = ap (bytes_in s) (span_past s start n h)

  -- and one that ends past it
  pub name_long : start ≤ length s → length s - start < n → [] ≡ name_at s start n
  unfolding name_at
  name_long h k = ap (bytes_in s) (span_long s start n h k)

  -- any other is the code's `&s[start..start + n]`
  pub name_within : start ≤ length s → n ≤ length s - start → take (start + n - start) (drop start s) ≡ name_at s start n
  unfolding name_at
  name_within h k = let e : start + n - start ≡ n = omega arith in rw e (ap (bytes_in s) (span_within s start n h k))

pub ruleset name_laws = (name_past, name_long, name_within, rules)

-- ---- the entries of five columns

-- there are as many as the shortest column has
pub entries_length : (ks : List ℕ) (ms : List Bool) (ss ls as' : List ℕ) → length (entries_of ks ms ss ls as') ≡ shortest_of (length ks) (length ms) (length ss) (length ls) (length as')
unfolding entries_of
entries_length [] ms ss ls as' = omega arith
entries_length (k ∷ ks) [] ss ls as' = omega arith
entries_length (k ∷ ks) (m ∷ ms) [] ls as' = omega arith
entries_length (k ∷ ks) (m ∷ ms) (s ∷ ss) [] as' = omega arith
entries_length (k ∷ ks) (m ∷ ms) (s ∷ ss) (l ∷ ls) [] = omega arith
entries_length (k ∷ ks) (m ∷ ms) (s ∷ ss) (l ∷ ls) (a ∷ as') = simp suc-min-suc (ap suc (entries_length ks ms ss ls as'))

-- the entry at i has what each column has there
abbrev pub entry_at : List ℕ → List Bool → List ℕ → List ℕ → List ℕ → ℕ → LabelEntry
entry_at ks ms ss ls as' i = record { kind = get_or ks i 0; mapped = get_or ms i false; start = get_or ss i 0; length = get_or ls i 0; address = record { 0 = get_or as' i 0 } }

abbrev nothing : LabelEntry
nothing = record { kind = 0; mapped = false; start = 0; length = 0; address = record { 0 = 0 } }

-- which the table has there
pub entries_at : (ks : List ℕ) (ms : List Bool) (ss ls as' : List ℕ) (i : ℕ) → i < length ks → i < length ms → i < length ss → i < length ls → i < length as'
    → get_or (entries_of ks ms ss ls as') i nothing ≡ entry_at ks ms ss ls as' i
unfolding entries_of
entries_at [] ms ss ls as' i a b c d e = absurd (omega arith)
entries_at (k ∷ ks) [] ss ls as' i a b c d e = absurd (omega arith)
entries_at (k ∷ ks) (m ∷ ms) [] ls as' i a b c d e = absurd (omega arith)
entries_at (k ∷ ks) (m ∷ ms) (s ∷ ss) [] as' i a b c d e = absurd (omega arith)
entries_at (k ∷ ks) (m ∷ ms) (s ∷ ss) (l ∷ ls) [] i a b c d e = absurd (omega arith)
entries_at (k ∷ ks) (m ∷ ms) (s ∷ ss) (l ∷ ls) (n ∷ as') zero a b c d e = refl
entries_at (k ∷ ks) (m ∷ ms) (s ∷ ss) (l ∷ ls) (n ∷ as') (suc i) a b c d e = entries_at ks ms ss ls as' i (omega arith) (omega arith) (omega arith) (omega arith) (omega arith)

-- ---- the search

-- the last entry holds the name if it has it
pub held_last : (s : List ℕ) (kind : ℕ) (x : List ℕ) (es : List LabelEntry) (e : LabelEntry)
    → held_address s kind x (es ++ e ∷ []) ≡ later_address (cond (entry_names s kind x e) (Some e.address) None) (held_address s kind x es)
unfolding held_address
held_last s kind x [] e = go (cond (entry_names s kind x e) (Some e.address) None)
  where
    go : (a : Option WordAddress) → later_address None a ≡ later_address a None
    go (Some w) = refl
    go None = refl
held_last s kind x (f ∷ es) e = rw (held_last s kind x es e) (go (cond (entry_names s kind x e) (Some e.address) None) (held_address s kind x es) (cond (entry_names s kind x f) (Some f.address) None))
  where
    go : (a b c : Option WordAddress) → later_address (later_address a b) c ≡ later_address a (later_address b c)
    go (Some w) b c = refl
    go None b c = refl

module _ (s : List ℕ) (kind : ℕ) (x ks : List ℕ) (ms : List Bool) (ss ls as' : List ℕ) where
  abbrev entries : List LabelEntry
  entries = entries_of ks ms ss ls as'

  -- the search begins behind the last entry
  pub held_start : (n : ℕ) → n ≡ shortest_of (length ks) (length ms) (length ss) (length ls) (length as')
      → held_address s kind x (entries_of ks ms ss ls as') ≡ held_address s kind x (take n (entries_of ks ms ss ls as'))
  held_start n e =
      let l = entries_length ks ms ss ls as' in
      ap (held_address s kind x) (sym (take_all n entries (omega arith)))

  module _ (n : ℕ) (m : n ≡ shortest_of (length ks) (length ms) (length ss) (length ls) (length as')) (i : ℕ) (a : 0 < i) (b : i ≤ n)
      (k : held_address s kind x (entries_of ks ms ss ls as') ≡ held_address s kind x (take i (entries_of ks ms ss ls as'))) where
    -- the entry in front of the place reached
    turn : (t : Bool) → entry_names s kind x (entry_at ks ms ss ls as' (i - 1)) ≡ t
        → held_address s kind x entries ≡ later_address (cond t (Some (record { 0 = get_or as' (i - 1) 0 })) None) (held_address s kind x (take (i - 1) entries))
    turn t h =
        let l = entries_length ks ms ss ls as' in
        let j : i ≡ suc (i - 1) = omega arith in
        let t : take i entries ≡ take (i - 1) entries ++ entry_at ks ms ss ls as' (i - 1) ∷ [] =
        ap (λ (n : ℕ). take n entries) j
        ∙ take-suc entries (i - 1) nothing (omega arith)
        ∙ ap (λ (e : LabelEntry). take (i - 1) entries ++ e ∷ []) (entries_at ks ms ss ls as' (i - 1) (omega arith) (omega arith) (omega arith) (omega arith) (omega arith)) in
        k ∙ ap (held_address s kind x) t ∙ held_last s kind x (take (i - 1) entries) (entry_at ks ms ss ls as' (i - 1)) ∙ rw h

    -- it does not hold the name if it is unmapped
    pub held_unmapped : get_or ms (i - 1) false ≡ false → held_address s kind x (entries_of ks ms ss ls as') ≡ held_address s kind x (take (i - 1) (entries_of ks ms ss ls as'))
    held_unmapped h = turn false (rw h)

    module _ (h : get_or ms (i - 1) false ≡ true) where
      -- nor if it is of another kind
      pub held_other : (get_or ks (i - 1) 0 ≡ kind → ⊥) → held_address s kind x (entries_of ks ms ss ls as') ≡ held_address s kind x (take (i - 1) (entries_of ks ms ss ls as'))
      held_other q = turn false (rw (h, ne_eqb _ _ q))

      module _ (q : get_or ks (i - 1) 0 ≡ kind) (r : Bool) (f : r ≡ same (name_at s (get_or ss (i - 1) 0) (get_or ls (i - 1) 0)) x) where
        -- whether it has the name is what the comparison told
        named : entry_names s kind x (entry_at ks ms ss ls as' (i - 1)) ≡ r
        named = rw (h, eq-eqb _ _ q) (sym f)

        -- nor if it has another name
        pub held_miss : r ≡ false → held_address s kind x (entries_of ks ms ss ls as') ≡ held_address s kind x (take (i - 1) (entries_of ks ms ss ls as'))
        held_miss e = turn false (named ∙ e)

        -- otherwise it does
        pub held_hit : (w : WordAddress) → r ≡ true → w ≡ record { 0 = get_or as' (i - 1) 0 } → Some w ≡ held_address s kind x (entries_of ks ms ss ls as')
        held_hit w e v = ap Some v ∙ sym (turn true (named ∙ e))

  -- in front of the first entry there is none
  pub held_none : (i : ℕ) → i ≤ 0 → held_address s kind x (entries_of ks ms ss ls as') ≡ held_address s kind x (take i (entries_of ks ms ss ls as')) → None ≡ held_address s kind x (entries_of ks ms ss ls as')
  unfolding held_address
  held_none i h k = let e : i ≡ 0 = omega arith in sym (k ∙ rw e)

pub ruleset held_laws = (held_start, held_unmapped, held_other, held_miss, held_hit, held_none, rules)
