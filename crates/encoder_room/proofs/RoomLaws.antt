-- A table that has an entry for every label row that the source can have is as good as any longer one.
use Rattle.std.specs.Prelude.{Result}
use Prim.Native.Nat.{ℕ, ◌*◌, ◌+◌, ◌≤◌, min}
use mathlib.Core.Path.{◌≡◌, refl, sym, ap, ◌∙◌}
use mathlib.Core.List.{List}
use mathlib.Core.Bool.{Bool, true, false}
use native.Mathlib.Omega.{arith}
use borrow.Author.Tests.{ltb-true, ltb-false, lt-ltb, le-ltb}
use lib.Dec.{ltb}
use lib.ListN.{length, take, replicate, length-replicate, length-take}
use Rattle.text.specs.Answer.{Answer, ok, refused, ◌>>=◌, ◌>>◌, refuse_if}
use Rattle.asm.specs.declared.AsmRow.{AsmRow}
use Rattle.relocate.specs.Labels.{label_rows}
use Rattle.relocate.specs.Relocate.{sorted_of, tabled}
use Rattle.relocate_laws.proofs.LengthLaws.{sorted_length}
use Rattle.relocate_names.specs.Shortest.{shortest_of}
use Rattle.encoder.specs.Assemble.{Accepted, numbered, totals_of, encoded_rows, assembled, assembled_totals, words_left, hosts_left}
use Rattle.encoder_assemble.proofs.LabelLaws.{label_bytes}
use Rattle.encoder.specs.declared.AssembleRefusal.{AssembleRefusal}
use Rattle.encoder.specs.declared.Totals.{Totals}

-- the same refusals with a room that is cut to n, where there are n label rows at most
same_test : (room n labels : ℕ) → labels ≤ n → ltb (min room n) labels ≡ ltb room labels
same_test room n labels h = go (ltb room labels) refl
  where
    go : (t : Bool) → ltb room labels ≡ t → ltb (min room n) labels ≡ ltb room labels
    go true e = let k = ltb-true room labels e in lt-ltb (min room n) labels (omega arith) ∙ sym e
    go false e = let k = ltb-false room labels e in le-ltb (min room n) labels (omega arith) ∙ sym e

module _ (s : List ℕ) (room n : ℕ) (fits : length s ≤ 65536 → length s ≤ 3 * n + 1) where
  labels_fit : (rows : List AsmRow) → sorted_of s ≡ ok rows → length (label_rows 0 rows) ≤ n
  labels_fit rows h = let a = fits (sorted_length s rows h) in let b = label_bytes s rows h in omega arith

  -- refusals 1 to 7
  room_tabled : tabled s (min room n) ≡ tabled s room
  unfolding tabled ◌>>=◌
  room_tabled = go (sorted_of s) labels_fit
    where
      go : (x : Answer (List AsmRow)) → ((rows : List AsmRow) → x ≡ ok rows → length (label_rows 0 rows) ≤ n)
          → (x >>= λ rows. refuse_if (ltb (min room n) (length (label_rows 0 rows))) 7 >> ok rows)
          ≡ (x >>= λ rows. refuse_if (ltb room (length (label_rows 0 rows))) 7 >> ok rows)
      go (refused k d) f = refl
      go (ok rows) f = rw (same_test room n (length (label_rows 0 rows)) (f rows refl))

-- ---- a table of n entries, its first column cut to k of them

-- how many entries of a column are left
pub cut_count : {A : Type 0} (x : A) (room n k : ℕ) → k ≡ min room n → k ≡ length (take k (replicate n x))
cut_count x room n k e = let a = length-replicate n x in let b = length-take k (replicate n x) in omega arith

-- how many entries the table has
abbrev cut_entries : ℕ → ℕ → ℕ
cut_entries n k = shortest_of (length (take k (replicate {A = ℕ} n 0))) (length (replicate n false)) (length (replicate {A = ℕ} n 0)) (length (replicate {A = ℕ} n 0)) (length (replicate {A = ℕ} n 0))

cut_entries_lem : (room n k : ℕ) → k ≡ min room n → cut_entries n k ≡ min room n
cut_entries_lem room n k e =
    let a = cut_count {A = ℕ} 0 room n k e in
    let b = length-replicate n false in
    let d = length-replicate {A = ℕ} n 0 in
    omega arith

module _ (s list : List ℕ) (room n k words hosts : ℕ) (fits : length s ≤ 65536 → length s ≤ 3 * n + 1) (e : k ≡ min room n) where
  -- with so many entries a source is assembled as with all the room
  cut_assembled : assembled s list (record { entries = cut_entries n k; words = words; hosts = hosts }) ≡ assembled s list (record { entries = room; words = words; hosts = hosts })
  unfolding assembled encoded_rows
  cut_assembled =
      ap (λ (y : Answer (List AsmRow)). y >>= λ rows. encoded_rows s rows list (record { entries = room; words = words; hosts = hosts }))
      (ap (tabled s) (cut_entries_lem room n k e) ∙ room_tabled s room n fits)

  -- the answer
  pub cut_told : (r : Result Totals AssembleRefusal) → numbered r ≡ assembled_totals s list (record { entries = cut_entries n k; words = words; hosts = hosts }) → numbered r ≡ assembled_totals s list (record { entries = room; words = words; hosts = hosts })
  unfolding assembled_totals
  cut_told r h = h ∙ ap (λ (y : Answer Accepted). y >>= λ a. ok (totals_of a)) cut_assembled

  -- the words
  pub cut_wrote : (w v : List ℕ) → v ≡ words_left (assembled s list (record { entries = cut_entries n k; words = words; hosts = hosts })) w → v ≡ words_left (assembled s list (record { entries = room; words = words; hosts = hosts })) w
  cut_wrote w v h = h ∙ ap (λ (y : Answer Accepted). words_left y w) cut_assembled

  -- the hosts
  pub cut_hosted : (w v : List ℕ) → v ≡ hosts_left (assembled s list (record { entries = cut_entries n k; words = words; hosts = hosts })) w → v ≡ hosts_left (assembled s list (record { entries = room; words = words; hosts = hosts })) w
  cut_hosted w v h = h ∙ ap (λ (y : Answer Accepted). hosts_left y w) cut_assembled
