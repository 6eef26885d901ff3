-- Refusals 8 to 13 and 25 stage by stage, and that the stages together are the papers' own order over sorted rows.
use Rattle.std.specs.Prelude.{Option, Some, None, Result, Ok, Err, ⊤}
use Prim.Native.Nat.{ℕ, ◌<◌, ◌≤◌}
use mathlib.Core.Path.{◌≡◌, refl, sym, ap, ◌∙◌}
use mathlib.Core.List.{List}
use mathlib.Core.Bool.{Bool, true, false, ◌||◌}
use borrow.Author.Rules.{rules}
use borrow.Author.Tests.{le-ltb, lt-ltb}
use lib.Dec.{ltb}
use lib.ListN.{length}
use Rattle.text.specs.Answer.{Answer, ok, refused, ◌>>=◌, ◌>>◌, refuse_if, refuse_at}
use Rattle.asm.specs.declared.AsmRow.{AsmRow}
use Rattle.relocate.specs.Labels.{label_rows}
use Rattle.relocate.specs.Relocate.{hosts_of}
use Rattle.relocate.specs.Layout.{sorted_instructions}
use Rattle.relocate.specs.Columns.{LookUp, held_hosts, host_count, listed_numbered}
use Rattle.relocate.specs.declared.Layout.{Layout}
use Rattle.relocate.specs.declared.RelocateRefusal.{RelocateRefusal}
use Rattle.program.specs.Words.{program_words}
use Rattle.program.specs.declared.BinaryInstruction.{BinaryInstruction}
use Rattle.encoder.specs.Canonical.{canonical_program, first_misplaced}
use Rattle.encoder.specs.Assemble.{Room, Accepted, encoded_rows}
use Rattle.encoder.specs.declared.AssembleRefusal.{AssembleRefusal}
use Rattle.encoder.specs.declared.AssembleRefusal.TheVariants.{Relocate, RoomTooShort}
use Rattle.encoder_canonical.specs.Held.{held_program}
use Rattle.encoder_walks.specs.Walks.{resolution_numbered, held_passed}
use Rattle.encoder_checks.specs.Checked.{checked_numbered, rows_checked, checked_of}

-- ---- 10 to 13 and 25, one law for each way out

module _ (s : List ℕ) (look : LookUp) (l : Layout) (wordroom hostroom hosts : ℕ) (r : Result ⊤ AssembleRefusal) (e : resolution_numbered r ≡ held_passed s look (sorted_instructions s l.start l.end)) where
  pub rows_unresolved : (f : AssembleRefusal) → r ≡ Err f → checked_numbered (Err f) ≡ rows_checked s look l wordroom hostroom hosts
  unfolding rows_checked ◌>>◌
  rows_unresolved f g = rw (sym e, g)

  module _ (g : r ≡ Ok tt) where
    roomed : rows_checked s look l wordroom hostroom hosts ≡ (refuse_if (ltb wordroom l.words || ltb hostroom hosts) 13 >> ok hosts)
    unfolding rows_checked ◌>>◌
    roomed = rw (sym e, g)

    pub rows_words : wordroom < l.words → checked_numbered (Err RoomTooShort) ≡ rows_checked s look l wordroom hostroom hosts
    unfolding ◌>>◌ refuse_if
    rows_words j = sym (roomed ∙ rw (lt-ltb wordroom l.words j))

    pub rows_hosts : l.words ≤ wordroom → hostroom < hosts → checked_numbered (Err RoomTooShort) ≡ rows_checked s look l wordroom hostroom hosts
    unfolding ◌>>◌ refuse_if
    rows_hosts j k = sym (roomed ∙ rw (le-ltb wordroom l.words j, lt-ltb hostroom hosts k))

    pub rows_pass : l.words ≤ wordroom → hosts ≤ hostroom → checked_numbered (Ok hosts) ≡ rows_checked s look l wordroom hostroom hosts
    unfolding ◌>>◌ refuse_if
    rows_pass j k = sym (roomed ∙ rw (le-ltb wordroom l.words j, le-ltb hostroom hosts k))

pub ruleset rows_laws = (rows_unresolved, rows_words, rows_hosts, rows_pass, rules)

-- ---- 8 and 9 before them

module _ (s list : List ℕ) (look : LookUp) (l : Layout) (wordroom hostroom : ℕ) (x : Result ℕ RelocateRefusal) (e : listed_numbered x ≡ host_count (held_hosts look list)) where
  pub list_refused : (f : RelocateRefusal) → x ≡ Err f → checked_numbered (Err (Relocate f)) ≡ checked_of s list look l wordroom hostroom
  unfolding checked_of ◌>>=◌
  list_refused f g = sym (ap (λ (y : Answer ℕ). y >>= rows_checked s look l wordroom hostroom) (sym e ∙ ap listed_numbered g))

  pub list_passed : (n : ℕ) (r : Result ℕ AssembleRefusal) → x ≡ Ok n → checked_numbered r ≡ rows_checked s look l wordroom hostroom n → checked_numbered r ≡ checked_of s list look l wordroom hostroom
  unfolding checked_of ◌>>=◌
  list_passed n r g h = h ∙ sym (ap (λ (y : Answer ℕ). y >>= rows_checked s look l wordroom hostroom) (sym e ∙ ap listed_numbered g))

pub ruleset list_laws = (list_refused, list_passed, rules)

-- ---- the stages and the order of document 01

-- how many hosts an accepted source has
abbrev pub hosts_in : Answer Accepted → Answer ℕ
hosts_in x = x >>= λ a. ok (length a.hosts)

module _ (s list : List ℕ) (rows : List AsmRow) (look : LookUp) (l : Layout) (room : Room)
    (hosts : held_hosts look list ≡ hosts_of s rows list)
    (program : held_program s look 0 (sorted_instructions s l.start l.end) ≡ canonical_program s rows)
    (words : (bs : List BinaryInstruction) → canonical_program s rows ≡ ok bs → first_misplaced 0 bs ≡ None → length (program_words bs) ≡ l.words) where
  pub stages_together : checked_of s list look l room.words room.hosts ≡ hosts_in (encoded_rows s rows list room)
  unfolding checked_of rows_checked held_passed encoded_rows ◌>>=◌ ◌>>◌ refuse_at refuse_if
  stages_together =
      ap (λ (x : Answer (List ℕ)). host_count x >>= λ h. stage h (held_program s look 0 (sorted_instructions s l.start l.end))) hosts
      ∙ ap (λ (c : Answer (List BinaryInstruction)). host_count (hosts_of s rows list) >>= λ h. stage h c) program
      ∙ go (hosts_of s rows list) (canonical_program s rows) refl
    where
      stage : ℕ → Answer (List BinaryInstruction) → Answer ℕ
      stage h c = (c >>= λ bs. refuse_at (first_misplaced 0 bs) 12) >> (refuse_if (ltb room.words l.words || ltb room.hosts h) 13 >> ok h)

      last : (hs : List ℕ) (bs : List BinaryInstruction) → canonical_program s rows ≡ ok bs → (o : Option ℕ) → first_misplaced 0 bs ≡ o
          → (refuse_at o 12 >> (refuse_if (ltb room.words l.words || ltb room.hosts (length hs)) 13 >> ok (length hs)))
          ≡ hosts_in (refuse_at o 12 >> (refuse_if (ltb room.words (length (program_words bs)) || ltb room.hosts (length hs)) 13 >> ok (record { labels = length (label_rows 0 rows); program = bs; words = program_words bs; hosts = hs })))
      last hs bs e (Some k) f = refl
      last hs bs e None f = rw (words bs e f) (end (ltb room.words l.words || ltb room.hosts (length hs)))
        where
          end : (t : Bool) → (refuse_if t 13 >> ok (length hs)) ≡ hosts_in (refuse_if t 13 >> ok (record { labels = length (label_rows 0 rows); program = bs; words = program_words bs; hosts = hs }))
          end true = refl
          end false = refl

      go : (x : Answer (List ℕ)) (y : Answer (List BinaryInstruction)) → canonical_program s rows ≡ y
          → ((x >>= λ hs. ok (length hs)) >>= λ h. stage h y)
          ≡ hosts_in (x >>= λ hs. y >>= λ bs. (refuse_at (first_misplaced 0 bs) 12 >> (refuse_if (ltb room.words (length (program_words bs)) || ltb room.hosts (length hs)) 13 >> ok (record { labels = length (label_rows 0 rows); program = bs; words = program_words bs; hosts = hs }))))
      go (refused n d) y e = refl
      go (ok hs) (refused n d) e = refl
      go (ok hs) (ok bs) e = last hs bs e (first_misplaced 0 bs) refl
