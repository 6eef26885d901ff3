-- Point 1: the figures of an accepted source are those of its build, its counted length is its words, and lending just so much is enough.
use Rattle.std.specs.Prelude.{ℕ, suc, ◌≤◌, ◌⊎◌, List, [], ◌∷◌, map, Bool, false, ◌||◌, ltb, length, Option, Some, None}
use Rattle.std.proofs.Common.{inl, ap, ◌∙◌, arith, take_all}
use Rattle.std.proofs.Math.Path.{◌≡◌, refl, sym, subst}
use borrow.Author.Tests.{le-ltb}
use Rattle.std.proofs.lemmas.List.{length-map}
use Rattle.text.specs.Lists.{total}
use Rattle.text.specs.Answer.{Answer, ok, refused, ◌>>=◌, ◌>>◌, refuse_if, refuse_at}
use Rattle.text.proofs.AnswerLaws.{ok_same, ok_bind}
use Rattle.asm.specs.Rows.{counted_length, instructions}
use Rattle.asm.specs.declared.OlaAsmInstruction.{OlaAsmInstruction}
use Rattle.asm.specs.declared.AsmRow.{AsmRow}
use Rattle.relocate.specs.Labels.{prophet_kind, label_rows, address_of, holder}
use Rattle.relocate.specs.Prophets.{listed_labels, host_found, hosts_from}
use Rattle.relocate.specs.Relocate.{sorted_of, tabled, hosts_of}
use Rattle.relocate.specs.Room.{figures_of, room_of}
use Rattle.relocate.specs.declared.RoomFigures.{RoomFigures}
use Rattle.program.specs.Words.{program_words}
use Rattle.program.specs.declared.BinaryInstruction.{BinaryInstruction}
use Rattle.encoder.specs.Canonical.{names_of, canonical_program, first_misplaced}
use Rattle.encoder.specs.Assemble.{Room, Accepted, encoded_rows, assembled}
use Rattle.encoder.proofs.RowWordLaws.{rows_words, program_words_lem, rows_length}
use Rattle.encoder.proofs.AcceptedLaws.{accepted_rows}
use Rattle.promises.specs.LateLaws.{Late, ok_late, no_late, bind_late, if_late, at_late, head_late, hosts_late, program_late}
use Rattle.promises.proofs.NamePromise.{of_rows, lengths_one}

-- ---- an accepted source

-- the address after the last of all instructions is their counted length
whole_address : (is : List OlaAsmInstruction) (n : ℕ) → n ≡ length is → address_of is n ≡ total (map counted_length is)
whole_address is n e = ap total (take_all n (map counted_length is) (omega (arith, e ∙ sym (length-map is counted_length))))

module _ (s prophets : List ℕ) (room : Room) (a : Accepted) (h : assembled s prophets room ≡ ok a) where
  -- the figures of its rows
  figures_built : (rows : List AsmRow) → sorted_of s ≡ ok rows
      → figures_of rows ≡ record { labels = a.labels; instructions = length a.program; counted = address_of (instructions rows) (length a.program); words = length a.words }
  figures_built rows e =
      let r = accepted_rows s prophets room a h in
      let c = of_rows s prophets room a h rows e in
      let l : a.labels ≡ length (label_rows 0 rows) = r.labels ∙ ap (λ (x : List AsmRow). length (label_rows 0 x)) (ok_same (sym r.sorted ∙ e)) in
      let n = sym (rows_length s rows a.program c) in
      let w : length a.words ≡ (figures_of rows).words = ap length r.words ∙ program_words_lem s rows a.program c r.placed in
      sym (rw (l, whole_address (instructions rows) (length a.program) n, w) (rw n refl))

  pub room_built : (rows : List AsmRow) → sorted_of s ≡ ok rows
      → room_of s ≡ ok (record { labels = a.labels; instructions = length a.program; counted = address_of (instructions rows) (length a.program); words = length a.words })
  unfolding room_of ◌>>=◌
  room_built rows e = rw e (ap ok (figures_built rows e))

  pub counted_words : (f : RoomFigures) → room_of s ≡ ok f → f.counted ≡ f.words
  unfolding room_of
  counted_words f e =
      let x = ok_bind (sorted_of s) _ f e in
      subst (λ (f : RoomFigures). f.counted ≡ f.words) (ok_same x.2)
      (ap total (lengths_one s prophets room a h x.0 x.1 ∙ rows_words s x.0 a.program (of_rows s prophets room a h x.0 x.1)))

-- ---- 13 where the words fit

-- what is accepted of rows
abbrev taken : List AsmRow → List ℕ → List BinaryInstruction → Answer Accepted
taken rows hs bs = ok (record { labels = length (label_rows 0 rows); program = bs; words = program_words bs; hosts = hs })

-- refusals 8 to 13 and 25 where the words fit
abbrev fitted : List ℕ → List AsmRow → List ℕ → ℕ → Answer Accepted
fitted s rows prophets n = do
  hosts ← hosts_of s rows prophets
  program ← canonical_program s rows
  refuse_at (first_misplaced 0 program) 12
  refuse_if (ltb n (length hosts)) 13
  taken rows hosts program

words_enough : (s : List ℕ) (rows : List AsmRow) (prophets : List ℕ) (room : Room) → (figures_of rows).words ≤ room.words
    → encoded_rows s rows prophets room ≡ fitted s rows prophets room.hosts
unfolding encoded_rows ◌>>=◌ ◌>>◌ refuse_if refuse_at
words_enough s rows prophets room k = go (hosts_of s rows prophets) (canonical_program s rows) refl
  where
    -- what 13 and acceptance come to, the words' part of 13 being t
    ends : List ℕ → List BinaryInstruction → Bool → Answer Accepted
    ends hs bs t = refuse_if (t || ltb room.hosts (length hs)) 13 >> taken rows hs bs

    last : (hs : List ℕ) (bs : List BinaryInstruction) → canonical_program s rows ≡ ok bs → (o : Option ℕ) → first_misplaced 0 bs ≡ o
        → (refuse_at o 12 >> ends hs bs (ltb room.words (length (program_words bs)))) ≡ (refuse_at o 12 >> ends hs bs false)
    last hs bs f (Some d) g = refl
    last hs bs f None g = let w = program_words_lem s rows bs f g in rw (le-ltb room.words (length (program_words bs)) (omega arith))

    go : (x : Answer (List ℕ)) (y : Answer (List BinaryInstruction)) → canonical_program s rows ≡ y
        → (x >>= λ hs. y >>= λ bs. (refuse_at (first_misplaced 0 bs) 12 >> ends hs bs (ltb room.words (length (program_words bs)))))
        ≡ (x >>= λ hs. y >>= λ bs. (refuse_at (first_misplaced 0 bs) 12 >> ends hs bs false))
    go (refused n d) y f = refl
    go (ok hs) (refused n d) f = refl
    go (ok hs) (ok bs) f = last hs bs f (first_misplaced 0 bs) refl

-- there are as many hosts as listed prophets
hosts_listed : (s : List ℕ) (rows : List AsmRow) (k : ℕ) (labels : List (List ℕ)) (hs : List ℕ) → hosts_from s rows k labels ≡ ok hs → length hs ≡ length labels
unfolding hosts_from
hosts_listed s rows k [] hs e = sym (ap length (ok_same e))
hosts_listed s rows k (x ∷ xs) hs e =
    let a = ok_bind (host_found (instructions rows) k (holder s prophet_kind x (label_rows 0 rows))) _ hs e in
    let b = ok_bind (hosts_from s rows (suc k) xs) _ hs a.2 in
    sym (ap length (ok_same b.2)) ∙ ap suc (hosts_listed s rows (suc k) xs b.0 b.1)

-- ---- what is refused where nothing is short

-- with hosts enough 13 does not come
fitted_late : (s : List ℕ) (rows : List AsmRow) (prophets : List ℕ) (n : ℕ) → ((labels : List (List ℕ)) → listed_labels prophets ≡ ok labels → length labels ≤ n)
    → Late (fitted s rows prophets n)
unfolding hosts_of listed_labels ◌>>=◌ ◌>>◌ refuse_if
fitted_late s rows prophets n k = go (hosts_of s rows prophets) refl
  where
    few : (hs : List ℕ) → hosts_of s rows prophets ≡ ok hs → ltb n (length hs) ≡ false
    few hs e =
        let a = ok_bind (listed_labels prophets) _ hs e in
        let l = k a.0 a.1 in
        let m = hosts_listed s rows 0 a.0 hs a.2 in
        le-ltb n (length hs) (omega arith)

    listed : Late (hosts_of s rows prophets)
    listed = bind_late (listed_labels prophets) _ (if_late (ltb 16384 (length prophets)) 8 _ (inl (omega arith, omega arith)) (head_late _)) λ labels. hosts_late s rows 0 labels

    go : (x : Answer (List ℕ)) → hosts_of s rows prophets ≡ x
        → Late (x >>= λ hs. canonical_program s rows >>= λ bs. (refuse_at (first_misplaced 0 bs) 12 >> (refuse_if (ltb n (length hs)) 13 >> taken rows hs bs)))
    go (refused m d) e = no_late m d (listed m d e)
    go (ok hs) e =
        bind_late (canonical_program s rows) _ (program_late (names_of s rows) 0 (instructions rows))
        λ bs. at_late (first_misplaced 0 bs) 12 _ (inl (omega arith, omega arith)) (rw (few hs e) (ok_late _))

-- ---- lending as much as was told

module _ (s prophets : List ℕ) (room : Room) where
  -- 7 does not come, and 13 only for hosts
  table_enough : (rows : List AsmRow) → sorted_of s ≡ ok rows → (figures_of rows).labels ≤ room.entries → (figures_of rows).words ≤ room.words
      → assembled s prophets room ≡ fitted s rows prophets room.hosts
  unfolding assembled tabled ◌>>=◌ ◌>>◌ refuse_if
  table_enough rows e k l = rw (e, le-ltb room.entries (length (label_rows 0 rows)) k) (words_enough s rows prophets room l)

module _ (s prophets : List ℕ) (room : Room) (f : RoomFigures) (e : room_of s ≡ ok f) where
  -- the rows whose figures these are
  of_figures : (rows : List AsmRow) × (sorted_of s ≡ ok rows) × (f ≡ figures_of rows)
  unfolding room_of
  of_figures = let x = ok_bind (sorted_of s) _ f e in (x.0, x.1, sym (ok_same x.2))

  fits : (space : Room) → f.labels ≤ space.entries → f.words ≤ space.words → assembled s prophets space ≡ fitted s of_figures.0 prophets space.hosts
  fits space k l =
      let x = of_figures in
      let a = ap (λ (g : RoomFigures). g.labels) x.2 in
      let b = ap (λ (g : RoomFigures). g.words) x.2 in
      table_enough s prophets space x.0 x.1 (omega arith) (omega arith)

  module _ (k : f.labels ≤ room.entries) (l : f.words ≤ room.words) where
    pub room_enough : assembled s prophets room ≡ assembled s prophets (record { entries = f.labels; words = f.words; hosts = room.hosts })
    room_enough = fits room k l ∙ sym (fits (record { entries = f.labels; words = f.words; hosts = room.hosts }) (omega arith) (omega arith))

    pub room_late : ((labels : List (List ℕ)) → listed_labels prophets ≡ ok labels → length labels ≤ room.hosts)
        → (n d : ℕ) → assembled s prophets room ≡ refused n d → ((8 ≤ n) × (n ≤ 12)) ⊎ (n ≡ 25)
    room_late m n d h = fitted_late s of_figures.0 prophets room.hosts m n d (sym (fits room k l) ∙ h)

module _ (s prophets : List ℕ) (room : Room) where
  pub refused_so : (n d : ℕ) → room_of s ≡ refused n d → assembled s prophets room ≡ refused n d
  unfolding room_of assembled tabled ◌>>=◌
  refused_so n d e = go (sorted_of s) refl e
    where
      go : (x : Answer (List AsmRow)) → sorted_of s ≡ x → (x >>= λ rows. ok (figures_of rows)) ≡ refused n d → assembled s prophets room ≡ refused n d
      go (refused m c) f g = let q : ◌≡◌ {A = Answer Accepted} (refused m c) (refused n d) = cc in rw f q
      go (ok rows) f g = let z : ◌≡◌ {A = ℕ} 0 1 = cc in absurd (omega arith)
