-- A source whose label table is filled: the stages are document 01's, and the words and hosts written are those of the accepted source.
use Rattle.std.specs.Prelude.{None, Result, Ok, Err}
use Prim.Native.Nat.{ℕ, ◌≤◌}
use mathlib.Core.Path.{◌≡◌, refl, sym, ap, subst, ◌∙◌}
use mathlib.Core.List.{List, [], ◌∷◌, ◌++◌, map}
use mathlib.Core.Bool.{Bool}
use native.Mathlib.Omega.{arith}
use borrow.Author.Rules.{rules}
use borrow.Author.Tests.{le-leb, ltb-false, le-ltb}
use lib.ListN.{length, take, drop, length-map, length-append, length-take}
use lib.Seq.{sets, length-take-le}
use Rattle.text.specs.Answer.{Answer, ok, refused, ◌>>=◌, over, on_ok}
use Rattle.text.proofs.Laws.{both_false}
use Rattle.text.proofs.AnswerLaws.{not_ok, ok_same, ok_bind, if_passed, at_passed, sets_over}
use Rattle.asm.specs.Rows.{instructions}
use Rattle.asm.specs.declared.AsmRow.{AsmRow}
use Rattle.relocate.specs.Labels.{label_rows, entry_of, table_of}
use Rattle.relocate.specs.Prophets.{kept_count}
use Rattle.relocate.specs.Relocate.{tabled, hosts_of, relocate_number, relocate_detail}
use Rattle.relocate.specs.Layout.{measured, measured_numbered, layout_rows, sorted_instructions}
use Rattle.relocate.specs.Columns.{column_left, kind_of, mapped_of, start_of, length_of, address_in, entries_of, LookUp, looked_in, held_hosts, hosts_put}
use Rattle.relocate.specs.declared.LabelEntry.{LabelEntry}
use Rattle.relocate.specs.declared.Layout.{Layout}
use Rattle.relocate.specs.declared.RelocateRefusal.{RelocateRefusal}
use Rattle.relocate_laws.proofs.ColumnLaws.{held_hosts_lem, entries_columns, taken_over}
use Rattle.relocate_laws.proofs.StretchLaws.{tabled_measured, measured_order, measured_within, measured_labels, measured_words}
use Rattle.relocate_laws.proofs.WalkLaws.{sorted_start}
use Rattle.program.specs.Words.{program_words}
use Rattle.program.specs.declared.BinaryInstruction.{BinaryInstruction}
use Rattle.encoder.specs.Canonical.{canonical_program, first_misplaced}
use Rattle.encoder.specs.Assemble.{Room, Accepted, numbered, totals_of, encoded_rows, assembled, assembled_totals, words_left, hosts_left, assemble_number, assemble_detail}
use Rattle.encoder.specs.declared.AssembleRefusal.{AssembleRefusal}
use Rattle.encoder.specs.declared.AssembleRefusal.TheVariants.{Relocate}
use Rattle.encoder.specs.declared.Totals.{Totals}
use Rattle.encoder.proofs.RowWordLaws.{program_words_lem}
use Rattle.encoder_canonical.specs.Held.{held_program}
use Rattle.encoder_canonical.proofs.HeldLaws.{held_program_lem}
use Rattle.encoder_checks.specs.Checked.{checked_numbered, checked_of}
use Rattle.encoder_checks.proofs.StageLaws.{hosts_in, stages_together}
use Rattle.encoder_assemble.specs.Written.{held_words}
use Rattle.encoder_assemble.specs.Encoded.{encoded_totals}
use Rattle.encoder_assemble.proofs.WriteLaws.{held_words_lem}

-- a count that is refused was refused
hosts_refused : (x : Answer Accepted) (n d : ℕ) → hosts_in x ≡ refused n d → x ≡ refused n d
unfolding ◌>>=◌
hosts_refused (ok a) n d e = absurd (not_ok (sym e))
hosts_refused (refused m k) n d e = let f : ◌≡◌ {A = Answer ℕ} (refused m k) (refused n d) = e in again f
  where
    again : ◌≡◌ {A = Answer ℕ} (refused m k) (refused n d) → ◌≡◌ {A = Answer Accepted} (refused m k) (refused n d)
    again f = let a : m ≡ n = cc in let b : k ≡ d = cc in cc

-- what an accepted source is made of
pub record Filled (s list : List ℕ) (rows : List AsmRow) (room : Room) (a : Accepted) : Type 0 where
  pub hosts : hosts_of s rows list ≡ ok a.hosts
  pub canonical : canonical_program s rows ≡ ok a.program
  pub placed : first_misplaced 0 a.program ≡ None
  pub words : a.words ≡ program_words a.program
  pub labels : a.labels ≡ length (label_rows 0 rows)
  pub wordroom : length a.words ≤ room.words
  pub hostroom : length a.hosts ≤ room.hosts

filled : (s list : List ℕ) (rows : List AsmRow) (room : Room) (a : Accepted) → encoded_rows s rows list room ≡ ok a → Filled s list rows room a
unfolding encoded_rows
filled s list rows room a e =
    let x = ok_bind (hosts_of s rows list) _ a e in
    let y = ok_bind (canonical_program s rows) _ a x.2 in
    let p = at_passed (first_misplaced 0 y.0) _ _ a y.2 in
    let q = if_passed _ _ _ a p.1 in
    let r = both_false _ _ q.0 in
    let f : record { labels = length (label_rows 0 rows); program = y.0; words = program_words y.0; hosts = x.0 } ≡ a = ok_same q.1 in
    subst (Filled s list rows room) f
    (record { hosts = x.1; canonical = y.1; placed = p.0; words = refl; labels = refl; wordroom = ltb-false _ _ r.0; hostroom = ltb-false _ _ r.1 })

-- main's stretch lies within the source
pub within_source : (s : List ℕ) (n : ℕ) (l : Layout) → measured s n ≡ ok l → (l.start ≤ l.end) × (l.end ≤ length s)
within_source s n l h = let a = measured_order s n l h in (omega arith, measured_within s n l h)

module _ (s list : List ℕ) (n : ℕ) (l : Layout) (h : measured s n ≡ ok l) (look : LookUp) (t : look ≡ looked_in s (table_of (layout_rows s l))) where
  ordered : (l.start ≤ l.end) × (l.end ≤ length s)
  ordered = within_source s n l h

  -- the walks are over the sorted instruction (layout_rows s l)
  sorted_is : sorted_instructions s l.start l.end ≡ instructions (layout_rows s l)
  unfolding sorted_instructions
  sorted_is = rw (le-leb _ _ ordered.0, le-leb _ _ ordered.1) (ap instructions (sorted_start s l.start l.end (measured_order s n l h)))

  hosts_held : held_hosts look list ≡ hosts_of s (layout_rows s l) list
  hosts_held = ap (λ (x : LookUp). held_hosts x list) t ∙ held_hosts_lem s (layout_rows s l) list

  program_held : held_program s look 0 (sorted_instructions s l.start l.end) ≡ canonical_program s (layout_rows s l)
  program_held = rw (t, sorted_is) (held_program_lem s (layout_rows s l) 0 (instructions (layout_rows s l)))

  words_counted : (bs : List BinaryInstruction) → canonical_program s (layout_rows s l) ≡ ok bs → first_misplaced 0 bs ≡ None → length (program_words bs) ≡ l.words
  words_counted bs e m = program_words_lem s (layout_rows s l) bs e m ∙ sym (measured_words s n l h)

  module _ (entries wordroom hostroom : ℕ) where
    together : checked_of s list look l wordroom hostroom ≡ hosts_in (encoded_rows s (layout_rows s l) list (record { entries = entries; words = wordroom; hosts = hostroom }))
    together =
        stages_together s list (layout_rows s l) look l (record { entries = entries; words = wordroom; hosts = hostroom }) hosts_held program_held words_counted

    module _ (x : Result ℕ AssembleRefusal) (e : checked_numbered x ≡ checked_of s list look l wordroom hostroom) where
      -- a refusal is that of the source
      module _ (f : AssembleRefusal) (g : x ≡ Err f) where
        refused_so : encoded_rows s (layout_rows s l) list (record { entries = entries; words = wordroom; hosts = hostroom }) ≡ refused (assemble_number f) (assemble_detail f)
        refused_so = hosts_refused (encoded_rows s (layout_rows s l) list (record { entries = entries; words = wordroom; hosts = hostroom })) _ _ (sym (ap checked_numbered (sym g) ∙ e ∙ together))

        pub filled_refused : numbered (Err f) ≡ (encoded_rows s (layout_rows s l) list (record { entries = entries; words = wordroom; hosts = hostroom }) >>= λ a. ok (totals_of a))
        unfolding ◌>>=◌
        filled_refused = sym (ap (λ (y : Answer Accepted). y >>= λ a. ok (totals_of a)) refused_so)

        pub words_kept : (w : List ℕ) → w ≡ words_left (encoded_rows s (layout_rows s l) list (record { entries = entries; words = wordroom; hosts = hostroom })) w
        unfolding on_ok
        words_kept w = sym (ap (λ (y : Answer Accepted). words_left y w) refused_so)

        pub hosts_kept : (w : List ℕ) → w ≡ hosts_left (encoded_rows s (layout_rows s l) list (record { entries = entries; words = wordroom; hosts = hostroom })) w
        unfolding on_ok
        hosts_kept w = sym (ap (λ (y : Answer Accepted). hosts_left y w) refused_so)

      -- otherwise it is accepted
      module _ (count : ℕ) (g : x ≡ Ok count) where
        accepted : (a : Accepted) × (encoded_rows s (layout_rows s l) list (record { entries = entries; words = wordroom; hosts = hostroom }) ≡ ok a) × (ok (length a.hosts) ≡ ok count)
        accepted = ok_bind (encoded_rows s (layout_rows s l) list (record { entries = entries; words = wordroom; hosts = hostroom })) _ count (sym together ∙ sym e ∙ ap checked_numbered g)

        abbrev a : Accepted
        a = accepted.0

        is_filled : Filled s list (layout_rows s l) (record { entries = entries; words = wordroom; hosts = hostroom }) a
        is_filled = filled s list (layout_rows s l) (record { entries = entries; words = wordroom; hosts = hostroom }) a accepted.1

        counted : length a.hosts ≡ count
        counted = ok_same accepted.2

        words_are : held_words s look (sorted_instructions s l.start l.end) ≡ a.words
        words_are = held_words_lem s look 0 (sorted_instructions s l.start l.end) a.program (program_held ∙ is_filled.canonical) ∙ sym is_filled.words

        pub words_fit : (w : List ℕ) → wordroom ≡ length w → length (held_words s look (sorted_instructions s l.start l.end)) ≤ length w
        words_fit w k = let b = ap length words_are in let c = is_filled.wordroom in omega arith

        pub words_written : (w v : List ℕ) → wordroom ≡ length w → v ≡ sets w 0 (held_words s look (sorted_instructions s l.start l.end)) → v ≡ words_left (encoded_rows s (layout_rows s l) list (record { entries = entries; words = wordroom; hosts = hostroom })) w
        unfolding on_ok
        words_written w v k i =
            i ∙ ap (sets w 0) words_are ∙ sets_over a.words w (let c = is_filled.wordroom in omega arith)
            ∙ sym (ap (λ (y : Answer Accepted). words_left y w) accepted.1)

        hosts_over : (w v : List ℕ) → hostroom ≡ length w → v ≡ hosts_put (held_hosts look list) w → v ≡ over a.hosts w
        unfolding on_ok
        hosts_over w v k i =
            let c = is_filled.hostroom in
            i ∙ ap (λ (y : Answer (List ℕ)). hosts_put y w) (hosts_held ∙ is_filled.hosts)
            ∙ rw (le-ltb (length w) (length a.hosts) (omega arith))

        pub hosts_written : (w v : List ℕ) → hostroom ≡ length w → v ≡ hosts_put (held_hosts look list) w → v ≡ hosts_left (encoded_rows s (layout_rows s l) list (record { entries = entries; words = wordroom; hosts = hostroom })) w
        unfolding on_ok
        hosts_written w v k i = hosts_over w v k i ∙ sym (ap (λ (y : Answer Accepted). hosts_left y w) accepted.1)

        pub count_fits : (w v : List ℕ) → hostroom ≡ length w → v ≡ hosts_put (held_hosts look list) w → count ≤ length v
        count_fits w v k i =
            let c = is_filled.hostroom in
            let d = counted in
            let x = ap length (hosts_over w v k i) in
            let y = length-append a.hosts (drop (length a.hosts) w) in
            omega arith

        pub totals_told : (w v : List ℕ) (r : Result Totals AssembleRefusal) → hostroom ≡ length w → v ≡ hosts_put (held_hosts look list) w
            → r ≡ Ok (record { labels = l.labels; words = l.words; hosts = count; kept = kept_count (take count v) })
            → numbered r ≡ (encoded_rows s (layout_rows s l) list (record { entries = entries; words = wordroom; hosts = hostroom }) >>= λ a. ok (totals_of a))
        unfolding ◌>>=◌
        totals_told w v r k i j =
            let first : take count v ≡ a.hosts = ap (λ (m : ℕ). take m v) (sym counted) ∙ ap (take (length a.hosts)) (hosts_over w v k i) ∙ take_front a.hosts (drop (length a.hosts) w) in
            let b : kept_count (take count v) ≡ kept_count a.hosts = ap kept_count first in
            let c : l.labels ≡ a.labels = measured_labels s n l h ∙ sym is_filled.labels in
            let d : l.words ≡ length a.words = sym (ap length is_filled.words ∙ words_counted a.program is_filled.canonical is_filled.placed) in
            ap numbered j
            ∙ same l.labels a.labels l.words (length a.words) count (length a.hosts) (kept_count (take count v)) (kept_count a.hosts) c d (sym counted) b
            ∙ sym (ap (λ (y : Answer Accepted). y >>= λ a. ok (totals_of a)) accepted.1)
          where
            take_front : (xs ys : List ℕ) → take (length xs) (xs ++ ys) ≡ xs
            take_front [] ys = refl
            take_front (x ∷ xs) ys = ap (λ (r : List ℕ). x ∷ r) (take_front xs ys)

            same : (p p' q q' r r' u u' : ℕ) → p ≡ p' → q ≡ q' → r ≡ r' → u ≡ u'
                → ◌≡◌ {A = Answer Totals} (ok (record { labels = p; words = q; hosts = r; kept = u })) (ok (record { labels = p'; words = q'; hosts = r'; kept = u' }))
            same p p' q q' r r' u u' e f g h = cc

-- ---- assembling

module _ (s list : List ℕ) (entries wordroom hostroom : ℕ) (x : Result Layout RelocateRefusal) (e : measured_numbered x ≡ measured s entries) where
  module _ (f : RelocateRefusal) (g : x ≡ Err f) where
    assembled_refused : assembled s list (record { entries = entries; words = wordroom; hosts = hostroom }) ≡ refused (relocate_number f) (relocate_detail f)
    unfolding assembled ◌>>=◌
    assembled_refused =
        ap (λ (y : Answer (List AsmRow)). y >>= λ rows. encoded_rows s rows list (record { entries = entries; words = wordroom; hosts = hostroom }))
        (tabled_measured s entries ∙ ap (λ (y : Answer Layout). y >>= λ l. ok (layout_rows s l)) (sym e ∙ ap measured_numbered g))

    pub source_refused : numbered (Err (Relocate f)) ≡ assembled_totals s list (record { entries = entries; words = wordroom; hosts = hostroom })
    unfolding assembled_totals ◌>>=◌
    source_refused = sym (ap (λ (y : Answer Accepted). y >>= λ a. ok (totals_of a)) assembled_refused)

    source_words : (w : List ℕ) → w ≡ words_left (assembled s list (record { entries = entries; words = wordroom; hosts = hostroom })) w
    unfolding on_ok
    source_words w = sym (ap (λ (y : Answer Accepted). words_left y w) assembled_refused)

    source_hosts : (w : List ℕ) → w ≡ hosts_left (assembled s list (record { entries = entries; words = wordroom; hosts = hostroom })) w
    unfolding on_ok
    source_hosts w = sym (ap (λ (y : Answer Accepted). hosts_left y w) assembled_refused)

  -- what is not accepted is refused
  module _ (no : (l : Layout) → x ≡ Ok l → ⊥) (w : List ℕ) where
    pub refused_words : w ≡ words_left (assembled s list (record { entries = entries; words = wordroom; hosts = hostroom })) w
    refused_words = go x refl
      where
        go : (y : Result Layout RelocateRefusal) → x ≡ y → w ≡ words_left (assembled s list (record { entries = entries; words = wordroom; hosts = hostroom })) w
        go (Ok l) g = absurd (no l g)
        go (Err f) g = source_words f g w

    pub refused_hosts : w ≡ hosts_left (assembled s list (record { entries = entries; words = wordroom; hosts = hostroom })) w
    refused_hosts = go x refl
      where
        go : (y : Result Layout RelocateRefusal) → x ≡ y → w ≡ hosts_left (assembled s list (record { entries = entries; words = wordroom; hosts = hostroom })) w
        go (Ok l) g = absurd (no l g)
        go (Err f) g = source_hosts f g w

  module _ (l : Layout) (g : x ≡ Ok l) where
    source_measured : measured s entries ≡ ok l
    source_measured = sym e ∙ ap measured_numbered g

    -- with the room as the caller found it
    pub room_measured : (m : ℕ) → m ≡ entries → measured s m ≡ ok l
    room_measured m k = ap (measured s) k ∙ source_measured

    assembled_is : encoded_rows s (layout_rows s l) list (record { entries = entries; words = wordroom; hosts = hostroom }) ≡ assembled s list (record { entries = entries; words = wordroom; hosts = hostroom })
    unfolding assembled ◌>>=◌
    assembled_is =
        sym (ap (λ (y : Answer (List AsmRow)). y >>= λ rows. encoded_rows s rows list (record { entries = entries; words = wordroom; hosts = hostroom }))
        (tabled_measured s entries ∙ ap (λ (y : Answer Layout). y >>= λ l. ok (layout_rows s l)) source_measured))

    room_is : (m : ℕ) → m ≡ entries → encoded_rows s (layout_rows s l) list (record { entries = m; words = wordroom; hosts = hostroom }) ≡ assembled s list (record { entries = entries; words = wordroom; hosts = hostroom })
    room_is m k = ap (λ (m : ℕ). encoded_rows s (layout_rows s l) list (record { entries = m; words = wordroom; hosts = hostroom })) k ∙ assembled_is

    pub source_told : (m : ℕ) → m ≡ entries → (r : Result Totals AssembleRefusal) → numbered r ≡ encoded_totals s (layout_rows s l) list (record { entries = m; words = wordroom; hosts = hostroom }) → numbered r ≡ assembled_totals s list (record { entries = entries; words = wordroom; hosts = hostroom })
    unfolding assembled_totals
    source_told m k r h = h ∙ ap (λ (y : Answer Accepted). y >>= λ a. ok (totals_of a)) (room_is m k)

    pub source_wrote : (m : ℕ) → m ≡ entries → (w v : List ℕ) → v ≡ words_left (encoded_rows s (layout_rows s l) list (record { entries = m; words = wordroom; hosts = hostroom })) w → v ≡ words_left (assembled s list (record { entries = entries; words = wordroom; hosts = hostroom })) w
    source_wrote m k w v h = h ∙ ap (λ (y : Answer Accepted). words_left y w) (room_is m k)

    pub source_hosted : (m : ℕ) → m ≡ entries → (w v : List ℕ) → v ≡ hosts_left (encoded_rows s (layout_rows s l) list (record { entries = m; words = wordroom; hosts = hostroom })) w → v ≡ hosts_left (assembled s list (record { entries = entries; words = wordroom; hosts = hostroom })) w
    source_hosted m k w v h = h ∙ ap (λ (y : Answer Accepted). hosts_left y w) (room_is m k)

    -- the table that was filled
    tabled_is : tabled s entries ≡ ok (layout_rows s l)
    unfolding ◌>>=◌
    tabled_is = tabled_measured s entries ∙ ap (λ (y : Answer Layout). y >>= λ l. ok (layout_rows s l)) source_measured

    column_is : {A : Type 0} (field : LabelEntry → A) (old new : List A) → new ≡ column_left (tabled s entries) field old → take l.labels new ≡ map field (table_of (layout_rows s l))
    unfolding on_ok
    column_is field old new h =
        let rows : List AsmRow = layout_rows s l in
        let n : l.labels ≡ length (table_of rows) = measured_labels s entries l source_measured ∙ sym (length-map (label_rows 0 rows) (entry_of (instructions rows))) in
        ap (λ (k : ℕ). take k new) n
        ∙ ap (take (length (table_of rows))) (h ∙ ap (λ (y : Answer (List AsmRow)). column_left y field old) tabled_is)
        ∙ taken_over field (table_of rows) old

    -- each column has room for it
    pub column_room : {A : Type 0} (field : LabelEntry → A) (old new : List A) → new ≡ column_left (tabled s entries) field old → l.labels ≤ length new
    column_room field old new h =
        let rows : List AsmRow = layout_rows s l in
        let a : length (take l.labels new) ≡ length (table_of rows) = ap length (column_is field old new h) ∙ length-map (table_of rows) field in
        let b : l.labels ≡ length (table_of rows) = measured_labels s entries l source_measured ∙ sym (length-map (label_rows 0 rows) (entry_of (instructions rows))) in
        let c = length-take l.labels new in
        omega arith

    pub table_filled : (k k' : List ℕ) (m m' : List Bool) (p p' q q' a a' : List ℕ)
        → k' ≡ column_left (tabled s entries) kind_of k
        → m' ≡ column_left (tabled s entries) mapped_of m
        → p' ≡ column_left (tabled s entries) start_of p
        → q' ≡ column_left (tabled s entries) length_of q
        → a' ≡ column_left (tabled s entries) address_in a
        → entries_of (take l.labels k') (take l.labels m') (take l.labels p') (take l.labels q') (take l.labels a') ≡ table_of (layout_rows s l)
    table_filled k k' m m' p p' q q' a a' h i j u v =
        rw (column_is kind_of k k' h, column_is mapped_of m m' i, column_is start_of p p' j, column_is length_of q q' u, column_is address_in a a' v)
        (entries_columns (table_of (layout_rows s l)))

pub ruleset source_laws = (source_refused, rules)

-- the part that is counted is as long as its count
pub counts_told : (l : Layout) (count : ℕ) (hs : List ℕ) (r : Result Totals AssembleRefusal) → count ≤ length hs
    → r ≡ Ok (record { labels = l.labels; words = l.words; hosts = length (take count hs); kept = kept_count (take count hs) })
    → r ≡ Ok (record { labels = l.labels; words = l.words; hosts = count; kept = kept_count (take count hs) })
counts_told l count hs r h e = e ∙ ap (λ (n : ℕ). Ok (record { labels = l.labels; words = l.words; hosts = n; kept = kept_count (take count hs) })) (length-take-le count hs h)
