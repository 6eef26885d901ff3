-- The sorted rows are the rows of three stretches of the source: main's, what stands before it, what stands after it.
use Rattle.std.specs.Prelude.{Option, Some, None}
use Prim.Native.Nat.{ℕ, suc, ◌<◌, ◌≤◌}
use mathlib.Core.Path.{◌≡◌, refl, sym, ap, subst, ◌∙◌}
use mathlib.Core.List.{List, [], ◌∷◌, ◌++◌, append-nil, append_assoc, map}
use mathlib.Core.Bool.{Bool, true, false}
use native.Mathlib.Omega.{arith}
use borrow.Author.Tests.{ltb-false, eqb-false, ne_eqb}
use lib.Dec.{eqb, ltb}
use lib.ListN.{length, take, length-take}
use lib.Seq.{take_all}
use Rattle.text.specs.Lists.{total}
use Rattle.text.specs.Scan.{is_empty}
use Rattle.text.specs.Answer.{Answer, ok, refused, ◌>>=◌, ◌>>◌, refuse_if, refuse_at}
use Rattle.text.proofs.AnswerLaws.{ok_same, ok_bind, if_passed, at_passed}
use Rattle.asm.specs.Parts.{pieces_after, source_pieces}
use Rattle.asm.specs.Rows.{read_rows, instructions, counted_length}
use Rattle.asm.specs.Survey.{word_count, is_main_row, count_rows, main_start, main_end, tally_of, survey_from, survey_of}
use Rattle.asm.specs.declared.AsmRow.{AsmRow}
use Rattle.asm.specs.declared.AsmRow.TheVariants.{LabelCall}
use Rattle.asm.specs.declared.Tally.{Tally}
use Rattle.relocate.specs.Scopes.{sorted_rows, main_count}
use Rattle.relocate.specs.Labels.{label_rows}
use Rattle.relocate.specs.Relocate.{first_above127, rows_read, sorted_of, tabled}
use Rattle.relocate.specs.Layout.{place_or, layout_of, laid_out, measured, stretch_rows, layout_rows}
use Rattle.relocate.specs.Room.{figures_of, room_of}
use Rattle.relocate.specs.declared.RoomFigures.{RoomFigures}
use Rattle.relocate.specs.declared.Layout.{Layout}
use Rattle.relocate_laws.proofs.SortLaws.{sorted_total}
use Rattle.relocate_laws.proofs.LengthLaws.{ReadAs, none_read, rows_read_as}
use Rattle.relocate_laws.proofs.CutLaws.{pieces_past}
use Rattle.relocate_laws.proofs.StretchRowLaws.{read_readable, CallCut, read_parted, read_before}
use Rattle.relocate_laws.proofs.ScopeLaws.{Ends, at_call, at_end, MainCut, main_cut, main_count_lem, cut_sorted, sorted_labels, sorted_instructions_count}

-- ---- main's stretch

-- the three stretches that places cut a source into, where its rows are those
record Laid (s : List ℕ) (start end : ℕ) (rows : List AsmRow) : Type 0 where
  order : start < end
  within : end ≤ length s
  sorted : stretch_rows (take end s) start ++ stretch_rows (take start s) 0 ++ stretch_rows s end ≡ rows

module _ (s : List ℕ) (rows : List AsmRow) (read : ReadAs (source_pieces s) rows) (w : MainCut s rows) where
  -- the rows of main's scope
  abbrev main : List AsmRow
  main = LabelCall w.place w.size ∷ w.within

  -- the source is cut at main's label
  cut_main : CallCut s 0 w.place w.before (main ++ w.after)
  cut_main = read_parted s 0 w.before w.place w.size (w.within ++ w.after) (subst (ReadAs (source_pieces s)) w.whole read)

  -- where main's rows stand from its label to a place and the others from there on, the three stretches are the sorted rows
  three : (end : ℕ) (after : List AsmRow) → ReadAs (pieces_after (take end s) w.place) main → ReadAs (pieces_after s end) after → w.after ≡ after → end ≤ length s
      → Laid s w.place end (sorted_rows s rows)
  three end after a b e l =
      let n = read_before (take end s) w.place (LabelCall w.place w.size) w.within a in
      let m = length-take end s in
      record {
        order = omega arith;
        within = l;
        sorted =
            rw (read_readable a, read_readable cut_main.front, read_readable b)
            (append_assoc main w.before after ∙ ap (λ (l : List AsmRow). main ++ (w.before ++ l)) (sym e) ∙ sym (cut_sorted s rows w));
      }

  -- that place is the next call label's, or the source's end
  laid : Laid s (place_or 0 (main_start s rows)) (place_or (length s) (main_end s rows)) (sorted_rows s rows)
  laid = rw w.begins (go w.ends refl cut_main)
    where
      go : {p : Option ℕ} {after : List AsmRow} → Ends p after → w.after ≡ after → CallCut s 0 w.place w.before (main ++ w.after)
          → Laid s w.place (place_or (length s) p) (sorted_rows s rows)
      go (at_call end n rs) e c =
          let d = read_parted s w.place main end n rs (subst (λ (l : List AsmRow). ReadAs (pieces_after s w.place) (main ++ l)) e c.back) in
          three end (LabelCall end n ∷ rs) d.front d.back e d.within
      go at_end e c =
          let a : ReadAs (pieces_after s w.place) main = subst (ReadAs (pieces_after s w.place)) (ap (λ (l : List AsmRow). main ++ l) e ∙ append-nil main) c.back in
          three (length s) [] (rw (take_all (length s) s (omega arith)) a) (rw (pieces_past s (length s) (omega arith)) none_read) e (omega arith)

-- ---- what is laid out is what is sorted

-- refusals 4 to 6 of rows that were read
abbrev sorted_after : List ℕ → List AsmRow → Answer (List AsmRow)
sorted_after s rows = do
  refuse_if (is_empty rows) 4
  refuse_if (eqb (main_count s rows) 0) 5
  refuse_if (ltb 1 (main_count s rows)) 6
  ok (sorted_rows s rows)

-- refusals 4 to 6 by the sums
abbrev laid_after : List ℕ → Tally → Answer Layout
laid_after s t = do
  refuse_if (eqb t.rows 0) 4
  refuse_if (eqb t.mains 0) 5
  refuse_if (ltb 1 t.mains) 6
  ok (layout_of s t)

-- no rows are rows that number none
none_counted : (rows : List AsmRow) → eqb (length rows) 0 ≡ is_empty rows
none_counted [] = refl
none_counted (r ∷ rs) = ne_eqb (suc (length rs)) 0 (λ e. omega arith)

-- a number that is neither 0 nor above 1
one_left : (n : ℕ) → eqb n 0 ≡ false → ltb 1 n ≡ false → n ≡ 1
one_left n a b = let h = ltb-false 1 n b in let k = eqb-false n 0 a in omega (arith, k)

module _ (s : List ℕ) where
  -- refusals 4 to 6 agree
  after_read : (rows : List AsmRow) → ReadAs (source_pieces s) rows → sorted_after s rows ≡ (laid_after s (tally_of s rows) >>= λ l. ok (layout_rows s l))
  unfolding ◌>>=◌ ◌>>◌ refuse_if
  after_read rows read = rw (main_count_lem s rows, none_counted rows) (go (is_empty rows) (eqb mains 0) refl (ltb 1 mains) refl)
    where
      mains : ℕ
      mains = count_rows (is_main_row s) rows

      go : (a b : Bool) → eqb mains 0 ≡ b → (c : Bool) → ltb 1 mains ≡ c
          → (refuse_if a 4 >> (refuse_if b 5 >> (refuse_if c 6 >> ok (sorted_rows s rows))))
          ≡ ((refuse_if a 4 >> (refuse_if b 5 >> (refuse_if c 6 >> ok (layout_of s (tally_of s rows))))) >>= λ l. ok (layout_rows s l))
      go true b e c f = refl
      go false true e c f = refl
      go false false e true f = refl
      go false false e false f = let w = main_cut s rows (one_left mains e f) in ap ok (sym (laid s rows read w).sorted)

  -- refusals 1 to 6, asked in the definitions' order or by the sums
  pub sorted_laid : sorted_of s ≡ (laid_out s >>= λ l. ok (layout_rows s l))
  unfolding sorted_of rows_read laid_out survey_from ◌>>=◌ ◌>>◌ refuse_if refuse_at
  sorted_laid = go (ltb 65536 (length s)) (first_above127 0 s) (read_rows 0 (source_pieces s)) (rows_read_as 0 (source_pieces s))
    where
      go : (a : Bool) (b : Option ℕ) (x : Answer (List AsmRow)) → ((rows : List AsmRow) → x ≡ ok rows → ReadAs (source_pieces s) rows)
          → ((refuse_if a 1 >> (refuse_at b 2 >> x)) >>= sorted_after s)
          ≡ ((refuse_if a 1 >> (refuse_at b 2 >> ((x >>= λ rs. ok (tally_of s rs)) >>= laid_after s))) >>= λ l. ok (layout_rows s l))
      go true b x f = refl
      go false (Some d) x f = refl
      go false None (refused n d) f = refl
      go false None (ok rows) f = after_read rows (f rows refl)

-- ---- what an accepted layout says

-- the rows that a layout's sums were made of
record Accepted (s : List ℕ) (l : Layout) : Type 0 where
  rows : List AsmRow
  short : length s ≤ 65536
  read : ReadAs (source_pieces s) rows
  cut : MainCut s rows
  is : layout_of s (tally_of s rows) ≡ l

-- every accepted layout's were
accepted : (s : List ℕ) (l : Layout) → laid_out s ≡ ok l → Accepted s l
unfolding laid_out survey_from
accepted s l h =
    let a = if_passed (ltb 65536 (length s)) 1 _ l h in
    let b = at_passed (first_above127 0 s) 2 _ l a.1 in
    let c = ok_bind (survey_of s) (laid_after s) l b.1 in
    let d = ok_bind (read_rows 0 (source_pieces s)) (λ (rs : List AsmRow). ok (tally_of s rs)) c.0 c.1 in
    let t : tally_of s d.0 ≡ c.0 = ok_same d.2 in
    let k : laid_after s (tally_of s d.0) ≡ ok l = ap (laid_after s) t ∙ c.2 in
    let e = if_passed (eqb (length d.0) 0) 4 _ l k in
    let f = if_passed (eqb (count_rows (is_main_row s) d.0) 0) 5 _ l e.1 in
    let g = if_passed (ltb 1 (count_rows (is_main_row s) d.0)) 6 _ l f.1 in
    record {
      rows = d.0;
      short = ltb-false 65536 (length s) a.0;
      read = rows_read_as 0 (source_pieces s) d.0 d.1;
      cut = main_cut s d.0 (one_left (count_rows (is_main_row s) d.0) f.0 g.0);
      is = ok_same g.1;
    }

module _ (s : List ℕ) (l : Layout) (h : laid_out s ≡ ok l) where
  -- the rows that this layout's sums were made of
  abbrev took : Accepted s l
  took = accepted s l h

  -- its stretches are the sorted rows
  is_laid : Laid s l.start l.end (sorted_rows s took.rows)
  is_laid = subst (λ (l : Layout). Laid s l.start l.end (sorted_rows s took.rows)) took.is (laid s took.rows took.read took.cut)

  -- there are as many label rows
  laid_labels : l.labels ≡ length (label_rows 0 (layout_rows s l))
  laid_labels = ap (λ (l : Layout). l.labels) (sym took.is) ∙ sym (sorted_labels s took.rows took.cut) ∙ ap (λ (rs : List AsmRow). length (label_rows 0 rs)) (sym is_laid.sorted)

  -- as many instructions
  laid_instructions : l.instructions ≡ length (instructions (layout_rows s l))
  laid_instructions =
      ap (λ (l : Layout). l.instructions) (sym took.is) ∙ sym (sorted_instructions_count s took.rows) ∙ ap (λ (rs : List AsmRow). length (instructions rs)) (sym is_laid.sorted)

  -- their counted length
  laid_counted : l.counted ≡ total (map counted_length (instructions (layout_rows s l)))
  laid_counted =
      ap (λ (l : Layout). l.counted) (sym took.is)
      ∙ sym (sorted_total counted_length s took.rows)
      ∙ ap (λ (rs : List AsmRow). total (map counted_length (instructions rs))) (sym is_laid.sorted)

  -- their words
  laid_words : l.words ≡ total (map word_count (instructions (layout_rows s l)))
  laid_words =
      ap (λ (l : Layout). l.words) (sym took.is)
      ∙ sym (sorted_total word_count s took.rows)
      ∙ ap (λ (rs : List AsmRow). total (map word_count (instructions rs))) (sym is_laid.sorted)

-- ---- what is measured is what is tabled

-- refusal 7
abbrev fitting : ℕ → List AsmRow → Answer (List AsmRow)
fitting room rows = do
  refuse_if (ltb room (length (label_rows 0 rows))) 7
  ok rows

pub tabled_measured : (s : List ℕ) (room : ℕ) → tabled s room ≡ (measured s room >>= λ l. ok (layout_rows s l))
unfolding tabled measured ◌>>=◌ ◌>>◌ refuse_if
tabled_measured s room = ap (λ (x : Answer (List AsmRow)). x >>= fitting room) (sorted_laid s) ∙ go (laid_out s) refl
  where
    fit : (l : Layout) (t : Bool) → (refuse_if t 7 >> ok (layout_rows s l)) ≡ ((refuse_if t 7 >> ok l) >>= λ l. ok (layout_rows s l))
    fit l true = refl
    fit l false = refl

    go : (x : Answer Layout) → laid_out s ≡ x
        → ((x >>= λ l. ok (layout_rows s l)) >>= fitting room) ≡ ((x >>= λ l. (refuse_if (ltb room l.labels) 7 >> ok l)) >>= λ l. ok (layout_rows s l))
    go (refused n d) e = refl
    go (ok l) e = rw (← laid_labels s l e) (fit l (ltb room l.labels))

-- the four sums of a layout
abbrev pub layout_figures : Layout → RoomFigures
layout_figures l = record { labels = l.labels; instructions = l.instructions; counted = l.counted; words = l.words }

-- the figures of a source are its layout's
pub room_laid : (s : List ℕ) → room_of s ≡ (laid_out s >>= λ l. ok (layout_figures l))
unfolding room_of ◌>>=◌
room_laid s = ap (λ (x : Answer (List AsmRow)). x >>= λ rows. ok (figures_of rows)) (sorted_laid s) ∙ go (laid_out s) refl
  where
    go : (x : Answer Layout) → laid_out s ≡ x → ((x >>= λ l. ok (layout_rows s l)) >>= λ rows. ok (figures_of rows)) ≡ (x >>= λ l. ok (layout_figures l))
    go (refused n d) e = refl
    go (ok l) e = sym (rw (laid_labels s l e, laid_instructions s l e, laid_counted s l e, laid_words s l e))

-- a measured layout was laid out, and its label rows fit
measured_laid : (s : List ℕ) (room : ℕ) (l : Layout) → measured s room ≡ ok l → (laid_out s ≡ ok l) × (l.labels ≤ room)
unfolding measured
measured_laid s room l h =
    let a = ok_bind (laid_out s) _ l h in
    let b = if_passed (ltb room a.0.labels) 7 _ l a.2 in
    let e : a.0 ≡ l = ok_same b.1 in
    (a.1 ∙ ap ok e, subst (λ (l : Layout). l.labels ≤ room) e (ltb-false room a.0.labels b.0))

module _ (s : List ℕ) (room : ℕ) (l : Layout) (h : measured s room ≡ ok l) where
  abbrev was : laid_out s ≡ ok l
  was = (measured_laid s room l h).0

  -- main's scope has a byte
  pub measured_order : l.start < l.end
  measured_order = (is_laid s l was).order

  -- it lies within the source
  pub measured_within : l.end ≤ length s
  measured_within = (is_laid s l was).within

  -- the source is not too long
  pub measured_short : length s ≤ 65536
  measured_short = (took s l was).short

  -- the label rows fit
  pub measured_room : l.labels ≤ room
  measured_room = (measured_laid s room l h).1

  -- there are as many label rows
  pub measured_labels : l.labels ≡ length (label_rows 0 (layout_rows s l))
  measured_labels = laid_labels s l was

  -- as many instructions
  pub measured_instructions : l.instructions ≡ length (instructions (layout_rows s l))
  measured_instructions = laid_instructions s l was

  -- their counted length
  pub measured_counted : l.counted ≡ total (map counted_length (instructions (layout_rows s l)))
  measured_counted = laid_counted s l was

  -- their words
  pub measured_words : l.words ≡ total (map word_count (instructions (layout_rows s l)))
  measured_words = laid_words s l was
