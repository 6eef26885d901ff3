-- The table filled entry by entry is the label table.
use Rattle.std.specs.Prelude.{Result, Ok, Err}
use Prim.Native.Nat.{ℕ, zero, suc, ◌+◌, ◌<◌, ◌≤◌}
use mathlib.Core.Path.{◌≡◌, refl, sym, ap, subst, ◌∙◌}
use mathlib.Core.List.{List, [], ◌∷◌}
use mathlib.Core.Bool.{Bool, true, false}
use native.Mathlib.Omega.{arith}
use native.Mathlib.Nat.{le_refl, zero-add}
use borrow.Author.Tests.{ltb-true, ltb-false}
use lib.Dec.{ltb}
use lib.ListN.{length}
use lib.Seq.{sets}
use Rattle.text.specs.Answer.{ok, on_ok}
use Rattle.text.proofs.AnswerLaws.{sets_over}
use Rattle.asm.specs.declared.AsmRow.TheVariants.{Instruction, LabelCall, LabelJmp, LabelProphet}
use Rattle.asm.specs.declared.LineRead.{LineRead}
use Rattle.asm.specs.declared.LineRead.TheVariants.{Blank, Row, Unreadable}
use Rattle.asm.specs.declared.RowAt.{RowAt}
use Rattle.relocate.specs.Relocate.{relocate_number, relocate_detail}
use Rattle.relocate.specs.Layout.{measured, measured_numbered, sorted_row_at}
use Rattle.relocate.specs.Columns.{table_left}
use Rattle.relocate.specs.declared.LabelEntry.{LabelEntry}
use Rattle.relocate.specs.declared.Layout.{Layout}
use Rattle.relocate.specs.declared.RelocateRefusal.{RelocateRefusal}
use Rattle.relocate_laws.proofs.StretchLaws.{measured_short, measured_room}
use Rattle.relocate_laws.proofs.WalkLaws.{sorted_end, sorted_blank, sorted_row, sorted_unreadable}
use Rattle.relocate_rows.specs.declared.Progress.{Progress}
use Rattle.relocate_rows.specs.Entries.{after, entries_after}
use Rattle.relocate_rows.proofs.LaidLaws.{entries_from, all_entries, laid, not_tabled}
use Rattle.relocate_entries.specs.declared.Walk.{Walk}
use Rattle.relocate_entries.specs.declared.LabelStep.{LabelStep}
use Rattle.relocate_entries.specs.Steps.{WalkFits, after_line, entry_in, or_later, label_step_in, walk_at, Fillable, entries_filled}
use Rattle.relocate_entries.proofs.NextLaws.{fits_line, further_on, step_line}

-- ---- one entry

-- the first entry that is left is the step's, and the others are left after it
record Took (s : List ℕ) (l : Layout) (w : Walk) (step : LabelStep) : Type 0 where
  first : entries_from s l w.progress w.at ≡ step.entry ∷ entries_from s l step.walk.progress step.walk.at
  fits : WalkFits s l step.walk

-- past the source's end no entry is left
none_past : (s : List ℕ) (l : Layout) (w : Walk) → WalkFits s l w → length s ≤ w.at → 0 < length (entries_from s l w.progress w.at) → ⊥
unfolding entries_after
none_past s l w f h k = let z = rw (sorted_end s l.start l.end w.at f.ordered f.ended h) at k in omega arith

module _ (s : List ℕ) (l : Layout) (w : Walk) (f : WalkFits s l w) (line : RowAt) (e : line ≡ sorted_row_at s l.start l.end w.at) (h : w.at < length s)
    (k : 0 < length (entries_from s l w.progress w.at))
    (later : (q : Progress) → WalkFits s l (record { progress = q; at = line.next }) → 0 < length (entries_from s l q line.next)
    → Took s l (record { progress = q; at = line.next }) (label_step_in (length s) s l q line.next)) where
  -- a line with no entry leaves the same entries
  took_later : (q : Progress) → WalkFits s l (record { progress = q; at = line.next }) → entries_from s l w.progress w.at ≡ entries_from s l q line.next
      → Took s l w (label_step_in (length s) s l q line.next)
  took_later q g x = let t = later q g (rw x at k) in record { first = x ∙ t.first; fits = t.fits }

  -- one line of the walk
  took_line : (r : LineRead) → line.read ≡ r
      → Took s l w (or_later (entry_in l.instructions w.progress r) (after_line w.progress r) line.next (label_step_in (length s) s l (after_line w.progress r) line.next))
  unfolding entries_after
  took_line Blank g =
      took_later w.progress (fits_line f line e h Blank)
      (ap (entries_after l.instructions w.progress) (sorted_blank s l.start l.end w.at line f.ordered f.ended e h g))
  took_line Unreadable g =
      took_later w.progress (fits_line f line e h Unreadable)
      (ap (entries_after l.instructions w.progress) (sorted_unreadable s l.start l.end w.at line f.ordered f.ended e h g))
  took_line (Row (Instruction i)) g =
      took_later (after w.progress (Instruction i)) (fits_line f line e h (Row (Instruction i)))
      (ap (entries_after l.instructions w.progress) (sorted_row s l.start l.end w.at line f.ordered f.ended e (Instruction i) h g))
  took_line (Row (LabelCall start n)) g = record {
    first = ap (entries_after l.instructions w.progress) (sorted_row s l.start l.end w.at line f.ordered f.ended e (LabelCall start n) h g);
    fits = fits_line f line e h (Row (LabelCall start n));
  }
  took_line (Row (LabelJmp start n)) g = record {
    first = ap (entries_after l.instructions w.progress) (sorted_row s l.start l.end w.at line f.ordered f.ended e (LabelJmp start n) h g);
    fits = fits_line f line e h (Row (LabelJmp start n));
  }
  took_line (Row (LabelProphet start n)) g = record {
    first = ap (entries_after l.instructions w.progress) (sorted_row s l.start l.end w.at line f.ordered f.ended e (LabelProphet start n) h g);
    fits = fits_line f line e h (Row (LabelProphet start n));
  }

-- where an entry is left, a step takes it; n is no less than what is left of the source
took : (s : List ℕ) (l : Layout) (n : ℕ) (w : Walk) → WalkFits s l w → length s ≤ n + w.at → 0 < length (entries_from s l w.progress w.at)
    → Took s l w (label_step_in (length s) s l w.progress w.at)
took s l zero w f h k = absurd (none_past s l w f (omega arith) k)
took s l (suc n) w f h k =
    go (ltb w.at (length s)) refl
    (λ (q : Progress). took s l n (record { progress = q; at = (sorted_row_at s l.start l.end w.at).next }))
  where
    go : (t : Bool) → ltb w.at (length s) ≡ t
        → ((q : Progress) → WalkFits s l (record { progress = q; at = (sorted_row_at s l.start l.end w.at).next })
        → length s ≤ n + (sorted_row_at s l.start l.end w.at).next
        → 0 < length (entries_from s l q (sorted_row_at s l.start l.end w.at).next)
        → Took s l (record { progress = q; at = (sorted_row_at s l.start l.end w.at).next }) (label_step_in (length s) s l q (sorted_row_at s l.start l.end w.at).next))
        → Took s l w (label_step_in (length s) s l w.progress w.at)
    go true e later =
        let line : RowAt = sorted_row_at s l.start l.end w.at in
        let a = ltb-true w.at (length s) e in
        let b = further_on f line refl a in
        subst (Took s l w) (sym (step_line s l f.ordered f.ended w.progress w.at line refl a))
        (took_line s l w f line refl a k (λ (q : Progress). λ g. λ x. later q g (omega arith) x) line.read refl)
    go false e later = absurd (none_past s l w f (ltb-false w.at (length s) e) k)

-- ---- the first n entries

-- what a table is to become is what it has become with the entries that are left put from place n on
record Put (s : List ℕ) (l : Layout) (table : List LabelEntry) (n : ℕ) : Type 0 where
  fits : WalkFits s l (walk_at s l n)
  count : n + length (entries_from s l (walk_at s l n).progress (walk_at s l n).at) ≡ length (all_entries s l)
  put : sets table 0 (all_entries s l) ≡ sets (entries_filled s l table n) n (entries_from s l (walk_at s l n).progress (walk_at s l n).at)

-- after each of the entries that a measured source has
puts : (s : List ℕ) (room : ℕ) (l : Layout) (table : List LabelEntry) → measured s room ≡ ok l → (n : ℕ) → n ≤ length (all_entries s l) → Put s l table n
unfolding walk_at entries_filled
puts s room l table m zero h =
    let v = laid s room l m in
    record {
      fits = record {
        short = measured_short s room l m;
        ordered = v.ordered;
        ended = v.ended;
        within = omega arith;
        seen = le_refl 0;
        address = le_refl 0;
      };
      count = zero-add _;
      put = refl;
    }
puts s room l table m (suc n) h =
    let w = puts s room l table m n (omega arith) in
    let c = w.count in
    let t = took s l (length s) (walk_at s l n) w.fits (omega arith) (omega arith) in
    let d = ap length t.first in
    record {
      fits = t.fits;
      count = omega arith;
      put = w.put ∙ ap (sets (entries_filled s l table n) n) t.first;
    }

-- ---- the whole table

-- where no entry is left, a table is what it was to become
put_all : (t filled : List LabelEntry) (n : ℕ) (left : List LabelEntry) → n + length left ≡ n → t ≡ sets filled n left → filled ≡ t
put_all t filled n [] h e = sym e
put_all t filled n (x ∷ left) h e = absurd (omega arith)

module _ (s : List ℕ) (t : List LabelEntry) (found : Result Layout RelocateRefusal) (h : measured_numbered found ≡ measured s (length t)) where
  module _ (l : Layout) (f : found ≡ Ok l) where
    e : measured s (length t) ≡ ok l
    e = sym h ∙ ap measured_numbered f

    -- there is room for every entry that is filled
    pub rows_fit : l.labels ≤ length t
    rows_fit = measured_room s (length t) l e

    -- the walk fits before each of them
    pub fillable : Fillable s l l.labels
    fillable i h = let v = (laid s (length t) l e).many in (puts s (length t) l [] e i (omega arith)).fits

    -- a table with all of them filled is as it is left
    pub entries_left_in : (x : List LabelEntry) → x ≡ entries_filled s l t l.labels → x ≡ table_left s t
    unfolding on_ok entries_filled
    entries_left_in x f =
        let v = laid s (length t) l e in
        let a = v.many in
        let w = puts s (length t) l t e l.labels (omega arith) in
        let c = w.count in
        f
        ∙ put_all _ _ l.labels (entries_from s l (walk_at s l l.labels).progress (walk_at s l l.labels).at) (omega arith) w.put
        ∙ sets_over (all_entries s l) t v.enough
        ∙ rw (v.table, sym v.entries)

  -- a refusal leaves it as it is
  pub refused_left : (x : RelocateRefusal) → found ≡ Err x → t ≡ table_left s t
  unfolding on_ok
  refused_left x f = rw (not_tabled s (length t) (relocate_number x) (relocate_detail x) (sym h ∙ ap measured_numbered f))
