-- The walk to the next label row: its lines are no more than the source has bytes, and the counts stay small.
use Rattle.std.specs.Prelude.{Option, Some, None}
use Prim.Native.Nat.{ℕ, zero, suc, ◌+◌, ◌-◌, ◌*◌, ◌<◌, ◌≤◌}
use mathlib.Core.Path.{◌≡◌, refl, sym, ◌∙◌}
use mathlib.Core.List.{List}
use mathlib.Core.Bool.{Bool, true, false}
use native.Mathlib.Omega.{arith}
use borrow.Author.Rules.{rules}
use borrow.Author.Tests.{ltb-true, lt-ltb, le-ltb}
use lib.Dec.{ltb}
use lib.ListN.{length}
use Rattle.asm.specs.declared.AsmRow.{AsmRow}
use Rattle.asm.specs.declared.AsmRow.TheVariants.{Instruction, LabelCall, LabelJmp, LabelProphet}
use Rattle.asm.specs.declared.LineRead.{LineRead}
use Rattle.asm.specs.declared.LineRead.TheVariants.{Blank, Row, Unreadable}
use Rattle.asm.specs.declared.RowAt.{RowAt}
use Rattle.relocate.specs.Layout.{sorted_row_at}
use Rattle.relocate.specs.declared.LabelEntry.{LabelEntry}
use Rattle.relocate.specs.declared.Layout.{Layout}
use Rattle.relocate_laws.proofs.WalkLaws.{sorted_next_past, sorted_next_within}
use Rattle.relocate_rows.specs.declared.Progress.{Progress}
use Rattle.relocate_rows.specs.Entries.{label_entry, entry_of_row, largest_count, advanced}
use Rattle.relocate_rows.proofs.Laws.{counted_length_le, come_after}
use Rattle.relocate_entries.specs.declared.Walk.{Walk}
use Rattle.relocate_entries.specs.declared.LabelStep.{LabelStep}
use Rattle.relocate_entries.specs.Steps.{WalkFits, entry_in, after_line, step_at, or_later, label_step_in}

-- ---- how many lines are asked

module _ (s : List ℕ) (l : Layout) where
  -- past the source's end there is no label row, however many lines are asked
  step_past : (n : ℕ) (p : Progress) (at : ℕ) → length s ≤ at → label_step_in n s l p at ≡ step_at (label_entry 0 false 0 0 0) p at
  unfolding label_step_in
  step_past zero p at h = refl
  step_past (suc n) p at h = rw (le-ltb at (length s) h)

  module _ (a : l.start ≤ l.end) (b : l.end ≤ length s) where
    -- more lines than there are bytes left say no more
    step_enough : (n m : ℕ) (p : Progress) (at : ℕ) → length s ≤ n + at → length s ≤ m + at → label_step_in n s l p at ≡ label_step_in m s l p at
    unfolding label_step_in
    step_enough zero m p at h k = sym (step_past m p at (omega arith))
    step_enough (suc n) zero p at h k = step_past (suc n) p at (omega arith)
    step_enough (suc n) (suc m) p at h k =
        let line : RowAt = sorted_row_at s l.start l.end at in
        go (ltb at (length s)) refl (step_enough n m (after_line p line.read) line.next)
      where
        go : (t : Bool) → ltb at (length s) ≡ t
            → (length s ≤ n + (sorted_row_at s l.start l.end at).next
            → length s ≤ m + (sorted_row_at s l.start l.end at).next
            → label_step_in n s l (after_line p (sorted_row_at s l.start l.end at).read) (sorted_row_at s l.start l.end at).next
            ≡ label_step_in m s l (after_line p (sorted_row_at s l.start l.end at).read) (sorted_row_at s l.start l.end at).next)
            → label_step_in (suc n) s l p at ≡ label_step_in (suc m) s l p at
        go true e later =
            let further = sorted_next_past s l.start l.end at (sorted_row_at s l.start l.end at) a b refl (ltb-true at (length s) e) in
            rw (e, later (omega arith) (omega arith))
        go false e later = rw e

    -- one line of the walk
    pub step_line : (p : Progress) (at : ℕ) (line : RowAt) → line ≡ sorted_row_at s l.start l.end at → at < length s
        → label_step_in (length s) s l p at
        ≡ or_later (entry_in l.instructions p line.read) (after_line p line.read) line.next (label_step_in (length s) s l (after_line p line.read) line.next)
    unfolding label_step_in
    step_line p at line e h = go (length s) refl
      where
        go : (n : ℕ) → n ≡ length s
            → label_step_in n s l p at
            ≡ or_later (entry_in l.instructions p line.read) (after_line p line.read) line.next (label_step_in (length s) s l (after_line p line.read) line.next)
        go zero f = absurd (omega arith)
        go (suc n) f =
            let further = sorted_next_past s l.start l.end at line a b e h in
            let later = step_enough n (length s) (after_line p line.read) line.next (omega arith) (omega arith) in
            rw (lt-ltb at (length s) h, sym e, later)

-- ---- how far the walk has come

module _ {s : List ℕ} {l : Layout} {w : Walk} (f : WalkFits s l w) (line : RowAt) (e : line ≡ sorted_row_at s l.start l.end w.at) (h : w.at < length s) where
  -- the next line starts further on
  pub further_on : w.at < line.next
  further_on = sorted_next_past s l.start l.end w.at line f.ordered f.ended e h

  -- within the source
  inside : line.next ≤ length s
  inside = sorted_next_within s l.start l.end w.at line f.ordered f.ended e h

  -- what a line adds to the counts is no more than what it takes of the source allows
  after_small : (r : LineRead) → ((after_line w.progress r).seen ≤ line.next) × ((after_line w.progress r).address ≤ 3 * line.next)
  after_small Blank = let a = further_on in let b = f.seen in let c = f.address in (omega arith, omega arith)
  after_small Unreadable = let a = further_on in let b = f.seen in let c = f.address in (omega arith, omega arith)
  after_small (Row (Instruction i)) = let a = further_on in let b = f.seen in let c = f.address in let k = counted_length_le i in (omega arith, omega arith)
  after_small (Row (LabelCall start k)) = let a = further_on in let b = f.seen in let c = f.address in (omega arith, omega arith)
  after_small (Row (LabelJmp start k)) = let a = further_on in let b = f.seen in let c = f.address in (omega arith, omega arith)
  after_small (Row (LabelProphet start k)) = let a = further_on in let b = f.seen in let c = f.address in (omega arith, omega arith)

  -- the walk fits after the line
  pub fits_line : (r : LineRead) → WalkFits s l (record { progress = after_line w.progress r; at = line.next })
  fits_line r =
      let u = after_small r in
      record {
        short = f.short;
        ordered = f.ordered;
        ended = f.ended;
        within = inside;
        seen = u.0;
        address = u.1;
      }

-- ---- the loop

-- the next label row from where the walk began is that from where it is
pub record Stepping (s : List ℕ) (l : Layout) (p₀ : Progress) (at₀ : ℕ) (p : Progress) (at : ℕ) : Type 0 where
  pub fits : WalkFits s l (record { progress = p; at = at })
  pub same : label_step_in (length s) s l p₀ at₀ ≡ label_step_in (length s) s l p at

-- at the start
pub stepping_begin : (s : List ℕ) (l : Layout) (w : Walk) → WalkFits s l w → Stepping s l w.progress w.at w.progress w.at
stepping_begin s l w f = record { fits = f; same = refl }

module _ {s : List ℕ} {l : Layout} {p₀ : Progress} {at₀ : ℕ} {p : Progress} {at : ℕ} (w : Stepping s l p₀ at₀ p at) where
  -- how far it has come is small enough for one row more
  small : (p.seen ≤ largest_count) × (p.address ≤ largest_count)
  small = let a = w.fits.short in let b = w.fits.seen in let c = w.fits.address in let d = w.fits.within in (omega arith, omega arith)

  -- at the source's end there is no label row
  pub stepping_end : (r : LabelStep) → length s ≤ at → r ≡ step_at (label_entry 0 false 0 0 0) p at → r ≡ label_step_in (length s) s l p₀ at₀
  stepping_end r h e = e ∙ sym (w.same ∙ step_past s l (length s) p at h)

  module _ (line : RowAt) (e : line ≡ sorted_row_at s l.start l.end at) (h : at < length s) where
    -- what is left shrinks
    pub stepping_less : length s - line.next < length s - at
    stepping_less = let a = further_on w.fits line e h in let b = inside w.fits line e h in omega arith

    -- the line, by what it was read as
    by_line_lem : (r : LineRead) → line.read ≡ r
        → label_step_in (length s) s l p₀ at₀ ≡ or_later (entry_in l.instructions p r) (after_line p r) line.next (label_step_in (length s) s l (after_line p r) line.next)
    by_line_lem r f = w.same ∙ step_line s l w.fits.ordered w.fits.ended p at line e h ∙ rw f

    -- a line with no entry is passed
    passed : (r : LineRead) → line.read ≡ r → entry_in l.instructions p r ≡ None → Stepping s l p₀ at₀ (after_line p r) line.next
    passed r f g = record { fits = fits_line w.fits line e h r; same = by_line_lem r f ∙ rw g }

    -- as is one that is no row
    pub stepping_other : ((r : AsmRow) → line.read ≡ Row r → ⊥) → Stepping s l p₀ at₀ p line.next
    stepping_other k = go line.read refl
      where
        go : (r : LineRead) → line.read ≡ r → Stepping s l p₀ at₀ p line.next
        go Blank f = passed Blank f refl
        go Unreadable f = passed Unreadable f refl
        go (Row r) f = absurd (k r f)

    module _ (row : AsmRow) (f : line.read ≡ Row row) (found : Option LabelEntry) (g : found ≡ entry_of_row l.instructions p row) (a : Option Progress) (q : Progress) (i : a ≡ advanced p row) (j : a ≡ Some q) where
      -- a row with no entry
      pub stepping_row : found ≡ None → Stepping s l p₀ at₀ q line.next
      stepping_row k = rw (come_after p row small a i q j) (passed (Row row) f (sym g ∙ k))

      -- the entry of a label row is the next one
      pub stepping_found : (x : LabelEntry) → found ≡ Some x → step_at x q line.next ≡ label_step_in (length s) s l p₀ at₀
      stepping_found x k = sym (by_line_lem (Row row) f ∙ rw (sym g, k, come_after p row small a i q j))

pub ruleset next_laws = (stepping_begin, stepping_end, stepping_less, stepping_found, rules)
