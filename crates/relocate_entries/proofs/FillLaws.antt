-- A table that is filled up to some entry: what `fill_entries` keeps.
use mathlib.Core.Path.{◌≡◌, refl, ap, ◌∙◌}
use Prim.Native.Nat.{ℕ, suc, ◌+◌, ◌<◌}
use native.Mathlib.Omega.{arith}
use borrow.Author.Rules.{rules}
use mathlib.Core.List.{List}
use lib.ListN.{length, set, length-set}
use Rattle.relocate.specs.declared.LabelEntry.{LabelEntry}
use Rattle.relocate.specs.declared.Layout.{Layout}
use Rattle.relocate_entries.specs.declared.Walk.{Walk}
use Rattle.relocate_entries.specs.declared.LabelStep.{LabelStep}
use Rattle.relocate_entries.specs.Steps.{WalkFits, label_step, walk_at, Fillable, entries_filled}

one_more : (i : ℕ) → i + 1 ≡ suc i
one_more i = omega arith

-- a walk starts with nothing counted
pub at_start : (s : List ℕ) (l : Layout) → record { progress = record { seen = 0; address = 0; host = 0 }; at = 0 } ≡ walk_at s l 0
unfolding walk_at
at_start s l = refl

-- and no entry is filled then
pub none_filled : (s : List ℕ) (l : Layout) (ys : List LabelEntry) → ys ≡ entries_filled s l ys 0
unfolding entries_filled
none_filled s l ys = refl

-- the walk fits before each entry that is filled
pub walk_fits : (s : List ℕ) (l : Layout) (n i : ℕ) (w : Walk) → Fillable s l n → i < n → w ≡ walk_at s l i → WalkFits s l w
walk_fits s l n i w f h e = rw e (f i h)

-- ---- one turn more
module _ (s : List ℕ) (l : Layout) (i : ℕ) (w : Walk) (r : LabelStep) (e : w ≡ walk_at s l i) (f : r ≡ label_step s l w) where
  -- how far the walk has come
  pub walk_more : r.walk ≡ walk_at s l (i + 1)
  unfolding walk_at
  walk_more = rw (one_more i) (ap (λ (x : LabelStep). x.walk) (f ∙ ap (label_step s l) e))

  -- and the entry that is filled
  pub filled_more : (ys t : List LabelEntry) → t ≡ entries_filled s l ys i → set t i r.entry ≡ entries_filled s l ys (i + 1)
  unfolding entries_filled
  filled_more ys t g = rw (one_more i, g) (ap (λ (x : LabelStep). set (entries_filled s l ys i) i x.entry) (f ∙ ap (label_step s l) e))

pub ruleset fill_laws = (at_start, none_filled, walk_fits, walk_more, filled_more, length-set, rules)
