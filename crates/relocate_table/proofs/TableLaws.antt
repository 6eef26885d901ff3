-- The whole function: the room is the shortest column's, a refusal leaves every column as it was.
use Rattle.std.specs.Prelude.{Result, Ok, Err}
use Prim.Native.Nat.{ℕ, ◌≤◌}
use mathlib.Core.Path.{◌≡◌, sym, ap, ◌∙◌}
use mathlib.Core.List.{List}
use native.Mathlib.Omega.{arith}
use borrow.Author.Rules.{rules}
use Rattle.text.specs.Answer.{ok, on_ok}
use Rattle.relocate.specs.Layout.{measured, measured_numbered}
use Rattle.relocate.specs.Relocate.{tabled, relocate_number, relocate_detail}
use Rattle.relocate.specs.Columns.{column_left}
use Rattle.relocate.specs.declared.LabelEntry.{LabelEntry}
use Rattle.relocate.specs.declared.Layout.{Layout}
use Rattle.relocate.specs.declared.RelocateRefusal.{RelocateRefusal}
use Rattle.relocate_names.specs.Shortest.{shortest_of}
use Rattle.relocate_rows.proofs.LaidLaws.{not_tabled}

-- the room is at most each column's length
pub room_fits : (room a b c d e : ℕ) → room ≡ shortest_of a b c d e → (room ≤ a) × (room ≤ b) × (room ≤ c) × (room ≤ d) × (room ≤ e)
room_fits room a b c d e r = (omega arith, omega arith, omega arith, omega arith, omega arith)

module _ (s : List ℕ) (room m : ℕ) (r : room ≡ m) (found : Result Layout RelocateRefusal) (h : measured_numbered found ≡ measured s room) where
  -- what was measured is the layout
  pub layout_found : (l : Layout) → found ≡ Ok l → measured s room ≡ ok l
  layout_found l f = sym h ∙ ap measured_numbered f

  -- the answer where it is a layout
  pub answers_layout : (l : Layout) → found ≡ Ok l → measured_numbered (Ok l) ≡ measured s m
  answers_layout l f = ap measured_numbered (sym f) ∙ h ∙ ap (measured s) r

  -- and where it is a refusal
  pub answers_refusal : (x : RelocateRefusal) → found ≡ Err x → measured_numbered (Err x) ≡ measured s m
  answers_refusal x f = ap measured_numbered (sym f) ∙ h ∙ ap (measured s) r

  -- a refusal leaves a column as it was
  pub column_kept : {A : Type 0} (field : LabelEntry → A) (x : RelocateRefusal) (d : List A) → found ≡ Err x → d ≡ column_left (tabled s m) field d
  unfolding on_ok
  column_kept field x d f = rw (sym r, not_tabled s room (relocate_number x) (relocate_detail x) (sym h ∙ ap measured_numbered f))

-- a filled column holds the table for the room
pub column_filled : {A : Type 0} (field : LabelEntry → A) (s : List ℕ) (room m : ℕ) (d x : List A) → room ≡ m → x ≡ column_left (tabled s room) field d → x ≡ column_left (tabled s m) field d
column_filled field s room m d x r e = e ∙ rw r

pub ruleset table_laws = (room_fits, layout_found, answers_layout, answers_refusal, column_kept, column_filled, rules)
