-- The first shape that fits, by what trying each of them found.
use Rattle.std.specs.Prelude.{Option, Some, None, Result, Ok, Err}
use Prim.Native.Nat.{ℕ}
use mathlib.Core.Path.{◌≡◌, refl, sym, ◌∙◌}
use mathlib.Core.List.{List, [], ◌∷◌}
use mathlib.Core.Bool.{Bool, true, false, cond}
use Rattle.asm.specs.Parts.{Part}
use Rattle.asm.specs.Operands.{Shape, factored, paired, bare, offset, register, number, label, special, name, shapes, first_match, operand_of}
use Rattle.asm.specs.declared.OlaAsmOperand.{OlaAsmOperand}
use Rattle.asm_shapes.specs.declared.OutOfRange.{OutOfRange}
use Rattle.asm_operands.specs.Tried.{fitting, tried}
use Rattle.asm_operands.proofs.Laws.{placed}

-- a shape that was tried: what it told, if the piece has it
module _ (s : Shape) (ss : List Shape) (q : Part) (r : Result (Option OlaAsmOperand) OutOfRange) (e : r ≡ tried s q) where
  -- a shape that fits is the first match
  here : (f : Option OlaAsmOperand) → r ≡ Ok f → (o : OlaAsmOperand) → f ≡ Some o → Some o ≡ first_match (s ∷ ss) q
  unfolding tried first_match
  here f t o h = go (s.fits q.text) (s.means q) (sym t ∙ e)
    where
      go : (u : Bool) (m : Option OlaAsmOperand) → Ok f ≡ cond u (fitting m) (Ok None) → Some o ≡ cond u m (first_match ss q)
      go true (Some b) g = cc
      go true None g = cc
      go false m g = cc

  -- and so is one whose number is out of range
  over : (f : OutOfRange) → r ≡ Err f → None ≡ first_match (s ∷ ss) q
  unfolding tried first_match
  over f t = go (s.fits q.text) (s.means q) (sym t ∙ e)
    where
      go : (u : Bool) (m : Option OlaAsmOperand) → Err f ≡ cond u (fitting m) (Ok None) → None ≡ cond u m (first_match ss q)
      go true (Some b) g = cc
      go true None g = refl
      go false m g = cc

  -- past a shape that does not fit, the match is among the others
  further : (f : Option OlaAsmOperand) → r ≡ Ok f → f ≡ None → first_match ss q ≡ first_match (s ∷ ss) q
  unfolding tried first_match
  further f t h = go (s.fits q.text) (s.means q) (sym t ∙ e)
    where
      go : (u : Bool) (m : Option OlaAsmOperand) → Ok f ≡ cond u (fitting m) (Ok None) → first_match ss q ≡ cond u m (first_match ss q)
      go true (Some b) g = cc
      go true None g = cc
      go false m g = refl

-- the match is among these shapes
pub record Left (n : ℕ) (x : List ℕ) (ss : List Shape) : Type 0 where
  pub among : first_match ss (placed n x) ≡ operand_of (placed n x)

-- ---- the shapes in their order: `from_S` says that the match is among S and those after it, `at_S` that it is S where the piece has S, and `over_S` that the
-- ---- piece is no operand where the number of S is out of range

module _ (n : ℕ) (x : List ℕ) where
  pub from_factored : Left n x (factored ∷ paired ∷ bare ∷ offset ∷ register ∷ number ∷ label ∷ special ∷ name ∷ [])
  unfolding shapes
  from_factored = record { among = refl }

  pub at_factored : (r : Result (Option OlaAsmOperand) OutOfRange) → r ≡ tried factored (placed 0 x) → (f : Option OlaAsmOperand) → r ≡ Ok f → (o : OlaAsmOperand) → f ≡ Some o → Left n x (factored ∷ paired ∷ bare ∷ offset ∷ register ∷ number ∷ label ∷ special ∷ name ∷ []) → Some o ≡ operand_of (placed n x)
  unfolding tried
  at_factored r e f t o h l = here factored _ (placed n x) r e f t o h ∙ l.among

  pub over_factored : (r : Result (Option OlaAsmOperand) OutOfRange) → r ≡ tried factored (placed 0 x) → (f : OutOfRange) → r ≡ Err f → Left n x (factored ∷ paired ∷ bare ∷ offset ∷ register ∷ number ∷ label ∷ special ∷ name ∷ []) → None ≡ operand_of (placed n x)
  unfolding tried
  over_factored r e f t l = over factored _ (placed n x) r e f t ∙ l.among

  pub from_paired : (r : Result (Option OlaAsmOperand) OutOfRange) → r ≡ tried factored (placed 0 x) → (f : Option OlaAsmOperand) → r ≡ Ok f → f ≡ None → Left n x (factored ∷ paired ∷ bare ∷ offset ∷ register ∷ number ∷ label ∷ special ∷ name ∷ []) → Left n x (paired ∷ bare ∷ offset ∷ register ∷ number ∷ label ∷ special ∷ name ∷ [])
  unfolding tried
  from_paired r e f t h l = record { among = further factored _ (placed n x) r e f t h ∙ l.among }

  pub at_paired : (r : Result (Option OlaAsmOperand) OutOfRange) → r ≡ tried paired (placed 0 x) → (f : Option OlaAsmOperand) → r ≡ Ok f → (o : OlaAsmOperand) → f ≡ Some o → Left n x (paired ∷ bare ∷ offset ∷ register ∷ number ∷ label ∷ special ∷ name ∷ []) → Some o ≡ operand_of (placed n x)
  unfolding tried
  at_paired r e f t o h l = here paired _ (placed n x) r e f t o h ∙ l.among

  pub over_paired : (r : Result (Option OlaAsmOperand) OutOfRange) → r ≡ tried paired (placed 0 x) → (f : OutOfRange) → r ≡ Err f → Left n x (paired ∷ bare ∷ offset ∷ register ∷ number ∷ label ∷ special ∷ name ∷ []) → None ≡ operand_of (placed n x)
  unfolding tried
  over_paired r e f t l = over paired _ (placed n x) r e f t ∙ l.among

  pub from_bare : (r : Result (Option OlaAsmOperand) OutOfRange) → r ≡ tried paired (placed 0 x) → (f : Option OlaAsmOperand) → r ≡ Ok f → f ≡ None → Left n x (paired ∷ bare ∷ offset ∷ register ∷ number ∷ label ∷ special ∷ name ∷ []) → Left n x (bare ∷ offset ∷ register ∷ number ∷ label ∷ special ∷ name ∷ [])
  unfolding tried
  from_bare r e f t h l = record { among = further paired _ (placed n x) r e f t h ∙ l.among }

  pub at_bare : (r : Result (Option OlaAsmOperand) OutOfRange) → r ≡ tried bare (placed 0 x) → (f : Option OlaAsmOperand) → r ≡ Ok f → (o : OlaAsmOperand) → f ≡ Some o → Left n x (bare ∷ offset ∷ register ∷ number ∷ label ∷ special ∷ name ∷ []) → Some o ≡ operand_of (placed n x)
  unfolding tried
  at_bare r e f t o h l = here bare _ (placed n x) r e f t o h ∙ l.among

  pub over_bare : (r : Result (Option OlaAsmOperand) OutOfRange) → r ≡ tried bare (placed 0 x) → (f : OutOfRange) → r ≡ Err f → Left n x (bare ∷ offset ∷ register ∷ number ∷ label ∷ special ∷ name ∷ []) → None ≡ operand_of (placed n x)
  unfolding tried
  over_bare r e f t l = over bare _ (placed n x) r e f t ∙ l.among

  pub from_offset : (r : Result (Option OlaAsmOperand) OutOfRange) → r ≡ tried bare (placed 0 x) → (f : Option OlaAsmOperand) → r ≡ Ok f → f ≡ None → Left n x (bare ∷ offset ∷ register ∷ number ∷ label ∷ special ∷ name ∷ []) → Left n x (offset ∷ register ∷ number ∷ label ∷ special ∷ name ∷ [])
  unfolding tried
  from_offset r e f t h l = record { among = further bare _ (placed n x) r e f t h ∙ l.among }

  pub at_offset : (r : Result (Option OlaAsmOperand) OutOfRange) → r ≡ tried offset (placed 0 x) → (f : Option OlaAsmOperand) → r ≡ Ok f → (o : OlaAsmOperand) → f ≡ Some o → Left n x (offset ∷ register ∷ number ∷ label ∷ special ∷ name ∷ []) → Some o ≡ operand_of (placed n x)
  unfolding tried
  at_offset r e f t o h l = here offset _ (placed n x) r e f t o h ∙ l.among

  pub over_offset : (r : Result (Option OlaAsmOperand) OutOfRange) → r ≡ tried offset (placed 0 x) → (f : OutOfRange) → r ≡ Err f → Left n x (offset ∷ register ∷ number ∷ label ∷ special ∷ name ∷ []) → None ≡ operand_of (placed n x)
  unfolding tried
  over_offset r e f t l = over offset _ (placed n x) r e f t ∙ l.among

  pub from_register : (r : Result (Option OlaAsmOperand) OutOfRange) → r ≡ tried offset (placed 0 x) → (f : Option OlaAsmOperand) → r ≡ Ok f → f ≡ None → Left n x (offset ∷ register ∷ number ∷ label ∷ special ∷ name ∷ []) → Left n x (register ∷ number ∷ label ∷ special ∷ name ∷ [])
  unfolding tried
  from_register r e f t h l = record { among = further offset _ (placed n x) r e f t h ∙ l.among }

  pub at_register : (r : Result (Option OlaAsmOperand) OutOfRange) → r ≡ tried register (placed 0 x) → (f : Option OlaAsmOperand) → r ≡ Ok f → (o : OlaAsmOperand) → f ≡ Some o → Left n x (register ∷ number ∷ label ∷ special ∷ name ∷ []) → Some o ≡ operand_of (placed n x)
  unfolding tried
  at_register r e f t o h l = here register _ (placed n x) r e f t o h ∙ l.among

  pub over_register : (r : Result (Option OlaAsmOperand) OutOfRange) → r ≡ tried register (placed 0 x) → (f : OutOfRange) → r ≡ Err f → Left n x (register ∷ number ∷ label ∷ special ∷ name ∷ []) → None ≡ operand_of (placed n x)
  unfolding tried
  over_register r e f t l = over register _ (placed n x) r e f t ∙ l.among

  pub from_number : (r : Result (Option OlaAsmOperand) OutOfRange) → r ≡ tried register (placed 0 x) → (f : Option OlaAsmOperand) → r ≡ Ok f → f ≡ None → Left n x (register ∷ number ∷ label ∷ special ∷ name ∷ []) → Left n x (number ∷ label ∷ special ∷ name ∷ [])
  unfolding tried
  from_number r e f t h l = record { among = further register _ (placed n x) r e f t h ∙ l.among }

  pub at_number : (r : Result (Option OlaAsmOperand) OutOfRange) → r ≡ tried number (placed 0 x) → (f : Option OlaAsmOperand) → r ≡ Ok f → (o : OlaAsmOperand) → f ≡ Some o → Left n x (number ∷ label ∷ special ∷ name ∷ []) → Some o ≡ operand_of (placed n x)
  unfolding tried
  at_number r e f t o h l = here number _ (placed n x) r e f t o h ∙ l.among

  pub over_number : (r : Result (Option OlaAsmOperand) OutOfRange) → r ≡ tried number (placed 0 x) → (f : OutOfRange) → r ≡ Err f → Left n x (number ∷ label ∷ special ∷ name ∷ []) → None ≡ operand_of (placed n x)
  unfolding tried
  over_number r e f t l = over number _ (placed n x) r e f t ∙ l.among

  pub from_label : (r : Result (Option OlaAsmOperand) OutOfRange) → r ≡ tried number (placed 0 x) → (f : Option OlaAsmOperand) → r ≡ Ok f → f ≡ None → Left n x (number ∷ label ∷ special ∷ name ∷ []) → Left n x (label ∷ special ∷ name ∷ [])
  unfolding tried
  from_label r e f t h l = record { among = further number _ (placed n x) r e f t h ∙ l.among }

  pub at_label : (r : Result (Option OlaAsmOperand) OutOfRange) → r ≡ tried label (placed n x) → (f : Option OlaAsmOperand) → r ≡ Ok f → (o : OlaAsmOperand) → f ≡ Some o → Left n x (label ∷ special ∷ name ∷ []) → Some o ≡ operand_of (placed n x)
  unfolding tried
  at_label r e f t o h l = here label _ (placed n x) r e f t o h ∙ l.among

  pub over_label : (r : Result (Option OlaAsmOperand) OutOfRange) → r ≡ tried label (placed n x) → (f : OutOfRange) → r ≡ Err f → Left n x (label ∷ special ∷ name ∷ []) → None ≡ operand_of (placed n x)
  unfolding tried
  over_label r e f t l = over label _ (placed n x) r e f t ∙ l.among

  pub from_special : (r : Result (Option OlaAsmOperand) OutOfRange) → r ≡ tried label (placed n x) → (f : Option OlaAsmOperand) → r ≡ Ok f → f ≡ None → Left n x (label ∷ special ∷ name ∷ []) → Left n x (special ∷ name ∷ [])
  unfolding tried
  from_special r e f t h l = record { among = further label _ (placed n x) r e f t h ∙ l.among }

  pub at_special : (r : Result (Option OlaAsmOperand) OutOfRange) → r ≡ tried special (placed 0 x) → (f : Option OlaAsmOperand) → r ≡ Ok f → (o : OlaAsmOperand) → f ≡ Some o → Left n x (special ∷ name ∷ []) → Some o ≡ operand_of (placed n x)
  unfolding tried
  at_special r e f t o h l = here special _ (placed n x) r e f t o h ∙ l.among

  pub over_special : (r : Result (Option OlaAsmOperand) OutOfRange) → r ≡ tried special (placed 0 x) → (f : OutOfRange) → r ≡ Err f → Left n x (special ∷ name ∷ []) → None ≡ operand_of (placed n x)
  unfolding tried
  over_special r e f t l = over special _ (placed n x) r e f t ∙ l.among

  pub from_name : (r : Result (Option OlaAsmOperand) OutOfRange) → r ≡ tried special (placed 0 x) → (f : Option OlaAsmOperand) → r ≡ Ok f → f ≡ None → Left n x (special ∷ name ∷ []) → Left n x (name ∷ [])
  unfolding tried
  from_name r e f t h l = record { among = further special _ (placed n x) r e f t h ∙ l.among }

  pub at_name : (r : Result (Option OlaAsmOperand) OutOfRange) → r ≡ tried name (placed n x) → (f : Option OlaAsmOperand) → r ≡ Ok f → (o : OlaAsmOperand) → f ≡ Some o → Left n x (name ∷ []) → Some o ≡ operand_of (placed n x)
  unfolding tried
  at_name r e f t o h l = here name _ (placed n x) r e f t o h ∙ l.among

  pub over_name : (r : Result (Option OlaAsmOperand) OutOfRange) → r ≡ tried name (placed n x) → (f : OutOfRange) → r ≡ Err f → Left n x (name ∷ []) → None ≡ operand_of (placed n x)
  unfolding tried
  over_name r e f t l = over name _ (placed n x) r e f t ∙ l.among

  -- where none fits the piece is no operand
  pub at_none : (r : Result (Option OlaAsmOperand) OutOfRange) → r ≡ tried name (placed n x) → (f : Option OlaAsmOperand) → r ≡ Ok f → f ≡ None → Left n x (name ∷ []) → None ≡ operand_of (placed n x)
  unfolding tried first_match
  at_none r e f t h l = further name [] (placed n x) r e f t h ∙ l.among

pub ruleset first_laws = (from_factored, from_paired, from_bare, from_offset, from_register, from_number, from_label, from_special, from_name, at_factored, at_paired, at_bare, at_offset, at_register, at_number, at_label, at_special, at_name, over_factored, over_paired, over_bare, over_offset, over_register, over_number, over_label, over_special, over_name, at_none)
