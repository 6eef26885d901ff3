-- Laws of the shapes without brackets: a register, a number, a label, a special register, a name.
use Rattle.std.specs.Prelude.{Option, Some, None, Result, Ok, Err}
use Prim.Native.Nat.{ℕ, ◌<◌}
use mathlib.Core.Path.{◌≡◌, refl, sym, ap, ◌∙◌}
use mathlib.Core.List.{List, [], ◌∷◌}
use mathlib.Core.Bool.{Bool, true, false, ◌&&◌, and-false}
use native.Mathlib.Omega.{arith}
use borrow.Author.Tests.{ne_eqb}
use lib.Dec.{eqb}
use lib.Pointwise.{pointwise}
use lib.ListN.{length, take, drop, get_or, length-drop}
use lib.Seq.{slice, take_all}
use Rattle.text.specs.Bytes.{bytes, same}
use Rattle.text.proofs.SameLaws.{same_off}
use Rattle.vm_hardware.specs.Registers.{register_of, special_of}
use Rattle.vm_hardware.specs.declared.OlaRegister.{OlaRegister}
use Rattle.vm_hardware.specs.declared.OlaSpecialRegister.{OlaSpecialRegister}
use Rattle.vm_operands.specs.declared.ImmediateValue.{ImmediateValue}
use Rattle.asm.specs.Operands.{byte_is, is_pair, is_name, register, number, label, special, name}
use Rattle.asm.specs.declared.OlaAsmOperand.TheVariants.{ImmediateOperand, RegisterOperand, SpecialReg, Label, Identifier}
use Rattle.asm_shapes.specs.Shapes.{source_number_of}
use Rattle.asm_shapes.specs.declared.OutOfRange.{OutOfRange}
use Rattle.asm_operands.specs.Tried.{tried}
use Rattle.asm_operands.proofs.Laws.{placed, tried_other, tried_fits, numbered_is, numbered_over, numbered_other}

-- ---- the other shapes

-- `rA`
module _ (x : List ℕ) (r : Option OlaRegister) (e : r ≡ register_of x) where
  -- a register
  pub register_is : (a : OlaRegister) → r ≡ Some a → Ok (Some (RegisterOperand a)) ≡ tried register (placed 0 x)
  register_is a h = let w : register_of x ≡ Some a = sym e ∙ h in tried_fits register (placed 0 x) _ (rw w) (rw w)

  -- none
  pub register_other : r ≡ None → Ok None ≡ tried register (placed 0 x)
  register_other h = let w : register_of x ≡ None = sym e ∙ h in tried_other register (placed 0 x) (rw w)

pub ruleset register_laws = (register_is, register_other)

-- n
module _ (x : List ℕ) (n : Result (Option ImmediateValue) OutOfRange) (e : n ≡ source_number_of x) where
  -- in range
  pub number_is : (v : ImmediateValue) → n ≡ Ok (Some v) → Ok (Some (ImmediateOperand v)) ≡ tried number (placed 0 x)
  number_is v q = numbered_is number (placed 0 x) ImmediateOperand x refl refl n e v q

  -- out of range
  pub number_over : (w : OutOfRange) → n ≡ Err w → Err w ≡ tried number (placed 0 x)
  number_over w q = numbered_over number (placed 0 x) ImmediateOperand x refl refl n e w q

  -- no number
  pub number_other : n ≡ Ok None → Ok None ≡ tried number (placed 0 x)
  number_other q = numbered_other number (placed 0 x) ImmediateOperand x refl refl n e q

pub ruleset number_laws = (number_is, number_over, number_other)

-- a label
module _ (x : List ℕ) (n : ℕ) where
  -- the dot and the letters, as they are compared
  dotted : pointwise eqb (take 4 x) (bytes ".LBL") ≡ (byte_is x 0 46 && same (slice 1 4 x) (bytes "LBL"))
  unfolding same
  dotted = go x
    where
      go : (x : List ℕ) → pointwise eqb (take 4 x) (bytes ".LBL") ≡ (byte_is x 0 46 && same (slice 1 4 x) (bytes "LBL"))
      go [] = refl
      go (a ∷ []) = refl
      go (a ∷ b ∷ []) = refl
      go (a ∷ b ∷ c ∷ []) = refl
      go (a ∷ b ∷ c ∷ d ∷ r) = refl

  -- none in fewer than four bytes
  pub label_short : length x < 4 → Ok None ≡ tried label (placed n x)
  label_short h =
      let w : same (slice 1 4 x) (bytes "LBL") ≡ false = same_off (slice 1 4 x) (bytes "LBL") (λ q. omega (arith, q, length-drop 1 (take 4 x), ap length (take_all 4 x (omega arith)))) in
      tried_other label (placed n x) (rw (w, and-false (byte_is x 0 46)))

  -- without the dot none
  pub label_undotted : (get_or x 0 0 ≡ 46 → ⊥) → Ok None ≡ tried label (placed n x)
  label_undotted h = tried_other label (placed n x) (rw (ne_eqb _ _ h))

  -- without them none
  pub label_other : pointwise eqb (take 4 x) (bytes ".LBL") ≡ false → Ok None ≡ tried label (placed n x)
  label_other h = tried_other label (placed n x) (rw (sym dotted ∙ h))

  module _ (h : pointwise eqb (take 4 x) (bytes ".LBL") ≡ true) (y : List ℕ) (e : y ≡ drop 4 x) (u : Bool) (f : u ≡ is_pair y) where
    -- after them a pair decides
    label_by : label.fits x ≡ u
    label_by = rw (sym dotted ∙ h) (sym (f ∙ ap is_pair e))

    -- no pair, no label
    pub label_bare : u ≡ false → Ok None ≡ tried label (placed n x)
    label_bare g = tried_other label (placed n x) (label_by ∙ g)

    -- a pair, a label
    pub label_fits : u ≡ true → Ok (Some (Label n (length x))) ≡ tried label (placed n x)
    label_fits g = tried_fits label (placed n x) _ (label_by ∙ g) refl

pub ruleset label_laws = (label_other, label_bare, label_fits)

-- `pc` or `psp`
module _ (x : List ℕ) (r : Option OlaSpecialRegister) (e : r ≡ special_of x) where
  -- one of the two
  pub special_is : (a : OlaSpecialRegister) → r ≡ Some a → Ok (Some (SpecialReg a)) ≡ tried special (placed 0 x)
  special_is a h = let w : special_of x ≡ Some a = sym e ∙ h in tried_fits special (placed 0 x) _ (rw w) (rw w)

  -- neither
  pub special_other : r ≡ None → Ok None ≡ tried special (placed 0 x)
  special_other h = let w : special_of x ≡ None = sym e ∙ h in tried_other special (placed 0 x) (rw w)

pub ruleset special_laws = (special_is, special_other)

-- a name
module _ (x : List ℕ) (n : ℕ) (t : Bool) (e : t ≡ is_name x) where
  -- no name
  pub name_other : t ≡ false → Ok None ≡ tried name (placed n x)
  name_other h = tried_other name (placed n x) (sym e ∙ h)

  -- a name
  pub name_fits : t ≡ true → Ok (Some (Identifier n (length x))) ≡ tried name (placed n x)
  name_fits h = tried_fits name (placed n x) _ (sym e ∙ h) refl

pub ruleset name_laws = (name_other, name_fits)
