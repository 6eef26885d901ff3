-- What trying one shape finds, one law for each way out.
use Rattle.std.specs.Prelude.{Option, Some, None, Result, Ok, Err}
use Prim.Native.Nat.{ℕ, suc, ◌-◌, ◌<◌, ◌≤◌}
use mathlib.Core.Path.{◌≡◌, refl, sym, ap, ◌∙◌}
use mathlib.Core.List.{List}
use mathlib.Core.Bool.{Bool, true, false, cond, ◌&&◌, and-false}
use native.Mathlib.Omega.{arith}
use borrow.Author.Rules.{rules}
use borrow.Author.Tests.{eq-eqb, ne_eqb, eqb-true, eqb-false, ltb-true, ltb-false}
use lib.Dec.{eqb, ltb}
use lib.ListN.{length, get_or, take, drop, get_or-eq_default}
use Rattle.text.proofs.Laws.{part_slice}
use Rattle.vm_hardware.specs.declared.OlaRegister.{OlaRegister}
use Rattle.vm_operands.specs.Numbers.{immediate}
use Rattle.vm_operands.specs.declared.ImmediateValue.{ImmediateValue}
use Rattle.asm.specs.Parts.{Part}
use Rattle.asm.specs.Operands.{Shape, byte_is, inner, is_bracketed, is_register_at, register_of_place, is_source_number, source_number, with_number, factored, paired, bare, offset}
use Rattle.asm.specs.declared.OlaAsmOperand.{OlaAsmOperand}
use Rattle.asm.specs.declared.OlaAsmOperand.TheVariants.{RegisterWithOffset, RegisterWithFactoredRegOffset}
use Rattle.asm_shapes.specs.Shapes.{register_found_at, in_range, out_of_range, source_number_of}
use Rattle.asm_shapes.specs.declared.OutOfRange.{OutOfRange}
use Rattle.asm_operands.specs.Tried.{tried, anchor_of, second_of}

-- a piece at a place; where a shape's meaning does not use the place, it is 0
abbrev pub placed : ℕ → List ℕ → Part
placed n x = record { start = n; text = x }

module _ (s : Shape) (q : Part) where
  -- a shape that the piece does not have
  pub tried_other : s.fits q.text ≡ false → Ok None ≡ tried s q
  unfolding tried
  tried_other h = sym (rw h)

  -- a shape that it has
  pub tried_fits : (o : OlaAsmOperand) → s.fits q.text ≡ true → Some o ≡ s.means q → Ok (Some o) ≡ tried s q
  unfolding tried
  tried_fits o h e = sym (rw (h, ← e))

  -- a shape that it has, and its number is out of range
  pub tried_over : s.fits q.text ≡ true → None ≡ s.means q → Err out_of_range ≡ tried s q
  unfolding tried
  tried_over h e = sym (rw (h, ← e))

-- ---- the register after the opening bracket, and the one after the comma

module _ (x : List ℕ) where
  -- without the opening bracket none
  pub anchor_open : (get_or x 0 0 ≡ 91 → ⊥) → None ≡ anchor_of x
  unfolding anchor_of
  anchor_open h = sym (rw (ne_eqb _ _ h))

  -- without the closing one none
  pub anchor_close : (get_or x (length x - 1) 0 ≡ 93 → ⊥) → None ≡ anchor_of x
  unfolding anchor_of
  anchor_close h = sym (rw (ne_eqb _ _ h, and-false (byte_is x 0 91)))

  -- nor in fewer than two bytes
  pub anchor_short : length x < 2 → None ≡ anchor_of x
  anchor_short h = go (eqb (get_or x 0 0) 91) refl
    where
      go : (t : Bool) → eqb (get_or x 0 0) 91 ≡ t → None ≡ anchor_of x
      go true e =
          let k : length x - 1 ≡ 0 = omega arith in
          let z : get_or x (length x - 1) 0 ≡ 91 = ap (λ (i : ℕ). get_or x i 0) k ∙ eqb-true _ _ e in
          anchor_close (λ q. omega arith)
      go false e = anchor_open (eqb-false _ _ e)

  -- with both it is the one at place 1
  pub anchor_there : get_or x 0 0 ≡ 91 → get_or x (length x - 1) 0 ≡ 93 → (r : Option OlaRegister) → r ≡ register_found_at x 1 → r ≡ anchor_of x
  unfolding anchor_of register_found_at
  anchor_there h k r e = e ∙ sym (rw (eq-eqb _ _ h, eq-eqb _ _ k))

pub ruleset anchor_laws = (anchor_short, anchor_open, anchor_close, anchor_there, rules)

module _ (x : List ℕ) (t : Bool) (e : t ≡ byte_is x 3 44) where
  -- without the comma none
  pub second_other : t ≡ false → None ≡ second_of x
  unfolding second_of
  second_other h = sym (rw (sym e ∙ h))

  -- with it the one at place 4
  pub second_there : t ≡ true → (r : Option OlaRegister) → r ≡ register_found_at x 4 → r ≡ second_of x
  unfolding second_of register_found_at
  second_there h r f = f ∙ sym (rw (sym e ∙ h))

pub ruleset second_laws = (second_other, second_there)

-- where no register was found, the test that it goes by failed
found_none : (t : Bool) (p : OlaRegister) → cond t (Some p) None ≡ None → t ≡ false
found_none true p e = let z : ◌≡◌ {A = ℕ} 0 1 = cc in absurd (omega arith)
found_none false p e = refl

-- where one was found, the test passed
found_some : (t : Bool) (p a : OlaRegister) → cond t (Some p) None ≡ Some a → (t ≡ true) × (a ≡ p)
found_some true p a e = (refl, cc)
found_some false p a e = let z : ◌≡◌ {A = ℕ} 0 1 = cc in absurd (omega arith)

-- the test that the first goes by
abbrev anchored : List ℕ → Bool
anchored x = is_bracketed x && is_register_at x 1

-- and the second
abbrev seconded : List ℕ → Bool
seconded x = byte_is x 3 44 && is_register_at x 4

-- ---- what a number tells of its text

-- what a number is where it is told by a test and what was read
abbrev told_number : Bool → Option ImmediateValue → Result (Option ImmediateValue) OutOfRange
told_number t f = cond t (in_range f) (Ok None)

-- in range
source_is : (t : Bool) (f : Option ImmediateValue) (v : ImmediateValue) → told_number t f ≡ Ok (Some v) → (t ≡ true) × (f ≡ Some v)
source_is true (Some w) v e = (refl, cc)
source_is true None v e = cc
source_is false f v e = cc

-- out of range
source_over : (t : Bool) (f : Option ImmediateValue) (w : OutOfRange) → told_number t f ≡ Err w → (t ≡ true) × (f ≡ None) × (w ≡ out_of_range)
source_over true (Some v) w e = cc
source_over true None w e = (refl, refl, cc)
source_over false f w e = cc

-- no number
source_other : (t : Bool) (f : Option ImmediateValue) → told_number t f ≡ Ok None → t ≡ false
source_other true (Some w) e = cc
source_other true None e = cc
source_other false f e = refl

-- a shape that a piece has exactly where a part y of it is a number
module _ (s : Shape) (q : Part) (f : ImmediateValue → OlaAsmOperand) (y : List ℕ) (i : s.fits q.text ≡ is_source_number y) (m : s.means q ≡ with_number f (source_number y)) (n : Result (Option ImmediateValue) OutOfRange) (e : n ≡ source_number_of y) where
  -- in range it is the operand made of the number
  pub numbered_is : (v : ImmediateValue) → n ≡ Ok (Some v) → Ok (Some (f v)) ≡ tried s q
  unfolding source_number_of
  numbered_is v h =
      let w = source_is (is_source_number y) (source_number y) v (sym e ∙ h) in
      tried_fits s q (f v) (i ∙ w.0) (sym (m ∙ ap (with_number f) w.1))

  -- out of range it is no operand
  pub numbered_over : (w : OutOfRange) → n ≡ Err w → Err w ≡ tried s q
  unfolding source_number_of
  numbered_over w h =
      let u = source_over (is_source_number y) (source_number y) w (sym e ∙ h) in
      ap Err u.2 ∙ tried_over s q (i ∙ u.0) (sym (m ∙ ap (with_number f) u.1))

  -- where the part is no number the piece has another shape
  pub numbered_other : n ≡ Ok None → Ok None ≡ tried s q
  unfolding source_number_of
  numbered_other h = tried_other s q (i ∙ source_other (is_source_number y) (source_number y) (sym e ∙ h))

-- ---- the bracketed shapes

-- no register after the opening bracket: none of the four
module _ (x : List ℕ) (r : Option OlaRegister) (e : r ≡ anchor_of x) (h : r ≡ None) where
  -- the test failed
  not_anchored : anchored x ≡ false
  unfolding anchor_of
  not_anchored = found_none (anchored x) (register_of_place x 1) (sym e ∙ h)

  -- not `[rA,rB,n]`
  pub factored_none : Ok None ≡ tried factored (placed 0 x)
  factored_none = tried_other factored (placed 0 x) (rw not_anchored)

  -- not `[rA,rB]`
  pub paired_none : Ok None ≡ tried paired (placed 0 x)
  paired_none = tried_other paired (placed 0 x) (rw not_anchored)

  -- not `[rA]`
  pub bare_none : Ok None ≡ tried bare (placed 0 x)
  bare_none = tried_other bare (placed 0 x) (rw not_anchored)

  -- not `[rA,n]`
  pub offset_none : Ok None ≡ tried offset (placed 0 x)
  offset_none = tried_other offset (placed 0 x) (rw not_anchored)

-- where both tests pass each does
both : (s t : Bool) → s && t ≡ true → (s ≡ true) × (t ≡ true)
both true t e = (refl, e)
both false t e = let z : ◌≡◌ {A = ℕ} 0 1 = cc in absurd (omega arith)

-- a comma at place k of a bracketed piece stands before the closing bracket
comma_inside : (x : List ℕ) (k : ℕ) → get_or x (length x - 1) 0 ≡ 93 → get_or x k 0 ≡ 44 → suc k ≤ length x - 1
comma_inside x k h g = go (ltb (suc k) (length x)) refl
  where
    go : (t : Bool) → ltb (suc k) (length x) ≡ t → suc k ≤ length x - 1
    go true e = omega (arith, ltb-true (suc k) (length x) e)
    go false e = end (ltb k (length x)) refl (ltb-false (suc k) (length x) e)
      where
        end : (t : Bool) → ltb k (length x) ≡ t → length x ≤ suc k → suc k ≤ length x - 1
        end true f w =
            let u : k < length x = ltb-true k (length x) f in
            let l : length x - 1 ≡ k = omega arith in
            let z : get_or x (length x - 1) 0 ≡ get_or x k 0 = ap (λ (i : ℕ). get_or x i 0) l in
            absurd (omega arith)
        end false f w =
            let z : get_or x k 0 ≡ 0 = get_or-eq_default x 0 (ltb-false k (length x) f) in
            absurd (omega arith)

-- a register after the opening bracket
module _ (x : List ℕ) (r : Option OlaRegister) (e : r ≡ anchor_of x) (a : OlaRegister) (h : r ≡ Some a) where
  -- the test passed, and it is the register at place 1
  anchor : (anchored x ≡ true) × (a ≡ register_of_place x 1)
  unfolding anchor_of
  anchor = found_some (anchored x) (register_of_place x 1) a (sym e ∙ h)

  -- the piece ends in the closing bracket
  closed : get_or x (length x - 1) 0 ≡ 93
  closed = eqb-true _ _ (both (byte_is x 0 91) _ (both (is_bracketed x) _ anchor.0).0).1

  -- any other length than four bytes, not `[rA]`
  pub bare_other : (length x ≡ 4 → ⊥) → Ok None ≡ tried bare (placed 0 x)
  bare_other g = tried_other bare (placed 0 x) (rw anchor.0 (ne_eqb _ _ g))

  -- four bytes, `[rA]`
  pub bare_fits : length x ≡ 4 → Ok (Some (RegisterWithOffset a (immediate 0))) ≡ tried bare (placed 0 x)
  bare_fits g = tried_fits bare (placed 0 x) _ (rw anchor.0 (eq-eqb _ _ g)) (rw anchor.1)

  module _ (t : Bool) (f : t ≡ byte_is x 3 44) where
    -- without a comma not `[rA,n]`
    pub offset_bare : t ≡ false → Ok None ≡ tried offset (placed 0 x)
    offset_bare g = tried_other offset (placed 0 x) (rw (anchor.0, sym f ∙ g))

    module _ (g : t ≡ true) where
      -- n stands between the comma and the closing bracket
      pub offset_inside : 4 ≤ length x - 1
      offset_inside = comma_inside x 3 closed (eqb-true _ _ (sym f ∙ g))

      -- so there is a last byte
      pub offset_some : 1 ≤ length x
      offset_some = let w = offset_inside in omega arith

      -- n decides
      module _ (n : Result (Option ImmediateValue) OutOfRange) (k : n ≡ source_number_of (take (length x - 1 - 4) (drop 4 x))) where
        -- the shape is there where n is a number
        offset_by : offset.fits x ≡ is_source_number (inner x 4)
        offset_by = rw (anchor.0, sym f ∙ g)

        -- what it is, by the register found
        offset_means : offset.means (placed 0 x) ≡ with_number (λ v. RegisterWithOffset a v) (source_number (inner x 4))
        offset_means = rw anchor.1

        -- what was read is n
        offset_number : n ≡ source_number_of (inner x 4)
        offset_number = k ∙ ap source_number_of (part_slice 4 (length x - 1) x)

        -- n in range
        pub offset_is : (v : ImmediateValue) → n ≡ Ok (Some v) → Ok (Some (RegisterWithOffset a v)) ≡ tried offset (placed 0 x)
        offset_is v q = numbered_is offset (placed 0 x) (λ w. RegisterWithOffset a w) (inner x 4) offset_by offset_means n offset_number v q

        -- n out of range
        pub offset_over : (w : OutOfRange) → n ≡ Err w → Err w ≡ tried offset (placed 0 x)
        offset_over w q = numbered_over offset (placed 0 x) (λ w. RegisterWithOffset a w) (inner x 4) offset_by offset_means n offset_number w q

        -- no number
        pub offset_other : n ≡ Ok None → Ok None ≡ tried offset (placed 0 x)
        offset_other q = numbered_other offset (placed 0 x) (λ w. RegisterWithOffset a w) (inner x 4) offset_by offset_means n offset_number q

  -- the second register
  module _ (r2 : Option OlaRegister) (e2 : r2 ≡ second_of x) where
    -- none: neither of the two shapes that ask for it
    module _ (h2 : r2 ≡ None) where
      -- the test failed
      not_seconded : seconded x ≡ false
      unfolding second_of
      not_seconded = found_none (seconded x) (register_of_place x 4) (sym e2 ∙ h2)

      -- not `[rA,rB,n]`
      pub factored_one : Ok None ≡ tried factored (placed 0 x)
      factored_one = tried_other factored (placed 0 x) (rw (anchor.0, not_seconded))

      -- not `[rA,rB]`
      pub paired_one : Ok None ≡ tried paired (placed 0 x)
      paired_one = tried_other paired (placed 0 x) (rw (anchor.0, not_seconded))

    -- one
    module _ (b : OlaRegister) (h2 : r2 ≡ Some b) where
      -- the test passed, and it is the register at place 4
      second : (seconded x ≡ true) × (b ≡ register_of_place x 4)
      unfolding second_of
      second = found_some (seconded x) (register_of_place x 4) b (sym e2 ∙ h2)

      -- any other length than seven bytes, not `[rA,rB]`
      pub paired_other : (length x ≡ 7 → ⊥) → Ok None ≡ tried paired (placed 0 x)
      paired_other g = tried_other paired (placed 0 x) (rw (anchor.0, second.0) (ne_eqb _ _ g))

      -- seven bytes, `[rA,rB]`
      pub paired_fits : length x ≡ 7 → Ok (Some (RegisterWithFactoredRegOffset a b (immediate 1))) ≡ tried paired (placed 0 x)
      paired_fits g = tried_fits paired (placed 0 x) _ (rw (anchor.0, second.0) (eq-eqb _ _ g)) (rw (anchor.1, second.1))

      module _ (t : Bool) (f : t ≡ byte_is x 6 44) where
        -- without a second comma not `[rA,rB,n]`
        pub factored_bare : t ≡ false → Ok None ≡ tried factored (placed 0 x)
        factored_bare g = tried_other factored (placed 0 x) (rw (anchor.0, second.0, sym f ∙ g))

        module _ (g : t ≡ true) where
          -- n stands between the second comma and the closing bracket
          pub factored_inside : 7 ≤ length x - 1
          factored_inside = comma_inside x 6 closed (eqb-true _ _ (sym f ∙ g))

          -- so there is a last byte
          pub factored_some : 1 ≤ length x
          factored_some = let w = factored_inside in omega arith

          -- n decides
          module _ (n : Result (Option ImmediateValue) OutOfRange) (k : n ≡ source_number_of (take (length x - 1 - 7) (drop 7 x))) where
            -- the shape is there where n is a number
            factored_by : factored.fits x ≡ is_source_number (inner x 7)
            factored_by = rw (anchor.0, second.0, sym f ∙ g)

            -- what it is, by the registers found
            factored_means : factored.means (placed 0 x) ≡ with_number (λ v. RegisterWithFactoredRegOffset a b v) (source_number (inner x 7))
            factored_means = rw (anchor.1, second.1)

            -- what was read is n
            factored_number : n ≡ source_number_of (inner x 7)
            factored_number = k ∙ ap source_number_of (part_slice 7 (length x - 1) x)

            -- n in range
            pub factored_is : (v : ImmediateValue) → n ≡ Ok (Some v) → Ok (Some (RegisterWithFactoredRegOffset a b v)) ≡ tried factored (placed 0 x)
            factored_is v q = numbered_is factored (placed 0 x) (λ w. RegisterWithFactoredRegOffset a b w) (inner x 7) factored_by factored_means n factored_number v q

            -- n out of range
            pub factored_over : (w : OutOfRange) → n ≡ Err w → Err w ≡ tried factored (placed 0 x)
            factored_over w q = numbered_over factored (placed 0 x) (λ w. RegisterWithFactoredRegOffset a b w) (inner x 7) factored_by factored_means n factored_number w q

            -- no number
            pub factored_other : n ≡ Ok None → Ok None ≡ tried factored (placed 0 x)
            factored_other q = numbered_other factored (placed 0 x) (λ w. RegisterWithFactoredRegOffset a b w) (inner x 7) factored_by factored_means n factored_number q

pub ruleset bare_laws = (bare_none, bare_other, bare_fits)

pub ruleset offset_laws = (offset_none, offset_bare, offset_inside, offset_some, offset_is, offset_over, offset_other)

pub ruleset paired_laws = (paired_none, paired_one, paired_other, paired_fits)

pub ruleset factored_laws = (factored_none, factored_one, factored_bare, factored_inside, factored_some, factored_is, factored_over, factored_other)
