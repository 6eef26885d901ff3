-- A number read from a text is below p.
use Rattle.std.specs.Prelude.{Option, Some, None}
use mathlib.Core.Path.{◌≡◌, refl}
use mathlib.Core.Bool.{Bool, true, false, cond}
use mathlib.Core.List.{List}
use Prim.Native.Nat.{ℕ, ◌-◌, ◌<◌}
use native.Mathlib.Omega.{arith}
use borrow.Author.Tests.{ltb-true}
use lib.Dec.{ltb}
use Rattle.vm_operands.specs.Numbers.{order, immediate, in_field, signed, number_of}
use Rattle.vm_operands.specs.declared.ImmediateValue.{ImmediateValue}

-- what is made of a sign and a magnitude below p is below p
pub field_below : (negative : Bool) (m : ℕ) → m < order → in_field negative m < order
field_below false m h = h
field_below true m h = go (ltb 0 m) refl
  where
    go : (t : Bool) → ltb 0 m ≡ t → cond t (order - m) m < order
    go true e = omega (arith, ltb-true 0 m e)
    go false e = h

pub signed_below : (negative : Bool) (n : Option ℕ) (v : ImmediateValue) → signed negative n ≡ Some v → v.number < order
unfolding signed
signed_below negative (Some m) v e = go (ltb m order) refl e
  where
    go : (t : Bool) → ltb m order ≡ t → cond t (Some (immediate (in_field negative m))) None ≡ Some v → v.number < order
    go true h f = let w : immediate (in_field negative m) ≡ v = cc in rw (← w) (field_below negative m (ltb-true m order h))
    go false h f = let z : ◌≡◌ {A = ℕ} 0 1 = cc in omega arith
signed_below negative None v e = let z : ◌≡◌ {A = ℕ} 0 1 = cc in omega arith

-- the number that a text is lies below p
pub number_below : (s : List ℕ) (v : ImmediateValue) → number_of s ≡ Some v → v.number < order
unfolding number_of
number_below s v e = signed_below _ _ v e
