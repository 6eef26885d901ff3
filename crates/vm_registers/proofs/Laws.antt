-- The special registers' spellings, byte by byte.
use Rattle.std.specs.Prelude.{Some, None}
use mathlib.Core.Path.{◌≡◌, refl}
use mathlib.Core.Bool.{false, ◌&&◌, cond, and-true, and-false}
use mathlib.Core.List.{List, [], ◌∷◌}
use Prim.Native.Nat.{ℕ}
use native.Mathlib.Omega.{arith}
use borrow.Author.Tests.{ne_eqb}
use lib.Dec.{eqb}
use lib.ListN.{length, get_or}
use Rattle.text.specs.Bytes.{same}
use Rattle.vm_hardware.specs.Registers.{special_of}
use Rattle.vm_hardware.specs.declared.OlaSpecialRegister.TheVariants.{PC, PSP}

pub special_by_bytes : (s : List ℕ) → special_of s ≡ cond (eqb (length s) 2 && (eqb (get_or s 0 0) 112 && eqb (get_or s 1 0) 99)) (Some PC) (cond (eqb (length s) 3 && (eqb (get_or s 0 0) 112 && (eqb (get_or s 1 0) 115 && eqb (get_or s 2 0) 112))) (Some PSP) None)
unfolding special_of same
special_by_bytes [] = refl
special_by_bytes (a ∷ []) = simp and-false
special_by_bytes (a ∷ b ∷ []) = simp (and-true, and-false)
special_by_bytes (a ∷ b ∷ c ∷ []) = simp (and-true, and-false)
special_by_bytes (a ∷ b ∷ c ∷ d ∷ s) =
    let two : eqb (length (a ∷ b ∷ c ∷ d ∷ s)) 2 ≡ false = ne_eqb _ _ (λ h. omega (arith, h)) in
    let three : eqb (length (a ∷ b ∷ c ∷ d ∷ s)) 3 ≡ false = ne_eqb _ _ (λ h. omega (arith, h)) in
    simp (and-false, two, three)
