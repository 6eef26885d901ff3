-- The laws of OrderLaws on examples.
use Rattle.std.specs.Prelude.{Some}
use Prim.Native.Nat.{ℕ, ◌<◌}
use mathlib.Core.Path.{◌≡◌, refl}
use mathlib.Core.List.{List, [], ◌∷◌, ◌++◌, map}
use mathlib.Core.Bool.{true, ◌||◌}
use mathlib.Core.Logic.{◌⊎◌}
use lib.Dec.{lit<}
use Rattle.text.specs.Bytes.{bytes, is_digit, is_letter, is_word, same}
use Rattle.text.specs.Scan.{scan, all}
use Rattle.vm_hardware.specs.Registers.{registers, register_of, special_of}
use Rattle.vm_hardware.specs.declared.OlaRegister.TheVariants.{R1}
use Rattle.vm_hardware.specs.declared.OlaSpecialRegister.TheVariants.{PC}
use Rattle.asm.specs.Parts.{Part}
use Rattle.asm.specs.Operands.{is_source_number, name, shapes, first_match, operand_of}
use Rattle.asm.specs.declared.OlaAsmOperand.TheVariants.{RegisterOperand, SpecialReg, Identifier}
use Rattle.asm_laws.proofs.OrderLaws.{unnamed, shape_at, each_place, one_shape, names_apart, is_among, any_order}

-- `[rA,rB]`, at 1, has none of the other seven
paired_alone : (k : ℕ) → k < 8 → (shape_at k).fits (bytes "[r2,r3]") ≡ true → 1 ≡ k
unfolding is_digit
paired_alone k h e = one_shape (bytes "[r2,r3]") 1 k (lit< tt) h refl e

-- `r1` is a name too
register_named_lem : (k : ℕ) → k < 8 → (shape_at k).fits (bytes "r1") ≡ true → (k ≡ 4) ⊎ (k ≡ 7)
unfolding is_letter is_digit is_word scan all
register_named_lem = names_apart (bytes "r1") refl

-- from the last to the first, the name behind the register
backwards_read : (q : Part) → first_match (map shape_at (7 ∷ 6 ∷ 5 ∷ 4 ∷ []) ++ name ∷ map shape_at (3 ∷ 2 ∷ 1 ∷ 0 ∷ [])) q ≡ operand_of q
unfolding all is_among
backwards_read q = any_order q (7 ∷ 6 ∷ 5 ∷ 4 ∷ []) (3 ∷ 2 ∷ 1 ∷ 0 ∷ []) refl refl each refl refl
  where
    each : (k : ℕ) → k < 8 → is_among k (7 ∷ 6 ∷ 5 ∷ 4 ∷ []) || is_among k (3 ∷ 2 ∷ 1 ∷ 0 ∷ []) ≡ true
    each = each_place (λ (k : ℕ). is_among k (7 ∷ 6 ∷ 5 ∷ 4 ∷ []) || is_among k (3 ∷ 2 ∷ 1 ∷ 0 ∷ []) ≡ true) refl refl refl refl refl refl refl refl

-- but with the name before them `r1` and `pc` are read otherwise
abbrev piece : List ℕ → Part
piece x = record { start = 0; text = x }

names_first :
    (operand_of (piece (bytes "r1")) ≡ Some (RegisterOperand R1)) × (first_match (name ∷ unnamed) (piece (bytes "r1")) ≡ Some (Identifier 0 2))
    × (operand_of (piece (bytes "pc")) ≡ Some (SpecialReg PC)) × (first_match (name ∷ unnamed) (piece (bytes "pc")) ≡ Some (Identifier 0 2))
unfolding is_letter is_digit is_word same scan all registers register_of special_of is_source_number shapes first_match
names_first = (refl, refl, refl, refl)
