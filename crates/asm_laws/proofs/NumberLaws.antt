-- Every number in an operand of a row that was read is below p.
use Rattle.std.specs.Prelude.{Option, Some, None}
use Prim.Native.Nat.{ℕ, ◌<◌}
use mathlib.Core.Path.{◌≡◌, refl}
use mathlib.Core.List.{List}
use mathlib.Core.Bool.{Bool, true, false, cond}
use lib.Dec.{lit<}
use Rattle.text.specs.All.{All, none_left, one_more}
use Rattle.vm_hardware.specs.Registers.{register_of, special_of}
use Rattle.vm_operands.specs.Numbers.{order, signed, number_of}
use Rattle.vm_operands.proofs.Laws.{signed_below, number_below}
use Rattle.vm_operands.specs.declared.ImmediateValue.{ImmediateValue}
use Rattle.asm.specs.Parts.{Part}
use Rattle.asm.specs.Operands.{hex_numeral, is_numeral, source_number, Shape, with_number, of_register, of_special, shapes, first_match, inner}
use Rattle.asm.specs.Rows.{row_of}
use Rattle.asm.specs.declared.OlaAsmOperand.{OlaAsmOperand}
use Rattle.asm.specs.declared.OlaAsmOperand.TheVariants.{Empty, ImmediateOperand, RegisterOperand, RegisterWithOffset, RegisterWithFactoredRegOffset, SpecialReg, Label, Identifier}
use Rattle.asm.specs.declared.OlaAsmInstruction.{OlaAsmInstruction}
use Rattle.asm.specs.declared.AsmRow.TheVariants.{Instruction}
use Rattle.asm_laws.proofs.ShapeLaws.{OperandHolds, row_arranged}
use Rattle.vm_hardware.specs.declared.OlaRegister.{OlaRegister}
use Rattle.vm_hardware.specs.declared.OlaSpecialRegister.{OlaSpecialRegister}

-- the number, offset or factor of an operand is below p
abbrev pub OperandBelow : OlaAsmOperand → Type 0
OperandBelow Empty = Unit {0}
OperandBelow (ImmediateOperand v) = v.number < order
OperandBelow (RegisterOperand r) = Unit {0}
OperandBelow (RegisterWithOffset r v) = v.number < order
OperandBelow (RegisterWithFactoredRegOffset r t v) = v.number < order
OperandBelow (SpecialReg t) = Unit {0}
OperandBelow (Label start n) = Unit {0}
OperandBelow (Identifier start n) = Unit {0}

-- every number of a row is below p
pub record OperandsBelow (i : OlaAsmInstruction) : Type 0 where
  pub op0 : OperandBelow i.op0
  pub op1 : OperandBelow i.op1
  pub dst : OperandBelow i.dst

-- ---- a number read

abbrev FoundBelow : Option ImmediateValue → Type 0
FoundBelow (Some v) = v.number < order
FoundBelow None = Unit {0}

found_below : (s : List ℕ) → FoundBelow (source_number s)
unfolding source_number
found_below s = go (is_numeral (hex_numeral s)) (source_number s) refl
  where
    go : (t : Bool) (x : Option ImmediateValue) → cond t (signed false (hex_numeral s)) (number_of s) ≡ x → FoundBelow x
    go true (Some v) e = signed_below false (hex_numeral s) v e
    go false (Some v) e = number_below s v e
    go t None e = tt

-- ---- an operand read

with_number_lem : (f : ImmediateValue → OlaAsmOperand) → ((v : ImmediateValue) → v.number < order → OperandBelow (f v)) → (x : Option ImmediateValue) → FoundBelow x
    → OperandHolds OperandBelow (with_number f x)
with_number_lem f g (Some v) h = g v h
with_number_lem f g None h = tt

of_register_lem : (x : Option OlaRegister) → OperandHolds OperandBelow (of_register x)
of_register_lem (Some r) = tt
of_register_lem None = tt

of_special_lem : (x : Option OlaSpecialRegister) → OperandHolds OperandBelow (of_special x)
of_special_lem (Some t) = tt
of_special_lem None = tt

-- a shape whose operands have numbers below p
abbrev ShapeBelow : Shape → Type 0
ShapeBelow s = (q : Part) → OperandHolds OperandBelow (s.means q)

shapes_below : All ShapeBelow shapes
unfolding shapes
shapes_below =
    one_more (λ q. with_number_lem _ (λ v h. h) (source_number (inner q.text 7)) (found_below (inner q.text 7)))
    (one_more (λ q. lit< tt)
    (one_more (λ q. lit< tt)
    (one_more (λ q. with_number_lem _ (λ v h. h) (source_number (inner q.text 4)) (found_below (inner q.text 4)))
    (one_more (λ q. of_register_lem (register_of q.text))
    (one_more (λ q. with_number_lem ImmediateOperand (λ v h. h) (source_number q.text) (found_below q.text))
    (one_more (λ q. tt)
    (one_more (λ q. of_special_lem (special_of q.text))
    (one_more (λ q. tt)
    none_left))))))))

match_below : (ss : List Shape) → All ShapeBelow ss → (q : Part) → OperandHolds OperandBelow (first_match ss q)
unfolding first_match
match_below ss none_left q = tt
match_below ss (one_more {x = s} {xs = rest} h hs) q = go (s.fits q.text) (h q) (match_below rest hs q)
  where
    go : (t : Bool) → OperandHolds OperandBelow (s.means q) → OperandHolds OperandBelow (first_match rest q)
        → OperandHolds OperandBelow (cond t (s.means q) (first_match rest q))
    go true a b = a
    go false a b = b

-- every number of a row read is below p
pub numbers_below : (ps : List Part) (i : OlaAsmInstruction) → row_of ps ≡ Some (Instruction i) → OperandsBelow i
numbers_below ps i e =
    let a = row_arranged OperandBelow tt (match_below shapes shapes_below) ps i e in
    record { op0 = a.op0; op1 = a.op1; dst = a.dst }
