-- A first word is a sum of fields, each below the next one's unit, so each field of the instruction is found in it, whatever its places hold.
use Rattle.std.specs.Prelude.{Option, Some, None}
use Prim.Native.Nat.{ℕ, ◌+◌, ◌-◌, ◌*◌, ◌/◌, ◌%◌, ◌^◌, ◌<◌}
use mathlib.Core.Path.{◌≡◌, refl, sym, ap, ap₂, ◌∙◌, fun_ext}
use mathlib.Core.Bool.{Bool, true, false, ◌||◌, cond, or_assoc}
use native.Mathlib.Nat.{mul_comm, zero-mul}
use native.Mathlib.Omega.{arith}
use lib.Dec.{eqb, lit<}
use lib.Pow.{pow-add, pow-lt, shr-shr, field, mod-mod-pow}
use Rattle.vm_opcodes.specs.Operations.{operations, operation_bit, bit, first_operation, operation_in}
use Rattle.vm_opcodes.specs.declared.OlaOpcode.{OlaOpcode}
use Rattle.vm_opcodes.proofs.Laws.{agree, bit_most}
use Rattle.vm_opcodes.proofs.Variants.{each}
use Rattle.vm_hardware.specs.Registers.{registers, register_index, place_bit, first_register, register_in as registerOfWord}
use Rattle.vm_hardware.proofs.Laws.{index_lt}
use Rattle.vm_hardware.specs.declared.OlaRegister.{OlaRegister}
use Rattle.vm_hardware.specs.contracts.OlaRegister.{enum}
use Rattle.vm_hardware.specs.declared.Place.{Place}
use Rattle.vm_hardware.specs.declared.Place.TheVariants.{Op0, Op1, Dst}
use Rattle.vm_operands.specs.declared.OlaOperand.{OlaOperand}
use Rattle.program.specs.Instructions.{is_number, register_in, is_memory}
use Rattle.program.specs.Words.{register_bits, number_bit, first_word}
use Rattle.program.specs.Groups.{has_second}
use Rattle.program.specs.declared.BinaryInstruction.{BinaryInstruction}

-- a register or none, as the search in a word answers it
abbrev pub found_of : Option OlaRegister → Option OlaRegister
found_of None = None
found_of (Some r) = Some r

-- a register field's value
abbrev hot : Option OlaRegister → ℕ
hot None = 0
hot (Some r) = 2 ^ register_index r

hot_lt : (o : Option OlaRegister) → hot o < 2 ^ 10
hot_lt None = lit< tt
hot_lt (Some r) = pow-lt {i = register_index r} {j = 10} (index_lt r)

-- the number field's value
abbrev one : Bool → ℕ
one true = 1
one false = 0

one_lt : (b : Bool) → one b < 2
one_lt true = lit< tt
one_lt false = lit< tt

register_bits_lem : (place : Place) (o : Option OlaRegister) → register_bits place o ≡ hot o * 2 ^ place_bit place
register_bits_lem place None = sym (zero-mul (2 ^ place_bit place))
register_bits_lem place (Some r) = pow-add 2 (place_bit place) (register_index r) ∙ mul_comm (2 ^ place_bit place) (2 ^ register_index r)

number_bit_lem : (o : OlaOperand) → number_bit o ≡ one (is_number o) * 2 ^ 62
number_bit_lem o = go (is_number o)
  where
    go : (b : Bool) → cond b (2 ^ 62) 0 ≡ one b * 2 ^ 62
    go true = refl
    go false = refl

operation_lt : (o : OlaOpcode) → 2 ^ operation_bit o < 2 ^ 32
operation_lt o = pow-lt {i = operation_bit o} {j = 32} (omega arith)

-- a sum of bounded fields shows each of them
fields_shown : (a b d n p w : ℕ) → a < 2 ^ 10 → b < 2 ^ 10 → d < 2 ^ 10 → n < 2 → p < 2 ^ 32 → w ≡ a * 2 ^ 52 + b * 2 ^ 42 + d * 2 ^ 32 + n * 2 ^ 62 + p
    → (w < 2 ^ 64) × (w / 2 ^ 52 % 2 ^ 10 ≡ a) × (w / 2 ^ 42 % 2 ^ 10 ≡ b) × (w / 2 ^ 32 % 2 ^ 10 ≡ d) × (w / 2 ^ 62 % 2 ≡ n) × (w % 2 ^ 32 ≡ p)
fields_shown a b d n p w ha hb hd hn hp e = omega arith

-- ---- a bit of a word is a bit of the field that it lies in

bit_in : (w j k : ℕ) → w / 2 ^ k % 2 ≡ w % 2 ^ (j + 1 + k) / 2 ^ k % 2
bit_in w j k = sym (ap (λ (x : ℕ). x % 2) (field w (j + 1) k) ∙ mod-mod-pow (w / 2 ^ k) j 1)

-- bit k of a word whose field of m bits is v
field_bit : (w m v k : ℕ) → k < m → w % 2 ^ m ≡ v → bit k w ≡ bit k v
field_bit w m v k h e =
    let s : m - 1 - k + 1 + k ≡ m = omega arith in
    ap (λ (x : ℕ). eqb x 1) (bit_in w (m - 1 - k) k ∙ ap (λ (n : ℕ). w % 2 ^ n / 2 ^ k % 2) s ∙ ap (λ (x : ℕ). x / 2 ^ k % 2) e)

-- the lowest register of a field
lowest_hot : (o : Option OlaRegister) → first_register (λ r. bit (register_index r) (hot o)) registers ≡ found_of o
unfolding registers first_register
lowest_hot None = refl
lowest_hot (Some r) = each enum tt (λ q. first_register (λ p. bit (register_index p) (hot (Some q))) registers) (λ q. found_of (Some q)) refl r

register_found : (place : Place) (w : ℕ) (o : Option OlaRegister) → w / 2 ^ place_bit place % 2 ^ 10 ≡ hot o → registerOfWord place w ≡ found_of o
register_found place w o e =
    ap (λ test. first_register test registers)
    (fun_ext (λ r.
    ap (λ (x : ℕ). eqb (x % 2) 1) (sym (shr-shr w (place_bit place) (register_index r))) ∙ field_bit (w / 2 ^ place_bit place) 10 (hot o) (register_index r) (index_lt r) e))
    ∙ lowest_hot o

-- the highest operation of a word with one operation's bit
highest_one : (o : OlaOpcode) → first_operation (λ q. bit (operation_bit q) (2 ^ operation_bit o)) operations ≡ Some o
unfolding operations first_operation
highest_one = agree Some (λ o. first_operation (λ q. bit (operation_bit q) (2 ^ operation_bit o)) operations) None refl

-- bits 22 and 21 are those of mload and mstore
memory_one : (o : OlaOpcode) → (bit 22 (2 ^ operation_bit o) || bit 21 (2 ^ operation_bit o)) ≡ is_memory o
unfolding operations
memory_one = agree is_memory (λ o. bit 22 (2 ^ operation_bit o) || bit 21 (2 ^ operation_bit o)) false refl

one_found : (b : Bool) → eqb (one b) 1 ≡ b
one_found true = refl
one_found false = refl

-- ---- what is found in a first word
module _ (i : BinaryInstruction) where
  shown :
      let w = first_word i in
      (w < 2 ^ 64) × (w / 2 ^ 52 % 2 ^ 10 ≡ hot (register_in i.op0)) × (w / 2 ^ 42 % 2 ^ 10 ≡ hot (register_in i.op1)) × (w / 2 ^ 32 % 2 ^ 10 ≡ hot (register_in i.dst))
      × (w / 2 ^ 62 % 2 ≡ one (is_number i.op1)) × (w % 2 ^ 32 ≡ 2 ^ operation_bit i.opcode)
  shown =
      fields_shown _ _ _ _ _ (first_word i) (hot_lt (register_in i.op0)) (hot_lt (register_in i.op1)) (hot_lt (register_in i.dst)) (one_lt (is_number i.op1))
      (operation_lt i.opcode)
      (omega (arith, register_bits_lem Op0 (register_in i.op0), register_bits_lem Op1 (register_in i.op1), register_bits_lem Dst (register_in i.dst), number_bit_lem i.op1))

  -- the first word is a 64-bit word
  pub first_lt : first_word i < 2 ^ 64
  first_lt = shown.0

  -- the operation found in it is the instruction's
  pub finds_operation : operation_in (first_word i) ≡ Some i.opcode
  finds_operation =
      ap (λ test. first_operation test operations)
      (fun_ext (λ q. field_bit (first_word i) 32 (2 ^ operation_bit i.opcode) (operation_bit q) (omega (arith, bit_most q)) shown.5))
      ∙ highest_one i.opcode

  -- the register found in it for a place is the one that stands there
  pub finds_op0 : registerOfWord Op0 (first_word i) ≡ found_of (register_in i.op0)
  finds_op0 = register_found Op0 (first_word i) (register_in i.op0) shown.1

  pub finds_op1 : registerOfWord Op1 (first_word i) ≡ found_of (register_in i.op1)
  finds_op1 = register_found Op1 (first_word i) (register_in i.op1) shown.2

  pub finds_dst : registerOfWord Dst (first_word i) ≡ found_of (register_in i.dst)
  finds_dst = register_found Dst (first_word i) (register_in i.dst) shown.3

  -- bit 62 says whether op1 is a number
  pub finds_number : bit 62 (first_word i) ≡ is_number i.op1
  finds_number = ap (λ (x : ℕ). eqb x 1) shown.4 ∙ one_found (is_number i.op1)

  -- its bits 62, 22 and 21 say whether op1 is a number or the operation is mload or mstore
  pub finds_second : has_second (first_word i) ≡ (is_number i.op1 || is_memory i.opcode)
  finds_second =
      or_assoc (bit 62 (first_word i)) (bit 22 (first_word i)) (bit 21 (first_word i))
      ∙ ap₂ ◌||◌ finds_number (ap₂ ◌||◌ (operation_bit_lem 22 (lit< tt)) (operation_bit_lem 21 (lit< tt)) ∙ memory_one i.opcode)
    where
      operation_bit_lem : (k : ℕ) → k < 32 → bit k (first_word i) ≡ bit k (2 ^ operation_bit i.opcode)
      operation_bit_lem k h = field_bit (first_word i) 32 (2 ^ operation_bit i.opcode) k h shown.5
