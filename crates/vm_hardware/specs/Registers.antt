-- "Operations and registers": the registers, their bits in the three places, and their spellings.
use Rattle.std.specs.Prelude.{ℕ, ◌+◌, ◌-◌, ◌^◌, List, [], ◌∷◌, Bool, ◌&&◌, cond, eqb, length, get_or, Option, Some, None}
use Rattle.text.specs.Bytes.{bytes, is_digit, same}
use Rattle.vm_opcodes.specs.Operations.{bit}
use Rattle.vm_hardware.specs.declared.OlaRegister.{OlaRegister}
use Rattle.vm_hardware.specs.declared.OlaRegister.TheVariants.{R0, R1, R2, R3, R4, R5, R6, R7, R8, R9}
use Rattle.vm_hardware.specs.declared.OlaSpecialRegister.{OlaSpecialRegister}
use Rattle.vm_hardware.specs.declared.OlaSpecialRegister.TheVariants.{PC, PSP}
use Rattle.vm_hardware.specs.declared.Place.{Place}
use Rattle.vm_hardware.specs.declared.Place.TheVariants.{Op0, Op1, Dst}

-- "An instruction has three places, 0 op0, 1 op1 and 2 dst"
abbrev pub place_index : Place → ℕ
place_index Op0 = 0
place_index Op1 = 1
place_index Dst = 2

-- in the order of `OlaRegister`
unfoldable pub registers : List OlaRegister
registers = R0 ∷ R1 ∷ R2 ∷ R3 ∷ R4 ∷ R5 ∷ R6 ∷ R7 ∷ R8 ∷ R9 ∷ []

abbrev pub register_index : OlaRegister → ℕ
register_index R0 = 0
register_index R1 = 1
register_index R2 = 2
register_index R3 = 3
register_index R4 = 4
register_index R5 = 5
register_index R6 = 6
register_index R7 = 7
register_index R8 = 8
register_index R9 = 9

-- the register of an index below ten
abbrev pub register_at : ℕ → OlaRegister
register_at k = get_or registers k R0

-- "op0 52 plus the register, op1 42 plus it, dst 32 plus it"
abbrev pub place_bit : Place → ℕ
place_bit Op0 = 52
place_bit Op1 = 42
place_bit Dst = 32

abbrev pub register_bit : Place → OlaRegister → ℕ
register_bit place r = place_bit place + register_index r

-- the word that has this bit alone
abbrev pub register_mask : Place → OlaRegister → ℕ
register_mask place r = 2 ^ register_bit place r

-- the first register in that order that passes a test
unfoldable pub first_register : (OlaRegister → Bool) → List OlaRegister → Option OlaRegister
first_register f [] = None
first_register f (r ∷ rs) = cond (f r) (Some r) (first_register f rs)

-- "the lowest set register bit of each place counts"
abbrev pub register_in : Place → ℕ → Option OlaRegister
register_in place w = first_register (λ r. bit (register_bit place r) w) registers

-- "Registers list as r0 to r9"
abbrev pub register_text : OlaRegister → List ℕ
register_text r = 114 ∷ (48 + register_index r) ∷ []

-- `rA`: `r` and one digit
unfoldable pub register_of : List ℕ → Option OlaRegister
register_of s =
    cond (eqb (length s) 2 && eqb (get_or s 0 0) 114 && is_digit (get_or s 1 0))
    (Some (register_at (get_or s 1 0 - 48)))
    None

-- "special ones as pc and psp"
abbrev pub special_text : OlaSpecialRegister → List ℕ
special_text PC = bytes "pc"
special_text PSP = bytes "psp"

-- `pc` or `psp`
unfoldable pub special_of : List ℕ → Option OlaSpecialRegister
special_of s =
    cond (same s (bytes "pc")) (Some PC)
    (cond (same s (bytes "psp")) (Some PSP)
    None)
