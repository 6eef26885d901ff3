-- Registers in first words, and spellings, from the papers, against the definitions.
use Rattle.std.specs.Prelude.{Option, Some, None}
use mathlib.Core.Path.{◌≡◌, refl}
use mathlib.Core.List.{List, [], ◌∷◌, map}
use Prim.Native.Nat.{ℕ, ◌^◌}
use Rattle.text.specs.Bytes.{bytes, is_digit, same}
use Rattle.vm_hardware.specs.Registers.{registers, register_bit, first_register, register_in, register_text, register_of, special_text, special_of}
use Rattle.vm_hardware.specs.declared.OlaRegister.{OlaRegister}
use Rattle.vm_hardware.specs.declared.OlaRegister.TheVariants.{R0, R1, R2, R3, R7, R9}
use Rattle.vm_hardware.specs.declared.OlaSpecialRegister.{OlaSpecialRegister}
use Rattle.vm_hardware.specs.declared.OlaSpecialRegister.TheVariants.{PC, PSP}
use Rattle.vm_hardware.specs.declared.Place.{Place}
use Rattle.vm_hardware.specs.declared.Place.TheVariants.{Op0, Op1, Dst}

-- a place and a register, and the register's bit there: the Rust's shifts of R0 and R9
abbrev bits : List ((Place × OlaRegister) × ℕ)
bits = ((Op0, R0), 52) ∷ ((Op0, R9), 61) ∷ ((Op1, R0), 42) ∷ ((Op1, R9), 51) ∷ ((Dst, R0), 32) ∷ ((Dst, R9), 41) ∷ []

-- a place and a first word, and the register found: two registers in one place, one in each of two places, none, and the bits at and beside
-- the ends of a place
abbrev words : List ((Place × ℕ) × Option OlaRegister)
words =
    ((Dst, 0x0000000600800000), Some R1)
    ∷ ((Op0, 0x4040000200400000), Some R2)
    ∷ ((Op1, 0x4040000200400000), None)
    ∷ ((Dst, 0x4040000200400000), Some R1)
    ∷ ((Op1, 0x0040200200400000), Some R3)
    ∷ ((Dst, 0x0040200200400000), Some R1)
    ∷ ((Op0, 0), None)
    ∷ ((Op1, 0), None)
    ∷ ((Dst, 0), None)
    ∷ ((Op0, 2 ^ 61), Some R9)
    ∷ ((Op0, 2 ^ 62), None)
    ∷ ((Op0, 2 ^ 52), Some R0)
    ∷ ((Op1, 2 ^ 52), None)
    ∷ ((Op1, 2 ^ 51), Some R9)
    ∷ ((Op0, 2 ^ 51), None)
    ∷ ((Op1, 2 ^ 42), Some R0)
    ∷ ((Dst, 2 ^ 42), None)
    ∷ ((Dst, 2 ^ 41), Some R9)
    ∷ ((Dst, 2 ^ 32), Some R0)
    ∷ ((Dst, 2 ^ 31), None)
    ∷ []

-- a piece, and the register that it names: one digit after `r`, no other letter, byte or length
abbrev names : List (List ℕ × Option OlaRegister)
names =
    (bytes "r0", Some R0)
    ∷ (bytes "r9", Some R9)
    ∷ (bytes "r10", None)
    ∷ (bytes "R1", None)
    ∷ (bytes "r", None)
    ∷ (bytes "ra", None)
    ∷ (bytes "r/", None)
    ∷ (bytes "r:", None)
    ∷ (bytes "1r", None)
    ∷ (bytes "", None)
    ∷ []

abbrev specials : List (List ℕ × Option OlaSpecialRegister)
specials =
    (bytes "pc", Some PC)
    ∷ (bytes "psp", Some PSP)
    ∷ (bytes "PC", None)
    ∷ (bytes "sp", None)
    ∷ (bytes "pspp", None)
    ∷ (bytes "p", None)
    ∷ (bytes "", None)
    ∷ []

abbrev spellings : List (OlaRegister × List ℕ)
spellings = (R7, bytes "r7") ∷ (R0, bytes "r0") ∷ (R9, bytes "r9") ∷ []

abbrev special_spellings : List (OlaSpecialRegister × List ℕ)
special_spellings = (PC, bytes "pc") ∷ (PSP, bytes "psp") ∷ []

-- the definitions answer as the tables say
abbrev asked : {X Y : Type 0} → (X → Y) → List (X × Y) → Type 0
asked f table = map (λ row. f row.0) table ≡ map (λ row. row.1) table

pub bit_cases : asked (λ row. register_bit row.0 row.1) bits
bit_cases = refl

pub word_cases_lem : asked (λ row. register_in row.0 row.1) words
unfolding registers first_register
word_cases_lem = refl

pub name_cases : asked register_of names × asked special_of specials
unfolding registers register_of special_of is_digit same
name_cases = (refl, refl)

pub spelling_cases : asked register_text spellings × asked special_text special_spellings
spelling_cases = (refl, refl)
