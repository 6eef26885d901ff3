-- Numbers at the edges of what names an instruction, by computation. The conventions are the C header's.
use Rattle.std.specs.Prelude.{Option, Some, None}
use Prim.Native.Nat.{ℕ}
use mathlib.Core.Path.{◌≡◌, refl}
use mathlib.Core.List.{List, [], ◌∷◌, map}
use Rattle.vm_opcodes.specs.Operations.{operations}
use Rattle.vm_opcodes.specs.declared.OlaOpcode.TheVariants.{ADD, MLOAD, EVENT}
use Rattle.vm_hardware.specs.Registers.{registers}
use Rattle.vm_hardware.specs.declared.OlaRegister.TheVariants.{R0, R2, R9}
use Rattle.vm_hardware.specs.declared.OlaSpecialRegister.TheVariants.{PC, PSP}
use Rattle.vm_operands.specs.Numbers.{immediate}
use Rattle.vm_operands.specs.declared.OlaOperand.TheVariants.{Empty, ImmediateOperand, RegisterOperand, RegisterWithOffset, RegisterWithFactor, SpecialReg}
use Rattle.program.specs.Instructions.{made}
use Rattle.ola_places.specs.Places.{place_in, instruction_in, a_place, instruction_out}
use Rattle.ola_places.specs.declared.OlaPlace.{OlaPlace}
use Rattle.ola_places.specs.declared.OlaInstruction.{OlaInstruction}
use Rattle.program.specs.declared.BinaryInstruction.{BinaryInstruction}
use Rattle.vm_operands.specs.declared.OlaOperand.{OlaOperand}

-- a place and what it names: each content at its last register, and the first number past each
abbrev places : List (OlaPlace × Option OlaOperand)
places =
    (a_place 0 99 99, Some Empty)
    ∷ (a_place 1 99 5, Some (ImmediateOperand (immediate 5)))
    ∷ (a_place 2 9 99, Some (RegisterOperand R9))
    ∷ (a_place 3 0 5, Some (RegisterWithOffset R0 (immediate 5)))
    ∷ (a_place 4 2 5, Some (RegisterWithFactor R2 (immediate 5)))
    ∷ (a_place 5 0 99, Some (SpecialReg PC))
    ∷ (a_place 5 1 99, Some (SpecialReg PSP))
    ∷ (a_place 2 10 0, None)
    ∷ (a_place 3 10 0, None)
    ∷ (a_place 4 255 0, None)
    ∷ (a_place 5 2 0, None)
    ∷ (a_place 6 0 0, None)
    ∷ (a_place 255 0 0, None)
    ∷ []

places_right : map (λ e. place_in e.0) places ≡ map (λ e. e.1) places
unfolding place_in registers
places_right = refl

abbrev given : ℕ → OlaPlace → OlaPlace → OlaPlace → OlaInstruction
given k a b d = record { opcode = k; op0 = a; op1 = b; dst = d }

abbrev none : OlaPlace
none = a_place 0 0 0

abbrev wrong : OlaPlace
wrong = a_place 6 0 0

-- numbers and the instruction that they name: the first and the last operation, one past it, and one place at fault
abbrev instructions : List (OlaInstruction × Option BinaryInstruction)
instructions =
    (given 0 none none none, Some (made ADD Empty Empty Empty))
    ∷ (given 26 none none none, Some (made EVENT Empty Empty Empty))
    ∷ (given 9 (a_place 2 2 0) (a_place 4 9 7) (a_place 2 0 0), Some (made MLOAD (RegisterOperand R2) (RegisterWithFactor R9 (immediate 7)) (RegisterOperand R0)))
    ∷ (given 27 none none none, None)
    ∷ (given 255 none none none, None)
    ∷ (given 0 wrong none none, None)
    ∷ (given 0 none wrong none, None)
    ∷ (given 0 none none wrong, None)
    ∷ []

instructions_right : map (λ e. instruction_in e.0) instructions ≡ map (λ e. e.1) instructions
unfolding instruction_in place_in operations registers
instructions_right = refl

-- an instruction and its numbers
given_right : instruction_out (made MLOAD (RegisterOperand R2) (RegisterWithFactor R9 (immediate 7)) (RegisterOperand R0)) ≡ given 9 (a_place 2 2 0) (a_place 4 9 7) (a_place 2 0 0)
given_right = refl
