-- What trying one shape finds.
use Rattle.std.specs.Prelude.{ℕ, List, ◌&&◌, cond, Option, Some, None, Result, Ok, Err}
use Rattle.asm.specs.Parts.{Part}
use Rattle.asm.specs.Operands.{Shape, byte_is, is_bracketed, is_register_at, register_of_place}
use Rattle.asm.specs.declared.OlaAsmOperand.{OlaAsmOperand}
use Rattle.asm_shapes.specs.Shapes.{out_of_range}
use Rattle.asm_shapes.specs.declared.OutOfRange.{OutOfRange}
use Rattle.vm_hardware.specs.declared.OlaRegister.{OlaRegister}

-- an operand of a shape, or an error where its number is out of range
abbrev pub fitting : Option OlaAsmOperand → Result (Option OlaAsmOperand) OutOfRange
fitting (Some o) = Ok (Some o)
fitting None = Err out_of_range

-- what a piece that has the shape is; none where it does not have it
unfoldable pub tried : Shape → Part → Result (Option OlaAsmOperand) OutOfRange
tried s q = cond (s.fits q.text) (fitting (s.means q)) (Ok None)

-- `[rA` ... `]`
unfoldable pub anchor_of : List ℕ → Option OlaRegister
anchor_of x = cond (is_bracketed x && is_register_at x 1) (Some (register_of_place x 1)) None

-- `,rB` after it
unfoldable pub second_of : List ℕ → Option OlaRegister
second_of x = cond (byte_is x 3 44 && is_register_at x 4) (Some (register_of_place x 4)) None
