-- What a part of a piece is: a register, a number, or neither, in the words of the shapes.
use Rattle.std.specs.Prelude.{ℕ, List, cond, Option, Some, None, Result, Ok, Err}
use Rattle.asm.specs.Operands.{is_source_number, source_number, is_register_at, register_of_place}
use Rattle.asm_shapes.specs.declared.OutOfRange.{OutOfRange}
use Rattle.vm_hardware.specs.declared.OlaRegister.{OlaRegister}
use Rattle.vm_operands.specs.declared.ImmediateValue.{ImmediateValue}

-- rA at place k
unfoldable pub register_found_at : List ℕ → ℕ → Option OlaRegister
register_found_at x k = cond (is_register_at x k) (Some (register_of_place x k)) None

-- the one value of `OutOfRange`
abbrev pub out_of_range : OutOfRange
out_of_range = record {}

abbrev pub in_range : Option ImmediateValue → Result (Option ImmediateValue) OutOfRange
in_range (Some v) = Ok (Some v)
in_range None = Err out_of_range

-- n: none where the text is no number, and an error where it is one out of range
unfoldable pub source_number_of : List ℕ → Result (Option ImmediateValue) OutOfRange
source_number_of x = cond (is_source_number x) (in_range (source_number x)) (Ok None)
