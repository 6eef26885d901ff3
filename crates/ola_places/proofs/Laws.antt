-- Instructions as numbers: what is given can be taken back.
use Rattle.std.specs.Prelude.{Some}
use mathlib.Core.Path.{◌≡◌, refl}
use borrow.Author.Tests.{lt-ltb}
use Rattle.vm_opcodes.specs.Operations.{index_of}
use Rattle.vm_opcodes.specs.declared.OlaOpcode.{OlaOpcode}
use Rattle.vm_opcodes.proofs.Laws.{index_lt as operation-index-lt, operation_at_index}
use Rattle.vm_hardware.specs.Registers.{register_index}
use Rattle.vm_hardware.specs.declared.OlaRegister.{OlaRegister}
use Rattle.vm_hardware.specs.declared.OlaSpecialRegister.{OlaSpecialRegister}
use Rattle.vm_hardware.specs.declared.OlaSpecialRegister.TheVariants.{PC, PSP}
use Rattle.vm_hardware.proofs.Laws.{index_lt as register-index-lt, register_at_index}
use Rattle.vm_operands.specs.declared.OlaOperand.{OlaOperand}
use Rattle.vm_operands.specs.declared.OlaOperand.TheVariants.{Empty, ImmediateOperand, RegisterOperand, RegisterWithOffset, RegisterWithFactor, SpecialReg}
use Rattle.program.specs.declared.BinaryInstruction.{BinaryInstruction}
use Rattle.ola_places.specs.Places.{operation_named, register_named, special_named, place_in, instruction_in, special_number, place_out, instruction_out}

operation_back : (o : OlaOpcode) → operation_named (index_of o) ≡ Some o
operation_back o = rw (lt-ltb _ _ (operation-index-lt o), operation_at_index o)

register_back : (r : OlaRegister) → register_named (register_index r) ≡ Some r
register_back r = rw (lt-ltb _ _ (register-index-lt r), register_at_index r)

special_back : (s : OlaSpecialRegister) → special_named (special_number s) ≡ Some s
special_back PC = refl
special_back PSP = refl

pub place_back : (x : OlaOperand) → place_in (place_out x) ≡ Some x
unfolding place_in
place_back Empty = refl
place_back (ImmediateOperand v) = refl
place_back (RegisterOperand r) = rw (register_back r)
place_back (RegisterWithOffset r v) = rw (register_back r)
place_back (RegisterWithFactor r v) = rw (register_back r)
place_back (SpecialReg s) = rw (special_back s)

-- so what a call of next gives can be given to encode and to listing_row
pub back : (i : BinaryInstruction) → instruction_in (instruction_out i) ≡ Some i
unfolding instruction_in
back i = rw (operation_back i.opcode, place_back i.op0, place_back i.op1, place_back i.dst)
