-- Instructions as numbers: what a C caller gives and gets. These conventions stand in no paper of the customer's; they are the C header's.
use Rattle.std.specs.Prelude.{ℕ, cond, eqb, ltb, get_or, Option, Some, None}
use Rattle.vm_opcodes.specs.Operations.{operations, index_of}
use Rattle.vm_opcodes.specs.declared.OlaOpcode.TheVariants.{ADD}
use Rattle.vm_hardware.specs.Registers.{register_at, register_index}
use Rattle.vm_hardware.specs.declared.OlaRegister.{OlaRegister}
use Rattle.vm_hardware.specs.declared.OlaSpecialRegister.{OlaSpecialRegister}
use Rattle.vm_hardware.specs.declared.OlaSpecialRegister.TheVariants.{PC, PSP}
use Rattle.vm_operands.specs.Numbers.{immediate}
use Rattle.vm_operands.specs.declared.ImmediateValue.{ImmediateValue}
use Rattle.vm_operands.specs.declared.OlaOperand.{OlaOperand}
use Rattle.vm_operands.specs.declared.OlaOperand.TheVariants.{Empty, ImmediateOperand, RegisterOperand, RegisterWithOffset, RegisterWithFactor, SpecialReg}
use Rattle.program.specs.Instructions.{made}
use Rattle.program.specs.declared.BinaryInstruction.{BinaryInstruction}
use Rattle.ola_places.specs.declared.OlaPlace.{OlaPlace}
use Rattle.ola_places.specs.declared.OlaInstruction.{OlaInstruction}
use Rattle.vm_opcodes.specs.declared.OlaOpcode.{OlaOpcode}

-- ---- taken

-- "opcode: OlaOpcode's order, from 0"
abbrev pub operation_named : ℕ → Option OlaOpcode
operation_named k = cond (ltb k 27) (Some (get_or operations k ADD)) None

abbrev pub register_named : ℕ → Option OlaRegister
register_named k = cond (ltb k 10) (Some (register_at k)) None

-- "special (reg 0 pc, 1 psp)"
abbrev pub special_named : ℕ → Option OlaSpecialRegister
special_named k = cond (eqb k 0) (Some PC) (cond (eqb k 1) (Some PSP) None)

-- "2 register, 3 offset, 4 factor"
abbrev pub with_register : ℕ → OlaRegister → ImmediateValue → OlaOperand
with_register content r v = cond (eqb content 2) (RegisterOperand r) (cond (eqb content 3) (RegisterWithOffset r v) (RegisterWithFactor r v))

abbrev pub on_register : ℕ → ImmediateValue → Option OlaRegister → Option OlaOperand
on_register content v (Some r) = Some (with_register content r v)
on_register content v None = None

abbrev pub on_special : Option OlaSpecialRegister → Option OlaOperand
on_special (Some s) = Some (SpecialReg s)
on_special None = None

-- "content: 0 empty, 1 number, 2 register, 3 offset, 4 factor, 5 special"
unfoldable pub place_in : OlaPlace → Option OlaOperand
place_in p =
    cond (eqb p.content 0) (Some Empty)
    (cond (eqb p.content 1) (Some (ImmediateOperand (immediate p.number)))
    (cond (eqb p.content 5) (on_special (special_named p.reg))
    (cond (ltb 4 p.content) None
    (on_register p.content (immediate p.number) (register_named p.reg)))))

abbrev pub named : Option OlaOpcode → Option OlaOperand → Option OlaOperand → Option OlaOperand → Option BinaryInstruction
named None op0 op1 dst = None
named (Some o) None op1 dst = None
named (Some o) (Some a) None dst = None
named (Some o) (Some a) (Some b) None = None
named (Some o) (Some a) (Some b) (Some d) = Some (made o a b d)

-- the instruction that the numbers name
unfoldable pub instruction_in : OlaInstruction → Option BinaryInstruction
instruction_in i = named (operation_named i.opcode) (place_in i.op0) (place_in i.op1) (place_in i.dst)

-- ---- given

abbrev pub special_number : OlaSpecialRegister → ℕ
special_number PC = 0
special_number PSP = 1

abbrev pub a_place : ℕ → ℕ → ℕ → OlaPlace
a_place content reg number = record { content = content; reg = reg; number = number }

abbrev pub place_out : OlaOperand → OlaPlace
place_out Empty = a_place 0 0 0
place_out (ImmediateOperand v) = a_place 1 0 v.number
place_out (RegisterOperand r) = a_place 2 (register_index r) 0
place_out (RegisterWithOffset r v) = a_place 3 (register_index r) v.number
place_out (RegisterWithFactor r v) = a_place 4 (register_index r) v.number
place_out (SpecialReg s) = a_place 5 (special_number s) 0

abbrev pub instruction_out : BinaryInstruction → OlaInstruction
instruction_out i = record { opcode = index_of i.opcode; op0 = place_out i.op0; op1 = place_out i.op1; dst = place_out i.dst }

-- of a refusal: every number 0
abbrev pub no_instruction : OlaInstruction
no_instruction = record { opcode = 0; op0 = a_place 0 0 0; op1 = a_place 0 0 0; dst = a_place 0 0 0 }
