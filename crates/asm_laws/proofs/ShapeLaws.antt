-- An instruction row that was read: what holds of every operand read holds of its places, and which places of mload and mstore are empty.
use Rattle.std.specs.Prelude.{Option, Some, None}
use Prim.Native.Nat.{◌-◌}
use mathlib.Core.Path.{◌≡◌, refl, subst}
use mathlib.Core.List.{List, [], ◌∷◌}
use mathlib.Core.Bool.{Bool, true, false, cond}
use lib.ListN.{length}
use Rattle.text.specs.Bytes.{bytes}
use Rattle.text.specs.All.{All, none_left, one_more}
use Rattle.vm_opcodes.specs.Operations.{row_places}
use Rattle.vm_opcodes.specs.declared.OlaOpcode.{OlaOpcode}
use Rattle.vm_opcodes.specs.declared.RowPlaces.{RowPlaces}
use Rattle.vm_opcodes.specs.declared.RowPlaces.TheVariants.{DstOp0Op1, DstOp1, DstMemory, MemoryDst, Op0Op1, Op1, Bare}
use Rattle.vm_mnemonics.specs.Mnemonics.{operation_of}
use Rattle.asm.specs.Parts.{Part}
use Rattle.asm.specs.Operands.{operand_of}
use Rattle.asm.specs.Rows.{arranged, one_operand_more, operands_of, arranged_if, is_call_row, is_pair_row, label_row, or_else_row, row_of}
use Rattle.asm.specs.declared.OlaAsmOperand.{OlaAsmOperand}
use Rattle.asm.specs.declared.OlaAsmOperand.TheVariants.{Empty}
use Rattle.asm.specs.declared.OlaAsmInstruction.{OlaAsmInstruction}
use Rattle.asm.specs.declared.AsmRow.{AsmRow}
use Rattle.asm.specs.declared.AsmRow.TheVariants.{Instruction, LabelCall, LabelJmp, LabelProphet}

-- mload has nothing in op0, mstore nothing in dst
pub record MemoryShaped (i : OlaAsmInstruction) : Type 0 where
  pub load : row_places i.opcode ≡ DstMemory → i.op0 ≡ Empty
  pub store : row_places i.opcode ≡ MemoryDst → i.dst ≡ Empty

-- a property of the operand that was read, if one was
abbrev pub OperandHolds : (OlaAsmOperand → Type 0) → Option OlaAsmOperand → Type 0
OperandHolds Q (Some o) = Q o
OperandHolds Q None = Unit {0}

-- a property of the instruction of a row
abbrev pub InstructionHolds : (OlaAsmInstruction → Type 0) → AsmRow → Type 0
InstructionHolds P (Instruction i) = P i
InstructionHolds P (LabelCall start n) = Unit {0}
InstructionHolds P (LabelJmp start n) = Unit {0}
InstructionHolds P (LabelProphet start n) = Unit {0}

-- and of a row that was read, if one was
abbrev pub RowHolds : (OlaAsmInstruction → Type 0) → Option AsmRow → Type 0
RowHolds P (Some r) = InstructionHolds P r
RowHolds P None = Unit {0}

-- an instruction whose operands have a property
pub record Arranged (Q : OlaAsmOperand → Type 0) (i : OlaAsmInstruction) : Type 0 where
  pub op0 : Q i.op0
  pub op1 : Q i.op1
  pub dst : Q i.dst
  pub shaped : MemoryShaped i

module _ (Q : OlaAsmOperand → Type 0) (empty : Q Empty) where
  arranged_holds : (o : OlaOpcode) (p : RowPlaces) (os : List OlaAsmOperand) → row_places o ≡ p → All Q os → RowHolds (Arranged Q) (arranged o p os)
  unfolding arranged
  arranged_holds o DstOp0Op1 [] e h = tt
  arranged_holds o DstOp0Op1 (a ∷ []) e h = tt
  arranged_holds o DstOp0Op1 (a ∷ b ∷ []) e h = tt
  arranged_holds o DstOp0Op1 (a ∷ b ∷ c ∷ []) e (one_more x (one_more y (one_more z h))) =
      record { op0 = y; op1 = z; dst = x; shaped = record { load = λ f. cc; store = λ f. cc } }
  arranged_holds o DstOp0Op1 (a ∷ b ∷ c ∷ d ∷ os) e h = tt
  arranged_holds o DstOp1 [] e h = tt
  arranged_holds o DstOp1 (a ∷ []) e h = tt
  arranged_holds o DstOp1 (a ∷ b ∷ []) e (one_more x (one_more y h)) =
      record { op0 = empty; op1 = y; dst = x; shaped = record { load = λ f. refl; store = λ f. cc } }
  arranged_holds o DstOp1 (a ∷ b ∷ c ∷ os) e h = tt
  arranged_holds o DstMemory [] e h = tt
  arranged_holds o DstMemory (a ∷ []) e h = tt
  arranged_holds o DstMemory (a ∷ b ∷ []) e (one_more x (one_more y h)) =
      record { op0 = empty; op1 = y; dst = x; shaped = record { load = λ f. refl; store = λ f. cc } }
  arranged_holds o DstMemory (a ∷ b ∷ c ∷ os) e h = tt
  arranged_holds o MemoryDst [] e h = tt
  arranged_holds o MemoryDst (a ∷ []) e h = tt
  arranged_holds o MemoryDst (a ∷ b ∷ []) e (one_more x (one_more y h)) =
      record { op0 = x; op1 = y; dst = empty; shaped = record { load = λ f. cc; store = λ f. refl } }
  arranged_holds o MemoryDst (a ∷ b ∷ c ∷ os) e h = tt
  arranged_holds o Op0Op1 [] e h = tt
  arranged_holds o Op0Op1 (a ∷ []) e h = tt
  arranged_holds o Op0Op1 (a ∷ b ∷ []) e (one_more x (one_more y h)) =
      record { op0 = x; op1 = y; dst = empty; shaped = record { load = λ f. cc; store = λ f. refl } }
  arranged_holds o Op0Op1 (a ∷ b ∷ c ∷ os) e h = tt
  arranged_holds o Op1 [] e h = tt
  arranged_holds o Op1 (a ∷ []) e (one_more x h) =
      record { op0 = empty; op1 = x; dst = empty; shaped = record { load = λ f. refl; store = λ f. refl } }
  arranged_holds o Op1 (a ∷ b ∷ os) e h = tt
  arranged_holds o Bare [] e h =
      record { op0 = empty; op1 = empty; dst = empty; shaped = record { load = λ f. refl; store = λ f. refl } }
  arranged_holds o Bare (a ∷ os) e h = tt

  -- a property of every operand read, if all were
  abbrev AllHold : Option (List OlaAsmOperand) → Type 0
  AllHold None = Unit {0}
  AllHold (Some os) = All Q os

  arranged_if_lem : (f : Option OlaOpcode) (os : Option (List OlaAsmOperand)) → AllHold os → RowHolds (Arranged Q) (arranged_if f os)
  unfolding arranged_if
  arranged_if_lem None os h = tt
  arranged_if_lem (Some o) None h = tt
  arranged_if_lem (Some o) (Some os) h = arranged_holds o (row_places o) os refl h

  -- a label row is no instruction
  abbrev LabelHolds : Option AsmRow → Type 0
  LabelHolds None = Unit {0}
  LabelHolds (Some r) = InstructionHolds (Arranged Q) r

  label_holds : (q : Part) → LabelHolds (label_row q)
  unfolding label_row
  label_holds q = go (is_call_row q.text) (is_pair_row (bytes "LBL") q.text) (is_pair_row (bytes "PROPHET") q.text)
    where
      go : (t u v : Bool)
          → LabelHolds (cond t (Some (LabelCall q.start (length q.text - 1)))
          (cond u (Some (LabelJmp q.start (length q.text - 1)))
          (cond v (Some (LabelProphet q.start (length q.text - 1))) None)))
      go true u v = tt
      go false true v = tt
      go false false true = tt
      go false false false = tt

  module _ (read : (q : Part) → OperandHolds Q (operand_of q)) where
    operands_hold : (qs : List Part) → AllHold (operands_of qs)
    unfolding operands_of
    operands_hold [] = none_left
    operands_hold (q ∷ qs) = go (operand_of q) (operands_of qs) (read q) (operands_hold qs)
      where
        go : (r : Option OlaAsmOperand) (os : Option (List OlaAsmOperand)) → OperandHolds Q r → AllHold os → AllHold (one_operand_more r os)
        go None os h k = tt
        go (Some o) None h k = tt
        go (Some o) (Some os) h k = one_more h k

    row_holds : (ps : List Part) → RowHolds (Arranged Q) (row_of ps)
    unfolding row_of
    row_holds [] = tt
    row_holds (q ∷ []) = go (label_row q) (label_holds q) (arranged_if_lem (operation_of q.text) (Some []) none_left)
      where
        other : Option AsmRow
        other = arranged_if (operation_of q.text) (Some [])

        go : (l : Option AsmRow) → LabelHolds l → RowHolds (Arranged Q) other → RowHolds (Arranged Q) (or_else_row l other)
        go (Some r) h k = h
        go None h k = k
    row_holds (q ∷ r ∷ rs) = arranged_if_lem (operation_of q.text) (operands_of (r ∷ rs)) (operands_hold (r ∷ rs))

    -- what every operand read has, and an empty place has, the operands of a row read have
    pub row_arranged : (ps : List Part) (i : OlaAsmInstruction) → row_of ps ≡ Some (Instruction i) → Arranged Q i
    row_arranged ps i e = subst (RowHolds (Arranged Q)) e (row_holds ps)

-- rows read have empty places where mload and mstore look at none
pub memory_shaped : (ps : List Part) (i : OlaAsmInstruction) → row_of ps ≡ Some (Instruction i) → MemoryShaped i
memory_shaped ps i e = (row_arranged (λ o. Unit {0}) tt (λ q. any (operand_of q)) ps i e).shaped
  where
    any : (r : Option OlaAsmOperand) → OperandHolds (λ o. Unit {0}) r
    any (Some o) = tt
    any None = tt
