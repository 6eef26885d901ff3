-- Operations, bits, first words and rows from the papers, against the definitions.
use Rattle.std.specs.Prelude.{Option, Some, None}
use mathlib.Core.Path.{◌≡◌, refl}
use mathlib.Core.List.{List, [], ◌∷◌, map}
use Prim.Native.Nat.{ℕ, ◌+◌, ◌^◌}
use Rattle.vm_opcodes.specs.Operations.{operations, operation_bit, first_operation, operation_in, row_places}
use Rattle.vm_opcodes.specs.declared.OlaOpcode.{OlaOpcode}
use Rattle.vm_opcodes.specs.declared.OlaOpcode.TheVariants.{ADD, MOV, CJMP, RET, MLOAD, MSTORE, END, RC, TLOAD, SIGCHECK, EVENT}
use Rattle.vm_opcodes.specs.declared.RowPlaces.{RowPlaces}
use Rattle.vm_opcodes.specs.declared.RowPlaces.TheVariants.{DstOp0Op1, DstOp1, DstMemory, MemoryDst, Op0Op1, Bare}

-- an operation and its bit
abbrev bits : List (OlaOpcode × ℕ)
bits = (ADD, 31) ∷ (EVENT, 5) ∷ (MLOAD, 22) ∷ (MSTORE, 21) ∷ (RC, 19) ∷ (END, 20) ∷ []

-- a first word and its operation: three of the printing example, no bit of an operation, bits beside them alone, two of them
abbrev words : List (ℕ × Option OlaOpcode)
words =
    (0x4000000208000000, Some MOV)
    ∷ (0x0000000000100000, Some END)
    ∷ (0x0000000000800000, Some RET)
    ∷ (0, None)
    ∷ (2 ^ 4, None)
    ∷ (2 ^ 63 + 2 ^ 62, None)
    ∷ (2 ^ 31 + 2 ^ 5, Some ADD)
    ∷ (2 ^ 6 + 2 ^ 5, Some SIGCHECK)
    ∷ []

-- an operation and the places of its row
abbrev rows : List (OlaOpcode × RowPlaces)
rows = (MLOAD, DstMemory) ∷ (MSTORE, MemoryDst) ∷ (MOV, DstOp1) ∷ (CJMP, Op0Op1) ∷ (RET, Bare) ∷ (TLOAD, DstOp0Op1) ∷ (EVENT, Op0Op1) ∷ []

-- the definitions answer as the tables say
abbrev asked : {X Y : Type 0} → (X → Y) → List (X × Y) → Type 0
asked f table = map (λ row. f row.0) table ≡ map (λ row. row.1) table

pub cases : asked operation_bit bits × asked operation_in words × asked row_places rows
unfolding operations first_operation
cases = (refl, refl, refl)
