-- "Operations and registers": the operations in the order of `OlaOpcode`, their bits, and the places of their rows.
use Rattle.std.specs.Prelude.{ℕ, ◌-◌, ◌/◌, ◌%◌, ◌^◌, List, [], ◌∷◌, Bool, cond, eqb, Option, Some, None}
use Rattle.vm_opcodes.specs.declared.OlaOpcode.{OlaOpcode}
use Rattle.vm_opcodes.specs.declared.OlaOpcode.TheVariants.{ADD, MUL, EQ, ASSERT, MOV, JMP, CJMP, CALL, RET, MLOAD, MSTORE, END, RC, AND, OR, XOR, NOT, NEQ, GTE, POSEIDON, SLOAD, SSTORE, TLOAD, TSTORE, SCCALL, SIGCHECK, EVENT}
use Rattle.vm_opcodes.specs.declared.RowPlaces.{RowPlaces}
use Rattle.vm_opcodes.specs.declared.RowPlaces.TheVariants.{DstOp0Op1, DstOp1, DstMemory, MemoryDst, Op0Op1, Op1, Bare}

-- "in the order of `OlaOpcode`"
unfoldable pub operations : List OlaOpcode
operations = ADD ∷ MUL ∷ EQ ∷ ASSERT ∷ MOV ∷ JMP ∷ CJMP ∷ CALL ∷ RET ∷ MLOAD ∷ MSTORE ∷ END ∷ RC ∷ AND ∷ OR ∷ XOR ∷ NOT ∷ NEQ ∷ GTE ∷ POSEIDON ∷ SLOAD ∷ SSTORE ∷ TLOAD ∷ TSTORE ∷ SCCALL ∷ SIGCHECK ∷ EVENT ∷ []

-- an operation's place in that order
abbrev pub index_of : OlaOpcode → ℕ
index_of ADD = 0
index_of MUL = 1
index_of EQ = 2
index_of ASSERT = 3
index_of MOV = 4
index_of JMP = 5
index_of CJMP = 6
index_of CALL = 7
index_of RET = 8
index_of MLOAD = 9
index_of MSTORE = 10
index_of END = 11
index_of RC = 12
index_of AND = 13
index_of OR = 14
index_of XOR = 15
index_of NOT = 16
index_of NEQ = 17
index_of GTE = 18
index_of POSEIDON = 19
index_of SLOAD = 20
index_of SSTORE = 21
index_of TLOAD = 22
index_of TSTORE = 23
index_of SCCALL = 24
index_of SIGCHECK = 25
index_of EVENT = 26

-- "The operation bits run from 31 for add down to 5 for log, in the order of `OlaOpcode`"
abbrev pub operation_bit : OlaOpcode → ℕ
operation_bit o = 31 - index_of o

-- the word that has this bit alone
abbrev pub operation_mask : OlaOpcode → ℕ
operation_mask o = 2 ^ operation_bit o

-- bit k of a word
abbrev pub bit : ℕ → ℕ → Bool
bit k w = eqb (w / 2 ^ k % 2) 1

-- the first operation in that order that passes a test
unfoldable pub first_operation : (OlaOpcode → Bool) → List OlaOpcode → Option OlaOpcode
first_operation f [] = None
first_operation f (o ∷ os) = cond (f o) (Some o) (first_operation f os)

-- "The operation is the highest of bits 31 to 5 that is set": the first in the order of `OlaOpcode`
abbrev pub operation_in : ℕ → Option OlaOpcode
operation_in w = first_operation (λ o. bit (operation_bit o) w) operations

-- "A listing row is the mnemonic and then": dst, op0, op1 for add, mul, and, or, xor, eq, neq, gte, tload, poseidon; dst, op1
-- for mov, not, sigcheck; dst and `[op0+op1]` for mload; `[op0+op1]` and dst for mstore; op0, op1 for cjmp, sccall, sload,
-- sstore, tstore, log; op1 for jmp, call, range, assert; nothing for ret and end
abbrev pub row_places : OlaOpcode → RowPlaces
row_places ADD = DstOp0Op1
row_places MUL = DstOp0Op1
row_places EQ = DstOp0Op1
row_places ASSERT = Op1
row_places MOV = DstOp1
row_places JMP = Op1
row_places CJMP = Op0Op1
row_places CALL = Op1
row_places RET = Bare
row_places MLOAD = DstMemory
row_places MSTORE = MemoryDst
row_places END = Bare
row_places RC = Op1
row_places AND = DstOp0Op1
row_places OR = DstOp0Op1
row_places XOR = DstOp0Op1
row_places NOT = DstOp1
row_places NEQ = DstOp0Op1
row_places GTE = DstOp0Op1
row_places POSEIDON = DstOp0Op1
row_places SLOAD = Op0Op1
row_places SSTORE = Op0Op1
row_places TLOAD = DstOp0Op1
row_places TSTORE = Op0Op1
row_places SCCALL = Op0Op1
row_places SIGCHECK = DstOp1
row_places EVENT = Op0Op1
