-- "Mnemonics are compared and written as fixed lower-case spellings; RC is `range`, EVENT is `log`."
use Rattle.std.specs.Prelude.{ℕ, List, Option}
use Rattle.text.specs.Bytes.{bytes, same}
use Rattle.vm_opcodes.specs.declared.OlaOpcode.{OlaOpcode}
use Rattle.vm_opcodes.specs.declared.OlaOpcode.TheVariants.{ADD, MUL, EQ, ASSERT, MOV, JMP, CJMP, CALL, RET, MLOAD, MSTORE, END, RC, AND, OR, XOR, NOT, NEQ, GTE, POSEIDON, SLOAD, SSTORE, TLOAD, TSTORE, SCCALL, SIGCHECK, EVENT}
use Rattle.vm_opcodes.specs.Operations.{operations, first_operation}

-- the spelling of an operation
abbrev pub mnemonic : OlaOpcode → List ℕ
mnemonic ADD = bytes "add"
mnemonic MUL = bytes "mul"
mnemonic EQ = bytes "eq"
mnemonic ASSERT = bytes "assert"
mnemonic MOV = bytes "mov"
mnemonic JMP = bytes "jmp"
mnemonic CJMP = bytes "cjmp"
mnemonic CALL = bytes "call"
mnemonic RET = bytes "ret"
mnemonic MLOAD = bytes "mload"
mnemonic MSTORE = bytes "mstore"
mnemonic END = bytes "end"
mnemonic RC = bytes "range"
mnemonic AND = bytes "and"
mnemonic OR = bytes "or"
mnemonic XOR = bytes "xor"
mnemonic NOT = bytes "not"
mnemonic NEQ = bytes "neq"
mnemonic GTE = bytes "gte"
mnemonic POSEIDON = bytes "poseidon"
mnemonic SLOAD = bytes "sload"
mnemonic SSTORE = bytes "sstore"
mnemonic TLOAD = bytes "tload"
mnemonic TSTORE = bytes "tstore"
mnemonic SCCALL = bytes "sccall"
mnemonic SIGCHECK = bytes "sigcheck"
mnemonic EVENT = bytes "log"

-- the operation that a piece spells
abbrev pub operation_of : List ℕ → Option OlaOpcode
operation_of s = first_operation (λ o. same s (mnemonic o)) operations
