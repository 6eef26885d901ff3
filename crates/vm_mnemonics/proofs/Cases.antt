-- Pieces and the operations that they spell, against the definitions: document 01's spellings, those of `token` in core/src/vm/opcodes.rs,
-- and pieces that a looser comparison would take.
use Rattle.std.specs.Prelude.{Option, Some, None}
use mathlib.Core.Path.{◌≡◌, refl}
use mathlib.Core.List.{List, [], ◌∷◌, map}
use Prim.Native.Nat.{ℕ}
use Rattle.text.specs.Bytes.{bytes, same}
use Rattle.vm_opcodes.specs.Operations.{operations, first_operation}
use Rattle.vm_opcodes.specs.declared.OlaOpcode.TheVariants.{ADD, EQ, OR, MLOAD, RC, POSEIDON, TSTORE, SCCALL, SIGCHECK, EVENT}
use Rattle.vm_mnemonics.specs.Mnemonics.{mnemonic, operation_of}
use Rattle.vm_mnemonics.proofs.Laws.{all_read_back}
use Rattle.vm_opcodes.specs.declared.OlaOpcode.{OlaOpcode}

-- a piece and its operation: EVENT and RC by their own spellings and not by their names, no upper case, nothing cut off, nothing added
abbrev pieces : List (List ℕ × Option OlaOpcode)
pieces =
    (bytes "log", Some EVENT)
    ∷ (bytes "range", Some RC)
    ∷ (bytes "add", Some ADD)
    ∷ (bytes "mload", Some MLOAD)
    ∷ (bytes "poseidon", Some POSEIDON)
    ∷ (bytes "sigcheck", Some SIGCHECK)
    ∷ (bytes "sccall", Some SCCALL)
    ∷ (bytes "tstore", Some TSTORE)
    ∷ (bytes "eq", Some EQ)
    ∷ (bytes "or", Some OR)
    ∷ (bytes "LOG", None)
    ∷ (bytes "event", None)
    ∷ (bytes "rc", None)
    ∷ (bytes "Add", None)
    ∷ ([], None)
    ∷ (bytes "ad", None)
    ∷ (bytes "addd", None)
    ∷ (bytes "mov ", None)
    ∷ (bytes "jump", None)
    ∷ []

pub cases : map (λ row. operation_of row.0) pieces ≡ map (λ row. row.1) pieces
unfolding operations first_operation same
cases = refl

-- every operation's own spelling is read as that operation
pub own_spellings : map (λ o. operation_of (mnemonic o)) operations ≡ map Some operations
own_spellings = all_read_back
