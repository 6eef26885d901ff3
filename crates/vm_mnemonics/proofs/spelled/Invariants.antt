-- `spelled` meets its contract. The invariant: the search from the place reached on answers as the whole search.
use Rattle.std.specs.Prelude.{◌≡◌, find, drop}
use Rattle.std.specs.Str.{bytes_eq}
use Rattle.vm_mnemonics.proofs.spelled.Given as goal

abbrev pub invariant-loop-mnemonic : goal.invariant-loop-mnemonic
invariant-loop-mnemonic g l = find (λ m. bytes_eq l.word m.0) l.mnemonics ≡ find (λ m. bytes_eq l.word m.0) (drop l.mnemonic-index l.mnemonics)
