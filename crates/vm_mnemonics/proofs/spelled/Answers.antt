-- `spelled` meets its contract.
use Rattle.std.proofs.Common.{◌≡◌, rules}
use Rattle.vm_mnemonics.proofs.Laws.{read_here}
use Rattle.vm_mnemonics.proofs.spelled.Goals as goal

pub returns-then-eq : goal.returns-then-eq
returns-then-eq g c =
    let e : c.unwrap-word.result ≡ c.args.piece.now = search rules in
    read_here c.args.piece.now c.unwrap-word.result c.args.mnemonics.now c.loop-mnemonic.mnemonic-index c.loop-mnemonic-item.result e c.loop-mnemonic-test.true c.loop-mnemonic-item.is c.loop-mnemonic.invariant (search rules)
