-- `from_str` meets its contract: the length picks the operations, and no spelling has another length.
use mathlib.Core.Path.{◌∙◌}
use native.Mathlib.Omega.{arith}
use Rattle.vm_opcodes.specs.Operations.{operations}
use Rattle.vm_mnemonics.proofs.Laws.{spelled, of_length, uncounted}
use Rattle.vm_mnemonics.proofs.from_str.Goals as goal

pub returns-in-2 : goal.returns-in-2
unfolding operations of_length
returns-in-2 c = c.spelled.ensures ∙ spelled c.args.piece.now 2 c.in-2.is

pub returns-in-3 : goal.returns-in-3
unfolding operations of_length
returns-in-3 c = c.spelled-in-3.ensures ∙ spelled c.args.piece.now 3 c.in-3.is

pub returns-in-4 : goal.returns-in-4
unfolding operations of_length
returns-in-4 c = c.spelled-in-4.ensures ∙ spelled c.args.piece.now 4 c.in-4.is

pub returns-in-5 : goal.returns-in-5
unfolding operations of_length
returns-in-5 c = c.spelled-in-5.ensures ∙ spelled c.args.piece.now 5 c.in-5.is

pub returns-in-6 : goal.returns-in-6
unfolding operations of_length
returns-in-6 c = c.spelled-in-6.ensures ∙ spelled c.args.piece.now 6 c.in-6.is

pub returns-in-8 : goal.returns-in-8
unfolding operations of_length
returns-in-8 c = c.spelled-in-8.ensures ∙ spelled c.args.piece.now 8 c.in-8.is

pub returns-in_default : goal.returns-in_default
returns-in_default c = uncounted c.args.piece.now (λ e. omega arith) (λ e. omega arith) (λ e. omega arith) (λ e. omega arith) (λ e. omega arith) (λ e. omega arith)
