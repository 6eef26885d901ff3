-- `operation_named` meets its contract: the table is the operations in their order.
use mathlib.Core.Path.{◌∙◌}
use Rattle.vm_opcodes.specs.Operations.{operations}
use Rattle.vm_opcodes.specs.declared.OlaOpcode.TheVariants.{ADD}
use Rattle.vm_opcodes.proofs.Table.{copied_at}
use Rattle.ola_places.proofs.operation_named.Goals as goal

pub returns : goal.returns
unfolding operations
returns c = c.copied.ensures ∙ copied_at operations ADD c.args.index c.get.result c.get.ensures.lookup
