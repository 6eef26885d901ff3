-- `highest_operation` meets its contract: the table is the operations in their order.
use Rattle.std.proofs.Common.{rules, tests, ◌∙◌}
use Rattle.std.proofs.lemmas.Iterator.{YieldsList-from_slice}
use Rattle.std.proofs.lemmas.Iterator.Search.{find_from_yields_List}
use Rattle.vm_opcodes.specs.Operations.{operations, operation_bit, bit}
use Rattle.vm_opcodes.proofs.Laws.{find_first}
use Rattle.vm_tables.proofs.highest_operation.Goals as goal

pub returns : goal.returns
unfolding operations
returns c =
    c.copied.ensures
    ∙ find_from_yields_List (λ o. bit (operation_bit o) c.args.word) _ _ c.find.result c.find.ensures.ran (YieldsList-from_slice operations cc) (λ x b q k. search (rules, tests))
    ∙ find_first (λ o. bit (operation_bit o) c.args.word) operations
