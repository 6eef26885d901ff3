-- `operation_row` meets its contract.
use Rattle.std.proofs.Common.{Some, ap, ◌∙◌}
use Rattle.asm_rows.proofs.OperandLaws.{row_more, after_first, after_second, one_end, two_end, three_end, fourth, any_bad}
use Rattle.asm_rows.proofs.operation_row.Goals as goal

pub returns-in_err-b : goal.returns-in_err-b
returns-in_err-b c =
    row_more _ _ _ c.next_operand.ensures _ _ _ _ _ c.in-Some.is c.in_ok-a.was _ (c.from_residual-in_err-b.ensures ∙ any_bad _ _ _ c.next_operand-2.ensures c.in_err-b.was _ _)

pub returns-in_default-2 : goal.returns-in_default-2
returns-in_default-2 c =
    row_more _ _ _ c.next_operand.ensures _ _ _ _ _ c.in-Some.is c.in_ok-a.was _ (one_end _ _ _ c.next_operand-2.ensures (c.in_ok-b.was ∙ ap Some c.in_default-2.is) _ _ _ c.of_operands-in_default-2.ensures)

pub returns-in_err-c : goal.returns-in_err-c
returns-in_err-c c =
    row_more _ _ _ c.next_operand.ensures _ _ _ _ _ c.in-Some.is c.in_ok-a.was _
    (after_first _ _ _ c.next_operand-2.ensures _ _ _ c.in-Some-2.is c.in_ok-b.was _ _ _ (c.from_residual-in_err-c.ensures ∙ any_bad _ _ _ c.next_operand-3.ensures c.in_err-c.was _ _))

pub returns-in_default-3 : goal.returns-in_default-3
returns-in_default-3 c =
    row_more _ _ _ c.next_operand.ensures _ _ _ _ _ c.in-Some.is c.in_ok-a.was _
    (after_first _ _ _ c.next_operand-2.ensures _ _ _ c.in-Some-2.is c.in_ok-b.was _ _ _ (two_end _ _ _ c.next_operand-3.ensures (c.in_ok-c.was ∙ ap Some c.in_default-3.is) _ _ _ _ c.of_operands-in_default-3.ensures))

pub returns-then-piece_at-ne0 : goal.returns-then-piece_at-ne0
returns-then-piece_at-ne0 c =
    row_more _ _ _ c.next_operand.ensures _ _ _ _ _ c.in-Some.is c.in_ok-a.was _
    (after_first _ _ _ c.next_operand-2.ensures _ _ _ c.in-Some-2.is c.in_ok-b.was _ _ _
    (after_second _ _ _ c.next_operand-3.ensures _ _ _ c.in-Some-3.is c.in_ok-c.was _ _ _ _ (fourth _ _ _ c.piece_at.ensures _ _ _ _ c.if-piece_at-ne0.true)))

pub returns : goal.returns
returns c =
    row_more _ _ _ c.next_operand.ensures _ _ _ _ _ c.in-Some.is c.in_ok-a.was _
    (after_first _ _ _ c.next_operand-2.ensures _ _ _ c.in-Some-2.is c.in_ok-b.was _ _ _
    (after_second _ _ _ c.next_operand-3.ensures _ _ _ c.in-Some-3.is c.in_ok-c.was _ _ _ _ (three_end _ _ _ c.piece_at.ensures _ _ _ _ c.if-piece_at-ne0.false _ c.of_operands-2.ensures)))
