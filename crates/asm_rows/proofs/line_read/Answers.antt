use Rattle.asm_rows.proofs.RowLaws.{line_told}
use Rattle.asm_rows.proofs.line_read.Goals as goal

pub returns-in-Some : goal.returns-in-Some
returns-in-Some c = line_told _ _ _ c.piece_at-piece.ensures _ _ _ c.if-piece-eq0.false c.from_str.ensures c.in-Some.is _ c.of_row.ensures c.operation_row.ensures

pub returns-in-None : goal.returns-in-None
returns-in-None c = line_told _ _ _ c.piece_at-piece.ensures _ _ _ c.if-piece-eq0.false c.from_str.ensures c.in-None.is _ c.of_row-in-None.ensures c.label_row.ensures
