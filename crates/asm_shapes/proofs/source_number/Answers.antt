use Rattle.asm_shapes.proofs.Laws.{number_hex}
use Rattle.asm_shapes.proofs.source_number.Goals as goal

pub returns-in-Some : goal.returns-in-Some
returns-in-Some c = number_hex _ _ c.hex_numeral.ensures _ c.in-Some.is _ c.from_sign.ensures _ c.in_range.ensures
