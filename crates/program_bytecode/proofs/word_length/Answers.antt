-- `word_length` meets its contract.
use native.Mathlib.Omega.{arith}
use Rattle.program_bytecode.proofs.Laws.{line_most}
use Rattle.program_bytecode.proofs.word_length.Goals as goal

pub overflow_add-result : goal.overflow_add-result
overflow_add-result c = omega (arith, c.line_length-n.ensures, line_most c.args.number c.args.word c.ranges.word.fits)
