-- `line_length` meets its contract.
use native.Mathlib.Omega.{arith}
use Rattle.program_bytecode.proofs.Laws.{put_long, line_most}
use Rattle.program_bytecode.proofs.line_length.Goals as goal

pub returns : goal.returns
returns c = put_long _ 0 _ _ _ c.put_line.ensures.0 c.unwrap_or.ensures (omega (arith, line_most c.args.number c.args.word c.ranges.word.fits))
