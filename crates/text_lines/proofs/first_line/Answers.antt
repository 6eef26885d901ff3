-- `text_lines::first_line` meets its contract.
use Rattle.text_lines.proofs.FirstLaws.{line_laws}
use Rattle.text_lines.proofs.first_line.Goals as goal

pub returns-then-n-text : goal.returns-then-n-text
returns-then-n-text c = search line_laws

pub returns-then-n-eq0 : goal.returns-then-n-eq0
returns-then-n-eq0 c = search line_laws

pub bounds-text-n : goal.bounds-text-n
bounds-text-n c = search line_laws

pub returns-then-text-n-eq13 : goal.returns-then-text-n-eq13
returns-then-text-n-eq13 c = search line_laws

pub overflow_add-result-2 : goal.overflow_add-result-2
overflow_add-result-2 c = search line_laws

pub returns : goal.returns
returns c = search line_laws
