-- `text_lines::first_piece` meets its contract.
use Rattle.text_lines.proofs.FirstLaws.{piece_laws}
use Rattle.text_lines.proofs.first_piece.Goals as goal

pub slice_bounds-scan-count : goal.slice_bounds-scan-count
slice_bounds-scan-count c = search piece_laws

pub slice_bounds-scan-start : goal.slice_bounds-scan-start
slice_bounds-scan-start c = search piece_laws

pub returns : goal.returns
returns c = search piece_laws
