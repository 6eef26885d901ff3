-- `get_asm_form_code` meets its contract.
use borrow.Author.Rules.{rules}
use Rattle.program_listing.proofs.Places.{NumbersFit}
use Rattle.program_listing.proofs.Laws.{row_laws}
use Rattle.program_listing.proofs.get_asm_form_code.Goals as goal

pub returns-then-has_too_large : goal.returns-then-has_too_large
returns-then-has_too_large c = search row_laws

pub returns-then-lacks_place : goal.returns-then-lacks_place
returns-then-lacks_place c = search row_laws

pub returns : goal.returns
returns c = let fits : NumbersFit c.args.instruction = search rules in search row_laws
