-- `ola_listing_row` meets its contract.
use Rattle.ola_c.proofs.Laws.{listing_laws}
use Rattle.ola_c.proofs.ola_listing_row.Goals as goal

pub returns-in-None-clause-value : goal.returns-in-None-clause-value
returns-in-None-clause-value c = search listing_laws

pub returns-in-None-clause-text_after : goal.returns-in-None-clause-text_after
returns-in-None-clause-text_after c = search listing_laws
