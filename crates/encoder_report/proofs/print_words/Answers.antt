-- `print_words` meets its contract.
use Rattle.encoder_report.proofs.Laws.{words_laws}
use Rattle.encoder_report.proofs.print_words.Goals as goal

pub returns-then-not-rows_fit-clause-result_value : goal.returns-then-not-rows_fit-clause-result_value
returns-then-not-rows_fit-clause-result_value c = search words_laws

pub returns-then-not-rows_fit-clause-text_after : goal.returns-then-not-rows_fit-clause-text_after
returns-then-not-rows_fit-clause-text_after c = search words_laws

pub returns-clause-result_value : goal.returns-clause-result_value
returns-clause-result_value c = search words_laws

pub returns-clause-text_after : goal.returns-clause-text_after
returns-clause-text_after c = search words_laws
