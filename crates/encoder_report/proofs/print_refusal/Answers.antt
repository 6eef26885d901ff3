-- `print_refusal` meets its contract.
use Rattle.encoder_report.proofs.Laws.{print_laws}
use Rattle.encoder_report.proofs.print_refusal.Goals as goal

pub write_refusal-n-requires : goal.write_refusal-n-requires
write_refusal-n-requires c = search print_laws

pub slice_bounds-report-end : goal.slice_bounds-report-end
slice_bounds-report-end c = search print_laws

pub slice_bounds-put_bytes-end : goal.slice_bounds-put_bytes-end
slice_bounds-put_bytes-end c = search print_laws

pub returns-clause-result_value : goal.returns-clause-result_value
returns-clause-result_value c = search print_laws

pub returns-clause-text_after : goal.returns-clause-text_after
returns-clause-text_after c = search print_laws
