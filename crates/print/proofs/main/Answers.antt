-- What was printed lies within the text.
use Rattle.std.proofs.Common.{sym, length-take-le, arith}
use Rattle.encoder_print.proofs.SourceLaws.{printed_within}
use Rattle.print.proofs.main.Goals as goal

pub slice_bounds-text-end : goal.slice_bounds-text-end
slice_bounds-text-end c =
    let w = printed_within _ _ c.print_source-printed.result c.in-Ok.m c.print_source-printed.ensures.result_value c.in-Ok.is in
    omega (arith, c.print_source-printed.auto.text)

pub slice_bounds-write_all-end : goal.slice_bounds-write_all-end
slice_bounds-write_all-end c =
    let w = printed_within _ _ c.print_source-printed.result c.in-Ok.m c.print_source-printed.ensures.result_value c.in-Ok.is in
    sym (length-take-le c.in-Ok.m c.print_source-printed.new.text (omega (arith, c.print_source-printed.auto.text)))
