-- `print_source` meets its contract.
use mathlib.Core.Path.{refl}
use Rattle.encoder_print.proofs.SourceLaws.{long_laws, left_within, source_printed}
use borrow.Author.Rules.{rules}
use Rattle.encoder_print.proofs.print_source.Goals as goal

pub returns-then-source-gt4096-clause-result_value : goal.returns-then-source-gt4096-clause-result_value
returns-then-source-gt4096-clause-result_value c = search long_laws

pub returns-then-source-gt4096-clause-text_after : goal.returns-then-source-gt4096-clause-text_after
returns-then-source-gt4096-clause-text_after c = search long_laws

pub print_assembly-requires : goal.print_assembly-requires
print_assembly-requires c = left_within _ _ c.assemble_parts-found.result _ _ c.assemble_parts-found.ensures.result_value c.assemble_parts-found.ensures.words_after

pub returns-clause-result_value : goal.returns-clause-result_value
returns-clause-result_value c =
    (source_printed
    c.args.source.now
    _
    c.assemble_parts-found.result
    _
    _
    c.assemble_parts-found.ensures.result_value
    c.assemble_parts-found.ensures.words_after
    c.args.text.now
    refl
    (search rules)
    c.print_assembly.result
    _
    (c.print_assembly.ensures.result_value, c.print_assembly.ensures.text_after)).0

pub returns-clause-text_after : goal.returns-clause-text_after
returns-clause-text_after c =
    (source_printed
    c.args.source.now
    _
    c.assemble_parts-found.result
    _
    _
    c.assemble_parts-found.ensures.result_value
    c.assemble_parts-found.ensures.words_after
    c.args.text.now
    refl
    (search rules)
    c.print_assembly.result
    _
    (c.print_assembly.ensures.result_value, c.print_assembly.ensures.text_after)).1
