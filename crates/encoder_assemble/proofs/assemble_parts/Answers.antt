-- `assemble_parts` meets its contract: refusals 1 to 7 leave everything as it was, and what follows is the filled table's.
use mathlib.Core.Path.{◌≡◌}
use borrow.Author.Rules.{rules}
use Rattle.std.specs.Prelude.{Ok}
use Rattle.encoder_assemble.proofs.FilledLaws.{source_laws, refused_words, refused_hosts, source_told, source_wrote, source_hosted, column_room, table_filled}
use Rattle.encoder_assemble.proofs.assemble_parts.Goals as goal

pub returns-in_err-layout-clause-result_value : goal.returns-in_err-layout-clause-result_value
returns-in_err-layout-clause-result_value c = let h = c.from_residual.ensures in let w = c.in_err-layout.was in search source_laws

pub returns-in_err-layout-clause-words_after : goal.returns-in_err-layout-clause-words_after
returns-in_err-layout-clause-words_after c =
    refused_words _ c.args.prophets.now _ _ _ _ c.label_table.ensures.result_value (λ l g. let w = c.in_err-layout.was in search rules) _

pub returns-in_err-layout-clause-hosts_after : goal.returns-in_err-layout-clause-hosts_after
returns-in_err-layout-clause-hosts_after c =
    refused_hosts _ c.args.prophets.now _ _ _ _ c.label_table.ensures.result_value (λ l g. let w = c.in_err-layout.was in search rules) _

pub encode_table-requires-clause-labels_in_bounds : goal.encode_table-requires-clause-labels_in_bounds
encode_table-requires-clause-labels_in_bounds c =
    let f : c.label_table.result ≡ Ok c.in_ok-layout.layout = search rules in
    (column_room _ c.args.prophets.now _ 0 0 _ c.label_table.ensures.result_value _ f _ _ _ c.label_table.ensures.kinds_after, column_room _ c.args.prophets.now _ 0 0 _ c.label_table.ensures.result_value _ f _ _ _ c.label_table.ensures.mapped_after, column_room _ c.args.prophets.now _ 0 0 _ c.label_table.ensures.result_value _ f _ _ _ c.label_table.ensures.starts_after, column_room _ c.args.prophets.now _ 0 0 _ c.label_table.ensures.result_value _ f _ _ _ c.label_table.ensures.lengths_after, column_room _ c.args.prophets.now _ 0 0 _ c.label_table.ensures.result_value _ f _ _ _ c.label_table.ensures.addresses_after)

pub encode_table-requires-clause-addresses_value : goal.encode_table-requires-clause-addresses_value
encode_table-requires-clause-addresses_value c =
    let f : c.label_table.result ≡ Ok c.in_ok-layout.layout = search rules in
    table_filled _ c.args.prophets.now _ 0 0 _ c.label_table.ensures.result_value _ f _ _ _ _ _ _ _ _ _ _ c.label_table.ensures.kinds_after c.label_table.ensures.mapped_after c.label_table.ensures.starts_after c.label_table.ensures.lengths_after c.label_table.ensures.addresses_after

pub returns-clause-result_value : goal.returns-clause-result_value
returns-clause-result_value c =
    let f : c.label_table.result ≡ Ok c.in_ok-layout.layout = search rules in
    source_told _ _ _ _ _ _ c.label_table.ensures.result_value _ f _ c.shortest-room.ensures c.encode_table.result c.encode_table.ensures.result_value

pub returns-clause-words_after : goal.returns-clause-words_after
returns-clause-words_after c =
    let f : c.label_table.result ≡ Ok c.in_ok-layout.layout = search rules in
    source_wrote _ _ _ _ _ _ c.label_table.ensures.result_value _ f _ c.shortest-room.ensures _ _ c.encode_table.ensures.words_after

pub returns-clause-hosts_after : goal.returns-clause-hosts_after
returns-clause-hosts_after c =
    let f : c.label_table.result ≡ Ok c.in_ok-layout.layout = search rules in
    source_hosted _ _ _ _ _ _ c.label_table.ensures.result_value _ f _ c.shortest-room.ensures _ _ c.encode_table.ensures.hosts_after
