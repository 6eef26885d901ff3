-- `encode_filled` meets its contract: a refusal is the stages', and what is written is the accepted source's.
use mathlib.Core.Path.{◌≡◌, refl, ap, ◌∙◌}
use borrow.Author.Rules.{rules}
use Rattle.std.specs.Prelude.{Err}
use Rattle.encoder.specs.Assemble.{numbered}
use Rattle.encoder_assemble.proofs.FilledLaws.{within_source, filled_refused, words_kept, hosts_kept, words_fit, words_written, hosts_written, count_fits, totals_told}
use Rattle.encoder_assemble.proofs.encode_filled.Goals as goal

pub returns-in_err-count-clause-result_value : goal.returns-in_err-count-clause-result_value
returns-in_err-count-clause-result_value c =
    let e : c.from_residual.result ≡ Err c.in_err-count.field-0.0 = search rules in
    ap numbered e ∙ filled_refused _ _ _ _ c.requires.room_value _ c.requires.chains_value _ _ _ _ c.check_all.ensures _ c.in_err-count.was

pub returns-in_err-count-clause-words_after : goal.returns-in_err-count-clause-words_after
returns-in_err-count-clause-words_after c = words_kept _ _ _ _ c.requires.room_value _ c.requires.chains_value _ _ _ _ c.check_all.ensures _ c.in_err-count.was _

pub returns-in_err-count-clause-hosts_after : goal.returns-in_err-count-clause-hosts_after
returns-in_err-count-clause-hosts_after c = hosts_kept _ _ _ _ c.requires.room_value _ c.requires.chains_value _ _ _ _ c.check_all.ensures _ c.in_err-count.was _

pub write_words-requires-clause-start_le_end : goal.write_words-requires-clause-start_le_end
write_words-requires-clause-start_le_end c = within_source _ _ _ c.requires.room_value

pub write_words-requires-clause-end_in_bounds : goal.write_words-requires-clause-end_in_bounds
write_words-requires-clause-end_in_bounds c = words_fit _ _ _ _ c.requires.room_value _ c.requires.chains_value 0 _ _ _ c.check_all.ensures _ c.in_ok-count.was c.args.words.now refl

pub counts-requires : goal.counts-requires
counts-requires c = count_fits _ _ _ _ c.requires.room_value _ c.requires.chains_value 0 _ _ _ c.check_all.ensures _ c.in_ok-count.was c.args.hosts.now _ refl c.write_hosts.ensures

pub returns-clause-result_value : goal.returns-clause-result_value
returns-clause-result_value c = totals_told _ _ _ _ c.requires.room_value _ c.requires.chains_value _ _ _ _ c.check_all.ensures _ c.in_ok-count.was c.args.hosts.now _ _ refl c.write_hosts.ensures c.counts.ensures

pub returns-clause-words_after : goal.returns-clause-words_after
returns-clause-words_after c = words_written _ _ _ _ c.requires.room_value _ c.requires.chains_value _ _ _ _ c.check_all.ensures _ c.in_ok-count.was c.args.words.now _ refl c.write_words.ensures

pub returns-clause-hosts_after : goal.returns-clause-hosts_after
returns-clause-hosts_after c = hosts_written _ _ _ _ c.requires.room_value _ c.requires.chains_value _ _ _ _ c.check_all.ensures _ c.in_ok-count.was c.args.hosts.now _ refl c.write_hosts.ensures
