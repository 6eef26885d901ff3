-- `encoder_assemble::write_words` meets its contract: what was written and the words that are left make all of them.
use mathlib.Core.Path.{◌≡◌}
use borrow.Author.Rules.{rules}
use Rattle.std.specs.Prelude.{Ok, Some, None}
use Rattle.encoder_assemble.proofs.WriteLaws.{write_laws}
use Rattle.encoder_assemble.proofs.write_words.Goals as goal

pub put_words-written-requires : goal.put_words-written-requires
put_words-written-requires c = let f : c.canonical_at-found.result.found ≡ Ok (Some c.in-Ok-Some.instruction) = search rules in search write_laws

pub loop-at-preserved-in-Some-1 : goal.loop-at-preserved-in-Some-1
loop-at-preserved-in-Some-1 c = let f : c.canonical_at-found.result.found ≡ Ok (Some c.in-Ok-Some.instruction) = search rules in (search write_laws, search write_laws, search write_laws)

pub loop-at-preserved-in-None-1 : goal.loop-at-preserved-in-None-1
loop-at-preserved-in-None-1 c =
    let f : c.canonical_at-found.result.found ≡ Ok None = search rules in
    (search write_laws, search write_laws, search write_laws)

pub loop-at-preserved : goal.loop-at-preserved
loop-at-preserved c = (search write_laws, search write_laws, search write_laws)
