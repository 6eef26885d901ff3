-- `relocate_kept::kept_count` meets its contract.
use mathlib.Core.Path.{sym, ◌∙◌}
use borrow.Author.Rules.{rules}
use borrow.Author.Tests.{tests}
use lib.Dec.{ltb}
use Rattle.std.proofs.lemmas.Iterator.{YieldsList-from_slice}
use Rattle.std.proofs.lemmas.Iterator.Search.{all_from_yields_List}
use Rattle.relocate_kept.proofs.kept_count.Goals as goal

pub kept_many-requires : goal.kept_many-requires
kept_many-requires c = sym (all_from_yields_List (λ h. ltb h 32768) _ _ c.all.result c.all.ensures.ran (YieldsList-from_slice c.args.hosts.now cc) (λ x b q k. search (rules, tests))) ∙ c.if-all.true
