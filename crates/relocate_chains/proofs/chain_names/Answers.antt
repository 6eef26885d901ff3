-- `relocate_chains::chain_names` meets its contract.
use Rattle.relocate_chains.proofs.LinkLaws.{link_more, link_laws}
use Rattle.relocate_chains.proofs.chain_names.Goals as goal

pub loop-i-preserved : goal.loop-i-preserved
loop-i-preserved c = link_more _ _ _ _ _ _ _ c.len-n.ensures _ _ _ c.loop-i.invariant _ _ c.loop-i-test.true c.name_at-name.ensures.result_value_2 c.bucket_of-bucket.ensures.0

pub returns : goal.returns
returns c = search link_laws
