-- `relocate_chains::bucket_of` meets its contract.
use Rattle.relocate_chains.proofs.BucketLaws.{bucket_laws}
use Rattle.relocate_chains.proofs.bucket_of.Goals as goal

pub loop-b-preserved : goal.loop-b-preserved
loop-b-preserved c = (search bucket_laws, search bucket_laws)

pub returns : goal.returns
returns c = search bucket_laws
