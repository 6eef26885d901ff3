-- `encode_chained` meets its contract: what is found by the chains is what the label table holds.
use Rattle.encoder_assemble.proofs.ChainedLaws.{chains_ready}
use Rattle.encoder_assemble.proofs.encode_chained.Goals as goal

pub encode_filled-requires-clause-chains_value : goal.encode_filled-requires-clause-chains_value
encode_filled-requires-clause-chains_value c = chains_ready _ _ _ c.requires.room_value _ c.requires.addresses_value _ c.chain_names.ensures
