-- `encoder_assemble::put_words` meets its contract.
use Rattle.encoder_assemble.proofs.WriteLaws.{put_laws}
use Rattle.encoder_assemble.proofs.put_words.Goals as goal

pub returns-in-Some-clause-value : goal.returns-in-Some-clause-value
returns-in-Some-clause-value c = search put_laws

pub returns-in-None-clause-value : goal.returns-in-None-clause-value
returns-in-None-clause-value c = search put_laws
