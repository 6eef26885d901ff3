-- `decoder_open::open_all` meets its contract: after each instruction what is left opens as the whole does, from the line and the index reached.
use Rattle.decoder_open.proofs.AllLaws.{all_laws}
use Rattle.decoder_open.proofs.open_all.Goals as goal

pub overflow_add-line : goal.overflow_add-line
overflow_add-line c = search all_laws

pub overflow_add-index : goal.overflow_add-index
overflow_add-index c = search all_laws

pub loop-read-preserved : goal.loop-read-preserved
loop-read-preserved c = record {
  read = search all_laws;
  unread = search all_laws;
  counted = search all_laws;
  within = search all_laws;
}
