-- `write_words` meets its contract.
use Rattle.program_bytecode.proofs.Laws.{words_laws}
use Rattle.program_bytecode.proofs.write_words.Goals as goal

pub write_word-at-requires : goal.write_word-at-requires
write_word-at-requires c = search words_laws

pub loop-i-preserved : goal.loop-i-preserved
loop-i-preserved c = (search words_laws, search words_laws)

pub returns : goal.returns
returns c = search words_laws
