-- `assemble_within` meets its contract: a source that is not too long has no more label rows than the table has entries.
use Rattle.encoder_room.proofs.RoomLaws.{cut_told, cut_wrote, cut_hosted}
use Rattle.encoder_room.proofs.assemble_within.Goals as goal

pub returns-clause-result_value : goal.returns-clause-result_value
returns-clause-result_value g c = cut_told _ _ _ g.row.N _ _ _ c.requires.enough c.min-n.ensures _ c.assemble_parts.ensures.result_value

pub returns-clause-words_after : goal.returns-clause-words_after
returns-clause-words_after g c = cut_wrote _ _ _ g.row.N _ _ _ c.requires.enough c.min-n.ensures _ _ c.assemble_parts.ensures.words_after

pub returns-clause-hosts_after : goal.returns-clause-hosts_after
returns-clause-hosts_after g c = cut_hosted _ _ _ g.row.N _ _ _ c.requires.enough c.min-n.ensures _ _ c.assemble_parts.ensures.hosts_after
