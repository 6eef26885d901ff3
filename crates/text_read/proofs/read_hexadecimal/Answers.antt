-- `read_hexadecimal` answers the number after `0x` and a plus.
use Rattle.text_read.proofs.Laws.{hex_stripped}
use Rattle.text_read.proofs.read_hexadecimal.Goals as goal

pub returns : goal.returns
returns c = hex_stripped c.without_prefix-rest.result c.unwrap_or.result _ _ _ _ c.without_prefix-rest.ensures c.strip_prefix.ensures.cases c.unwrap_or.ensures c.read_hex_digits.ensures
