-- The pieces of a place are its text, of at most 23 bytes.
use mathlib.Core.Path.{refl}
use lib.Dec.{lit≤}
use Rattle.text.specs.Bytes.{bytes}
use Rattle.text_write.specs.Digits.{fewest_text}
use Rattle.text_write.proofs.Laws.{fewest_most}
use Rattle.vm_hardware.specs.Registers.{register_text, special_text}
use Rattle.vm_operands.specs.declared.OlaOperand.{OlaOperand}
use Rattle.vm_operands.specs.declared.OlaOperand.TheVariants.{Empty, ImmediateOperand, RegisterOperand, RegisterWithOffset, RegisterWithFactor, SpecialReg}
use Rattle.program_listing.specs.Row.{content_text, content_pieces}
use Rattle.program_listing.proofs.Places.{Makes, NumberFits, one_makes, makes_most, both_make, register_most, special_most}

pub content_whole : (o : OlaOperand) → NumberFits o → Makes 23 (content_pieces o) (content_text o)
content_whole Empty h = record { joined = refl; most = lit≤ tt }
content_whole (ImmediateOperand v) h = makes_most 23 (one_makes 18 (fewest_text v.number) (fewest_most v.number (h v.number refl))) (lit≤ tt)
content_whole (RegisterOperand r) h = one_makes 23 (register_text r) (lit≤ tt)
content_whole (RegisterWithOffset r v) h = makes_most 23
    (both_make (one_makes 2 (register_text r) (register_most r))
    (both_make (one_makes 1 (bytes "+") (lit≤ tt)) (one_makes 18 (fewest_text v.number) (fewest_most v.number (h v.number refl)))))
    (lit≤ tt)
content_whole (RegisterWithFactor r v) h = makes_most 23
    (both_make (one_makes 18 (fewest_text v.number) (fewest_most v.number (h v.number refl)))
    (both_make (one_makes 1 (bytes "*") (lit≤ tt)) (one_makes 2 (register_text r) (register_most r))))
    (lit≤ tt)
content_whole (SpecialReg s) h = makes_most 23 (one_makes 3 (special_text s) (special_most s)) (lit≤ tt)
