-- Laws of a row's operands in their places, in the shapes in which the functions ask for them.
use Rattle.std.specs.Prelude.{Option, Some}
use mathlib.Core.Path.{◌≡◌}
use mathlib.Core.List.{List}
use borrow.Author.Rules.{rules}
use Rattle.vm_opcodes.specs.Operations.{row_places}
use Rattle.vm_opcodes.specs.declared.OlaOpcode.{OlaOpcode}
use Rattle.vm_opcodes.specs.declared.RowPlaces.{RowPlaces}
use Rattle.asm.specs.Rows.{arranged, arranged_if}
use Rattle.asm.specs.declared.OlaAsmOperand.{OlaAsmOperand}
use Rattle.asm.specs.declared.AsmRow.{AsmRow}

-- a row arranged for the places that a match told is arranged for those of its operation
pub told_places : (o : OlaOpcode) (p q : RowPlaces) (os : List OlaAsmOperand) (r : Option AsmRow) → p ≡ row_places o → p ≡ q → r ≡ arranged o q os → r ≡ arranged_if (Some o) (Some os)
unfolding arranged_if
told_places o p q os r e f g = rw (← e, f) g

pub ruleset places_laws = (told_places, rules)
