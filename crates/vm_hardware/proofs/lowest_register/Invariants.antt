-- `lowest_register` meets its contract. The invariant: the search in which clear and found tell of the registers before the place reached answers as the
-- whole search. While clear is 1 found is that place, and once it is 0 found is below it.
use mathlib.Core.Path.{◌≡◌}
use mathlib.Core.List.{map}
use Prim.Native.Nat.{◌+◌, ◌*◌, ◌≤◌}
use Rattle.vm_opcodes.specs.Operations.{bit}
use Rattle.vm_hardware.specs.Registers.{registers, register_bit, register_in}
use Rattle.vm_hardware.proofs.Laws.{searched}
use Rattle.vm_hardware.proofs.lowest_register.Given as goal

abbrev pub invariant-loop-shift : goal.invariant-loop-shift
invariant-loop-shift l = record {
  row : l.shift-items ≡ map (register_bit l.fn.place) registers;
  one : l.clear ≤ 1;
  within : l.found + 1 ≤ l.shift-index + l.clear;
  counted : l.shift-index + 10 * l.clear ≤ l.found + 10;
  search : register_in l.fn.place l.word ≡ searched (λ r. bit (register_bit l.fn.place r) l.word) l.clear l.found l.shift-index;
}
