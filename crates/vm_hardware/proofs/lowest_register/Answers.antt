-- `lowest_register` meets its contract.
use mathlib.Core.Path.{refl, ◌∙◌}
use native.Mathlib.Omega.{arith}
use Rattle.vm_opcodes.proofs.Table.{copied_at}
use Rattle.vm_hardware.specs.Registers.{registers}
use Rattle.vm_hardware.specs.declared.OlaRegister.TheVariants.{R0}
use Rattle.vm_hardware.proofs.Laws.{row_of, shift_at_lt, looked, last_found}
use Rattle.vm_hardware.proofs.lowest_register.Goals as goal

pub loop-shift-init : goal.loop-shift-init
unfolding registers
loop-shift-init c = record {
  row = row_of _ refl c.args.place c.index.result c.index.ensures;
  one = omega arith;
  within = omega arith;
  counted = omega arith;
  search = refl;
}

pub overflow_shr-bit : goal.overflow_shr-bit
overflow_shr-bit c = shift_at_lt c.args.place _ c.loop-shift.invariant.row c.loop-shift.shift-index (omega arith)

pub loop-shift-preserved : goal.loop-shift-preserved
loop-shift-preserved c = record {
  row = c.loop-shift.invariant.row;
  one = omega arith;
  within = omega arith;
  counted = omega arith;
  search = looked c.args.place _ c.loop-shift.invariant.row c.loop-shift.shift-index (omega arith) _ c.args.word c.loop-shift.clear c.loop-shift.found _ c.loop-shift.invariant.search (omega arith) (λ o. omega arith) refl;
}

pub returns : goal.returns
unfolding registers
returns c = c.copied.ensures ∙ copied_at registers R0 c.loop-shift.found c.get.result c.get.ensures.lookup ∙ last_found _ _ c.loop-shift.clear c.loop-shift.found c.loop-shift.shift-index c.loop-shift.invariant.search (omega arith) (omega arith) (omega arith) (omega arith) (omega arith)
