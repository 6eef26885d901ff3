-- `push_places` meets its contract.
use borrow.Author.Rules.{rules}
use Rattle.program_listing.proofs.Places.{both_behind}
use Rattle.program_listing.proofs.row.push_places.Goals as goal

pub returns-in-DstOp0Op1 : goal.returns-in-DstOp0Op1
returns-in-DstOp0Op1 g c = rw c.in-DstOp0Op1.is (search (rules, both_behind))

pub returns-in-DstMemory : goal.returns-in-DstMemory
returns-in-DstMemory g c = rw c.in-DstMemory.is (search (rules, both_behind))

pub returns-in-MemoryDst : goal.returns-in-MemoryDst
returns-in-MemoryDst g c = rw c.in-MemoryDst.is (search (rules, both_behind))
