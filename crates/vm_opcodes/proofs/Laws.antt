-- Facts about the operations: their places in the order, the tables by that order, their bits, and the search for the highest bit.
use Rattle.std.specs.Prelude.{Some, find}
use mathlib.Core.Path.{◌≡◌, refl, sym, ap, ◌∙◌}
use mathlib.Core.Bool.{Bool, true, false, cond}
use mathlib.Core.List.{List, [], ◌∷◌, map}
use Prim.Native.Nat.{ℕ, ◌<◌, ◌≤◌}
use native.Mathlib.Omega.{arith}
use borrow.Author.Tests.{ltb-true}
use lib.Dec.{ltb}
use lib.ListN.{length, get_or, replicate, get_or-replicate}
use Rattle.vm_opcodes.specs.Operations.{operations, index_of, operation_bit, first_operation}
use Rattle.vm_opcodes.specs.declared.OlaOpcode.{OlaOpcode}
use Rattle.vm_opcodes.specs.declared.OlaOpcode.TheVariants.{ADD}
use Rattle.vm_opcodes.specs.contracts.OlaOpcode.{enum}
use Rattle.vm_opcodes.proofs.Table.{at, placed}
use Rattle.vm_opcodes.proofs.Variants.{each}

-- an operation's index is below 27: one computed test over the operations, as in the next law
pub index_lt : (o : OlaOpcode) → index_of o < 27
index_lt o = ltb-true (index_of o) 27 (each enum tt (λ q. ltb (index_of q) 27) (λ q. true) refl o)

-- the operation at an operation's index is that operation
pub operation_at_index : (o : OlaOpcode) → get_or operations (index_of o) ADD ≡ o
unfolding operations
operation_at_index = each enum tt (λ o. get_or operations (index_of o) ADD) (λ o. o) refl

-- two operations with one index are one operation
pub index_one : (a b : OlaOpcode) → index_of a ≡ index_of b → a ≡ b
index_one a b e = sym (operation_at_index a) ∙ ap (λ (i : ℕ). get_or operations i ADD) e ∙ operation_at_index b

-- an index that was answered for an operation is below 27
pub indexed_lt : (i : ℕ) (o : OlaOpcode) → i ≡ index_of o → i < 27
indexed_lt i o e = omega (arith, index_lt o)

operations_long : length operations ≡ 27
unfolding operations
operations_long = refl

-- a table by the operations' order, at index i and at an operation's index
module _ {Y : Type 0} (f : OlaOpcode → Y) (d : Y) (table : List Y) (t : table ≡ map f operations) where
  pub entry_at : (i : ℕ) → i < 27 → get_or table i d ≡ f (get_or operations i ADD)
  entry_at i h = at f ADD d operations table t i (omega (arith, operations_long))

  pub entry_of : (o : OlaOpcode) (i : ℕ) → i ≡ index_of o → get_or table i d ≡ f o
  entry_of o i e = entry_at i (indexed_lt i o e) ∙ ap (λ (k : ℕ). f (get_or operations k ADD)) e ∙ ap f (operation_at_index o)

-- the operation at a place of the order has that index
place_index_lem : (i : ℕ) → i < 27 → index_of (get_or operations i ADD) ≡ i
unfolding operations
place_index_lem i h = sym (entry_at index_of 0 (map index_of operations) refl i h) ∙ placed (λ (k : ℕ). k) 0 27 (map index_of operations) refl i h

-- the one-hot rule: the bits of the operations are 5 to 31, and two operations have different bits
pub bit_least : (o : OlaOpcode) → 5 ≤ operation_bit o
bit_least o = omega (arith, index_lt o)

pub bit_most : (o : OlaOpcode) → operation_bit o ≤ 31
bit_most o = omega arith

pub bit_one : (a b : OlaOpcode) → operation_bit a ≡ operation_bit b → a ≡ b
bit_one a b e = index_one a b (omega (arith, index_lt a, index_lt b))

-- two tables by the operations' order that agree as wholes agree at each operation; y stands past their ends
pub agree : {Y : Type 0} (f g : OlaOpcode → Y) (y : Y) → map g operations ≡ map f operations → (o : OlaOpcode) → g o ≡ f o
agree f g y t o = sym (entry_of g y (map g operations) refl o (index_of o) refl) ∙ entry_of f y (map g operations) t o (index_of o) refl

-- what a computed table says of all operations holds of each
pub every_operation : (f : OlaOpcode → Bool) → replicate 27 true ≡ map f operations → (o : OlaOpcode) → f o ≡ true
every_operation f t o = sym (entry_of f false (replicate 27 true) t o (index_of o) refl) ∙ get_or-replicate 27 (index_of o) true false (index_lt o)

-- the first operation that passes a test passes it
pub first_holds : (f : OlaOpcode → Bool) (os : List OlaOpcode) (o : OlaOpcode) → first_operation f os ≡ Some o → f o ≡ true
unfolding first_operation
first_holds f [] o h = cc
first_holds f (x ∷ os) o h = go (f x) refl (first_holds f os o) h
  where
    go : (t : Bool) → f x ≡ t → (first_operation f os ≡ Some o → f o ≡ true) → cond t (Some x) (first_operation f os) ≡ Some o → f o ≡ true
    go true e r h = cc
    go false e r h = r h

-- `find` is that search
pub find_first : (f : OlaOpcode → Bool) (os : List OlaOpcode) → find f os ≡ first_operation f os
unfolding first_operation
find_first f [] = refl
find_first f (o ∷ os) = rw (find_first f os)
