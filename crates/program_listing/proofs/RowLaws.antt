-- The row of an instruction is refused by 24 exactly where a place that it needs is empty; otherwise it is the mnemonic and the texts of its places.
use Prim.Native.Nat.{ℕ}
use mathlib.Core.Path.{◌≡◌, refl, ap, ap₂, ◌∙◌}
use mathlib.Core.List.{List, [], ◌++◌, append-nil, append_assoc}
use mathlib.Core.Bool.{Bool, true, false, ◌||◌, cond, or_assoc}
use Rattle.text.specs.Bytes.{bytes}
use Rattle.text.specs.Answer.{Answer, ok, refused, ◌>>=◌, ◌>>◌, refuse_if}
use Rattle.text_write.specs.Digits.{fewest_text}
use Rattle.vm_opcodes.specs.Operations.{row_places}
use Rattle.vm_opcodes.specs.declared.RowPlaces.{RowPlaces}
use Rattle.vm_opcodes.specs.declared.RowPlaces.TheVariants.{DstOp0Op1, DstOp1, DstMemory, MemoryDst, Op0Op1, Op1, Bare}
use Rattle.vm_mnemonics.specs.Mnemonics.{mnemonic}
use Rattle.vm_hardware.specs.Registers.{register_text}
use Rattle.vm_operands.specs.declared.OlaOperand.{OlaOperand}
use Rattle.vm_operands.specs.declared.OlaOperand.TheVariants.{Empty, ImmediateOperand, RegisterOperand, RegisterWithOffset, RegisterWithFactor, SpecialReg}
use Rattle.program.specs.Instructions.{has_too_large}
use Rattle.program.specs.Listing.{operand_text, memory_text, spaced, places_text, row_text}
use Rattle.program.specs.declared.BinaryInstruction.{BinaryInstruction}
use Rattle.program_listing.specs.Row.{is_empty_place, lacks_two, lacks_place, content_text, spaced_text, bracketed_text, placed_text}

-- a text, or 24 where one that it needs is missing
abbrev unless : Bool → List ℕ → Answer (List ℕ)
unless lacking text = cond lacking (refused 24 0) (ok text)

-- the text of a place
operand_is : (o : OlaOperand) → operand_text o ≡ unless (is_empty_place o) (content_text o)
operand_is Empty = refl
operand_is (ImmediateOperand v) = refl
operand_is (RegisterOperand r) = refl
operand_is (RegisterWithOffset r v) = ap ok (append_assoc (register_text r) (bytes "+") (fewest_text v.number))
operand_is (RegisterWithFactor r v) = ap ok (append_assoc (fewest_text v.number) (bytes "*") (register_text r))
operand_is (SpecialReg s) = refl

-- a text after one space, and what follows
spaced_is : (a b : Bool) (x y : List ℕ) → spaced (unless a x) (unless b y) ≡ unless (a || b) (bytes " " ++ x ++ y)
unfolding spaced ◌>>=◌
spaced_is true b x y = refl
spaced_is false true x y = refl
spaced_is false false x y = refl

-- the last text of a row
last_is : (a : Bool) (x : List ℕ) → spaced (unless a x) (ok []) ≡ unless a (bytes " " ++ x)
unfolding spaced ◌>>=◌
last_is true x = refl
last_is false x = ap ok (append-nil (bytes " " ++ x))

-- a place and what follows
place_then : (o : OlaOperand) (q : Answer (List ℕ)) (b : Bool) (y : List ℕ) → q ≡ unless b y → spaced (operand_text o) q ≡ unless (is_empty_place o || b) (spaced_text o ++ y)
place_then o q b y e = ap₂ spaced (operand_is o) e ∙ spaced_is (is_empty_place o) b (content_text o) y

-- the last place
place_last : (o : OlaOperand) → spaced (operand_text o) (ok []) ≡ unless (is_empty_place o) (spaced_text o)
place_last o = ap (λ (p : Answer (List ℕ)). spaced p (ok [])) (operand_is o) ∙ last_is (is_empty_place o) (content_text o)

-- `[op0+op1]`
memory_is : (i : BinaryInstruction) → memory_text i ≡ unless (lacks_two i.op0 i.op1) (bytes "[" ++ content_text i.op0 ++ bytes "+" ++ content_text i.op1 ++ bytes "]")
unfolding memory_text ◌>>=◌
memory_is i = rw (operand_is i.op0, operand_is i.op1) (go (is_empty_place i.op0) (is_empty_place i.op1) (content_text i.op0) (content_text i.op1))
  where
    go : (a b : Bool) (x y : List ℕ) → (unless a x >>= λ p. unless b y >>= λ q. ok (bytes "[" ++ p ++ bytes "+" ++ q ++ bytes "]")) ≡ unless (a || b) (bytes "[" ++ x ++ bytes "+" ++ y ++ bytes "]")
    go true b x y = refl
    go false true x y = refl
    go false false x y = refl

-- the same after one space, its parts one behind the other
bracket_is : (x y : List ℕ) → bytes " " ++ (bytes "[" ++ x ++ bytes "+" ++ y ++ bytes "]") ≡ bytes " [" ++ (x ++ (bytes "+" ++ (y ++ bytes "]")))
bracket_is x y = simp append_assoc

module _ (i : BinaryInstruction) where
  -- `[op0+op1]` and what follows
  memory_then : (q : Answer (List ℕ)) (b : Bool) (y : List ℕ) → q ≡ unless b y → spaced (memory_text i) q ≡ unless (lacks_two i.op0 i.op1 || b) (bracketed_text i.op0 i.op1 ++ y)
  memory_then q b y e =
      ap₂ spaced (memory_is i) e
      ∙ spaced_is (lacks_two i.op0 i.op1) b (bytes "[" ++ content_text i.op0 ++ bytes "+" ++ content_text i.op1 ++ bytes "]") y
      ∙ ap (λ (x : List ℕ). unless (lacks_two i.op0 i.op1 || b) (x ++ y)) (bracket_is (content_text i.op0) (content_text i.op1))

  -- `[op0+op1]` as the last of a row
  memory_last : spaced (memory_text i) (ok []) ≡ unless (lacks_two i.op0 i.op1) (bracketed_text i.op0 i.op1)
  memory_last =
      ap (λ (p : Answer (List ℕ)). spaced p (ok [])) (memory_is i)
      ∙ last_is (lacks_two i.op0 i.op1) (bytes "[" ++ content_text i.op0 ++ bytes "+" ++ content_text i.op1 ++ bytes "]")
      ∙ ap (unless (lacks_two i.op0 i.op1)) (bracket_is (content_text i.op0) (content_text i.op1))

-- the places of a row
places_is : (p : RowPlaces) (i : BinaryInstruction) → places_text p i ≡ unless (lacks_place p i) (placed_text p i)
unfolding places_text
places_is DstOp0Op1 i = place_then i.dst _ _ _ (place_then i.op0 _ _ _ (place_last i.op1))
places_is DstOp1 i = place_then i.dst _ _ _ (place_last i.op1)
places_is DstMemory i = place_then i.dst _ _ _ (memory_last i)
places_is MemoryDst i = memory_then i _ _ _ (place_last i.dst) ∙ ap (λ (t : Bool). unless t (placed_text MemoryDst i)) (or_assoc (is_empty_place i.op0) (is_empty_place i.op1) (is_empty_place i.dst))
places_is Op0Op1 i = place_then i.op0 _ _ _ (place_last i.op1)
places_is Op1 i = place_last i.op1
places_is Bare i = refl

-- ---- a row by its refusals
module _ (i : BinaryInstruction) where
  -- 21
  pub row_large : has_too_large i ≡ true → row_text i ≡ refused 21 0
  unfolding row_text ◌>>◌ refuse_if
  row_large h = rw h

  module _ (h : has_too_large i ≡ false) where
    -- otherwise the mnemonic and its places
    row_places_lem : row_text i ≡ (unless (lacks_place (row_places i.opcode) i) (placed_text (row_places i.opcode) i) >>= λ places. ok (mnemonic i.opcode ++ places))
    unfolding row_text ◌>>◌ refuse_if
    row_places_lem = rw (h, places_is (row_places i.opcode) i)

    -- 24
    pub row_lacks : lacks_place (row_places i.opcode) i ≡ true → row_text i ≡ refused 24 0
    unfolding ◌>>=◌
    row_lacks k = row_places_lem ∙ rw k

    -- the text
    pub row_made : lacks_place (row_places i.opcode) i ≡ false → row_text i ≡ ok (mnemonic i.opcode ++ placed_text (row_places i.opcode) i)
    unfolding ◌>>=◌
    row_made k = row_places_lem ∙ rw k
