-- Laws of a source row as it is put together.
use Rattle.std.specs.Prelude.{Option}
use borrow.Author.Rules.{rules}
use Prim.Native.Nat.{ℕ, ◌<◌, ◌^◌}
use mathlib.Core.Logic.{◌⊎◌, inl, inr}
use mathlib.Core.Path.{◌≡◌, refl, sym, ap, ap₂, ◌∙◌}
use mathlib.Core.List.{List, [], ◌∷◌, ◌++◌, append-nil, append_assoc}
use lib.Dec.{lit≤}
use Rattle.text.specs.Bytes.{bytes}
use Rattle.text_write.specs.Digits.{decimal_text}
use Rattle.text_write.specs.Put.{put_count, put_into}
use Rattle.text_write.proofs.Laws.{decimal_most}
use Rattle.vm_opcodes.specs.Operations.{row_places}
use Rattle.vm_opcodes.specs.declared.RowPlaces.{RowPlaces}
use Rattle.vm_opcodes.specs.declared.RowPlaces.TheVariants.{DstOp0Op1, DstOp1, DstMemory, MemoryDst, Op0Op1, Op1, Bare}
use Rattle.vm_mnemonics.specs.Mnemonics.{mnemonic}
use Rattle.vm_hardware.specs.Registers.{register_text, special_text}
use Rattle.vm_hardware.specs.declared.OlaRegister.{OlaRegister}
use Rattle.vm_hardware.specs.declared.OlaSpecialRegister.TheVariants.{PSP}
use Rattle.vm_operands.specs.declared.ImmediateValue.{ImmediateValue}
use Rattle.vm_operands.specs.declared.OlaOperand.{OlaOperand}
use Rattle.vm_operands.specs.declared.OlaOperand.TheVariants.{Empty, ImmediateOperand, RegisterOperand, RegisterWithOffset, RegisterWithFactor, SpecialReg}
use Rattle.program.specs.declared.BinaryInstruction.{BinaryInstruction}
use Rattle.program_listing.specs.Places.{as_text, spaced_by, bracketed_by, placed_by, row_by, row_pushed}
use Rattle.program_listing.proofs.Places.{Makes, NumberFits, NumbersFit, one_makes, makes_most, both_make, register_most, special_most, row_whole}
use Rattle.source.specs.SourceText.{place_source, memory_source, places_source, spaced_all, source_row}
use Rattle.source_rows.specs.Pieces.{source_pieces}

-- ---- the pieces of a place are its text, of at most 23 bytes

-- a register and its number, with offset or with factor
pub pair_is : (o : OlaOperand) (r : OlaRegister) (v : ImmediateValue) → (o ≡ RegisterWithOffset r v) ⊎ (o ≡ RegisterWithFactor r v) → place_source o ≡ register_text r ++ bytes "," ++ decimal_text v.number
pair_is o r v (inl e) = ap place_source e
pair_is o r v (inr e) = ap place_source e

-- its pieces make it
pair_whole : (r : OlaRegister) (v : ImmediateValue) → v.number < 2 ^ 64 → Makes 23 (register_text r ∷ bytes "," ∷ decimal_text v.number ∷ []) (register_text r ++ bytes "," ++ decimal_text v.number)
pair_whole r v h =
    both_make (both_make (one_makes 2 (register_text r) (register_most r)) (one_makes 1 (bytes ",") (lit≤ tt))) (one_makes 20 (decimal_text v.number) (decimal_most v.number h))

pub source_whole : (o : OlaOperand) → NumberFits o → Makes 23 (source_pieces o) (place_source o)
source_whole Empty h = one_makes 23 (special_text PSP) (lit≤ tt)
source_whole (ImmediateOperand v) h = makes_most 23 (one_makes 20 (decimal_text v.number) (decimal_most v.number (h v.number refl))) (lit≤ tt)
source_whole (RegisterOperand r) h = one_makes 23 (register_text r) (lit≤ tt)
source_whole (RegisterWithOffset r v) h = pair_whole r v (h v.number refl)
source_whole (RegisterWithFactor r v) h = pair_whole r v (h v.number refl)
source_whole (SpecialReg s) h = makes_most 23 (one_makes 3 (special_text s) (special_most s)) (lit≤ tt)

-- ---- the row as it is put together is the source row

-- one text after a space
last_is : (p : List ℕ) → bytes " " ++ p ≡ spaced_all (p ∷ [])
unfolding spaced_all
last_is p = ap (λ (s : List ℕ). bytes " " ++ s) (sym (append-nil p))

-- `[op0,op1]`
address_is : (a b : List ℕ) → bytes "[" ++ (a ++ (bytes "," ++ (b ++ bytes "]"))) ≡ bytes "[" ++ a ++ bytes "," ++ b ++ bytes "]"
address_is a b = sym (simp append_assoc)

-- the same after a space
memory_is : (i : BinaryInstruction) → bracketed_by as_text place_source 44 i.op0 i.op1 ≡ bytes " " ++ memory_source i
memory_is i = ap (λ (s : List ℕ). bytes " " ++ s) (address_is (place_source i.op0) (place_source i.op1))

-- the places
placed_is : (p : RowPlaces) (i : BinaryInstruction) → placed_by as_text place_source 44 p i ≡ spaced_all (places_source p i)
unfolding spaced_all
placed_is DstOp0Op1 i = ap (λ (s : List ℕ). spaced_by as_text place_source i.dst ++ (spaced_by as_text place_source i.op0 ++ s)) (last_is (place_source i.op1))
placed_is DstOp1 i = ap (λ (s : List ℕ). spaced_by as_text place_source i.dst ++ s) (last_is (place_source i.op1))
placed_is DstMemory i = ap (λ (s : List ℕ). spaced_by as_text place_source i.dst ++ s) (memory_is i ∙ last_is (memory_source i))
placed_is MemoryDst i = ap₂ (λ (s t : List ℕ). s ++ t) (memory_is i) (last_is (place_source i.dst))
placed_is Op0Op1 i = ap (λ (s : List ℕ). spaced_by as_text place_source i.op0 ++ s) (last_is (place_source i.op1))
placed_is Op1 i = last_is (place_source i.op1)
placed_is Bare i = refl

-- the row
pub row_is : (i : BinaryInstruction) → row_by place_source 44 i ≡ source_row i
row_is i = ap (λ (s : List ℕ). mnemonic i.opcode ++ s) (placed_is (row_places i.opcode) i)

-- and the row as it is pushed, of which nothing is left out
pub pushed_is : (i : BinaryInstruction) → NumbersFit i → row_pushed source_pieces 44 i ≡ source_row i
pushed_is i fits = row_whole place_source source_pieces 44 source_whole i fits ∙ row_is i

-- the row that is put is the source row
pub row_counted : (i : BinaryInstruction) → NumbersFit i → (d : List ℕ) (at : ℕ) (r : Option ℕ) → r ≡ put_count d at (row_pushed source_pieces 44 i) → r ≡ put_count d at (source_row i)
row_counted i fits d at r e = e ∙ ap (put_count d at) (pushed_is i fits)

pub row_stored : (i : BinaryInstruction) → NumbersFit i → (d : List ℕ) (at : ℕ) (b : List ℕ) → b ≡ put_into d at (row_pushed source_pieces 44 i) → b ≡ put_into d at (source_row i)
row_stored i fits d at b e = e ∙ ap (put_into d at) (pushed_is i fits)

pub ruleset put_laws = (row_counted, row_stored, rules)
