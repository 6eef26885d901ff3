-- An instruction, as it reads and as canonical: the same source row, off its row or on it alike, numbers below p alike.
use Prim.Native.Nat.{ℕ}
use mathlib.Core.Path.{◌≡◌, refl, sym, ap, ap₂, ◌∙◌}
use mathlib.Core.List.{List, [], ◌∷◌, ◌++◌, map}
use mathlib.Core.Bool.{Bool, true, false, ◌&&◌, ◌||◌, cond}
use Rattle.text.specs.Bytes.{bytes}
use Rattle.text.specs.All.{All, none_left, one_more}
use Rattle.vm_opcodes.specs.Operations.{operations, row_places}
use Rattle.vm_opcodes.specs.declared.OlaOpcode.{OlaOpcode}
use Rattle.vm_opcodes.specs.declared.RowPlaces.{RowPlaces}
use Rattle.vm_opcodes.specs.declared.RowPlaces.TheVariants.{DstOp0Op1, DstOp1, DstMemory, MemoryDst, Op0Op1, Op1, Bare}
use Rattle.vm_opcodes.proofs.Laws.{agree}
use Rattle.vm_mnemonics.specs.Mnemonics.{mnemonic}
use Rattle.vm_hardware.specs.Registers.{special_text}
use Rattle.vm_hardware.specs.declared.OlaSpecialRegister.TheVariants.{PC, PSP}
use Rattle.vm_operands.specs.declared.OlaOperand.{OlaOperand}
use Rattle.vm_operands.specs.declared.OlaOperand.TheVariants.{Empty, ImmediateOperand, RegisterOperand, RegisterWithOffset, RegisterWithFactor, SpecialReg}
use Rattle.asm_laws.proofs.LengthLaws.{is_bare}
use Rattle.program.specs.Instructions.{made, carried, is_mov}
use Rattle.program.specs.Bytecode.{joined}
use Rattle.program.specs.declared.BinaryInstruction.{BinaryInstruction}
use Rattle.program.specs.CanonicalForm.{BelowOrder, no_number, InOrder}
use Rattle.decoder.specs.AsRead.{op1_as_read, as_read, op1_as_canonical, as_canonical}
use Rattle.source.specs.SourceText.{place_source, places_source, spaced_all, source_row, source_text, is_full, off_row, is_off_row}

-- mov's row has places
mov_not_bare : (o : OlaOpcode) → (is_mov o && is_bare (row_places o)) ≡ false
unfolding operations
mov_not_bare = agree (λ o. false) (λ o. is_mov o && is_bare (row_places o)) false refl

-- so an operation whose row has none is not mov
bare_not_mov : (o : OlaOpcode) → is_bare (row_places o) ≡ true → is_mov o ≡ false
bare_not_mov o e = go (is_mov o) (ap (λ (t : Bool). is_mov o && t) (sym e) ∙ mov_not_bare o)
  where
    go : (t : Bool) → (t && true) ≡ false → t ≡ false
    go true h = h
    go false h = refl

-- what every entry has, changed, every changed entry has
all_mapped : {A B : Type 0} {P : A → Type 0} {Q : B → Type 0} (f : A → B) → ((x : A) → P x → Q (f x)) → {xs : List A} → All P xs → All Q (map f xs)
all_mapped f g none_left = none_left
all_mapped f g (one_more {x = x} h hs) = one_more (g x h) (all_mapped f g hs)

-- ---- any change of op1 that is written alike and, in a row without places, is as full

module _ (f : OlaOpcode → OlaOperand → OlaOperand) where
  -- the instruction with op1 so changed
  abbrev changed : BinaryInstruction → BinaryInstruction
  changed i = made i.opcode i.op0 (f i.opcode i.op1) i.dst

  module _ (alike : (o : OlaOpcode) (x : OlaOperand) → place_source (f o x) ≡ place_source x) where
    row_changed : (i : BinaryInstruction) → source_row (changed i) ≡ source_row i
    row_changed i = ap (λ (ps : List (List ℕ)). mnemonic i.opcode ++ spaced_all ps) (places (row_places i.opcode))
      where
        same : place_source (f i.opcode i.op1) ≡ place_source i.op1
        same = alike i.opcode i.op1

        places : (p : RowPlaces) → places_source p (changed i) ≡ places_source p i
        places DstOp0Op1 = rw same
        places DstOp1 = rw same
        places DstMemory = rw same
        places MemoryDst = rw same
        places Op0Op1 = rw same
        places Op1 = rw same
        places Bare = refl

    rows_changed : (is : List BinaryInstruction) → map source_row (map changed is) ≡ map source_row is
    rows_changed [] = refl
    rows_changed (i ∷ is) = ap₂ (λ (l : List ℕ) (ls : List (List ℕ)). l ∷ ls) (row_changed i) (rows_changed is)

    text_changed : (is : List BinaryInstruction) → source_text (map changed is) ≡ source_text is
    text_changed is = ap (λ (ls : List (List ℕ)). joined (bytes "main:" ∷ ls)) (rows_changed is)

  module _ (as-full : (o : OlaOpcode) → is_bare (row_places o) ≡ true → (x : OlaOperand) → is_full (f o x) ≡ is_full x) where
    off_changed : (i : BinaryInstruction) → is_off_row (changed i) ≡ is_off_row i
    off_changed i = off (row_places i.opcode) refl
      where
        off : (p : RowPlaces) → row_places i.opcode ≡ p → off_row p (changed i) ≡ off_row p i
        off DstOp0Op1 e = refl
        off DstOp1 e = refl
        off DstMemory e = refl
        off MemoryDst e = refl
        off Op0Op1 e = refl
        off Op1 e = refl
        off Bare e = ap (λ (t : Bool). is_full i.op0 || t || is_full i.dst) (as-full i.opcode (ap is_bare e) i.op1)

-- ---- as canonical

canonical_alike : (o : OlaOpcode) (x : OlaOperand) → place_source (op1_as_canonical o x) ≡ place_source x
canonical_alike o Empty = refl
canonical_alike o (ImmediateOperand v) = refl
canonical_alike o (RegisterOperand r) = refl
canonical_alike o (RegisterWithOffset r v) = refl
canonical_alike o (RegisterWithFactor r v) = refl
canonical_alike o (SpecialReg PC) = refl
canonical_alike o (SpecialReg PSP) = go (is_mov o)
  where
    go : (t : Bool) → place_source (cond t Empty (SpecialReg PSP)) ≡ special_text PSP
    go true = refl
    go false = refl

canonical_full : (o : OlaOpcode) → is_bare (row_places o) ≡ true → (x : OlaOperand) → is_full (op1_as_canonical o x) ≡ is_full x
canonical_full o e Empty = refl
canonical_full o e (ImmediateOperand v) = refl
canonical_full o e (RegisterOperand r) = refl
canonical_full o e (RegisterWithOffset r v) = refl
canonical_full o e (RegisterWithFactor r v) = refl
canonical_full o e (SpecialReg PC) = refl
canonical_full o e (SpecialReg PSP) = ap (λ (t : Bool). is_full (cond t Empty (SpecialReg PSP))) (bare_not_mov o e)

-- an instruction as canonical is off its row just if it was
off_as_canonical : (i : BinaryInstruction) → is_off_row (as_canonical i) ≡ is_off_row i
off_as_canonical = off_changed op1_as_canonical canonical_full

-- the source text of instructions as canonical is theirs
pub text_as_canonical : (is : List BinaryInstruction) → source_text (map as_canonical is) ≡ source_text is
text_as_canonical = text_changed op1_as_canonical canonical_alike

canonical_below : (o : OlaOpcode) (x : OlaOperand) → BelowOrder (carried x) → BelowOrder (carried (op1_as_canonical o x))
canonical_below o Empty h = h
canonical_below o (ImmediateOperand v) h = h
canonical_below o (RegisterOperand r) h = h
canonical_below o (RegisterWithOffset r v) h = h
canonical_below o (RegisterWithFactor r v) h = h
canonical_below o (SpecialReg PC) h = h
canonical_below o (SpecialReg PSP) h = go (is_mov o)
  where
    go : (t : Bool) → BelowOrder (carried (cond t Empty (SpecialReg PSP)))
    go true = no_number
    go false = no_number

-- numbers below p stay so
order_as_canonical : (i : BinaryInstruction) → InOrder i → InOrder (as_canonical i)
order_as_canonical i h = record { op0 = h.op0; op1 = canonical_below i.opcode i.op1 h.op1; dst = h.dst }

-- where every instruction has numbers below p, so has every one as canonical
pub all_order_as_canonical : (is : List BinaryInstruction) → All InOrder is → All InOrder (map as_canonical is)
all_order_as_canonical is = all_mapped as_canonical order_as_canonical

-- where none is off its row, none is as canonical
pub all_on_as_canonical : (is : List BinaryInstruction) → All (λ i. is_off_row i ≡ false) is → All (λ i. is_off_row i ≡ false) (map as_canonical is)
all_on_as_canonical is = all_mapped as_canonical (λ i h. off_as_canonical i ∙ h)

-- ---- as it reads

read_alike : (o : OlaOpcode) (x : OlaOperand) → place_source (op1_as_read o x) ≡ place_source x
read_alike o Empty = go (is_mov o)
  where
    go : (t : Bool) → place_source (cond t (SpecialReg PSP) Empty) ≡ special_text PSP
    go true = refl
    go false = refl
read_alike o (ImmediateOperand v) = refl
read_alike o (RegisterOperand r) = refl
read_alike o (RegisterWithOffset r v) = refl
read_alike o (RegisterWithFactor r v) = refl
read_alike o (SpecialReg s) = refl

read_full : (o : OlaOpcode) → is_bare (row_places o) ≡ true → (x : OlaOperand) → is_full (op1_as_read o x) ≡ is_full x
read_full o e Empty = ap (λ (t : Bool). is_full (cond t (SpecialReg PSP) Empty)) (bare_not_mov o e)
read_full o e (ImmediateOperand v) = refl
read_full o e (RegisterOperand r) = refl
read_full o e (RegisterWithOffset r v) = refl
read_full o e (RegisterWithFactor r v) = refl
read_full o e (SpecialReg s) = refl

-- an instruction as it reads is off its row just if it was
off_as_read : (i : BinaryInstruction) → is_off_row (as_read i) ≡ is_off_row i
off_as_read = off_changed op1_as_read read_full

-- the source text of instructions as they read is theirs
pub text_as_read : (is : List BinaryInstruction) → source_text (map as_read is) ≡ source_text is
text_as_read = text_changed op1_as_read read_alike

-- where none is off its row, none is as it reads
pub all_on_as_read : (is : List BinaryInstruction) → All (λ i. is_off_row i ≡ false) is → All (λ i. is_off_row i ≡ false) (map as_read is)
all_on_as_read is = all_mapped as_read (λ i h. off_as_read i ∙ h)
