-- In an accepted source counted lengths are emitted lengths, and names are counts of words.
use Rattle.std.specs.Prelude.{ℕ, zero, suc, ◌+◌, ◌≡◌, refl, List, ◌∷◌, map, Bool, true, false, ◌||◌, cond, take, Option, Some, None, slice_get}
use Rattle.std.proofs.Common.{sym, ap, ap₂, ◌∙◌, subst, true≢false, arith}
use Rattle.std.proofs.lemmas.Bool.{false≢true}
use Rattle.text.specs.Lists.{total}
use Rattle.text.specs.Answer.{ok}
use Rattle.text.specs.All.{All, one_more}
use Rattle.text.proofs.AnswerLaws.{ok_same}
use Rattle.text.proofs.EntryLaws.{all_at}
use Rattle.vm_opcodes.specs.declared.OlaOpcode.{OlaOpcode}
use Rattle.vm_hardware.specs.declared.Place.{Place}
use Rattle.vm_hardware.specs.declared.Place.TheVariants.{Op0, Op1, Dst}
use Rattle.vm_operands.specs.declared.OlaOperand.{OlaOperand}
use Rattle.asm.specs.Rows.{counted, counted_length, instructions}
use Rattle.asm.specs.Survey.{is_memory_row}
use Rattle.asm.specs.declared.OlaAsmOperand.{OlaAsmOperand}
use Rattle.asm.specs.declared.OlaAsmOperand.TheVariants.{Empty, ImmediateOperand, RegisterOperand, RegisterWithOffset, RegisterWithFactoredRegOffset, SpecialReg, Label, Identifier}
use Rattle.asm.specs.declared.OlaAsmInstruction.{OlaAsmInstruction}
use Rattle.asm.specs.declared.AsmRow.{AsmRow}
use Rattle.asm_laws.proofs.ShapeLaws.{MemoryShaped}
use Rattle.relocate.specs.Labels.{LabelRow, call_kind, jmp_kind, address_of}
use Rattle.program.specs.Instructions.{a_number, is_number, is_memory}
use Rattle.program.specs.Words.{emitted_length, words_before}
use Rattle.program.specs.declared.BinaryInstruction.{BinaryInstruction}
use Rattle.encoder.specs.Canonical.{Names, names_of, holder_of, looked_up, plain, is_bracketed, canonical_of, canonical_program, first_misplaced}
use Rattle.encoder.proofs.Origins.{memory_rows, anchored_counted, Resolved, Anchored, by_offset, by_factor, Origin, ordinary, load, store, canonical_origin}
use Rattle.encoder.proofs.AcceptedLaws.{Pairs, no_pair, one_pair, canonical_pairs, WellPlaced, well_placed, looked_up_lem}
use Rattle.promises.specs.Terms.{operand_at, content_at}
use Rattle.std.proofs.lemmas.Option.{none-some, same_Some}

-- ---- counted and emitted lengths

-- n is 1 for a number, 0 for any other content
abbrev Counts : ℕ → OlaOperand → Type 0
Counts n c = n ≡ cond (is_number c) 1 0

found_counted : (names : Names) (k : ℕ) (found : Option LabelRow) (c : OlaOperand) → looked_up names k found ≡ ok c → Counts 1 c
found_counted names k found c e = subst (Counts 1) (looked_up_lem names k found c e).2 refl

-- outside mload and mstore an operand without brackets counts as what it is made
plain_counted : (names : Names) (k : ℕ) (x : OlaAsmOperand) (c : OlaOperand) → plain names k x ≡ ok c → is_bracketed x ≡ false → Counts (counted x) c
plain_counted names k Empty c e h = subst (Counts 0) (ok_same e) refl
plain_counted names k (ImmediateOperand v) c e h = subst (Counts 1) (ok_same e) refl
plain_counted names k (RegisterOperand r) c e h = subst (Counts 0) (ok_same e) refl
plain_counted names k (RegisterWithOffset r v) c e h = absurd (true≢false h)
plain_counted names k (RegisterWithFactoredRegOffset r t v) c e h = absurd (true≢false h)
plain_counted names k (SpecialReg t) c e h = subst (Counts 0) (ok_same e) refl
plain_counted names k (Label start n) c e h = found_counted names k (holder_of names jmp_kind start n) c e
plain_counted names k (Identifier start n) c e h = found_counted names k (holder_of names call_kind start n) c e

unbracketed : (a b d : Bool) → (a || b || d) ≡ false → (a ≡ false) × (b ≡ false)
unbracketed true b d e = absurd (true≢false e)
unbracketed false true d e = absurd (true≢false e)
unbracketed false false d e = (refl, refl)

plain_length : (m t : Bool) (x y : ℕ) → m ≡ false → x ≡ 0 → y ≡ cond t 1 0 → 1 + x + y ≡ cond (m || t) 2 1
plain_length true t x y h p q = absurd (true≢false h)
plain_length false true x y h p q = rw (p, q)
plain_length false false x y h p q = rw (p, q)

memory_length : (m t : Bool) (x y : ℕ) → m ≡ true → x + y ≡ 1 → 1 + x + y ≡ cond (m || t) 2 1
memory_length true t x y h e = omega arith
memory_length false t x y h e = absurd (false≢true h)

length_agrees : (names : Names) (k : ℕ) (i : OlaAsmInstruction) (b : BinaryInstruction) → Origin names k i b → WellPlaced b → MemoryShaped i
    → counted_length i ≡ emitted_length b
length_agrees names k i b (ordinary m z r) w s =
    let f = unbracketed (is_bracketed i.op0) (is_bracketed i.op1) (is_bracketed i.dst) z in
    plain_length (is_memory b.opcode) (is_number b.op1) (counted i.op0) (counted i.op1)
    (sym (ap is_memory r.opcode) ∙ m)
    (subst (λ t. counted i.op0 ≡ cond t 1 0) w.op0 (plain_counted names k i.op0 b.op0 r.op0 f.0))
    (plain_counted names k i.op1 b.op1 r.op1 f.1)
length_agrees names k i b (load e a) w s =
    let f = anchored_counted i.opcode i.op1 i.dst b a in
    let z : counted i.op0 ≡ 0 = ap counted (s.load e) in
    let o : counted i.op1 ≡ 1 = f.0 in
    memory_length (is_memory b.opcode) (is_number b.op1) (counted i.op0) (counted i.op1)
    (sym (ap is_memory f.2) ∙ memory_rows i.opcode ∙ ap is_memory_row e) (omega arith)
length_agrees names k i b (store e a) w s =
    let f = anchored_counted i.opcode i.op0 i.op1 b a in
    let o : counted i.op0 ≡ 1 = f.0 in
    let z : counted i.op1 ≡ 0 = f.1 in
    memory_length (is_memory b.opcode) (is_number b.op1) (counted i.op0) (counted i.op1)
    (sym (ap is_memory f.2) ∙ memory_rows i.opcode ∙ ap is_memory_row e) (omega arith)

pairs_agree : (names : Names) (k : ℕ) (is : List OlaAsmInstruction) (bs : List BinaryInstruction) → Pairs names k is bs → All WellPlaced bs → All MemoryShaped is
    → map counted_length is ≡ map emitted_length bs
pairs_agree names k is bs no_pair ws ss = refl
pairs_agree names k is bs (one_pair {i = i} {b = b} {is = js} {bs = cs} e p) (one_more w ws) (one_more s ss) =
    ap₂ ◌∷◌ (length_agrees names k i b (canonical_origin names k i b e) w s) (pairs_agree names (suc k) js cs p ws ss)

-- ---- names

-- a name or a label
abbrev is_looked_up : OlaAsmOperand → Bool
is_looked_up Empty = false
is_looked_up (ImmediateOperand v) = false
is_looked_up (RegisterOperand r) = false
is_looked_up (RegisterWithOffset r v) = false
is_looked_up (RegisterWithFactoredRegOffset r t v) = false
is_looked_up (SpecialReg t) = false
is_looked_up (Label start n) = true
is_looked_up (Identifier start n) = true

anchored_nameless : (o : OlaOpcode) (x y : OlaAsmOperand) (b : BinaryInstruction) → Anchored o x y b → (is_looked_up x ≡ false) × (is_looked_up y ≡ false)
anchored_nameless o x y b (by_offset a d v) = (refl, refl)
anchored_nameless o x y b (by_factor a t d v) = (refl, refl)

load_nameless : (i : OlaAsmInstruction) (b : BinaryInstruction) → i.op0 ≡ Empty → Anchored i.opcode i.op1 i.dst b → (place : Place)
    → is_looked_up (operand_at place i) ≡ false
load_nameless i b e a Op0 = ap is_looked_up e
load_nameless i b e a Op1 = (anchored_nameless i.opcode i.op1 i.dst b a).0
load_nameless i b e a Dst = (anchored_nameless i.opcode i.op1 i.dst b a).1

store_nameless : (i : OlaAsmInstruction) (b : BinaryInstruction) → i.dst ≡ Empty → Anchored i.opcode i.op0 i.op1 b → (place : Place)
    → is_looked_up (operand_at place i) ≡ false
store_nameless i b e a Op0 = (anchored_nameless i.opcode i.op0 i.op1 b a).0
store_nameless i b e a Op1 = (anchored_nameless i.opcode i.op0 i.op1 b a).1
store_nameless i b e a Dst = ap is_looked_up e

place_resolved : (names : Names) (k : ℕ) (i : OlaAsmInstruction) (b : BinaryInstruction) → Resolved names k i b → (place : Place)
    → plain names k (operand_at place i) ≡ ok (content_at place b)
place_resolved names k i b r Op0 = r.op0
place_resolved names k i b r Op1 = r.op1
place_resolved names k i b r Dst = r.dst

-- a place with a name or a label is made what its lookup found
name_found : (names : Names) (k : ℕ) (i : OlaAsmInstruction) (b : BinaryInstruction) → Origin names k i b → MemoryShaped i → (place : Place) (x : OlaAsmOperand)
    → operand_at place i ≡ x → is_looked_up x ≡ true → plain names k x ≡ ok (content_at place b)
name_found names k i b (ordinary m z r) s place x e t = sym (ap (plain names k) e) ∙ place_resolved names k i b r place
name_found names k i b (load p a) s place x e t =
    absurd (true≢false (sym t ∙ sym (ap is_looked_up e) ∙ load_nameless i b (s.load p) a place))
name_found names k i b (store p a) s place x e t =
    absurd (true≢false (sym t ∙ sym (ap is_looked_up e) ∙ store_nameless i b (s.store p) a place))

-- the instruction at the index of a row, and how it was made
pairs_at : (names : Names) (k : ℕ) (is : List OlaAsmInstruction) (bs : List BinaryInstruction) → Pairs names k is bs → (n : ℕ) (i : OlaAsmInstruction)
    → slice_get is n ≡ Some i → (b : BinaryInstruction) × (slice_get bs n ≡ Some b) × (m : ℕ) × (canonical_of names m i ≡ ok b)
pairs_at names k is bs no_pair n i g = absurd (none-some i g)
pairs_at names k is bs (one_pair {i = j} {b = c} e p) zero i g = (c, refl, k, sym (ap (canonical_of names k) (same_Some j i g)) ∙ e)
pairs_at names k is bs (one_pair {is = js} {bs = cs} e p) (suc n) i g = pairs_at names (suc k) js cs p n i g

-- the row of a kind that holds a name, and a content that is the count of words before what it marks
abbrev pub HoldsCount : Names → List BinaryInstruction → ℕ → ℕ → ℕ → OlaOperand → Type 0
HoldsCount names program kind start n content =
    (l : LabelRow) × (holder_of names kind start n ≡ Some l) × (content ≡ a_number (words_before program l.marks))

module _ (s : List ℕ) (rows : List AsmRow) (is : List BinaryInstruction) (canonical : canonical_program s rows ≡ ok is) (placed : first_misplaced 0 is ≡ None)
    (shaped : All MemoryShaped (instructions rows)) where
  -- every row counts as many words as its instruction has
  pub lengths_agree : map counted_length (instructions rows) ≡ map emitted_length is
  lengths_agree =
      pairs_agree (names_of s rows) 0 (instructions rows) is (canonical_pairs (names_of s rows) 0 (instructions rows) is canonical) (well_placed 0 is placed) shaped

  -- addresses are counts of words
  pub addresses_are_words : (n : ℕ) → address_of (instructions rows) n ≡ words_before is n
  addresses_are_words n = ap (λ (l : List ℕ). total (take n l)) lengths_agree

  counted_words : (m kind start n : ℕ) (c : OlaOperand) → looked_up (names_of s rows) m (holder_of (names_of s rows) kind start n) ≡ ok c
      → HoldsCount (names_of s rows) is kind start n c
  counted_words m kind start n c e =
      let x = looked_up_lem (names_of s rows) m (holder_of (names_of s rows) kind start n) c e in
      (x.0, x.1, sym x.2 ∙ ap a_number (addresses_are_words x.0.marks))

  -- every row has an instruction, where a name in an operand is the count of words before what its call row marks, a label that of its `.LBL` row
  pub names_are_word_counts : (k : ℕ) (i : OlaAsmInstruction) → slice_get (instructions rows) k ≡ Some i
      → (b : BinaryInstruction) × (slice_get is k ≡ Some b) × ((place : Place) (start n : ℕ)
      → (operand_at place i ≡ Identifier start n → HoldsCount (names_of s rows) is call_kind start n (content_at place b))
      × (operand_at place i ≡ Label start n → HoldsCount (names_of s rows) is jmp_kind start n (content_at place b)))
  names_are_word_counts k i g = (b, at.1, counts)
    where
      names : Names
      names = names_of s rows

      at : (b : BinaryInstruction) × (slice_get is k ≡ Some b) × (m : ℕ) × (canonical_of names m i ≡ ok b)
      at = pairs_at names 0 (instructions rows) is (canonical_pairs names 0 (instructions rows) is canonical) k i g

      b : BinaryInstruction
      b = at.0

      found : (place : Place) (x : OlaAsmOperand) → operand_at place i ≡ x → is_looked_up x ≡ true → plain names at.2 x ≡ ok (content_at place b)
      found = name_found names at.2 i b (canonical_origin names at.2 i b at.3) (all_at (instructions rows) shaped k i g)

      counts : (place : Place) (start n : ℕ)
          → (operand_at place i ≡ Identifier start n → HoldsCount names is call_kind start n (content_at place b))
          × (operand_at place i ≡ Label start n → HoldsCount names is jmp_kind start n (content_at place b))
      counts place start n = (
        λ e. counted_words at.2 call_kind start n (content_at place b) (found place (Identifier start n) e refl),
        λ e. counted_words at.2 jmp_kind start n (content_at place b) (found place (Label start n) e refl),
      )
