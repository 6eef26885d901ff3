-- What is known of the canonical program of an accepted source: the rows that it is made from, one by one, its forms, and its numbers.
use Rattle.std.specs.Prelude.{Option, Some, None}
use Prim.Native.Nat.{ℕ, suc, ◌<◌}
use mathlib.Core.Path.{◌≡◌, refl, sym, ap, ◌∙◌, subst}
use mathlib.Core.List.{List, [], ◌∷◌}
use mathlib.Core.Bool.{Bool, true, false, ◌||◌, cond, true≢false}
use lib.ListN.{length}
use Rattle.text.specs.Answer.{ok}
use Rattle.text.specs.All.{All, none_left, one_more}
use Rattle.text.proofs.AnswerLaws.{not_ok, ok_same, ok_bind, if_passed, at_passed}
use Rattle.vm_opcodes.specs.declared.OlaOpcode.{OlaOpcode}
use Rattle.vm_hardware.specs.declared.OlaRegister.{OlaRegister}
use Rattle.vm_operands.specs.Numbers.{order}
use Rattle.vm_operands.specs.declared.ImmediateValue.{ImmediateValue}
use Rattle.vm_operands.specs.declared.OlaOperand.{OlaOperand}
use Rattle.vm_operands.specs.declared.OlaOperand.TheVariants.{ImmediateOperand as ANumber}
use Rattle.asm.specs.Rows.{instructions}
use Rattle.asm.specs.Survey.{is_memory_row}
use Rattle.asm.specs.declared.OlaAsmOperand.{OlaAsmOperand}
use Rattle.asm.specs.declared.OlaAsmOperand.TheVariants.{Empty, ImmediateOperand, RegisterOperand, RegisterWithOffset, RegisterWithFactoredRegOffset, SpecialReg, Label, Identifier}
use Rattle.asm.specs.declared.OlaAsmInstruction.{OlaAsmInstruction}
use Rattle.asm.specs.declared.AsmRow.{AsmRow}
use Rattle.asm_laws.proofs.NumberLaws.{OperandBelow, OperandsBelow}
use Rattle.relocate.specs.Labels.{LabelRow, label_rows, address_of}
use Rattle.relocate.specs.Relocate.{sorted_of, tabled, hosts_of}
use Rattle.program.specs.Instructions.{made, a_number, is_number, carried, is_memory}
use Rattle.program.specs.Words.{program_words}
use Rattle.program.specs.declared.BinaryInstruction.{BinaryInstruction}
use Rattle.program.specs.CanonicalForm.{or_empty, CanonicalForm, plain as registers, numbered, offset, factored, BelowOrder, no_number, below, InOrder}
use Rattle.encoder.specs.Canonical.{Names, names_of, holder_of, looked_up, plain, canonical_of, canonical_from, canonical_program, first_misplaced}
use Rattle.encoder.specs.Assemble.{Room, Accepted, encoded_rows, assembled}
use Rattle.encoder.proofs.Origins.{memory_rows, Anchored, by_offset, by_factor, Origin, ordinary, load, store, canonical_origin}
use Rattle.std.proofs.lemmas.Option.{none-some}

-- ---- the rows of an accepted source

pub record AcceptedRows (s prophets : List ℕ) (a : Accepted) : Type 0 where
  pub rows : List AsmRow
  pub sorted : sorted_of s ≡ ok rows
  pub labels : a.labels ≡ length (label_rows 0 rows)
  pub canonical : canonical_program s rows ≡ ok a.program
  pub placed : first_misplaced 0 a.program ≡ None
  pub words : a.words ≡ program_words a.program
  pub hosts : hosts_of s rows prophets ≡ ok a.hosts

-- a source that 7 lets pass has the sorted rows that 1 to 6 let pass
pub tabled_sorted : (s : List ℕ) (room : ℕ) (rows : List AsmRow) → tabled s room ≡ ok rows → sorted_of s ≡ ok rows
unfolding tabled
tabled_sorted s room rows e =
    let x = ok_bind (sorted_of s) _ rows e in
    x.1 ∙ (if_passed _ 7 _ rows x.2).1

-- an accepted source has sorted rows, and its program is theirs
pub accepted_rows : (s prophets : List ℕ) (room : Room) (a : Accepted) → assembled s prophets room ≡ ok a → AcceptedRows s prophets a
unfolding assembled encoded_rows
accepted_rows s prophets room a e =
    let t = ok_bind (tabled s room.entries) _ a e in
    let h = ok_bind (hosts_of s t.0 prophets) _ a t.2 in
    let p = ok_bind (canonical_program s t.0) _ a h.2 in
    let m = at_passed (first_misplaced 0 p.0) 12 _ a p.2 in
    let w = if_passed _ 13 _ a m.1 in
    subst (AcceptedRows s prophets) (ok_same w.1) (record {
      rows = t.0;
      sorted = tabled_sorted s room.entries t.0 t.1;
      labels = refl;
      canonical = p.1;
      placed = m.0;
      words = refl;
      hosts = h.1;
    })

-- ---- one by one

-- rows from index k on and the instructions that they are made
pub data Pairs (names : Names) : ℕ → List OlaAsmInstruction → List BinaryInstruction → Type 0 where
  no_pair : {k : ℕ} → Pairs names k [] []
  one_pair : {k : ℕ} {i : OlaAsmInstruction} {b : BinaryInstruction} {is : List OlaAsmInstruction} {bs : List BinaryInstruction}
      → canonical_of names k i ≡ ok b → Pairs names (suc k) is bs → Pairs names k (i ∷ is) (b ∷ bs)

-- an accepted program is made row by row
pub canonical_pairs : (names : Names) (k : ℕ) (is : List OlaAsmInstruction) (bs : List BinaryInstruction) → canonical_from names k is ≡ ok bs → Pairs names k is bs
unfolding canonical_from
canonical_pairs names k [] bs e = subst (Pairs names k []) (ok_same e) no_pair
canonical_pairs names k (i ∷ is) bs e =
    let x = ok_bind (canonical_of names k i) _ bs e in
    let y = ok_bind (canonical_from names (suc k) is) _ bs x.2 in
    subst (Pairs names k (i ∷ is)) (ok_same y.2) (one_pair x.1 (canonical_pairs names (suc k) is y.0 y.1))

-- ---- no number in op0 or dst

pub record WellPlaced (b : BinaryInstruction) : Type 0 where
  pub op0 : is_number b.op0 ≡ false
  pub dst : is_number b.dst ≡ false

none_found : (t u : Bool) (k : ℕ) (later : Option ℕ) → cond (t || u) (Some k) later ≡ None → (t ≡ false) × (u ≡ false) × (later ≡ None)
none_found true u k later e = absurd (none-some k (sym e))
none_found false true k later e = absurd (none-some k (sym e))
none_found false false k later e = (refl, refl, e)

-- where refusal 12 finds nothing, every instruction is so
pub well_placed : (k : ℕ) (bs : List BinaryInstruction) → first_misplaced k bs ≡ None → All WellPlaced bs
unfolding first_misplaced
well_placed k [] e = none_left
well_placed k (b ∷ bs) e =
    let x = none_found (is_number b.op0) (is_number b.dst) k (first_misplaced (suc k) bs) e in
    one_more (record { op0 = x.0; dst = x.1 }) (well_placed (suc k) bs x.2)

-- ---- forms

-- a name that was found: the row that holds it, and its address
pub looked_up_lem : (names : Names) (k : ℕ) (found : Option LabelRow) (c : OlaOperand) → looked_up names k found ≡ ok c
    → (l : LabelRow) × (found ≡ Some l) × (a_number (address_of names.instructions l.marks) ≡ c)
looked_up_lem names k None c e = absurd (not_ok e)
looked_up_lem names k (Some l) c e = (l, refl, ok_same e)

-- nothing or a register
data Aside : OlaOperand → Type 0 where
  aside : (r : Option OlaRegister) → Aside (or_empty r)

-- or a number
data PlainContent : OlaOperand → Type 0 where
  no_number_there : (r : Option OlaRegister) → PlainContent (or_empty r)
  a_number_lem : (v : ImmediateValue) → PlainContent (ANumber v)

found_content : (names : Names) (k : ℕ) (found : Option LabelRow) (c : OlaOperand) → looked_up names k found ≡ ok c → PlainContent c
found_content names k found c e = subst PlainContent (looked_up_lem names k found c e).2 (a_number_lem _)

plain_content : (names : Names) (k : ℕ) (x : OlaAsmOperand) (c : OlaOperand) → plain names k x ≡ ok c → PlainContent c
plain_content names k Empty c e = subst PlainContent (ok_same e) (no_number_there None)
plain_content names k (ImmediateOperand v) c e = subst PlainContent (ok_same e) (a_number_lem v)
plain_content names k (RegisterOperand r) c e = subst PlainContent (ok_same e) (no_number_there (Some r))
plain_content names k (RegisterWithOffset r v) c e = subst PlainContent (ok_same e) (no_number_there None)
plain_content names k (RegisterWithFactoredRegOffset r t v) c e = subst PlainContent (ok_same e) (no_number_there None)
plain_content names k (SpecialReg t) c e = subst PlainContent (ok_same e) (no_number_there None)
plain_content names k (Label start n) c e = found_content names k (holder_of names _ start n) c e
plain_content names k (Identifier start n) c e = found_content names k (holder_of names _ start n) c e

no_number_aside : {c : OlaOperand} → PlainContent c → is_number c ≡ false → Aside c
no_number_aside (no_number_there r) e = aside r
no_number_aside (a_number_lem v) e = absurd (true≢false e)

form_plain : (o : OlaOpcode) {a b d : OlaOperand} → is_memory o ≡ false → Aside a → PlainContent b → Aside d → CanonicalForm (made o a b d)
form_plain o h (aside r) (no_number_there s) (aside t) = registers o r s t h
form_plain o h (aside r) (a_number_lem v) (aside t) = numbered o r t v h

form_anchored : (o : OlaOpcode) {x y : OlaAsmOperand} {b : BinaryInstruction} → is_memory o ≡ true → Anchored o x y b → CanonicalForm b
form_anchored o h (by_offset a d v) = offset o a d v h
form_anchored o h (by_factor a t d v) = factored o a t d v h

form_of : (names : Names) (k : ℕ) (i : OlaAsmInstruction) (b : BinaryInstruction) → Origin names k i b → WellPlaced b → CanonicalForm b
form_of names k i b (ordinary m z r) w =
    form_plain b.opcode (sym (ap is_memory r.opcode) ∙ m)
    (no_number_aside (plain_content names k i.op0 b.op0 r.op0) w.op0)
    (plain_content names k i.op1 b.op1 r.op1)
    (no_number_aside (plain_content names k i.dst b.dst r.dst) w.dst)
form_of names k i b (load e a) w = form_anchored i.opcode (memory_rows i.opcode ∙ ap is_memory_row e) a
form_of names k i b (store e a) w = form_anchored i.opcode (memory_rows i.opcode ∙ ap is_memory_row e) a

pairs_form : (names : Names) (k : ℕ) (is : List OlaAsmInstruction) (bs : List BinaryInstruction) → Pairs names k is bs → All WellPlaced bs → All CanonicalForm bs
pairs_form names k is bs no_pair none_left = none_left
pairs_form names k is bs (one_pair {i = i} {b = b} {is = js} {bs = cs} e p) (one_more w ws) =
    one_more (form_of names k i b (canonical_origin names k i b e) w) (pairs_form names (suc k) js cs p ws)

-- every instruction of an accepted source has one of the four forms
pub canonical_form : (s : List ℕ) (rows : List AsmRow) (is : List BinaryInstruction) → canonical_program s rows ≡ ok is → first_misplaced 0 is ≡ None
    → All CanonicalForm is
canonical_form s rows is e m = pairs_form (names_of s rows) 0 (instructions rows) is (canonical_pairs (names_of s rows) 0 (instructions rows) is e) (well_placed 0 is m)

-- ---- numbers

module _ (names : Names) (addresses : (n : ℕ) → address_of names.instructions n < order) where
  found_below : (k : ℕ) (found : Option LabelRow) (c : OlaOperand) → looked_up names k found ≡ ok c → BelowOrder (carried c)
  found_below k found c e =
      let x = looked_up_lem names k found c e in
      subst (λ c. BelowOrder (carried c)) x.2 (below (addresses x.0.marks))

  plain_below : (k : ℕ) (x : OlaAsmOperand) (c : OlaOperand) → plain names k x ≡ ok c → OperandBelow x → BelowOrder (carried c)
  plain_below k Empty c e h = subst (λ c. BelowOrder (carried c)) (ok_same e) no_number
  plain_below k (ImmediateOperand v) c e h = subst (λ c. BelowOrder (carried c)) (ok_same e) (below h)
  plain_below k (RegisterOperand r) c e h = subst (λ c. BelowOrder (carried c)) (ok_same e) no_number
  plain_below k (RegisterWithOffset r v) c e h = subst (λ c. BelowOrder (carried c)) (ok_same e) no_number
  plain_below k (RegisterWithFactoredRegOffset r t v) c e h = subst (λ c. BelowOrder (carried c)) (ok_same e) no_number
  plain_below k (SpecialReg t) c e h = subst (λ c. BelowOrder (carried c)) (ok_same e) no_number
  plain_below k (Label start n) c e h = found_below k (holder_of names _ start n) c e
  plain_below k (Identifier start n) c e h = found_below k (holder_of names _ start n) c e

  anchored_below : (o : OlaOpcode) (x y : OlaAsmOperand) (b : BinaryInstruction) → Anchored o x y b → OperandBelow x → InOrder b
  anchored_below o x y b (by_offset a d v) h = record { op0 = no_number; op1 = below h; dst = no_number }
  anchored_below o x y b (by_factor a t d v) h = record { op0 = no_number; op1 = below h; dst = no_number }

  origin_below : (k : ℕ) (i : OlaAsmInstruction) (b : BinaryInstruction) → Origin names k i b → OperandsBelow i → InOrder b
  origin_below k i b (ordinary m z r) h = record {
    op0 = plain_below k i.op0 b.op0 r.op0 h.op0;
    op1 = plain_below k i.op1 b.op1 r.op1 h.op1;
    dst = plain_below k i.dst b.dst r.dst h.dst;
  }
  origin_below k i b (load e a) h = anchored_below i.opcode i.op1 i.dst b a h.op1
  origin_below k i b (store e a) h = anchored_below i.opcode i.op0 i.op1 b a h.op0

  pairs_below : (k : ℕ) (is : List OlaAsmInstruction) (bs : List BinaryInstruction) → Pairs names k is bs → All OperandsBelow is → All InOrder bs
  pairs_below k is bs no_pair none_left = none_left
  pairs_below k is bs (one_pair {i = i} {b = b} {is = js} {bs = cs} e p) (one_more h hs) =
      one_more (origin_below k i b (canonical_origin names k i b e) h) (pairs_below (suc k) js cs p hs)

-- numbers below p in the rows, and addresses below p, make numbers below p in the program
pub in_order : (s : List ℕ) (rows : List AsmRow) (is : List BinaryInstruction) → canonical_program s rows ≡ ok is → All OperandsBelow (instructions rows)
    → ((n : ℕ) → address_of (instructions rows) n < order) → All InOrder is
in_order s rows is e h addresses =
    pairs_below (names_of s rows) addresses 0 (instructions rows) is (canonical_pairs (names_of s rows) 0 (instructions rows) is e) h
