-- What a source of at most 65,536 bytes can hold: its bytes, its instructions, their addresses, and what is true of each of them.
use Rattle.std.specs.Prelude.{Option, Some, None}
use Prim.Native.Nat.{ℕ, suc, ◌+◌, ◌*◌, ◌<◌, ◌≤◌}
use mathlib.Core.Path.{◌≡◌, ap, subst, ◌∙◌}
use mathlib.Core.List.{List, [], ◌∷◌, map}
use native.Mathlib.Omega.{arith}
use borrow.Author.Tests.{ltb-false}
use lib.Dec.{ltb}
use lib.ListN.{length}
use Rattle.text.specs.Lists.{total}
use Rattle.text.specs.Answer.{ok}
use Rattle.text.specs.All.{All, none_left, one_more}
use Rattle.text.proofs.AnswerLaws.{not_ok, ok_same, ok_bind, if_passed, at_passed}
use Rattle.text.proofs.SumLaws.{total_least, total_most, total_take}
use Rattle.vm_operands.specs.Numbers.{order}
use Rattle.asm.specs.Parts.{Part, source_pieces}
use Rattle.asm.specs.Rows.{row_of, counted, counted_length, instructions, row_read, read_rows}
use Rattle.asm.specs.declared.OlaAsmOperand.{OlaAsmOperand}
use Rattle.asm.specs.declared.OlaAsmOperand.TheVariants.{Empty, ImmediateOperand, RegisterOperand, RegisterWithOffset, RegisterWithFactoredRegOffset, SpecialReg, Label, Identifier}
use Rattle.asm.specs.declared.OlaAsmInstruction.{OlaAsmInstruction}
use Rattle.asm.specs.declared.AsmRow.{AsmRow}
use Rattle.asm.specs.declared.AsmRow.TheVariants.{Instruction, LabelCall, LabelJmp, LabelProphet}
use Rattle.asm_laws.proofs.LengthLaws.{row_bytes, source_bytes, least_bytes, least_four, BareIsEmpty, row_least, row_bare}
use Rattle.relocate.specs.Scopes.{sorted_rows}
use Rattle.relocate.specs.Labels.{label_rows, address_of}
use Rattle.relocate.specs.Relocate.{first_above127, rows_read, sorted_of, tabled}
use Rattle.relocate_laws.proofs.SortLaws.{sorted_total, sorted_all}

-- ---- what an accepted source says

-- each row and the pieces that it was read from
pub data ReadAs : List (List Part) → List AsmRow → Type 0 where
  none_read : ReadAs [] []
  one_read : {ps : List Part} {pss : List (List Part)} {r : AsmRow} {rs : List AsmRow} → row_of ps ≡ Some r → ReadAs pss rs → ReadAs (ps ∷ pss) (r ∷ rs)

row_is : (k : ℕ) (x : Option AsmRow) (r : AsmRow) → row_read k x ≡ ok r → x ≡ Some r
row_is k (Some q) r h = ap Some (ok_same h)
row_is k None r h = absurd (not_ok h)

pub rows_read_as : (k : ℕ) (pss : List (List Part)) (rs : List AsmRow) → read_rows k pss ≡ ok rs → ReadAs pss rs
unfolding read_rows
rows_read_as k [] rs h = subst (ReadAs []) (ok_same h) none_read
rows_read_as k (ps ∷ pss) rs h =
    let a = ok_bind (row_read k (row_of ps)) _ rs h in
    let b = ok_bind (read_rows (suc k) pss) _ rs a.2 in
    subst (ReadAs (ps ∷ pss)) (ok_same b.2) (one_read (row_is k (row_of ps) a.0 a.1) (rows_read_as (suc k) pss b.0 b.1))

-- an accepted source: it is not too long, each of its rows was read, and they were sorted
pub record Sorted (s : List ℕ) (rows : List AsmRow) : Type 0 where
  pub short : length s ≤ 65536
  pub written : List AsmRow
  pub read : ReadAs (source_pieces s) written
  pub ordered : sorted_rows s written ≡ rows

read_source : (s : List ℕ) (rs : List AsmRow) → rows_read s ≡ ok rs → (length s ≤ 65536) × ReadAs (source_pieces s) rs
unfolding rows_read
read_source s rs h =
    let a = if_passed (ltb 65536 (length s)) 1 _ rs h in
    let b = at_passed (first_above127 0 s) 2 _ rs a.1 in
    (ltb-false 65536 (length s) a.0, rows_read_as 0 (source_pieces s) rs b.1)

pub sorted_source : (s : List ℕ) (rows : List AsmRow) → sorted_of s ≡ ok rows → Sorted s rows
unfolding sorted_of
sorted_source s rows h =
    let a = ok_bind (rows_read s) _ rows h in
    let b = if_passed _ _ _ rows a.2 in
    let c = if_passed _ _ _ rows b.1 in
    let d = if_passed _ _ _ rows c.1 in
    let w = read_source s a.0 a.1 in
    record { short = w.0; written = a.0; read = w.1; ordered = ok_same d.1 }

-- a source whose label rows fit the table is accepted up to its sorted rows
pub tabled_sorted : (s : List ℕ) (room : ℕ) (rows : List AsmRow) → tabled s room ≡ ok rows → sorted_of s ≡ ok rows
unfolding tabled
tabled_sorted s room rows h =
    let a = ok_bind (sorted_of s) _ rows h in
    let b = if_passed (ltb room (length (label_rows 0 a.0))) 7 _ rows a.2 in
    a.1 ∙ ap ok (ok_same b.1)

-- ---- every instruction

module _ (P : OlaAsmInstruction → Type 0) (f : (ps : List Part) (i : OlaAsmInstruction) → row_of ps ≡ Some (Instruction i) → P i) where
  read_all : {pss : List (List Part)} {rs : List AsmRow} → ReadAs pss rs → All P (instructions rs)
  unfolding instructions
  read_all none_read = none_left
  read_all (one_read {ps = ps} {r = r} {rs = rs} e h) = go r e (read_all h)
    where
      go : (r : AsmRow) → row_of ps ≡ Some r → All P (instructions rs) → All P (instructions (r ∷ rs))
      go (Instruction i) e k = one_more (f ps i e) k
      go (LabelCall start n) e k = k
      go (LabelJmp start n) e k = k
      go (LabelProphet start n) e k = k

  -- what holds of every instruction that pieces are read as holds of every instruction of an accepted source
  pub sorted_instructions_lem : (s : List ℕ) (rows : List AsmRow) → sorted_of s ≡ ok rows → All P (instructions rows)
  sorted_instructions_lem s rows h =
      let w = sorted_source s rows h in
      subst (λ (l : List AsmRow). All P (instructions l)) w.ordered (sorted_all P s w.written (read_all w.read))

-- an instruction of an operation that has no places has nothing in them
pub sorted_bare : (s : List ℕ) (rows : List AsmRow) → sorted_of s ≡ ok rows → All BareIsEmpty (instructions rows)
sorted_bare = sorted_instructions_lem BareIsEmpty row_bare

-- ---- bytes, instructions, addresses

abbrev least_of : OlaAsmInstruction → ℕ
least_of i = least_bytes i.opcode

read_bytes : {pss : List (List Part)} {rs : List AsmRow} → ReadAs pss rs → total (map least_of (instructions rs)) ≤ total (map row_bytes pss)
unfolding instructions total
read_bytes none_read = omega arith
read_bytes (one_read {ps = ps} {pss = pss} {r = r} {rs = rs} e h) = go r e (read_bytes h)
  where
    go : (r : AsmRow) → row_of ps ≡ Some r → total (map least_of (instructions rs)) ≤ total (map row_bytes pss)
        → total (map least_of (instructions (r ∷ rs))) ≤ total (map row_bytes (ps ∷ pss))
    go (Instruction i) e k = let b = row_least ps i e in omega arith
    go (LabelCall start n) e k = omega arith
    go (LabelJmp start n) e k = omega arith
    go (LabelProphet start n) e k = omega arith

module _ (s : List ℕ) (rows : List AsmRow) (h : sorted_of s ≡ ok rows) where
  -- "source above 65,536 bytes" is refused
  pub sorted_length : length s ≤ 65536
  sorted_length = (sorted_source s rows h).short

  -- the fewest bytes of all instructions are at most the source's bytes and one
  pub sorted_bytes : total (map (λ i. least_bytes i.opcode) (instructions rows)) ≤ length s + 1
  sorted_bytes =
      let w = sorted_source s rows h in
      let a = read_bytes w.read in
      let b = source_bytes s in
      let c = sorted_total least_of s w.written in
      subst (λ (l : List AsmRow). total (map least_of (instructions l)) ≤ length s + 1) w.ordered (omega arith)

  -- an instruction takes at least four bytes
  pub sorted_count : 4 * length (instructions rows) ≤ 65537
  sorted_count =
      let a = sorted_length in
      let b = sorted_bytes in
      let c = total_least least_of 4 (λ i. least_four i.opcode) (instructions rows) in
      omega arith

counted_most : (o : OlaAsmOperand) → counted o ≤ 1
counted_most Empty = omega arith
counted_most (ImmediateOperand v) = omega arith
counted_most (RegisterOperand r) = omega arith
counted_most (RegisterWithOffset r v) = omega arith
counted_most (RegisterWithFactoredRegOffset r t v) = omega arith
counted_most (SpecialReg t) = omega arith
counted_most (Label start n) = omega arith
counted_most (Identifier start n) = omega arith

length_most : (i : OlaAsmInstruction) → counted_length i ≤ 3
length_most i = let a = counted_most i.op0 in let b = counted_most i.op1 in omega arith

-- every address of an accepted source is a number below p
pub address_below : (s : List ℕ) (rows : List AsmRow) → sorted_of s ≡ ok rows → (n : ℕ) → address_of (instructions rows) n < order
address_below s rows h n =
    let a = total_take n (map counted_length (instructions rows)) in
    let b = total_most counted_length 3 length_most (instructions rows) in
    let c = sorted_count s rows h in
    omega arith
