-- How many bytes of a source its rows take: the sum over all pieces, and the fewest that an instruction of each operation takes.
use Rattle.std.specs.Prelude.{Option, Some, None}
use Prim.Native.Nat.{ℕ, ◌+◌, ◌-◌, ◌*◌, ◌≤◌}
use mathlib.Core.Path.{◌≡◌, refl, sym, ap, ◌∙◌}
use mathlib.Core.List.{List, [], ◌∷◌, map}
use mathlib.Core.Bool.{Bool, true, false, cond, not, ◌||◌}
use native.Mathlib.Omega.{arith}
use borrow.Author.Tests.{leb-true}
use lib.Dec.{eqb, leb}
use lib.ListN.{length}
use lib.Seq.{length-take-le}
use Rattle.text.specs.Bytes.{bytes, is_space, is_letter, same}
use Rattle.text.specs.Lists.{total}
use Rattle.text.specs.Scan.{scan, parts, is_empty}
use Rattle.text.specs.Lines.{is_feed}
use Rattle.text.proofs.Laws.{scan_le}
use Rattle.text.proofs.SameLaws.{same_equal}
use Rattle.text.proofs.SumLaws.{spaced, parts_total}
use Rattle.vm_opcodes.specs.Operations.{operations, row_places}
use Rattle.vm_opcodes.specs.declared.OlaOpcode.{OlaOpcode}
use Rattle.vm_opcodes.specs.declared.RowPlaces.{RowPlaces}
use Rattle.vm_opcodes.specs.declared.RowPlaces.TheVariants.{DstOp0Op1, DstOp1, DstMemory, MemoryDst, Op0Op1, Op1, Bare}
use Rattle.vm_opcodes.proofs.Laws.{every_operation, first_holds}
use Rattle.vm_mnemonics.specs.Mnemonics.{mnemonic, operation_of}
use Rattle.vm_hardware.specs.Registers.{register_of, special_of}
use Rattle.asm.specs.Parts.{Part, placed, filled_parts, without_comment, pieces_from, line_pieces, row_pieces, source_pieces}
use Rattle.asm.specs.Operands.{is_source_number, shapes, first_match, operand_of}
use Rattle.asm.specs.Rows.{arranged, arranged_if, one_operand_more, operands_of, label_row, is_call_row, is_pair_row, or_else_row, row_of}
use Rattle.asm.specs.declared.OlaAsmOperand.{OlaAsmOperand}
use Rattle.asm.specs.declared.OlaAsmOperand.TheVariants.{Empty}
use Rattle.asm.specs.declared.OlaAsmInstruction.{OlaAsmInstruction}
use Rattle.asm.specs.declared.AsmRow.{AsmRow}
use Rattle.asm.specs.declared.AsmRow.TheVariants.{Instruction, LabelCall, LabelJmp, LabelProphet}

-- ---- the pieces of a source

-- the bytes of a piece and the one that parts it from the next
abbrev pub piece_bytes : Part → ℕ
piece_bytes q = length q.text + 1

-- the bytes of a row's pieces, so counted
abbrev pub row_bytes : List Part → ℕ
row_bytes ps = total (map piece_bytes ps)

-- places change nothing
placed_bytes : (i : ℕ) (ls : List (List ℕ)) → row_bytes (placed i ls) ≡ total (map spaced ls)
unfolding placed total
placed_bytes i [] = refl
placed_bytes i (l ∷ ls) = let h = placed_bytes (i + (length l + 1)) ls in omega arith

filled_bytes : (qs : List Part) → row_bytes (filled_parts qs) ≤ row_bytes qs
unfolding filled_parts total
filled_bytes [] = omega arith
filled_bytes (q ∷ qs) = go (is_empty q.text) (filled_bytes qs)
  where
    go : (t : Bool) → row_bytes (filled_parts qs) ≤ row_bytes qs → row_bytes (cond t (filled_parts qs) (q ∷ filled_parts qs)) ≤ row_bytes (q ∷ qs)
    go true h = omega arith
    go false h = omega arith

-- a line's pieces take no more than the line and its ending
pub line_bytes : (q : Part) → row_bytes (line_pieces q) ≤ piece_bytes q
unfolding pieces_from line_pieces
line_bytes q =
    let l : List ℕ = without_comment q.text in
    let a = filled_bytes (placed q.start (parts is_space l)) in
    let b = placed_bytes q.start (parts is_space l) in
    let c = parts_total is_space l in
    let n = scan_le (λ b. not (eqb b 59)) q.text in
    let d = length-take-le (scan (λ b. not (eqb b 59)) q.text) q.text n in
    omega arith

either_bytes : (n : ℕ) (t : Bool) (xs ys : List (List Part)) → total (map row_bytes xs) ≤ n → total (map row_bytes ys) ≤ n → total (map row_bytes (cond t xs ys)) ≤ n
either_bytes n true xs ys h k = h
either_bytes n false xs ys h k = k

rows_bytes : (qs : List Part) → total (map row_bytes (row_pieces qs)) ≤ row_bytes qs
unfolding row_pieces total
rows_bytes [] = omega arith
rows_bytes (q ∷ qs) =
    let a = line_bytes q in
    let h = rows_bytes qs in
    either_bytes (row_bytes (q ∷ qs)) (is_empty (line_pieces q)) _ _ (omega arith) (omega arith)

-- over all rows of a source, the bytes of the pieces and one byte after each are at most the source's bytes and one
pub source_bytes : (s : List ℕ) → total (map row_bytes (source_pieces s)) ≤ length s + 1
source_bytes s =
    let a = rows_bytes (placed 0 (parts is_feed s)) in
    let b = placed_bytes 0 (parts is_feed s) in
    let c = parts_total is_feed s in
    omega arith

-- ---- the fewest bytes of an instruction

-- how many operands a row of these places has
abbrev pub place_count : RowPlaces → ℕ
place_count DstOp0Op1 = 3
place_count DstOp1 = 2
place_count DstMemory = 2
place_count MemoryDst = 2
place_count Op0Op1 = 2
place_count Op1 = 1
place_count Bare = 0

-- the mnemonic, an operand of one byte in each place, and one byte after each
abbrev pub least_bytes : OlaOpcode → ℕ
least_bytes o = length (mnemonic o) + 1 + 2 * place_count (row_places o)

pub least_four : (o : OlaOpcode) → 4 ≤ least_bytes o
unfolding operations
least_four o = leb-true 4 (least_bytes o) (every_operation (λ o. leb 4 (least_bytes o)) refl o)

abbrev pub is_bare : RowPlaces → Bool
is_bare DstOp0Op1 = false
is_bare DstOp1 = false
is_bare DstMemory = false
is_bare MemoryDst = false
is_bare Op0Op1 = false
is_bare Op1 = false
is_bare Bare = true

pub is_bare_lem : (p : RowPlaces) → is_bare p ≡ true → p ≡ Bare
is_bare_lem DstOp0Op1 e = cc
is_bare_lem DstOp1 e = cc
is_bare_lem DstMemory e = cc
is_bare_lem MemoryDst e = cc
is_bare_lem Op0Op1 e = cc
is_bare_lem Op1 e = cc
is_bare_lem Bare e = refl

-- an operation with operands takes at least six
pub least_six : (o : OlaOpcode) → is_bare (row_places o) ≡ false → 6 ≤ least_bytes o
unfolding operations
least_six o e =
    leb-true 6 (least_bytes o)
    (ap (λ (t : Bool). t || leb 6 (least_bytes o)) (sym e) ∙ every_operation (λ o. is_bare (row_places o) || leb 6 (least_bytes o)) refl o)

-- ---- the bytes of an instruction row

-- a piece that is read as an operation is its mnemonic
pub operation_text : (x : List ℕ) (o : OlaOpcode) → operation_of x ≡ Some o → x ≡ mnemonic o
operation_text x o h = same_equal x (mnemonic o) (first_holds (λ o. same x (mnemonic o)) operations o h)

unread : {r : AsmRow} → None ≡ Some r → ⊥
unread e = let z : ◌≡◌ {A = ℕ} 0 1 = cc in omega arith

-- a piece that is read as an operand holds a byte
operand_bytes : (q : Part) (o : OlaAsmOperand) → operand_of q ≡ Some o → 2 ≤ piece_bytes q
unfolding is_source_number shapes first_match register_of special_of is_letter same
operand_bytes q o h = go q.start q.text h
  where
    go : (n : ℕ) (x : List ℕ) → operand_of (record { start = n; text = x }) ≡ Some o → 2 ≤ length x + 1
    go n [] e = let z : ◌≡◌ {A = ℕ} 0 1 = cc in absurd (omega arith)
    go n (b ∷ x) e = omega arith

operands_bytes : (qs : List Part) (os : List OlaAsmOperand) → operands_of qs ≡ Some os → 2 * length os ≤ row_bytes qs
unfolding operands_of total
operands_bytes [] os h = let e : os ≡ [] = cc in rw e (omega arith)
operands_bytes (q ∷ qs) os h = go (operand_of q) (operands_of qs) (operand_bytes q) (operands_bytes qs) h
  where
    go : (r : Option OlaAsmOperand) (t : Option (List OlaAsmOperand)) → ((o : OlaAsmOperand) → r ≡ Some o → 2 ≤ piece_bytes q)
        → ((os : List OlaAsmOperand) → t ≡ Some os → 2 * length os ≤ row_bytes qs) → one_operand_more r t ≡ Some os → 2 * length os ≤ row_bytes (q ∷ qs)
    go None t a b e = let z : ◌≡◌ {A = ℕ} 0 1 = cc in absurd (omega arith)
    go (Some o) None a b e = let z : ◌≡◌ {A = ℕ} 0 1 = cc in absurd (omega arith)
    go (Some o) (Some ps) a b e = let f : os ≡ o ∷ ps = cc in let k = a o refl in let m = b ps refl in rw f (omega arith)

-- a row's instruction has the operation, and the row as many operands as that has places
arranged_count : (o : OlaOpcode) (p : RowPlaces) (os : List OlaAsmOperand) (i : OlaAsmInstruction) → arranged o p os ≡ Some (Instruction i)
    → (i.opcode ≡ o) × (length os ≡ place_count p)
unfolding arranged
arranged_count o DstOp0Op1 [] i h = absurd (unread h)
arranged_count o DstOp0Op1 (a ∷ []) i h = absurd (unread h)
arranged_count o DstOp0Op1 (a ∷ b ∷ []) i h = absurd (unread h)
arranged_count o DstOp0Op1 (a ∷ b ∷ c ∷ []) i h = (cc, refl)
arranged_count o DstOp0Op1 (a ∷ b ∷ c ∷ d ∷ e) i h = absurd (unread h)
arranged_count o DstOp1 [] i h = absurd (unread h)
arranged_count o DstOp1 (a ∷ []) i h = absurd (unread h)
arranged_count o DstOp1 (a ∷ b ∷ []) i h = (cc, refl)
arranged_count o DstOp1 (a ∷ b ∷ c ∷ d) i h = absurd (unread h)
arranged_count o DstMemory [] i h = absurd (unread h)
arranged_count o DstMemory (a ∷ []) i h = absurd (unread h)
arranged_count o DstMemory (a ∷ b ∷ []) i h = (cc, refl)
arranged_count o DstMemory (a ∷ b ∷ c ∷ d) i h = absurd (unread h)
arranged_count o MemoryDst [] i h = absurd (unread h)
arranged_count o MemoryDst (a ∷ []) i h = absurd (unread h)
arranged_count o MemoryDst (a ∷ b ∷ []) i h = (cc, refl)
arranged_count o MemoryDst (a ∷ b ∷ c ∷ d) i h = absurd (unread h)
arranged_count o Op0Op1 [] i h = absurd (unread h)
arranged_count o Op0Op1 (a ∷ []) i h = absurd (unread h)
arranged_count o Op0Op1 (a ∷ b ∷ []) i h = (cc, refl)
arranged_count o Op0Op1 (a ∷ b ∷ c ∷ d) i h = absurd (unread h)
arranged_count o Op1 [] i h = absurd (unread h)
arranged_count o Op1 (a ∷ []) i h = (cc, refl)
arranged_count o Op1 (a ∷ b ∷ c) i h = absurd (unread h)
arranged_count o Bare [] i h = (cc, refl)
arranged_count o Bare (a ∷ b) i h = absurd (unread h)

-- an instruction that has no places has nothing in them
abbrev pub BareIsEmpty : OlaAsmInstruction → Type 0
BareIsEmpty i = row_places i.opcode ≡ Bare → (i.op0 ≡ Empty) × (i.op1 ≡ Empty) × (i.dst ≡ Empty)

arranged_bare : (o : OlaOpcode) (os : List OlaAsmOperand) (i : OlaAsmInstruction) → arranged o Bare os ≡ Some (Instruction i)
    → (i.op0 ≡ Empty) × (i.op1 ≡ Empty) × (i.dst ≡ Empty)
unfolding arranged
arranged_bare o [] i h = (cc, cc, cc)
arranged_bare o (a ∷ b) i h = absurd (unread h)

-- what reading an instruction row found: its operation's mnemonic, and the operands in their places
pub record InstructionRow (ps : List Part) (i : OlaAsmInstruction) : Type 0 where
  pub first : Part
  pub rest : List Part
  pub operands : List OlaAsmOperand
  pub pieces : ps ≡ first ∷ rest
  pub spelled : operation_of first.text ≡ Some i.opcode
  pub found : operands_of rest ≡ Some operands
  pub placed : arranged i.opcode (row_places i.opcode) operands ≡ Some (Instruction i)

-- no label row is an instruction
label_row_else : (q : Part) (r : Option AsmRow) (i : OlaAsmInstruction) → or_else_row (label_row q) r ≡ Some (Instruction i) → r ≡ Some (Instruction i)
unfolding label_row
label_row_else q r i h =
    go (is_call_row q.text) (is_pair_row (bytes "LBL") q.text) (is_pair_row (bytes "PROPHET") q.text) q.start (length q.text - 1) h
  where
    go : (a b c : Bool) (m n : ℕ)
        → or_else_row (cond a (Some (LabelCall m n)) (cond b (Some (LabelJmp m n)) (cond c (Some (LabelProphet m n)) None))) r ≡ Some (Instruction i)
        → r ≡ Some (Instruction i)
    go true b c m n e = cc
    go false true c m n e = cc
    go false false true m n e = cc
    go false false false m n e = e

read_row : (q : Part) (rs : List Part) (i : OlaAsmInstruction) → arranged_if (operation_of q.text) (operands_of rs) ≡ Some (Instruction i)
    → InstructionRow (q ∷ rs) i
unfolding arranged_if
read_row q rs i h = go (operation_of q.text) (operands_of rs) refl refl h
  where
    go : (f : Option OlaOpcode) (t : Option (List OlaAsmOperand)) → operation_of q.text ≡ f → operands_of rs ≡ t
        → arranged_if f t ≡ Some (Instruction i) → InstructionRow (q ∷ rs) i
    go None t a b e = absurd (unread e)
    go (Some o) None a b e = absurd (unread e)
    go (Some o) (Some os) a b e =
        let c = arranged_count o (row_places o) os i e in
        let p : arranged i.opcode (row_places i.opcode) os ≡ Some (Instruction i) = ap (λ (o : OlaOpcode). arranged o (row_places o) os) c.0 ∙ e in
        record { first = q; rest = rs; operands = os; pieces = refl; spelled = a ∙ ap Some (sym c.0); found = b; placed = p }

-- every row that is read as an instruction is such a row
pub instruction_row_lem : (ps : List Part) (i : OlaAsmInstruction) → row_of ps ≡ Some (Instruction i) → InstructionRow ps i
unfolding row_of operands_of
instruction_row_lem [] i h = absurd (unread h)
instruction_row_lem (q ∷ []) i h = read_row q [] i (label_row_else q _ i h)
instruction_row_lem (q ∷ r ∷ rs) i h = read_row q (r ∷ rs) i h

-- an instruction's pieces take at least the fewest bytes of its operation
pub row_least : (ps : List Part) (i : OlaAsmInstruction) → row_of ps ≡ Some (Instruction i) → least_bytes i.opcode ≤ row_bytes ps
unfolding total
row_least ps i h =
    let r = instruction_row_lem ps i h in
    let t : length r.first.text ≡ length (mnemonic i.opcode) = ap length (operation_text r.first.text i.opcode r.spelled) in
    let c = arranged_count i.opcode (row_places i.opcode) r.operands i r.placed in
    let b = operands_bytes r.rest r.operands r.found in
    rw r.pieces (omega arith)

-- a row of an operation that has no places leaves all places empty
pub row_bare : (ps : List Part) (i : OlaAsmInstruction) → row_of ps ≡ Some (Instruction i) → BareIsEmpty i
row_bare ps i h e = let r = instruction_row_lem ps i h in arranged_bare i.opcode r.operands i (rw e at r.placed)
