-- A text that stands further on: its pieces, rows and sums are the same but for their places.
use Rattle.std.specs.Prelude.{Option, Some, None}
use Prim.Native.Nat.{ℕ, suc, ◌+◌, ◌-◌}
use mathlib.Core.Path.{◌≡◌, refl, ap, ◌∙◌}
use mathlib.Core.List.{List, [], ◌∷◌, map}
use mathlib.Core.Bool.{Bool, true, false, cond}
use native.Mathlib.Nat.{add_assoc}
use lib.ListN.{length, length-map}
use Rattle.text.specs.Bytes.{bytes, is_space}
use Rattle.text.specs.Lists.{total}
use Rattle.text.specs.Scan.{parts, is_empty}
use Rattle.text.specs.Answer.{Answer, ok, refused, ◌>>=◌}
use Rattle.text.specs.All.{All, none_left, one_more}
use Rattle.vm_hardware.specs.Registers.{register_of, special_of}
use Rattle.vm_opcodes.specs.Operations.{row_places}
use Rattle.vm_opcodes.specs.declared.OlaOpcode.{OlaOpcode}
use Rattle.vm_opcodes.specs.declared.RowPlaces.{RowPlaces}
use Rattle.vm_opcodes.specs.declared.RowPlaces.TheVariants.{DstOp0Op1, DstOp1, DstMemory, MemoryDst, Op0Op1, Op1, Bare}
use Rattle.vm_operands.specs.declared.ImmediateValue.{ImmediateValue}
use Rattle.vm_mnemonics.specs.Mnemonics.{operation_of}
use Rattle.asm.specs.Parts.{Part, placed, filled_parts, without_comment, pieces_from, line_pieces, row_pieces}
use Rattle.asm.specs.Operands.{Shape, with_number, source_number, register_of_place, inner, of_register, of_special, shapes, first_match, operand_of}
use Rattle.asm.specs.Rows.{arranged, one_operand_more, operands_of, arranged_if, is_call_row, is_pair_row, label_row, or_else_row, row_of, row_read, read_rows, instructions, counted, counted_length}
use Rattle.asm.specs.Survey.{takes_word, word_count, is_label_row, is_main_row, count_rows, call_place, or_place, first_call, main_start, main_end, tally_of, moved_place, moved_tally}
use Rattle.asm.specs.declared.OlaAsmOperand.{OlaAsmOperand}
use Rattle.asm.specs.declared.OlaAsmOperand.TheVariants.{Empty, ImmediateOperand, RegisterOperand, RegisterWithOffset, RegisterWithFactoredRegOffset, SpecialReg, Label, Identifier}
use Rattle.asm.specs.declared.OlaAsmInstruction.{OlaAsmInstruction}
use Rattle.asm.specs.declared.AsmRow.{AsmRow}
use Rattle.asm.specs.declared.AsmRow.TheVariants.{Instruction, LabelCall, LabelJmp, LabelProphet}
use Rattle.vm_hardware.specs.declared.OlaRegister.{OlaRegister}
use Rattle.vm_hardware.specs.declared.OlaSpecialRegister.{OlaSpecialRegister}

-- ---- n bytes further on

-- a part of the text
abbrev pub moved_part : ℕ → Part → Part
moved_part n q = record { start = n + q.start; text = q.text }

-- an operand: only a label and a name have a place
abbrev pub moved_operand : ℕ → OlaAsmOperand → OlaAsmOperand
moved_operand n Empty = Empty
moved_operand n (ImmediateOperand v) = ImmediateOperand v
moved_operand n (RegisterOperand r) = RegisterOperand r
moved_operand n (RegisterWithOffset r v) = RegisterWithOffset r v
moved_operand n (RegisterWithFactoredRegOffset r t v) = RegisterWithFactoredRegOffset r t v
moved_operand n (SpecialReg t) = SpecialReg t
moved_operand n (Label start k) = Label (n + start) k
moved_operand n (Identifier start k) = Identifier (n + start) k

-- what a piece was read as
abbrev pub moved_read : ℕ → Option OlaAsmOperand → Option OlaAsmOperand
moved_read n (Some o) = Some (moved_operand n o)
moved_read n None = None

-- operands, if all were read
abbrev pub moved_operands : ℕ → Option (List OlaAsmOperand) → Option (List OlaAsmOperand)
moved_operands n (Some os) = Some (map (moved_operand n) os)
moved_operands n None = None

-- an instruction, by its operands
abbrev pub moved_instruction : ℕ → OlaAsmInstruction → OlaAsmInstruction
moved_instruction n i = record { opcode = i.opcode; op0 = moved_operand n i.op0; op1 = moved_operand n i.op1; dst = moved_operand n i.dst }

-- a row
abbrev pub moved_row : ℕ → AsmRow → AsmRow
moved_row n (Instruction i) = Instruction (moved_instruction n i)
moved_row n (LabelCall start k) = LabelCall (n + start) k
moved_row n (LabelJmp start k) = LabelJmp (n + start) k
moved_row n (LabelProphet start k) = LabelProphet (n + start) k

-- a label row, if it was one
abbrev pub moved_label : ℕ → Option AsmRow → Option AsmRow
moved_label n (Some r) = Some (moved_row n r)
moved_label n None = None

-- what pieces were read as
abbrev pub moved_row_read : ℕ → Option AsmRow → Option AsmRow
moved_row_read n (Some r) = Some (moved_row n r)
moved_row_read n None = None

-- the rows, or the same refusal
abbrev pub moved_rows : ℕ → Answer (List AsmRow) → Answer (List AsmRow)
moved_rows n (ok rs) = ok (map (moved_row n) rs)
moved_rows n (refused k d) = refused k d

-- operands put into places: either none were, or an instruction was made, here and further on
module _ (n : ℕ) (R : Option AsmRow → Option AsmRow → Type 0) (unread : R None None)
    (read : (i : OlaAsmInstruction) → R (Some (Instruction i)) (Some (Instruction (moved_instruction n i)))) where
  -- by the places of the operation
  arranged_related : (o : OlaOpcode) (p : RowPlaces) (os : List OlaAsmOperand) → R (arranged o p os) (arranged o p (map (moved_operand n) os))
  unfolding arranged
  arranged_related o DstOp0Op1 [] = unread
  arranged_related o DstOp0Op1 (a ∷ []) = unread
  arranged_related o DstOp0Op1 (a ∷ b ∷ []) = unread
  arranged_related o DstOp0Op1 (a ∷ b ∷ c ∷ []) = read _
  arranged_related o DstOp0Op1 (a ∷ b ∷ c ∷ d ∷ os) = unread
  arranged_related o DstOp1 [] = unread
  arranged_related o DstOp1 (a ∷ []) = unread
  arranged_related o DstOp1 (a ∷ b ∷ []) = read _
  arranged_related o DstOp1 (a ∷ b ∷ c ∷ os) = unread
  arranged_related o DstMemory [] = unread
  arranged_related o DstMemory (a ∷ []) = unread
  arranged_related o DstMemory (a ∷ b ∷ []) = read _
  arranged_related o DstMemory (a ∷ b ∷ c ∷ os) = unread
  arranged_related o MemoryDst [] = unread
  arranged_related o MemoryDst (a ∷ []) = unread
  arranged_related o MemoryDst (a ∷ b ∷ []) = read _
  arranged_related o MemoryDst (a ∷ b ∷ c ∷ os) = unread
  arranged_related o Op0Op1 [] = unread
  arranged_related o Op0Op1 (a ∷ []) = unread
  arranged_related o Op0Op1 (a ∷ b ∷ []) = read _
  arranged_related o Op0Op1 (a ∷ b ∷ c ∷ os) = unread
  arranged_related o Op1 [] = unread
  arranged_related o Op1 (a ∷ []) = read _
  arranged_related o Op1 (a ∷ b ∷ os) = unread
  arranged_related o Bare [] = read _
  arranged_related o Bare (a ∷ os) = unread

  -- and where an operation and operands were found
  pub arranged_if_related : (f : Option OlaOpcode) (os : Option (List OlaAsmOperand)) → R (arranged_if f os) (arranged_if f (moved_operands n os))
  unfolding arranged_if
  arranged_if_related None os = unread
  arranged_if_related (Some o) None = unread
  arranged_if_related (Some o) (Some os) = arranged_related o (row_places o) os

module _ (n : ℕ) where
  -- ---- pieces

  -- parts that start n further on
  pub placed_moved : (i : ℕ) (ls : List (List ℕ)) → placed (n + i) ls ≡ map (moved_part n) (placed i ls)
  unfolding placed
  placed_moved i [] = refl
  placed_moved i (l ∷ ls) = rw (add_assoc n i (length l + 1), placed_moved (i + (length l + 1)) ls)

  -- those of them that hold a byte
  filled_moved : (qs : List Part) → filled_parts (map (moved_part n) qs) ≡ map (moved_part n) (filled_parts qs)
  unfolding filled_parts
  filled_moved [] = refl
  filled_moved (q ∷ qs) = go (is_empty q.text) (filled_moved qs)
    where
      go : (t : Bool) → filled_parts (map (moved_part n) qs) ≡ map (moved_part n) (filled_parts qs)
          → cond t (filled_parts (map (moved_part n) qs)) (moved_part n q ∷ filled_parts (map (moved_part n) qs))
          ≡ map (moved_part n) (cond t (filled_parts qs) (q ∷ filled_parts qs))
      go true h = h
      go false h = ap (λ (l : List Part). moved_part n q ∷ l) h

  -- a line's pieces
  line_moved : (q : Part) → line_pieces (moved_part n q) ≡ map (moved_part n) (line_pieces q)
  unfolding line_pieces pieces_from
  line_moved q =
      let ls : List (List ℕ) = parts is_space (without_comment q.text) in
      ap filled_parts (placed_moved q.start ls) ∙ filled_moved (placed q.start ls)

  -- the rows' pieces
  pub rows_moved : (qs : List Part) → row_pieces (map (moved_part n) qs) ≡ map (map (moved_part n)) (row_pieces qs)
  unfolding row_pieces
  rows_moved [] = refl
  rows_moved (q ∷ qs) = rw (line_moved q, rows_moved qs) (go (line_pieces q))
    where
      go : (ps : List Part)
          → cond (is_empty (map (moved_part n) ps)) (map (map (moved_part n)) (row_pieces qs)) (map (moved_part n) ps ∷ map (map (moved_part n)) (row_pieces qs))
          ≡ map (map (moved_part n)) (cond (is_empty ps) (row_pieces qs) (ps ∷ row_pieces qs))
      go [] = refl
      go (p ∷ ps) = refl

  -- ---- operands

  -- a shape that gives the same operand further on, but for its place
  abbrev Moves : Shape → Type 0
  Moves s = (q : Part) → s.means (moved_part n q) ≡ moved_read n (s.means q)

  -- an operand made of a number has no place
  number_moved : (f : ImmediateValue → OlaAsmOperand) → ((v : ImmediateValue) → f v ≡ moved_operand n (f v))
      → (x : Option ImmediateValue) → with_number f x ≡ moved_read n (with_number f x)
  number_moved f e (Some v) = ap Some (e v)
  number_moved f e None = refl

  -- nor has a register
  register_moved : (x : Option OlaRegister) → of_register x ≡ moved_read n (of_register x)
  register_moved (Some r) = refl
  register_moved None = refl

  -- nor a special register
  special_moved : (x : Option OlaSpecialRegister) → of_special x ≡ moved_read n (of_special x)
  special_moved (Some t) = refl
  special_moved None = refl

  -- only a label and a name have a place
  shapes_move : All Moves shapes
  unfolding shapes
  shapes_move =
      one_more (λ q. number_moved (RegisterWithFactoredRegOffset (register_of_place q.text 1) (register_of_place q.text 4)) (λ v. refl) (source_number (inner q.text 7)))
      (one_more (λ q. refl)
      (one_more (λ q. refl)
      (one_more (λ q. number_moved (RegisterWithOffset (register_of_place q.text 1)) (λ v. refl) (source_number (inner q.text 4)))
      (one_more (λ q. register_moved (register_of q.text))
      (one_more (λ q. number_moved ImmediateOperand (λ v. refl) (source_number q.text))
      (one_more (λ q. refl)
      (one_more (λ q. special_moved (special_of q.text))
      (one_more (λ q. refl)
      none_left))))))))

  -- so the first shape that fits gives the moved operand
  first_moved : {ss : List Shape} → All Moves ss → (q : Part) → first_match ss (moved_part n q) ≡ moved_read n (first_match ss q)
  unfolding first_match
  first_moved none_left q = refl
  first_moved (one_more {x = s} {xs = ss} e h) q = go (s.fits q.text) (e q) (first_moved h q)
    where
      go : (t : Bool) → s.means (moved_part n q) ≡ moved_read n (s.means q) → first_match ss (moved_part n q) ≡ moved_read n (first_match ss q)
          → cond t (s.means (moved_part n q)) (first_match ss (moved_part n q)) ≡ moved_read n (cond t (s.means q) (first_match ss q))
      go true a b = a
      go false a b = b

  -- and so do all the pieces of a row
  operands_moved : (qs : List Part) → operands_of (map (moved_part n) qs) ≡ moved_operands n (operands_of qs)
  unfolding operands_of
  operands_moved [] = refl
  operands_moved (q ∷ qs) = rw (first_moved shapes_move q, operands_moved qs) (go (operand_of q) (operands_of qs))
    where
      go : (r : Option OlaAsmOperand) (t : Option (List OlaAsmOperand)) → one_operand_more (moved_read n r) (moved_operands n t) ≡ moved_operands n (one_operand_more r t)
      go None t = refl
      go (Some o) None = refl
      go (Some o) (Some os) = refl

  -- ---- rows

  -- a label row of one piece
  label_moved : (q : Part) → label_row (moved_part n q) ≡ moved_label n (label_row q)
  unfolding label_row
  label_moved q = go (is_call_row q.text) (is_pair_row (bytes "LBL") q.text) (is_pair_row (bytes "PROPHET") q.text) q.start (length q.text - 1)
    where
      go : (a b c : Bool) (i k : ℕ)
          → cond a (Some (LabelCall (n + i) k)) (cond b (Some (LabelJmp (n + i) k)) (cond c (Some (LabelProphet (n + i) k)) None))
          ≡ moved_label n (cond a (Some (LabelCall i k)) (cond b (Some (LabelJmp i k)) (cond c (Some (LabelProphet i k)) None)))
      go true b c i k = refl
      go false true c i k = refl
      go false false true i k = refl
      go false false false i k = refl

  -- an instruction has the operands moved
  arranged_moved : (f : Option OlaOpcode) (os : Option (List OlaAsmOperand)) → arranged_if f (moved_operands n os) ≡ moved_row_read n (arranged_if f os)
  arranged_moved = arranged_if_related n (λ x y. y ≡ moved_row_read n x) refl (λ i. refl)

  -- a row from its pieces
  row_moved : (ps : List Part) → row_of (map (moved_part n) ps) ≡ moved_row_read n (row_of ps)
  unfolding row_of
  row_moved [] = refl
  row_moved (q ∷ []) = rw (label_moved q) (go (label_row q) (arranged_moved (operation_of q.text) (Some [])))
    where
      other : Option AsmRow
      other = arranged_if (operation_of q.text) (Some [])

      go : (l : Option AsmRow) → other ≡ moved_row_read n other → or_else_row (moved_label n l) other ≡ moved_row_read n (or_else_row l other)
      go (Some r) e = refl
      go None e = e
  row_moved (q ∷ r ∷ rs) = ap (arranged_if (operation_of q.text)) (operands_moved (r ∷ rs)) ∙ arranged_moved (operation_of q.text) (operands_of (r ∷ rs))

  -- the rows read further on are those read here, moved
  pub read_moved : (k : ℕ) (pss : List (List Part)) → read_rows k (map (map (moved_part n)) pss) ≡ moved_rows n (read_rows k pss)
  unfolding read_rows ◌>>=◌
  read_moved k [] = refl
  read_moved k (ps ∷ pss) = rw (row_moved ps, read_moved (suc k) pss) (go (row_of ps) (read_rows (suc k) pss))
    where
      go : (r : Option AsmRow) (x : Answer (List AsmRow))
          → (row_read k (moved_row_read n r) >>= λ r. moved_rows n x >>= λ rs. ok (r ∷ rs)) ≡ moved_rows n (row_read k r >>= λ r. x >>= λ rs. ok (r ∷ rs))
      go None x = refl
      go (Some r) (refused m d) = refl
      go (Some r) (ok rs) = refl

  -- ---- sums

  -- the instructions of moved rows
  instructions_moved : (rs : List AsmRow) → instructions (map (moved_row n) rs) ≡ map (moved_instruction n) (instructions rs)
  unfolding instructions
  instructions_moved [] = refl
  instructions_moved (Instruction i ∷ rs) = ap (λ (l : List OlaAsmInstruction). moved_instruction n i ∷ l) (instructions_moved rs)
  instructions_moved (LabelCall start k ∷ rs) = instructions_moved rs
  instructions_moved (LabelJmp start k ∷ rs) = instructions_moved rs
  instructions_moved (LabelProphet start k ∷ rs) = instructions_moved rs

  -- an operand counts the same, and takes a word or none the same
  operand_counts : (o : OlaAsmOperand) → (counted (moved_operand n o) ≡ counted o) × (takes_word (moved_operand n o) ≡ takes_word o)
  operand_counts Empty = (refl, refl)
  operand_counts (ImmediateOperand v) = (refl, refl)
  operand_counts (RegisterOperand r) = (refl, refl)
  operand_counts (RegisterWithOffset r v) = (refl, refl)
  operand_counts (RegisterWithFactoredRegOffset r t v) = (refl, refl)
  operand_counts (SpecialReg t) = (refl, refl)
  operand_counts (Label start k) = (refl, refl)
  operand_counts (Identifier start k) = (refl, refl)

  -- the counted length stays
  counted_moved : (i : OlaAsmInstruction) → counted_length (moved_instruction n i) ≡ counted_length i
  counted_moved i = rw ((operand_counts i.op0).0, (operand_counts i.op1).0)

  -- the words stay
  words_moved : (i : OlaAsmInstruction) → word_count (moved_instruction n i) ≡ word_count i
  words_moved i = rw (operand_counts i.op1).1

  -- and so does every sum of what stays
  total_moved : (f : OlaAsmInstruction → ℕ) → ((i : OlaAsmInstruction) → f (moved_instruction n i) ≡ f i)
      → (is : List OlaAsmInstruction) → total (map f (map (moved_instruction n) is)) ≡ total (map f is)
  unfolding total
  total_moved f e [] = refl
  total_moved f e (i ∷ is) = rw (e i, total_moved f e is)

  -- a label row stays one
  labels_moved : (r : AsmRow) → is_label_row (moved_row n r) ≡ is_label_row r
  labels_moved (Instruction i) = refl
  labels_moved (LabelCall start k) = refl
  labels_moved (LabelJmp start k) = refl
  labels_moved (LabelProphet start k) = refl

  -- how many rows pass a test that says the same of the moved
  count_moved : (f g : AsmRow → Bool) → ((r : AsmRow) → f (moved_row n r) ≡ g r) → (rs : List AsmRow) → count_rows f (map (moved_row n) rs) ≡ count_rows g rs
  unfolding count_rows
  count_moved f g e [] = refl
  count_moved f g e (r ∷ rs) = rw (e r, count_moved f g e rs)

  -- where a call label starts
  place_moved : (r : AsmRow) → call_place (moved_row n r) ≡ moved_place n (call_place r)
  place_moved (Instruction i) = refl
  place_moved (LabelCall start k) = refl
  place_moved (LabelJmp start k) = refl
  place_moved (LabelProphet start k) = refl

  -- the first of two places
  or_moved : (a b : Option ℕ) → or_place (moved_place n a) (moved_place n b) ≡ moved_place n (or_place a b)
  or_moved (Some i) b = refl
  or_moved None b = refl

  -- one of two places by a test
  cond_moved : (t : Bool) (a b : Option ℕ) → cond t (moved_place n a) (moved_place n b) ≡ moved_place n (cond t a b)
  cond_moved true a b = refl
  cond_moved false a b = refl

  -- the first call label
  call_moved : (rs : List AsmRow) → first_call (map (moved_row n) rs) ≡ moved_place n (first_call rs)
  unfolding first_call
  call_moved [] = refl
  call_moved (r ∷ rs) = rw (place_moved r, call_moved rs) (or_moved (call_place r) (first_call rs))

  -- where a moved row is main in the one text just if the row is in the other
  module _ (t s : List ℕ) (same : (r : AsmRow) → is_main_row t (moved_row n r) ≡ is_main_row s r) where
    -- main's start
    main_moved : (rs : List AsmRow) → main_start t (map (moved_row n) rs) ≡ moved_place n (main_start s rs)
    unfolding main_start
    main_moved [] = refl
    main_moved (r ∷ rs) = rw (same r, place_moved r, main_moved rs) (cond_moved (is_main_row s r) (call_place r) (main_start s rs))

    -- main's end
    end_moved : (rs : List AsmRow) → main_end t (map (moved_row n) rs) ≡ moved_place n (main_end s rs)
    unfolding main_end
    end_moved [] = refl
    end_moved (r ∷ rs) = rw (same r, call_moved rs, end_moved rs) (cond_moved (is_main_row s r) (first_call rs) (main_end s rs))

    -- all sums
    pub tally_moved : (rs : List AsmRow) → tally_of t (map (moved_row n) rs) ≡ moved_tally n (tally_of s rs)
    tally_moved rs =
        rw (
          length-map rs (moved_row n),
          count_moved is_label_row is_label_row labels_moved rs,
          count_moved (is_main_row t) (is_main_row s) same rs,
          instructions_moved rs,
          length-map (instructions rs) (moved_instruction n),
          total_moved counted_length counted_moved (instructions rs),
          total_moved word_count words_moved (instructions rs),
          call_moved rs,
          main_moved rs,
          end_moved rs,
        )
