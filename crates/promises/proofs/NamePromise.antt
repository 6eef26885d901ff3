-- The rows of an accepted source, the positions of its instructions, and the names and the label table, whose addresses are such positions.
use Rattle.std.specs.Prelude.{ℕ, zero, suc, ◌+◌, ◌<◌, ◌≡◌, true, cond, eqb, length, take, Some, slice_get}
use Rattle.std.proofs.Common.{sym, ap, ◌∙◌, arith}
use Rattle.std.proofs.Math.Path.{subst}
use mathlib.Core.List.{List, map}
use Rattle.std.proofs.lemmas.List.{length-map}
use Rattle.text.specs.Answer.{ok}
use Rattle.text.proofs.AnswerLaws.{ok_same, ok_bind}
use Rattle.text.proofs.EntryLaws.{at_below, at_map, all_at}
use Rattle.vm_hardware.specs.declared.Place.{Place}
use Rattle.vm_operands.specs.declared.OlaOperand.{OlaOperand}
use Rattle.asm.specs.Parts.{name_at}
use Rattle.asm.specs.Rows.{counted_length, instructions}
use Rattle.asm.specs.declared.OlaAsmOperand.TheVariants.{Label, Identifier}
use Rattle.asm.specs.declared.OlaAsmInstruction.{OlaAsmInstruction}
use Rattle.asm.specs.declared.AsmRow.{AsmRow}
use Rattle.relocate.specs.Labels.{LabelRow, call_kind, jmp_kind, prophet_kind, label_rows, address_of, host_of, marked_address, entry_of, table_of}
use Rattle.relocate.specs.Columns.{table_left, column_left}
use Rattle.relocate.specs.Relocate.{sorted_of, tabled}
use Rattle.relocate.specs.declared.LabelEntry.{LabelEntry}
use Rattle.relocate_laws.proofs.MarkLaws.{rows_mark, holder_marks}
use Rattle.program.specs.Words.{emitted_length, words_before}
use Rattle.program.specs.declared.BinaryInstruction.{BinaryInstruction}
use Rattle.program.proofs.FormLaws.{first_there}
use Rattle.encoder.specs.Canonical.{names_of, canonical_program}
use Rattle.encoder.specs.Assemble.{Room, Accepted, assembled}
use Rattle.encoder.proofs.RowWordLaws.{rows_length}
use Rattle.encoder.proofs.AcceptedLaws.{tabled_sorted, accepted_rows}
use Rattle.promises.specs.Terms.{operand_at, content_at, Stands, IsPosition, IsPositionBefore, HoldsPosition}
use Rattle.promises.proofs.TieLaws.{left_front}
use Rattle.promises.proofs.NameLaws.{HoldsCount, lengths_agree, addresses_are_words, names_are_word_counts}
use Rattle.promises.specs.AcceptedLaws.{accepted_words, accepted_form, accepted_shaped}

-- the address of a mapped row of a kind
marked : (is : List OlaAsmInstruction) (l : LabelRow) (kind : ℕ) → l.mapped ≡ true → l.kind ≡ kind
    → marked_address is l ≡ cond (eqb kind prophet_kind) (host_of is l.marks) (address_of is l.marks)
marked is l kind m k = rw (m, k)

module _ (s prophets : List ℕ) (room : Room) (a : Accepted) (h : assembled s prophets room ≡ ok a) where
  -- the program is the canonical program of the sorted rows
  pub of_rows : (rows : List AsmRow) → sorted_of s ≡ ok rows → canonical_program s rows ≡ ok a.program
  of_rows rows e =
      let r = accepted_rows s prophets room a h in
      subst (λ (x : List AsmRow). canonical_program s x ≡ ok a.program) (ok_same (sym r.sorted ∙ e)) r.canonical

  -- an accepted source has rows, its program is theirs, and it has as many instructions as instruction rows
  pub rows_there : (rows : List AsmRow) × (sorted_of s ≡ ok rows) × (canonical_program s rows ≡ ok a.program) × (length (instructions rows) ≡ length a.program)
  rows_there = let r = accepted_rows s prophets room a h in (r.rows, r.sorted, r.canonical, rows_length s r.rows a.program r.canonical)

  -- instruction n of the program, where it has one, stands where the words before it end
  pub stands : (n : ℕ) → n < length a.program → Stands a n
  stands n l =
      let j = at_below a.program n l in (
        j.0,
        j.1,
        ap (λ (ws : List ℕ). slice_get ws (words_before a.program n)) (accepted_words s prophets room a h)
            ∙ first_there a.program (accepted_form s prophets room a h) n j.0 j.1,
      )

  module _ (rows : List AsmRow) (e : sorted_of s ≡ ok rows) where
    -- every row counts as many words as its instruction has
    pub lengths_one : map counted_length (instructions rows) ≡ map emitted_length a.program
    lengths_one = lengths_agree s rows a.program (of_rows rows e) (accepted_rows s prophets room a h).placed (accepted_shaped s prophets room a h rows e)

    -- so addresses are counts of words
    pub address_words : (n : ℕ) → address_of (instructions rows) n ≡ words_before a.program n
    address_words = addresses_are_words s rows a.program (of_rows rows e) (accepted_rows s prophets room a h).placed (accepted_shaped s prophets room a h rows e)

    -- an instruction that a row marks is one of the program
    within : (n : ℕ) → n < 0 + length (instructions rows) → n < length a.program
    within n l = let k = rows_length s rows a.program (of_rows rows e) in omega arith

    -- ---- names

    there : (kind start n : ℕ) (c : OlaOperand) → HoldsCount (names_of s rows) a.program kind start n c → HoldsPosition (names_of s rows) a kind start n c
    there kind start n c x =
        let l = holder_marks s kind (name_at s start n) (0 + length (instructions rows)) (label_rows 0 rows) (rows_mark 0 rows) x.0 x.1 in
        (x.0, x.1, x.2, stands x.0.marks (within x.0.marks l))

    pub names_counted : (k : ℕ) (i : OlaAsmInstruction) → slice_get (instructions rows) k ≡ Some i
        → (b : BinaryInstruction) × (slice_get a.program k ≡ Some b) × ((place : Place) (start n : ℕ)
        → (operand_at place i ≡ Identifier start n → HoldsPosition (names_of s rows) a call_kind start n (content_at place b))
        × (operand_at place i ≡ Label start n → HoldsPosition (names_of s rows) a jmp_kind start n (content_at place b)))
    names_counted k i g =
        let x =
        names_are_word_counts s rows a.program (of_rows rows e) (accepted_rows s prophets room a h).placed
        (accepted_shaped s prophets room a h rows e) k i g in (
          x.0,
          x.1,
          λ place start n. (
            λ f. there call_kind start n (content_at place x.0) ((x.2 place start n).0 f),
            λ f. there jmp_kind start n (content_at place x.0) ((x.2 place start n).1 f),
          ),
        )

    -- ---- the label table

    -- it is filled from these rows
    rows_tabled : tabled s room.entries ≡ ok rows
    unfolding assembled
    rows_tabled =
        let t = ok_bind (tabled s room.entries) _ a h in
        subst (λ (x : List AsmRow). tabled s room.entries ≡ ok x) (ok_same (sym (tabled_sorted s room.entries t.0 t.1) ∙ e)) t.1

    -- and has as many entries as are answered
    entries_answered : a.labels ≡ length (table_of rows)
    entries_answered =
        let r = accepted_rows s prophets room a h in
        r.labels
        ∙ ap (λ (x : List AsmRow). length (label_rows 0 x)) (ok_same (sym r.sorted ∙ e))
        ∙ sym (length-map (label_rows 0 rows) (entry_of (instructions rows)))

    pub entries_left : (lent : List LabelEntry) → length lent ≡ room.entries → take a.labels (table_left s lent) ≡ table_of rows
    entries_left lent n =
        ap (λ (k : ℕ). take k (table_left s lent)) entries_answered
        ∙ left_front (tabled s (length lent)) table_of lent rows (ap (tabled s) n ∙ rows_tabled)

    pub column_left_lem : {A : Type 0} (field : LabelEntry → A) (lent : List A) → take a.labels (column_left (tabled s room.entries) field lent) ≡ map field (table_of rows)
    column_left_lem field lent =
        ap (λ (k : ℕ). take k (column_left (tabled s room.entries) field lent)) (entries_answered ∙ sym (length-map (table_of rows) field))
        ∙ left_front (tabled s room.entries) (λ (x : List AsmRow). map field (table_of x)) lent rows rows_tabled

    -- the host of a prophet row
    host_position : (n address : ℕ) → n < length a.program → address ≡ host_of (instructions rows) n → IsPositionBefore a n address
    host_position zero address l f = f
    host_position (suc n) address l f = (f ∙ address_words n, stands n (omega arith))

    pub table_positions : (k : ℕ) (t : LabelEntry) → slice_get (table_of rows) k ≡ Some t → t.mapped ≡ true
        → (l : LabelRow) × (slice_get (label_rows 0 rows) k ≡ Some l)
        × (t.kind ≡ call_kind → IsPosition a l.marks t.address.0)
        × (t.kind ≡ jmp_kind → IsPosition a l.marks t.address.0)
        × (t.kind ≡ prophet_kind → IsPositionBefore a l.marks t.address.0)
    table_positions k t g m = (l, x.1, λ f. (is_at call_kind f ∙ address_words l.marks, stands l.marks n), λ f. (is_at jmp_kind f ∙ address_words l.marks, stands l.marks n), λ f. host_position l.marks t.address.0 n (is_at prophet_kind f))
      where
        x : (l : LabelRow) × (slice_get (label_rows 0 rows) k ≡ Some l) × (entry_of (instructions rows) l ≡ t)
        x = at_map (entry_of (instructions rows)) (label_rows 0 rows) k t g

        l : LabelRow
        l = x.0

        mapped : l.mapped ≡ true
        mapped = ap (λ (u : LabelEntry). u.mapped) x.2 ∙ m

        n : l.marks < length a.program
        n = within l.marks (all_at (label_rows 0 rows) (rows_mark 0 rows) k l x.1 mapped)

        is_at : (kind : ℕ) → t.kind ≡ kind → t.address.0 ≡ cond (eqb kind prophet_kind) (host_of (instructions rows) l.marks) (address_of (instructions rows) l.marks)
        is_at kind f = sym (ap (λ (u : LabelEntry). u.address.0) x.2) ∙ marked (instructions rows) l kind mapped (ap (λ (u : LabelEntry). u.kind) x.2 ∙ f)
