-- Laws of the row reader: the row that pieces make, and the line of a source that starts at a place.
use Rattle.std.specs.Prelude.{Option, None}
use Rattle.text.specs.declared.ByteClass.TheVariants.{IsNot}
use Rattle.text.specs.Classes.{holds}
use mathlib.Core.Bool.{Bool, true, false}
use borrow.Author.Tests.{eqb-true, eqb-false}
use lib.Dec.{eqb}
use Prim.Native.Nat.{ℕ, ◌+◌, ◌^◌, ◌<◌, ◌≤◌, ◌-◌, min}
use mathlib.Core.Path.{◌≡◌, refl, sym, ap, ◌∙◌}
use mathlib.Core.List.{List, [], ◌∷◌}
use native.Mathlib.Omega.{arith}
use borrow.Author.Rules.{rules}
use mir.Val.{Fits}
use mir.Syntax.{w64}
use lib.ListN.{length, take, drop, length-drop, drop_of_length-le}
use lib.Seq.{length-take-le, take-take}
use Rattle.text.specs.Scan.{scan, parts}
use Rattle.text.specs.Lines.{not_feed, line_next}
use Rattle.text.specs.declared.Piece.{Piece}
use Rattle.text.proofs.Laws.{scan_le, part_counts, part_from}
use Rattle.text.proofs.PartLaws.{line_ended, line_last}
use Rattle.vm_opcodes.specs.declared.OlaOpcode.{OlaOpcode}
use Rattle.vm_mnemonics.specs.Mnemonics.{operation_of}
use Rattle.asm.specs.Parts.{Part, placed, filled_parts, pieces_from, line_pieces, line_at, next_line, without_comment}
use Rattle.asm.specs.Rows.{arranged_if, label_row, or_else_row, row_of, of_row, line_of, row_at}
use Rattle.asm.specs.declared.AsmRow.{AsmRow}
use Rattle.asm.specs.declared.LineRead.{LineRead}
use Rattle.asm.specs.declared.LineRead.TheVariants.{Blank}
use Rattle.asm_rows.specs.Found.{piece_at, row_given, is_not, line_ends}
use Rattle.asm_rows.specs.declared.LineEnds.{LineEnds}
use Rattle.asm_laws.proofs.PieceLaws.{part_taken}
use Rattle.asm_rows.proofs.OperandLaws.{cut, piece_ends, end_fits, no_piece, first_piece_lem}

-- ---- rows

-- a word that is no operation's: a label, with no piece behind it
module _ (q : Part) (l : List ℕ) (i : ℕ) (p : Piece) (e : p ≡ piece_at l i) where
  pub label_alone : p.length ≡ 0 → (r : Option AsmRow) → r ≡ or_else_row (label_row q) None → r ≡ row_given None q (pieces_from i (drop i l))
  unfolding arranged_if
  label_alone h r f = rw (no_piece l i p e h) f

  -- and with one
  pub label_more : (p.length ≡ 0 → ⊥) → None ≡ row_given None q (pieces_from i (drop i l))
  unfolding arranged_if
  label_more h = rw (first_piece_lem l i p e h)

pub ruleset label_laws = (label_alone, label_more, rules)

-- the first piece and its operation make the row of all pieces
row_made : (q : Part) (ps : List Part) → row_given (operation_of q.text) q ps ≡ row_of (q ∷ ps)
unfolding row_of
row_made q [] = refl
row_made q (p ∷ ps) = refl

module _ (l : List ℕ) (i : ℕ) (p : Piece) (e : p ≡ piece_at l i) where
  pub line_blank : p.length ≡ 0 → Blank ≡ line_of (pieces_from i (drop i l))
  line_blank h = rw (no_piece l i p e h)

  -- as the operation of the first piece was told
  pub line_told : (f g : Option OlaOpcode) (x : LineRead) → (p.length ≡ 0 → ⊥) → f ≡ operation_of (cut l p.start (p.start + p.length)).text → f ≡ g → (r : Option AsmRow) → x ≡ of_row r → r ≡ row_given g (cut l p.start (p.start + p.length)) (pieces_from (p.start + p.length) (drop (p.start + p.length) l)) → x ≡ line_of (pieces_from i (drop i l))
  line_told f g x h k m r n o =
      let q : Part = cut l p.start (p.start + p.length) in
      let ps : List Part = pieces_from (p.start + p.length) (drop (p.start + p.length) l) in
      n ∙ ap of_row o ∙ ap (λ (y : Option OlaOpcode). of_row (row_given y q ps)) (sym m ∙ k) ∙ ap of_row (row_made q ps) ∙ sym (ap line_of (first_piece_lem l i p e h))

pub ruleset line_laws = (piece_ends, end_fits, line_blank, line_told, rules)

-- ---- the line of a source that starts at a place

-- past the end there is no row
pub row_past : (s : List ℕ) (i : ℕ) → length s ≤ i → record { read = Blank; next = i } ≡ row_at s i
unfolding line_pieces pieces_from placed filled_parts parts line_next scan
row_past s i h = rw (drop_of_length-le s h) (ap (λ (k : ℕ). record { read = Blank; next = k }) (omega arith))

-- without its comment a line is no longer
code_le : (s : List ℕ) (i : ℕ) → scan (is_not 59) (line_at s i).text ≤ scan not_feed (drop i s)
code_le s i =
    let c = scan_le (is_not 59) (line_at s i).text in
    let k = length-take-le (scan not_feed (drop i s)) (drop i s) (scan_le not_feed (drop i s)) in
    omega arith

module _ (s : List ℕ) (i : ℕ) (w : LineEnds) (e : w ≡ line_ends s i) where
  end_at : w.end ≡ i + scan (is_not 59) (line_at s i).text
  unfolding line_ends
  end_at = ap (λ (x : LineEnds). x.end) e

  feed_at : w.feed ≡ i + scan not_feed (drop i s)
  unfolding line_ends
  feed_at = ap (λ (x : LineEnds). x.feed) e

  -- the line's end lies within the source
  feed_within : i < length s → w.feed ≤ length s
  feed_within h = let k = length-drop i s in let n = scan_le not_feed (drop i s) in let f = feed_at in omega arith

  code_within : i < length s → w.end ≤ length s
  code_within h = let k = feed_within h in let f = feed_at in let c = end_at in let n = code_le s i in omega arith

  pub next_fits : i < length s → length s < 2 ^ 63 → Fits w64 (w.feed + 1)
  next_fits h f = let k = feed_within h in omega arith

  -- what stands up to the end of the line's code has as many bytes
  pub code_counts : i < length s → w.end ≡ length (take w.end s)
  code_counts h = part_counts s w.end (code_within h)

  -- and the line's pieces from place i on
  code_pieces : pieces_from i (drop i (take w.end s)) ≡ line_pieces (line_at s i)
  unfolding line_pieces
  code_pieces =
      let n : ℕ = scan (is_not 59) (line_at s i).text in
      ap (pieces_from i)
      (ap (λ (k : ℕ). drop i (take k s)) end_at
      ∙ part_taken i n s
      ∙ sym (take-take n (scan not_feed (drop i s)) (drop i s) (code_le s i)))

  module _ (r : LineRead) (g : r ≡ line_of (pieces_from i (drop i (take w.end s)))) where
    row_last : i < length s → w.feed ≡ length s → record { read = r; next = w.feed } ≡ row_at s i
    row_last h k =
        let d = length-drop i s in
        let f = feed_at in
        let n : line_next (drop i s) ≡ scan not_feed (drop i s) = (line_last (drop i s) (omega arith)).1 in
        let m : r ≡ line_of (line_pieces (line_at s i)) = g ∙ ap line_of code_pieces in
        let o : w.feed ≡ next_line s i = omega arith in
        cc

    row_ended : i < length s → (w.feed ≡ length s → ⊥) → record { read = r; next = w.feed + 1 } ≡ row_at s i
    row_ended h k =
        let d = length-drop i s in
        let f = feed_at in
        let v = feed_within h in
        let n : line_next (drop i s) ≡ scan not_feed (drop i s) + 1 = (line_ended (drop i s) (omega arith)).1 in
        let m : r ≡ line_of (line_pieces (line_at s i)) = g ∙ ap line_of code_pieces in
        let o : w.feed + 1 ≡ next_line s i = omega arith in
        cc

    -- the next line starts after the line feed, or at the source's end
    pub row_next : i < length s → (n : ℕ) → n ≡ min (length s) (w.feed + 1) → record { read = r; next = n } ≡ row_at s i
    row_next h n k = go (eqb w.feed (length s)) refl
      where
        go : (t : Bool) → eqb w.feed (length s) ≡ t → record { read = r; next = n } ≡ row_at s i
        go true e = let f : w.feed ≡ length s = eqb-true _ _ e in let o : n ≡ w.feed = omega arith in ap (λ (x : ℕ). record { read = r; next = x }) o ∙ row_last h f
        go false e =
            let f : w.feed ≡ length s → ⊥ = eqb-false _ _ e in
            let v = feed_within h in
            let o : n ≡ w.feed + 1 = omega arith in
            ap (λ (x : ℕ). record { read = r; next = x }) o ∙ row_ended h f

-- ---- the same of two scans, one for the line feed and one for the comment

module _ (s : List ℕ) (i a : ℕ) (e : a ≡ scan (holds (IsNot 10)) (take (length s - i) (drop i s))) where
  scanned_feed_at : a ≡ scan not_feed (drop i s)
  scanned_feed_at = e ∙ ap (scan not_feed) (part_from i s)

  scanned_feed_le : a ≤ length (drop i s)
  scanned_feed_le = let w = scan_le not_feed (drop i s) in let k = scanned_feed_at in omega arith

  -- the line's end lies within the source
  pub scanned_feed_within : i < length s → i + a ≤ length s
  scanned_feed_within h = let k = length-drop i s in let w = scanned_feed_le in omega arith

  pub scanned_feed_fits : i < length s → length s < 2 ^ 64 → Fits w64 (i + a)
  scanned_feed_fits h f = let k = scanned_feed_within h in omega arith

  pub scanned_next_fits : i < length s → length s < 2 ^ 64 → (i + a ≡ length s → ⊥) → Fits w64 (i + a + 1)
  scanned_next_fits h f g = let k = scanned_feed_within h in omega arith

-- what stands in the line up to the first byte that fails a test
module _ (s : List ℕ) (i a b : ℕ) (p : ℕ → Bool) (e : a ≡ scan (holds (IsNot 10)) (take (length s - i) (drop i s))) (f : b ≡ scan p (take (i + a - i) (drop i s))) where
  scanned_code_at : b ≡ scan p (take a (drop i s))
  scanned_code_at = let n : i + a - i ≡ a = omega arith in f ∙ ap (λ (n : ℕ). scan p (take n (drop i s))) n

  scanned_code_le : b ≤ a
  scanned_code_le =
      let w = scan_le p (take a (drop i s)) in
      let k = length-take-le a (drop i s) (scanned_feed_le s i a e) in
      let c = scanned_code_at in
      omega arith

  pub scanned_code_within : i < length s → i + b ≤ length s
  scanned_code_within h = let k = scanned_feed_within s i a e h in let w = scanned_code_le in omega arith

  pub scanned_code_fits : i < length s → length s < 2 ^ 64 → Fits w64 (i + b)
  scanned_code_fits h g = let k = scanned_code_within h in omega arith

  -- it has as many bytes
  pub scanned_code_counts : i < length s → i + b ≡ length (take (i + b) s)
  scanned_code_counts h = sym (length-take-le (i + b) s (scanned_code_within h))

module _ (s : List ℕ) (i a b : ℕ) (e : a ≡ scan (holds (IsNot 10)) (take (length s - i) (drop i s))) (f : b ≡ scan (holds (IsNot 59)) (take (i + a - i) (drop i s))) where
  -- what stands up to the end of the line's code has the line's pieces from place i on
  scanned_code_pieces : pieces_from i (drop i (take (i + b) s)) ≡ line_pieces (line_at s i)
  unfolding line_pieces
  scanned_code_pieces =
      ap (pieces_from i)
      (part_taken i b s
      ∙ sym (take-take b a (drop i s) (scanned_code_le s i a b (holds (IsNot 59)) e f))
      ∙ ap (λ (n : ℕ). take n (take a (drop i s))) (scanned_code_at s i a b (holds (IsNot 59)) e f)
      ∙ ap (λ (n : ℕ). without_comment (take n (drop i s))) (scanned_feed_at s i a e))

  module _ (r : LineRead) (g : r ≡ line_of (pieces_from i (drop i (take (i + b) s)))) where
    pub scanned_row_last : i < length s → i + a ≡ length s → record { read = r; next = i + a } ≡ row_at s i
    scanned_row_last h k =
        let d = length-drop i s in
        let c = (scanned_feed_at s i a e) in
        let n : line_next (drop i s) ≡ a = (line_last (drop i s) (omega arith)).1 ∙ sym (scanned_feed_at s i a e) in
        let m : r ≡ line_of (line_pieces (line_at s i)) = g ∙ ap line_of scanned_code_pieces in
        let o : i + a ≡ next_line s i = ap (λ (x : ℕ). i + x) (sym n) in
        cc

    pub scanned_row_ended : i < length s → (i + a ≡ length s → ⊥) → record { read = r; next = i + a + 1 } ≡ row_at s i
    scanned_row_ended h k =
        let d = length-drop i s in
        let c = (scanned_feed_at s i a e) in
        let w = (scanned_feed_le s i a e) in
        let n : line_next (drop i s) ≡ a + 1 = (line_ended (drop i s) (omega arith)).1 ∙ ap (λ (x : ℕ). x + 1) (sym (scanned_feed_at s i a e)) in
        let m : r ≡ line_of (line_pieces (line_at s i)) = g ∙ ap line_of scanned_code_pieces in
        let o : i + a + 1 ≡ next_line s i = omega arith in
        cc

pub ruleset scanned_laws = (row_past, scanned_feed_within, scanned_feed_fits, scanned_next_fits, scanned_code_within, scanned_code_fits, scanned_code_counts, scanned_row_last, scanned_row_ended, rules)

pub ruleset row_laws = (row_past, next_fits, code_counts, row_next, rules)
