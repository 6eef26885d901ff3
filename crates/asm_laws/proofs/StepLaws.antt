-- What one line adds to the survey of a text.
use Rattle.std.specs.Prelude.{Option, Some, None}
use Prim.Native.Nat.{ℕ, suc, ◌+◌, ◌<◌, ◌≤◌}
use mathlib.Core.Path.{◌≡◌, refl, sym, ap, ◌∙◌}
use mathlib.Core.List.{List, [], ◌∷◌, ◌++◌}
use mathlib.Core.Bool.{Bool, true, false, cond}
use native.Mathlib.Omega.{arith}
use native.Mathlib.Numerals.{add-one}
use native.Mathlib.Nat.{add-zero}
use borrow.Author.Tests.{ltb-true, ltb-false}
use lib.Dec.{ltb}
use lib.ListN.{length, drop, drop_of_length-le, length-drop}
use lib.Seq.{take_all, length-take-le, drop-drop}
use Rattle.text.specs.Scan.{scan, parts, is_empty}
use Rattle.text.specs.Lines.{is_feed, not_feed}
use Rattle.text.specs.Answer.{Answer, ok, refused, ◌>>=◌}
use Rattle.text.proofs.Laws.{scan_le}
use Rattle.text.proofs.PartLaws.{parts_whole, parts_first, line_ended, line_last, line_within, line_next_more}
use Rattle.asm.specs.Parts.{Part, placed, filled_parts, pieces_from, line_pieces, row_pieces, pieces_after, line_at, next_line}
use Rattle.asm.specs.Rows.{row_of, of_row, line_of, row_read, read_rows}
use Rattle.asm.specs.Survey.{tally_of, survey_from, joined_surveys}
use Rattle.asm.specs.declared.OlaAsmInstruction.{OlaAsmInstruction}
use Rattle.asm.specs.declared.AsmRow.{AsmRow}
use Rattle.asm.specs.declared.AsmRow.TheVariants.{Instruction}
use Rattle.asm.specs.declared.LineRead.TheVariants.{Blank, Row, Unreadable as NoRow}
use Rattle.asm.specs.declared.Tally.{Tally}
use Rattle.asm_laws.proofs.LengthLaws.{line_bytes, row_least, least_four}
use Rattle.asm_laws.proofs.JoinLaws.{tally_append}

-- ---- rows counted from a row on

-- an answer where n rows more stand ahead
abbrev pub later : ℕ → Answer (List AsmRow) → Answer (List AsmRow)
later n (ok rs) = ok rs
later n (refused k d) = refused k (n + d)

-- rows that are read where k stand ahead
pub read_later : (k : ℕ) (pss : List (List Part)) → read_rows k pss ≡ later k (read_rows 0 pss)
unfolding read_rows ◌>>=◌
read_later k [] = refl
read_later k (ps ∷ pss) = go (row_of ps) (read_rows 0 pss) (read_later (suc k) pss) (read_later 1 pss)
  where
    go : (r : Option AsmRow) (x : Answer (List AsmRow)) → read_rows (suc k) pss ≡ later (suc k) x → read_rows 1 pss ≡ later 1 x
        → (row_read k r >>= λ r. read_rows (suc k) pss >>= λ rs. ok (r ∷ rs)) ≡ later k (row_read 0 r >>= λ r. read_rows 1 pss >>= λ rs. ok (r ∷ rs))
    go None x a b = ap (refused 3) (sym (add-zero k))
    go (Some r) (ok rs) a b = rw (a, b)
    go (Some r) (refused n d) a b = rw (a, b) (ap (refused n) (omega arith))

-- what the rows that pieces are read as add up to
abbrev pub survey_pieces : List ℕ → List (List Part) → Answer Tally
survey_pieces s pss = read_rows 0 pss >>= λ rs. ok (tally_of s rs)

-- two runs of rows one after the other, where k stand ahead
read_append : (k : ℕ) (pss qss : List (List Part))
    → read_rows k (pss ++ qss) ≡ (read_rows k pss >>= λ rs. later (k + length rs) (read_rows 0 qss) >>= λ qs. ok (rs ++ qs))
unfolding read_rows ◌>>=◌
read_append k [] qss = rw (read_later k qss, add-zero k) (same (read_rows 0 qss))
  where
    same : (x : Answer (List AsmRow)) → later k x ≡ (later k x >>= λ qs. ok qs)
    same (ok rs) = refl
    same (refused n d) = refl
read_append k (ps ∷ pss) qss = go (row_of ps) (read_rows (suc k) pss) (read_rows 0 qss) (read_append (suc k) pss qss)
  where
    go : (r : Option AsmRow) (x y : Answer (List AsmRow)) → read_rows (suc k) (pss ++ qss) ≡ (x >>= λ rs. later (suc k + length rs) y >>= λ qs. ok (rs ++ qs))
        → (row_read k r >>= λ r. read_rows (suc k) (pss ++ qss) >>= λ rs. ok (r ∷ rs))
        ≡ ((row_read k r >>= λ r. x >>= λ rs. ok (r ∷ rs)) >>= λ rs. later (k + length rs) y >>= λ qs. ok (rs ++ qs))
    go None x y a = refl
    go (Some r) (refused n d) y a = rw a
    go (Some r) (ok rs) (ok qs) a = rw a
    go (Some r) (ok rs) (refused n d) a = rw a (ap (refused n) (omega arith))

-- the survey of two runs of rows is theirs joined
pub survey_append : (s : List ℕ) (pss qss : List (List Part)) → survey_pieces s (pss ++ qss) ≡ joined_surveys (survey_pieces s pss) (survey_pieces s qss)
unfolding ◌>>=◌ joined_surveys
survey_append s pss qss = rw (read_append 0 pss qss) (go (read_rows 0 pss) (read_rows 0 qss))
  where
    go : (x y : Answer (List AsmRow))
        → ((x >>= λ rs. later (0 + length rs) y >>= λ qs. ok (rs ++ qs)) >>= λ rs. ok (tally_of s rs))
        ≡ joined_surveys (x >>= λ rs. ok (tally_of s rs)) (y >>= λ rs. ok (tally_of s rs))
    go (refused n d) y = refl
    go (ok rs) (refused n d) = ap (refused n) (omega arith)
    go (ok rs) (ok qs) = ap ok (tally_append s rs qs)

-- ---- the line at a place

-- past the end there is no row
pub nothing_after : (j : ℕ) → row_pieces (placed j (parts is_feed [])) ≡ []
unfolding parts placed row_pieces line_pieces pieces_from filled_parts scan
nothing_after j = refl

-- the line that starts at a place, and then those from the next line's start
pub pieces_step : (s : List ℕ) (i : ℕ) → pieces_after s i
    ≡ cond (is_empty (line_pieces (line_at s i))) (pieces_after s (next_line s i)) (line_pieces (line_at s i) ∷ pieces_after s (next_line s i))
unfolding placed row_pieces
pieces_step s i = go (ltb (scan not_feed (drop i s)) (length (drop i s))) refl
  where
    go : (t : Bool) → ltb (scan not_feed (drop i s)) (length (drop i s)) ≡ t → pieces_after s i
        ≡ cond (is_empty (line_pieces (line_at s i))) (pieces_after s (next_line s i)) (line_pieces (line_at s i) ∷ pieces_after s (next_line s i))
    go true e =
        let h : scan not_feed (drop i s) < length (drop i s) = ltb-true _ _ e in
        let w = line_ended (drop i s) h in
        rw (
          parts_first is_feed (drop i s) h,
          w.1,
          length-take-le (scan not_feed (drop i s)) (drop i s) (omega arith),
          ← (drop-drop (scan not_feed (drop i s) + 1) i s),
          add-one,
        )
    go false e =
        let h : length (drop i s) ≤ scan not_feed (drop i s) = ltb-false _ _ e in
        let w = line_last (drop i s) h in
        rw (
          parts_whole is_feed (drop i s) h,
          w.1,
          take_all (scan not_feed (drop i s)) (drop i s) h,
          ← (drop-drop (scan not_feed (drop i s)) i s),
          drop_of_length-le (drop i s) h,
          nothing_after,
        )

-- ---- what a line is, from its pieces

-- a blank line has no piece
pub line_blank : (ps : List Part) → line_of ps ≡ Blank → is_empty ps ≡ true
line_blank [] h = refl
line_blank (q ∷ qs) h = go (row_of (q ∷ qs)) h
  where
    go : (x : Option AsmRow) → of_row x ≡ Blank → false ≡ true
    go (Some r) e = cc
    go None e = cc

-- a row has a piece, and is what its pieces are read as
pub line_row : (ps : List Part) (r : AsmRow) → line_of ps ≡ Row r → (is_empty ps ≡ false) × (row_of ps ≡ Some r)
line_row [] r h = let z : ◌≡◌ {A = ℕ} 0 1 = cc in absurd (omega arith)
line_row (q ∷ qs) r h = (refl, go (row_of (q ∷ qs)) h)
  where
    go : (x : Option AsmRow) → of_row x ≡ Row r → x ≡ Some r
    go (Some p) e = cc
    go None e = cc

-- an unreadable line has a piece, and its pieces are no row
pub line_unreadable : (ps : List Part) → line_of ps ≡ NoRow → (is_empty ps ≡ false) × (row_of ps ≡ None)
line_unreadable [] h = let z : ◌≡◌ {A = ℕ} 0 1 = cc in absurd (omega arith)
line_unreadable (q ∷ qs) h = (refl, go (row_of (q ∷ qs)) h)
  where
    go : (x : Option AsmRow) → of_row x ≡ NoRow → x ≡ None
    go (Some p) e = cc
    go None e = refl

-- ---- the survey from a line on

module _ (s : List ℕ) (i : ℕ) where
  -- a line that has a piece is a row's
  pub pieces_row : is_empty (line_pieces (line_at s i)) ≡ false → pieces_after s i ≡ line_pieces (line_at s i) ∷ pieces_after s (next_line s i)
  pieces_row h = pieces_step s i ∙ rw h

  -- past the text's end there is nothing
  pub survey_end : length s ≤ i → survey_from s i ≡ ok (tally_of s [])
  unfolding survey_from read_rows ◌>>=◌
  survey_end h = rw (drop_of_length-le s h, nothing_after)

  -- a line with no piece adds nothing
  pub survey_blank : line_of (line_pieces (line_at s i)) ≡ Blank → survey_from s i ≡ survey_from s (next_line s i)
  unfolding survey_from
  survey_blank h = ap (survey_pieces s) (pieces_step s i ∙ rw (line_blank (line_pieces (line_at s i)) h))

  -- a row adds its own sums
  pub survey_row : (r : AsmRow) → line_of (line_pieces (line_at s i)) ≡ Row r
      → survey_from s i ≡ joined_surveys (ok (tally_of s (r ∷ []))) (survey_from s (next_line s i))
  unfolding survey_from read_rows ◌>>=◌
  survey_row r h =
      let w = line_row (line_pieces (line_at s i)) r h in
      ap (survey_pieces s) (pieces_row w.0)
      ∙ survey_append s (line_pieces (line_at s i) ∷ []) (pieces_after s (next_line s i))
      ∙ ap (λ (x : Answer Tally). joined_surveys x (survey_from s (next_line s i))) (one (line_pieces (line_at s i)) w.1)
    where
      one : (ps : List Part) → row_of ps ≡ Some r → survey_pieces s (ps ∷ []) ≡ ok (tally_of s (r ∷ []))
      one ps e = rw e

  -- an unreadable row is the answer, whatever follows
  pub survey_unreadable : line_of (line_pieces (line_at s i)) ≡ NoRow → survey_from s i ≡ refused 3 0
  unfolding survey_from read_rows ◌>>=◌
  survey_unreadable h =
      let w = line_unreadable (line_pieces (line_at s i)) h in
      ap (survey_pieces s) (pieces_row w.0) ∙ one (line_pieces (line_at s i)) w.1 (pieces_after s (next_line s i))
    where
      one : (ps : List Part) → row_of ps ≡ None → (pss : List (List Part)) → survey_pieces s (ps ∷ pss) ≡ refused 3 0
      one ps e pss = rw e

  -- the next line starts further on, within the text
  pub next_further : i < length s → (i < next_line s i) × (next_line s i ≤ length s)
  next_further h =
      let l = length-drop i s in
      let a = line_next_more (drop i s) (omega arith) in
      let b = line_within (drop i s) in
      (omega arith, omega arith)

  -- an instruction takes at least three bytes of its line
  pub instruction_room : (j : OlaAsmInstruction) → line_of (line_pieces (line_at s i)) ≡ Row (Instruction j) → i + 3 ≤ next_line s i
  instruction_room j h =
      let a = row_least (line_pieces (line_at s i)) j (line_row (line_pieces (line_at s i)) (Instruction j) h).1 in
      let b = least_four j.opcode in
      let c = line_bytes (line_at s i) in
      let d = length-take-le (scan not_feed (drop i s)) (drop i s) (scan_le not_feed (drop i s)) in
      go (ltb (scan not_feed (drop i s)) (length (drop i s))) refl (omega arith)
    where
      go : (t : Bool) → ltb (scan not_feed (drop i s)) (length (drop i s)) ≡ t → 3 ≤ scan not_feed (drop i s) → i + 3 ≤ next_line s i
      go true e h = let w = line_ended (drop i s) (ltb-true _ _ e) in omega arith
      go false e h = let w = line_last (drop i s) (ltb-false _ _ e) in omega arith
