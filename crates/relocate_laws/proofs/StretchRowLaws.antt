-- The rows of a stretch of the source, line by line, and where they are cut at a call label.
use Rattle.std.specs.Prelude.{Option, Some, None}
use Prim.Native.Nat.{ℕ, ◌-◌, ◌<◌, ◌≤◌}
use mathlib.Core.Path.{◌≡◌, refl, sym, ap, subst, ◌∙◌}
use mathlib.Core.List.{List, [], ◌∷◌, ◌++◌}
use mathlib.Core.Bool.{Bool, true, false, cond}
use native.Mathlib.Omega.{arith}
use borrow.Author.Tests.{ltb-true, ltb-false}
use lib.Dec.{ltb}
use lib.ListN.{length, take}
use Rattle.text.specs.Bytes.{bytes}
use Rattle.vm_mnemonics.specs.Mnemonics.{operation_of}
use Rattle.asm.specs.Parts.{Part, line_pieces, pieces_after, line_at, next_line}
use Rattle.asm.specs.Rows.{operands_of, arranged_if, is_call_row, is_pair_row, label_row, or_else_row, row_of, line_of}
use Rattle.asm.specs.declared.AsmRow.{AsmRow}
use Rattle.asm.specs.declared.AsmRow.TheVariants.{Instruction, LabelCall, LabelJmp, LabelProphet}
use Rattle.asm.specs.declared.LineRead.TheVariants.{Blank, Row, Unreadable as NoRow}
use Rattle.asm_laws.proofs.StepLaws.{pieces_step, pieces_row, line_blank, line_row, line_unreadable}
use Rattle.asm_laws.proofs.PlaceLaws.{arranged_if_related}
use Rattle.relocate.specs.Layout.{on_read, readable, stretch_rows}
use Rattle.relocate_laws.proofs.LengthLaws.{ReadAs, none_read, one_read}
use Rattle.relocate_laws.proofs.CutLaws.{pieces_past, cut_pieces}

-- ---- a stretch, line by line

module _ (s : List ℕ) (i : ℕ) where
  -- past the text's end there is no row
  pub stretch_end : length s ≤ i → stretch_rows s i ≡ []
  unfolding readable
  stretch_end h = rw (pieces_past s i h)

  -- a line with no piece adds nothing
  pub stretch_blank : line_of (line_pieces (line_at s i)) ≡ Blank → stretch_rows s i ≡ stretch_rows s (next_line s i)
  stretch_blank h = ap readable (pieces_step s i ∙ rw (line_blank (line_pieces (line_at s i)) h))

  -- a row stands before those of the lines after it
  pub stretch_row : (r : AsmRow) → line_of (line_pieces (line_at s i)) ≡ Row r → stretch_rows s i ≡ r ∷ stretch_rows s (next_line s i)
  unfolding readable
  stretch_row r h =
      let w = line_row (line_pieces (line_at s i)) r h in
      ap readable (pieces_row s i w.0) ∙ ap (λ (x : Option AsmRow). on_read x (stretch_rows s (next_line s i))) w.1

  -- an unreadable line is left out
  pub stretch_unreadable : line_of (line_pieces (line_at s i)) ≡ NoRow → stretch_rows s i ≡ stretch_rows s (next_line s i)
  unfolding readable
  stretch_unreadable h =
      let w = line_unreadable (line_pieces (line_at s i)) h in
      ap readable (pieces_row s i w.0) ∙ ap (λ (x : Option AsmRow). on_read x (stretch_rows s (next_line s i))) w.1

-- ---- rows that were read

-- they are the readable ones
pub read_readable : {pss : List (List Part)} {rs : List AsmRow} → ReadAs pss rs → readable pss ≡ rs
unfolding readable
read_readable none_read = refl
read_readable (one_read e h) = rw (e, read_readable h)

-- a label row that starts at place k, if it is one
abbrev StartsAt : ℕ → Option AsmRow → Type 0
StartsAt k (Some (Instruction i)) = Unit {0}
StartsAt k (Some (LabelCall start n)) = k ≡ start
StartsAt k (Some (LabelJmp start n)) = k ≡ start
StartsAt k (Some (LabelProphet start n)) = k ≡ start
StartsAt k None = Unit {0}

-- a label row starts where its first piece does
label_starts : (q : Part) (qs : List Part) → StartsAt q.start (row_of (q ∷ qs))
unfolding row_of label_row
label_starts q (r ∷ rs) = arranged_if_related 0 (λ x y. StartsAt q.start x) tt (λ i. tt) (operation_of q.text) (operands_of (r ∷ rs))
label_starts q [] =
    go (is_call_row q.text) (is_pair_row (bytes "LBL") q.text) (is_pair_row (bytes "PROPHET") q.text) q.start (length q.text - 1)
  where
    other : Option AsmRow
    other = arranged_if (operation_of q.text) (Some [])

    go : (a b c : Bool) (i k : ℕ) → StartsAt i (or_else_row (cond a (Some (LabelCall i k)) (cond b (Some (LabelJmp i k)) (cond c (Some (LabelProphet i k)) None))) other)
    go true b c i k = refl
    go false true c i k = refl
    go false false true i k = refl
    go false false false i k = arranged_if_related 0 (λ x y. StartsAt i x) tt (λ i. tt) (operation_of q.text) (Some [])

-- a text cut at a call label: the rows before it, and those from it on
pub record CallCut (s : List ℕ) (i p : ℕ) (rs qs : List AsmRow) : Type 0 where
  pub later : i ≤ p
  pub within : p ≤ length s
  pub front : ReadAs (pieces_after (take p s) i) rs
  pub back : ReadAs (pieces_after s p) qs

-- the pieces of rows that were read, cut at a row
record ReadCut (pss : List (List Part)) (rs : List AsmRow) (r : AsmRow) (qs : List AsmRow) : Type 0 where
  before : List (List Part)
  pieces : List Part
  after : List (List Part)
  whole : pss ≡ before ++ pieces ∷ after
  front : ReadAs before rs
  read : row_of pieces ≡ Some r
  back : ReadAs after qs

-- rows that were read are cut at any of them
read_cut : (rs : List AsmRow) (r : AsmRow) (qs : List AsmRow) {pss : List (List Part)} → ReadAs pss (rs ++ r ∷ qs) → ReadCut pss rs r qs
read_cut [] r qs (one_read {ps = ps} {pss = pss} e h) = record { before = []; pieces = ps; after = pss; whole = refl; front = none_read; read = e; back = h }
read_cut (x ∷ rs) r qs (one_read {ps = ps} e h) =
    let w = read_cut rs r qs h in
    record {
      before = ps ∷ w.before;
      pieces = w.pieces;
      after = w.after;
      whole = ap (λ (l : List (List Part)). ps ∷ l) w.whole;
      front = one_read e w.front;
      read = w.read;
      back = w.back;
    }

-- a text whose rows were read is cut at a call label
pub read_parted : (s : List ℕ) (i : ℕ) (rs : List AsmRow) (p n : ℕ) (qs : List AsmRow) → ReadAs (pieces_after s i) (rs ++ LabelCall p n ∷ qs)
    → CallCut s i p rs (LabelCall p n ∷ qs)
unfolding row_of
read_parted s i rs p n qs h = let w = read_cut rs (LabelCall p n) qs h in go w w.pieces refl
  where
    go : (w : ReadCut (pieces_after s i) rs (LabelCall p n) qs) (ps : List Part) → w.pieces ≡ ps → CallCut s i p rs (LabelCall p n ∷ qs)
    go w [] e = let z : None ≡ Some (LabelCall p n) = ap row_of (sym e) ∙ w.read in let y : ◌≡◌ {A = ℕ} 0 1 = cc in absurd (omega arith)
    go w (q ∷ ps) e =
        let r : row_of (q ∷ ps) ≡ Some (LabelCall p n) = ap row_of (sym e) ∙ w.read in
        let a : q.start ≡ p = subst (StartsAt q.start) r (label_starts q ps) in
        let c = cut_pieces s i w.before q ps w.after (w.whole ∙ ap (λ (l : List Part). w.before ++ l ∷ w.after) e) in
        subst (λ (k : ℕ). CallCut s i k rs (LabelCall p n ∷ qs)) a
        record {
          later = c.later;
          within = c.within;
          front = subst (λ (pss : List (List Part)). ReadAs pss rs) (sym c.front) w.front;
          back = subst (λ (pss : List (List Part)). ReadAs pss (LabelCall p n ∷ qs)) (sym c.back) (one_read r w.back);
        }

-- where a row was read, the text has not ended
pub read_before : (s : List ℕ) (i : ℕ) (r : AsmRow) (rs : List AsmRow) → ReadAs (pieces_after s i) (r ∷ rs) → i < length s
read_before s i r rs h = go (ltb i (length s)) refl
  where
    not_read : [] ≡ r ∷ rs → ⊥
    not_read e = let z : ◌≡◌ {A = ℕ} 0 1 = cc in omega arith

    go : (t : Bool) → ltb i (length s) ≡ t → i < length s
    go true e = ltb-true i (length s) e
    go false e = absurd (not_read (sym (stretch_end s i (ltb-false i (length s) e)) ∙ read_readable h))
