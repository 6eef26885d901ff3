-- Laws of the row reader: the pieces of a row one after another, and its operands.
use Rattle.std.specs.Prelude.{Option, Some, None}
use Prim.Native.Nat.{ℕ, ◌+◌, ◌-◌, ◌^◌, ◌<◌, ◌≤◌}
use mathlib.Core.Path.{◌≡◌, refl, sym, ap, ◌∙◌}
use mathlib.Core.List.{List, [], ◌∷◌, ◌++◌, append_assoc}
use mathlib.Core.Bool.{Bool, true, false}
use native.Mathlib.Omega.{arith}
use borrow.Author.Rules.{rules}
use borrow.Author.Tests.{eqb-true, eqb-false}
use mir.Val.{Fits}
use mir.Syntax.{w64}
use lib.Dec.{eqb}
use lib.ListN.{length, take, drop, length-drop}
use lib.Seq.{length-take-le}
use Rattle.std.specs.Option.{option_or}
use Rattle.text.specs.Pieces.{piece_start, piece_length, first_piece}
use Rattle.text.specs.declared.Piece.{Piece}
use Rattle.text.proofs.PartLaws.{piece_within}
use Rattle.asm.specs.Parts.{Part, pieces_from}
use Rattle.asm.specs.Operands.{operand_of}
use Rattle.asm.specs.Rows.{arranged, arranged_if, one_operand_more, operands_of, label_row, or_else_row}
use Rattle.asm.specs.declared.OlaAsmOperand.{OlaAsmOperand}
use Rattle.asm_laws.proofs.PieceLaws.{pieces_end, pieces_next}
use Rattle.asm.specs.declared.AsmRow.{AsmRow}
use Rattle.vm_opcodes.specs.Operations.{row_places}
use Rattle.vm_opcodes.specs.declared.OlaOpcode.{OlaOpcode}
use Rattle.vm_opcodes.specs.declared.RowPlaces.{RowPlaces}
use Rattle.vm_opcodes.specs.declared.RowPlaces.TheVariants.{DstOp0Op1, DstOp1, DstMemory, MemoryDst, Op0Op1, Op1, Bare}
use Rattle.asm_rows.specs.Found.{piece_at, as_operand, next_operand, row_given}

-- ---- a piece

-- what stands in a text from start to end, as the code's `&l[start..end]` has it
abbrev pub cut : List ℕ → ℕ → ℕ → Part
cut l start end = record { start = start; text = take (end - start) (drop start l) }

-- the first piece of what stands in a text from place i on
pub piece_fits : (l r : List ℕ) (i : ℕ) (p : Piece) → r ≡ drop i l → i < 2 ^ 64 → length l < 2 ^ 64 → p ≡ first_piece r → Fits w64 (i + p.start)
piece_fits l r i p k h f e =
    let d : p.start ≡ piece_start (drop i l) = ap (λ (q : Piece). q.start) (e ∙ ap first_piece k) in
    let w = piece_within (drop i l) in
    let n = length-drop i l in
    omega arith

-- which is that of the text, its start counted from the text's
pub piece_from : (l r : List ℕ) (i : ℕ) (p : Piece) → r ≡ drop i l → p ≡ first_piece r → record { start = i + p.start; length = p.length } ≡ piece_at l i
unfolding piece_at
piece_from l r i p k e = ap (λ (q : Piece). record { start = i + q.start; length = q.length }) (e ∙ ap first_piece k)

module _ (l : List ℕ) (i : ℕ) (p : Piece) (e : p ≡ piece_at l i) where
  starts : p.start ≡ i + piece_start (drop i l)
  unfolding piece_at
  starts = ap (λ (q : Piece). q.start) e

  counts : p.length ≡ piece_length (drop i l)
  unfolding piece_at
  counts = ap (λ (q : Piece). q.length) e

  -- a piece that is not empty lies within the text
  pub piece_ends : (p.length ≡ 0 → ⊥) → p.start + p.length ≤ length l
  piece_ends h =
      let a = starts in
      let b = counts in
      let w = piece_within (drop i l) in
      let k = length-drop i l in
      omega arith

  pub end_fits : (p.length ≡ 0 → ⊥) → length l < 2 ^ 64 → Fits w64 (p.start + p.length)
  end_fits h f = let w = piece_ends h in omega arith

  -- an empty one is none
  pub no_piece : p.length ≡ 0 → pieces_from i (drop i l) ≡ []
  no_piece h = pieces_end l i (sym counts ∙ h)

  -- otherwise it is the first
  pub first_piece_lem : (p.length ≡ 0 → ⊥) → pieces_from i (drop i l) ≡ cut l p.start (p.start + p.length) ∷ pieces_from (p.start + p.length) (drop (p.start + p.length) l)
  first_piece_lem h =
      let b = counts in
      pieces_next l i p.start (p.start + p.length) starts (ap (λ (n : ℕ). p.start + n) counts) (omega arith)

  cut_length : (p.length ≡ 0 → ⊥) → p.start + length (cut l p.start (p.start + p.length)).text ≡ p.start + p.length
  cut_length h =
      let w = piece_ends h in
      let k = length-drop p.start l in
      let n : length (take (p.start + p.length - p.start) (drop p.start l)) ≡ p.start + p.length - p.start = length-take-le (p.start + p.length - p.start) (drop p.start l) (omega arith) in
      omega arith

  pub operand_end : p.length ≡ 0 → Some None ≡ next_operand (pieces_from i (drop i l))
  operand_end h = rw (no_piece h)

  module _ (r : Option OlaAsmOperand) (h : p.length ≡ 0 → ⊥) (f : r ≡ operand_of (cut l p.start (p.start + p.length))) where
    operand_told : next_operand (pieces_from i (drop i l)) ≡ as_operand r (p.start + p.length)
    operand_told = ap next_operand (first_piece_lem h) ∙ rw (sym f, cut_length h)

    pub operand_is : (o : OlaAsmOperand) → r ≡ Some o → Some (Some (o, p.start + p.length)) ≡ next_operand (pieces_from i (drop i l))
    operand_is o g = sym (operand_told ∙ rw g)

    pub operand_bad : r ≡ None → None ≡ next_operand (pieces_from i (drop i l))
    operand_bad g = sym (operand_told ∙ rw g)

pub ruleset next_laws = (piece_ends, end_fits, operand_end, operand_is, operand_bad, rules)

-- ---- operands

-- what the pieces after the first are
follows : (l : List ℕ) (i : ℕ) (q : Part) (qs : List Part) → pieces_from i (drop i l) ≡ q ∷ qs → qs ≡ pieces_from (q.start + length q.text) (drop (q.start + length q.text) l)
follows l i q qs e = go (eqb (piece_at l i).length 0) refl
  where
    p : Piece
    p = piece_at l i

    go : (t : Bool) → eqb p.length 0 ≡ t → qs ≡ pieces_from (q.start + length q.text) (drop (q.start + length q.text) l)
    go true f = let z : [] ≡ q ∷ qs = sym (no_piece l i p refl (eqb-true _ _ f)) ∙ e in absurd (omega (arith, ap length z))
    go false f =
        let h : p.length ≡ 0 → ⊥ = eqb-false _ _ f in
        let g : cut l p.start (p.start + p.length) ∷ pieces_from (p.start + p.length) (drop (p.start + p.length) l) ≡ q ∷ qs = sym (first_piece_lem l i p refl h) ∙ e in
        let a : cut l p.start (p.start + p.length) ≡ q = cc in
        let b : pieces_from (p.start + p.length) (drop (p.start + p.length) l) ≡ qs = cc in
        let n : p.start + p.length ≡ q.start + length q.text = sym (cut_length l i p refl h) ∙ ap (λ (x : Part). x.start + length x.text) a in
        sym b ∙ ap (λ (k : ℕ). pieces_from k (drop k l)) n

-- those already read before those that follow
abbrev pub ahead : List OlaAsmOperand → Option (List OlaAsmOperand) → Option (List OlaAsmOperand)
ahead xs None = None
ahead xs (Some os) = Some (xs ++ os)

-- the row of an operation, of the operands already read and of the pieces from place i on
unfoldable pub row_after : OlaOpcode → List OlaAsmOperand → List ℕ → ℕ → Option AsmRow
row_after o xs l i = arranged_if (Some o) (ahead xs (operands_of (pieces_from i (drop i l))))

module _ (l : List ℕ) (i : ℕ) (r : Option (Option (OlaAsmOperand × ℕ))) (e : r ≡ next_operand (pieces_from i (drop i l))) where
  ended : r ≡ Some None → pieces_from i (drop i l) ≡ []
  ended f = go (pieces_from i (drop i l)) (sym e ∙ f)
    where
      go : (ps : List Part) → next_operand ps ≡ Some None → ps ≡ []
      go [] h = refl
      go (q ∷ qs) h = other (operand_of q) h
        where
          other : (o : Option OlaAsmOperand) → as_operand o (q.start + length q.text) ≡ Some None → q ∷ qs ≡ []
          other (Some o) k = cc
          other None k = cc

  unread : r ≡ None → operands_of (pieces_from i (drop i l)) ≡ None
  unfolding operands_of
  unread f = go (pieces_from i (drop i l)) (sym e ∙ f)
    where
      go : (ps : List Part) → next_operand ps ≡ None → operands_of ps ≡ None
      go [] h = cc
      go (q ∷ qs) h = other (operand_of q) refl h
        where
          other : (o : Option OlaAsmOperand) → operand_of q ≡ o → as_operand o (q.start + length q.text) ≡ None → one_operand_more (operand_of q) (operands_of qs) ≡ None
          other (Some o) g k = cc
          other None g k = rw g

  more : (o : OlaAsmOperand) (next : ℕ) → r ≡ Some (Some (o, next)) → operands_of (pieces_from i (drop i l)) ≡ one_operand_more (Some o) (operands_of (pieces_from next (drop next l)))
  unfolding operands_of
  more o next f = go (pieces_from i (drop i l)) refl (sym e ∙ f)
    where
      go : (ps : List Part) → pieces_from i (drop i l) ≡ ps → next_operand ps ≡ Some (Some (o, next)) → operands_of ps ≡ one_operand_more (Some o) (operands_of (pieces_from next (drop next l)))
      go [] g h = cc
      go (q ∷ qs) g h = other (operand_of q) refl h
        where
          other : (x : Option OlaAsmOperand) → operand_of q ≡ x → as_operand x (q.start + length q.text) ≡ Some (Some (o, next)) → one_operand_more (operand_of q) (operands_of qs) ≡ one_operand_more (Some o) (operands_of (pieces_from next (drop next l)))
          other (Some y) k m =
              let w : ◌≡◌ {A = OlaAsmOperand × ℕ} (y, q.start + length q.text) (o, next) = cc in
              let a : y ≡ o = ap (λ (u : OlaAsmOperand × ℕ). u.0) w in
              let b : q.start + length q.text ≡ next = ap (λ (u : OlaAsmOperand × ℕ). u.1) w in
              rw (k, a, follows l i q qs g, b)
          other None k m = cc

  -- a row ends after the operands already read
  module _ (f : r ≡ Some None) (o : OlaOpcode) (x : Option AsmRow) where
    pub one_end : (a : OlaAsmOperand) → x ≡ arranged_if (Some o) (Some (a ∷ [])) → x ≡ row_after o (a ∷ []) l i
    unfolding row_after operands_of
    one_end a g = rw (ended f) g

    pub two_end : (a b : OlaAsmOperand) → x ≡ arranged_if (Some o) (Some (a ∷ b ∷ [])) → x ≡ row_after o (a ∷ b ∷ []) l i
    unfolding row_after operands_of
    two_end a b g = rw (ended f) g

  pub any_bad : r ≡ None → (o : OlaOpcode) (xs : List OlaAsmOperand) → None ≡ row_after o xs l i
  unfolding row_after arranged_if
  any_bad f o xs = rw (unread f)

  module _ (o : OlaAsmOperand) (next : ℕ) (f : Option (OlaAsmOperand × ℕ)) (g : f ≡ Some (o, next)) (h : r ≡ Some f) (p : OlaOpcode) where
    -- an operand more is one more of those already read
    carried : (xs : List OlaAsmOperand) → row_after p (xs ++ o ∷ []) l next ≡ row_after p xs l i
    unfolding row_after
    carried xs = ap (λ (os : Option (List OlaAsmOperand)). arranged_if (Some p) os) (go (operands_of (pieces_from next (drop next l))) ∙ ap (ahead xs) (sym (more o next (h ∙ ap Some g))))
      where
        go : (os : Option (List OlaAsmOperand)) → ahead (xs ++ o ∷ []) os ≡ ahead xs (one_operand_more (Some o) os)
        go None = refl
        go (Some os) = ap Some (append_assoc xs (o ∷ []) os)

    module _ (x : Option AsmRow) where
      pub after_first : (a : OlaAsmOperand) → x ≡ row_after p (a ∷ o ∷ []) l next → x ≡ row_after p (a ∷ []) l i
      after_first a k = k ∙ carried (a ∷ [])

      pub after_second : (a b : OlaAsmOperand) → x ≡ row_after p (a ∷ b ∷ o ∷ []) l next → x ≡ row_after p (a ∷ b ∷ []) l i
      after_second a b k = k ∙ carried (a ∷ b ∷ [])

  -- the row of a first piece and of those from place i on
  module _ (o : OlaOpcode) (q : Part) where
    -- the first piece alone: a label, or its operation without operands
    pub row_alone : r ≡ Some None → (f g x : Option AsmRow) → f ≡ or_else_row (label_row q) None → g ≡ arranged_if (Some o) (Some []) → x ≡ option_or f g → x ≡ row_given (Some o) q (pieces_from i (drop i l))
    row_alone h f g x j k m = rw (ended h) (m ∙ ap (λ (y : Option AsmRow). option_or y g) j ∙ go (label_row q) ∙ ap (or_else_row (label_row q)) k)
      where
        go : (y : Option AsmRow) → option_or (or_else_row y None) g ≡ or_else_row y g
        go (Some y) = refl
        go None = refl

    some_row : (r ≡ Some None → ⊥) → row_after o [] l i ≡ row_given (Some o) q (pieces_from i (drop i l))
    unfolding row_after
    some_row h = go (pieces_from i (drop i l)) (λ z. h (e ∙ ap next_operand z))
      where
        go : (ps : List Part) → (ps ≡ [] → ⊥) → arranged_if (Some o) (ahead [] (operands_of ps)) ≡ row_given (Some o) q ps
        go [] k = absurd (k refl)
        go (p ∷ ps) k = ap (λ (os : Option (List OlaAsmOperand)). arranged_if (Some o) os) (same (operands_of (p ∷ ps)))
          where
            same : (os : Option (List OlaAsmOperand)) → ahead [] os ≡ os
            same None = refl
            same (Some os) = refl

    pub row_bad : r ≡ None → None ≡ row_given (Some o) q (pieces_from i (drop i l))
    row_bad f = any_bad f o [] ∙ some_row (λ z. cc)

    pub row_more : (a : OlaAsmOperand) (next : ℕ) (f : Option (OlaAsmOperand × ℕ)) → f ≡ Some (a, next) → r ≡ Some f → (x : Option AsmRow) → x ≡ row_after o (a ∷ []) l next → x ≡ row_given (Some o) q (pieces_from i (drop i l))
    row_more a next f g h x k = k ∙ carried a next f g h o [] ∙ some_row (λ z. cc)

-- no row has a fourth operand
four : (o : OlaOpcode) (p : RowPlaces) (a b c d : OlaAsmOperand) (os : List OlaAsmOperand) → None ≡ arranged o p (a ∷ b ∷ c ∷ d ∷ os)
unfolding arranged
four o DstOp0Op1 a b c d os = refl
four o DstOp1 a b c d os = refl
four o DstMemory a b c d os = refl
four o MemoryDst a b c d os = refl
four o Op0Op1 a b c d os = refl
four o Op1 a b c d os = refl
four o Bare a b c d os = refl

module _ (l : List ℕ) (i : ℕ) (p : Piece) (e : p ≡ piece_at l i) (o : OlaOpcode) (a b c : OlaAsmOperand) where
  pub three_end : p.length ≡ 0 → (x : Option AsmRow) → x ≡ arranged_if (Some o) (Some (a ∷ b ∷ c ∷ [])) → x ≡ row_after o (a ∷ b ∷ c ∷ []) l i
  unfolding row_after operands_of
  three_end h x g = rw (no_piece l i p e h) g

  pub fourth : (p.length ≡ 0 → ⊥) → None ≡ row_after o (a ∷ b ∷ c ∷ []) l i
  unfolding row_after operands_of arranged_if
  fourth h = rw (first_piece_lem l i p e h) (go (operand_of (cut l p.start (p.start + p.length))) (operands_of (pieces_from (p.start + p.length) (drop (p.start + p.length) l))))
    where
      go : (x : Option OlaAsmOperand) (os : Option (List OlaAsmOperand)) → None ≡ arranged_if (Some o) (ahead (a ∷ b ∷ c ∷ []) (one_operand_more x os))
      go None os = refl
      go (Some d) None = refl
      go (Some d) (Some os) = four o (row_places o) a b c d os

pub ruleset operand_laws = (one_end, two_end, any_bad, after_first, after_second, row_alone, row_bad, row_more, three_end, fourth, rules)
