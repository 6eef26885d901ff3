-- The first piece and the first line lie within the text, and a line of a text that is not empty takes at least one byte.
use Rattle.std.proofs.Common.{ℕ, ◌+◌, ◌<◌, ◌≤◌, ◌≡◌, ap, ◌-◌, List, length, arith, rules}
use Rattle.text.specs.Lines.{first_line}
use Rattle.text.specs.Pieces.{first_piece}
use Rattle.text.specs.declared.Line.{Line}
use Rattle.text.specs.declared.Piece.{Piece}
use Rattle.text.proofs.PartLaws.{piece_within, line_within, line_next_more}

module _ (s : List ℕ) (p : Piece) (e : p ≡ first_piece s) where
  pub piece_fits : p.start + p.length ≤ length s
  piece_fits =
      let w = piece_within s in
      let a = ap (λ (q : Piece). q.start) e in
      let b = ap (λ (q : Piece). q.length) e in
      omega arith

  pub piece_start_fits : p.start ≤ length s
  piece_start_fits = let w = piece_fits in omega arith

pub ruleset piece_laws = (piece_start_fits, piece_fits, rules)

module _ (s : List ℕ) (l : Line) (e : l ≡ first_line s) where
  pub line_length_fits : l.length ≤ length s
  line_length_fits =
      let w = line_within s in
      let a = ap (λ (q : Line). q.length) e in
      omega arith

  pub line_next_fits : l.next ≤ length s
  line_next_fits =
      let w = line_within s in
      let b = ap (λ (q : Line). q.next) e in
      omega arith

  pub line_further : 0 < length s → length s - l.next < length s
  line_further h =
      let m = line_next_more s h in
      let b = ap (λ (q : Line). q.next) e in
      omega arith

pub ruleset line_laws = (line_length_fits, line_next_fits, line_further, rules)
