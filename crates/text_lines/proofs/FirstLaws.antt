-- Laws of the first line and the first piece, one for each way out of the functions that find them.
use Prim.Native.Nat.{ℕ, ◌+◌, ◌-◌, ◌^◌, ◌<◌, ◌≤◌}
use mathlib.Core.Path.{◌≡◌, sym, ap, ◌∙◌}
use mathlib.Core.List.{List}
use mathlib.Core.Bool.{true, false}
use native.Mathlib.Omega.{arith}
use borrow.Author.Rules.{rules}
use borrow.Author.Tests.{eq-eqb, ne_eqb}
use mir.Val.{Fits}
use mir.Syntax.{w64}
use lib.ListN.{length, get_or, take, drop, drop_of_length-le}
use lib.Seq.{length-take-le, get_or-take}
use Rattle.text.specs.Bytes.{is_space}
use Rattle.text.specs.Scan.{scan}
use Rattle.text.specs.Classes.{holds}
use Rattle.text.specs.Lines.{not_feed, ends_in_return, without_return, line_length, line_next, first_line}
use Rattle.text.specs.Pieces.{not_space, piece_start, piece_length, first_piece}
use Rattle.text.specs.declared.ByteClass.TheVariants.{Space, NotSpace}
use Rattle.text.proofs.Laws.{drop_next, scan_le, part_from, within_laws}
use Rattle.text.proofs.PartLaws.{line_ended, line_last}

-- ---- the line feed that is looked for, where i bytes were passed
module _ (s : List ℕ) (i : ℕ) (e : scan not_feed s ≡ i + scan not_feed (drop i s)) where
  pub feed_more : i < length s → (get_or s i 0 ≡ 10 → ⊥) → scan not_feed s ≡ (i + 1) + scan not_feed (drop (i + 1) s)
  unfolding scan
  feed_more h f = e ∙ rw (drop_next s i h, ne_eqb (get_or s i 0) 10 f) (omega arith)

  pub feed_here : i < length s → get_or s i 0 ≡ 10 → i ≡ scan not_feed s
  unfolding scan
  feed_here h f = sym (e ∙ rw (drop_next s i h, eq-eqb (get_or s i 0) 10 f) (omega arith))

  pub feed_none : i ≤ length s → length s ≤ i → length s ≡ scan not_feed s
  unfolding scan
  feed_none h k = sym (e ∙ rw (drop_of_length-le s k) (omega arith))

pub ruleset feed_laws = (feed_more, feed_here, feed_none, rules)

-- ---- the first line

made : (s : List ℕ) (a b : ℕ) → a ≡ line_length s → b ≡ line_next s → record { length = a; next = b } ≡ first_line s
made s a b e f = cc

-- the length of the first n bytes without a carriage return at their end
return_off : (s : List ℕ) (n : ℕ) → n ≤ length s → 0 < n → get_or s (n - 1) 0 ≡ 13 → length (without_return (take n s)) ≡ n - 1
return_off s n h p e =
    let l : length (take n s) ≡ n = length-take-le n s h in
    let t : ends_in_return (take n s) ≡ true = rw (l, get_or-take n s (n - 1) 0 (omega arith), e) in
    rw (t, l) (length-take-le (n - 1) (take n s) (omega arith))

return_kept : (s : List ℕ) (n : ℕ) → n ≤ length s → 0 < n → (get_or s (n - 1) 0 ≡ 13 → ⊥) → length (without_return (take n s)) ≡ n
return_kept s n h p e =
    let l : length (take n s) ≡ n = length-take-le n s h in
    let t : ends_in_return (take n s) ≡ false = rw (l, get_or-take n s (n - 1) 0 (omega arith)) (ne_eqb _ _ e) in
    rw t l

module _ (s : List ℕ) (n : ℕ) (e : n ≡ scan not_feed s) where
  short : (n ≡ length s → ⊥) → scan not_feed s < length s
  short h = let w = scan_le not_feed s in omega arith

  pub line_whole : n ≡ length s → record { length = n; next = n } ≡ first_line s
  line_whole h = let w = line_last s (omega arith) in made s n n (e ∙ sym w.0) (e ∙ sym w.1)

  pub line_empty : (n ≡ length s → ⊥) → n ≡ 0 → record { length = 0; next = 1 } ≡ first_line s
  line_empty h z =
      let w = line_ended s (short h) in
      let k : scan not_feed s ≡ 0 = sym e ∙ z in
      made s 0 1 (sym (w.0 ∙ ap (λ (m : ℕ). length (without_return (take m s))) k)) (sym (w.1 ∙ ap (λ (m : ℕ). m + 1) k))

  pub line_return : (n ≡ length s → ⊥) → (n ≡ 0 → ⊥) → get_or s (n - 1) 0 ≡ 13 → record { length = n - 1; next = n + 1 } ≡ first_line s
  line_return h z r =
      let w = line_ended s (short h) in
      let q = short h in
      made s (n - 1) (n + 1)
      (sym (w.0 ∙ ap (λ (m : ℕ). length (without_return (take m s))) (sym e) ∙ return_off s n (omega arith) (omega arith) r))
      (sym (w.1 ∙ ap (λ (m : ℕ). m + 1) (sym e)))

  pub line_feed : (n ≡ length s → ⊥) → (n ≡ 0 → ⊥) → (get_or s (n - 1) 0 ≡ 13 → ⊥) → record { length = n; next = n + 1 } ≡ first_line s
  line_feed h z r =
      let w = line_ended s (short h) in
      let q = short h in
      made s n (n + 1)
      (sym (w.0 ∙ ap (λ (m : ℕ). length (without_return (take m s))) (sym e) ∙ return_kept s n (omega arith) (omega arith) r))
      (sym (w.1 ∙ ap (λ (m : ℕ). m + 1) (sym e)))

  pub last_within : (n ≡ 0 → ⊥) → n - 1 < length s
  last_within z = let w = scan_le not_feed s in omega arith

  pub feed_fits : (n ≡ length s → ⊥) → length s < 2 ^ 64 → Fits w64 (n + 1)
  feed_fits h f = let w = scan_le not_feed s in omega arith

pub ruleset line_laws = (line_whole, line_empty, line_return, line_feed, last_within, feed_fits, rules)

pub piece_made : (s : List ℕ) (a b : ℕ) → a ≡ scan (holds Space) s → b ≡ scan (holds NotSpace) (take (length s - a) (drop a s)) → record { start = a; length = b } ≡ first_piece s
unfolding piece_length piece_start
piece_made s a b e f =
    let g : b ≡ scan not_space (drop (scan is_space s) s) = f ∙ ap (scan not_space) (part_from a s) ∙ ap (λ (k : ℕ). scan not_space (drop k s)) e in
    cc

pub ruleset piece_laws = (piece_made, within_laws, rules)
