-- A first line as the bytecode writer has it: 18 bytes long, the next line at 19, and its word the number of its digits.
use Rattle.std.specs.Prelude.{Option, Some, None}
use Prim.Native.Nat.{ℕ, ◌^◌, ◌<◌, ◌≤◌}
use mathlib.Core.Path.{◌≡◌, refl, ap, subst, ◌∙◌}
use mathlib.Core.List.{List, [], ◌∷◌, ◌++◌}
use mathlib.Core.Bool.{Bool, true, false, ◌&&◌, and-eq-true_iff, cond}
use native.Mathlib.Omega.{arith}
use borrow.Author.Tests.{leb-true, eqb-true}
use lib.Dec.{eqb, leb}
use lib.ListN.{length, get_or, take, drop, length-append}
use lib.Seq.{split_at, take_at, length-take-le}
use Rattle.text.specs.Bytes.{is_digit}
use Rattle.text.specs.Scan.{scan, all}
use Rattle.text.specs.Lines.{is_feed, not_feed, without_return, line_length, line_next}
use Rattle.text.proofs.Laws.{other_byte, nowhere_among}
use Rattle.text.proofs.PartLaws.{line_ended}
use Rattle.text_read.specs.Numerals.{digit_value, is_digit_of, numeral}
use Rattle.text_read.proofs.Laws.{numeral_digits, hexadecimal_prefixed, hexadecimal_digits}
use Rattle.decoder.specs.Lines.{first_of_line, has_prefix}
use Rattle.decoder_lines.specs.WordLine.{word_line}

-- ---- `0x`, sixteen digits and a line feed
-- of bytes that pass a test that the line feed does not pass, and a line feed, the scan takes those
feed_after : (p : ℕ → Bool) → p 10 ≡ false → (l rest : List ℕ) → all p l ≡ true → scan not_feed (l ++ 10 ∷ rest) ≡ length l
unfolding scan all
feed_after p f [] rest h = refl
feed_after p f (x ∷ l) rest h =
    let a = (and-eq-true_iff (p x) (all p l)).0 h in
    rw (other_byte p x 10 a.0 f, feed_after p f l rest a.1)

-- what holds of the first line
abbrev pub Said : List ℕ → ℕ → Type 0
Said s w = (18 < length s) × (line_length s ≡ 18) × (line_next s ≡ 19) × (first_of_line (take 18 s) ≡ Some w)

module _ (d rest : List ℕ) (a : all (is_digit_of 16) d ≡ true) (n : length d ≡ 16) where
  abbrev line : List ℕ
  line = 48 ∷ 120 ∷ (d ++ 10 ∷ rest)

  line_long : 18 < length line
  line_long = let e = length-append d (10 ∷ rest) in omega arith

  line_scan : scan not_feed line ≡ 18
  unfolding scan digit_value is_digit
  line_scan = rw (feed_after (is_digit_of 16) refl d rest a, n)

  line_front : take 18 line ≡ 48 ∷ 120 ∷ d
  line_front = ap (λ (l : List ℕ). 48 ∷ 120 ∷ l) (take_at d (10 ∷ rest) 16 n)

  -- the last byte is a digit, so no carriage return
  line_return : without_return (48 ∷ 120 ∷ d) ≡ 48 ∷ 120 ∷ d
  unfolding digit_value is_digit
  line_return = rw (n, nowhere_among (is_digit_of 16) d 15 13 a refl refl)

  line_said : (w : ℕ) → numeral 16 (2 ^ 64) d ≡ Some w → Said line w
  line_said w e =
      let b : scan not_feed line < length line = rw line_scan line_long in
      let f = line_ended line b in (
        line_long,
        f.0 ∙ ap (λ (k : ℕ). length (without_return (take k line))) line_scan ∙ ap (λ (l : List ℕ). length (without_return l)) line_front
            ∙ ap length line_return ∙ rw n,
        f.1 ∙ rw line_scan,
        ap first_of_line line_front ∙ hexadecimal_prefixed (2 ^ 64) d ∙ hexadecimal_digits (2 ^ 64) d a ∙ e,
      )

-- a choice that says a word
chosen : (t : Bool) (m : Option ℕ) (w : ℕ) → cond t m None ≡ Some w → (t ≡ true) × (m ≡ Some w)
chosen true m w e = (refl, e)
chosen false m w e = let z : ◌≡◌ {A = ℕ} 0 1 = cc in absurd (omega arith)

form_said : (s : List ℕ) (w : ℕ) → 19 ≤ length s → get_or s 0 0 ≡ 48 → get_or s 1 0 ≡ 120 → get_or s 18 0 ≡ 10
    → numeral 16 (2 ^ 64) (take 16 (drop 2 s)) ≡ Some w → Said s w
form_said [] w h k l m e = absurd (omega arith)
form_said (x ∷ []) w h k l m e = absurd (omega arith)
form_said (x ∷ y ∷ t) w h k l m e =
    let f : t ≡ take 16 t ++ get_or t 16 0 ∷ drop 17 t = split_at t 16 0 (omega arith) in
    let g : 48 ∷ 120 ∷ (take 16 t ++ 10 ∷ drop 17 t) ≡ x ∷ y ∷ t = cc in
    subst (λ (s : List ℕ). Said s w) g
    (line_said (take 16 t) (drop 17 t) (numeral_digits 16 (2 ^ 64) w (take 16 t) e) (length-take-le 16 t (omega arith)) w e)

-- where it says a word, that is the first line's
pub said : (s : List ℕ) (w : ℕ) → word_line s ≡ Some w → Said s w
unfolding word_line
said s w e =
    let c = chosen (leb 19 (length s) && has_prefix s && is_feed (get_or s 18 0)) (numeral 16 (2 ^ 64) (take 16 (drop 2 s))) w e in
    let f = (and-eq-true_iff (leb 19 (length s) && has_prefix s) (is_feed (get_or s 18 0))).0 c.0 in
    let g = (and-eq-true_iff (leb 19 (length s)) (has_prefix s)).0 f.0 in
    let x = (and-eq-true_iff (eqb (get_or s 0 0) 48) (eqb (get_or s 1 0) 120)).0 g.1 in
    form_said s w (leb-true _ _ g.0) (eqb-true _ _ x.0) (eqb-true _ _ x.1) (eqb-true _ _ f.1) c.1
