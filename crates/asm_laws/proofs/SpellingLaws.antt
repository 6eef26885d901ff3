-- Document 02, Point 4: which texts are read as a number n since it, that every other text is read as it was, and that a hexadecimal number is the number
-- that the same value is in decimal, which is "the same source in decimal" of the comparison with the Rust.
use Rattle.std.specs.Prelude.{Option, Some, None}
use Prim.Native.Nat.{ℕ, suc, ◌-◌, ◌^◌, ◌<◌, ◌≤◌}
use mathlib.Core.Path.{◌≡◌, refl, sym, ap, ◌∙◌}
use mathlib.Core.List.{List, [], ◌∷◌}
use mathlib.Core.Bool.{Bool, true, false, ◌&&◌, ◌||◌, cond, and-false, or-false, and-eq-true_iff, true≢false}
use native.Mathlib.Omega.{arith}
use native.Mathlib.Nat.{lt_trans}
use borrow.Author.Tests.{lt-ltb, ltb-true, ltb-false, ne_eqb, eqb-true}
use lib.Dec.{eqb, ltb, lit<}
use lib.ListN.{length, take, drop, get_or, drop_of_length-le}
use lib.Seq.{length-take-le, get_or-take, get_or-drop}
use Rattle.text.specs.Bytes.{is_digit, is_letter, same}
use Rattle.text.specs.Scan.{scan, all, is_empty}
use Rattle.text.proofs.Laws.{both_false, nowhere_among}
use Rattle.text_read.specs.Numerals.{value_from, numeral}
use Rattle.text_read.proofs.Laws.{numeral_value, numeral_below}
use Rattle.text_write.specs.Digits.{digit_count, prefixed_text, fewest_text, sixteen_text, decimal_text}
use Rattle.text_write.proofs.Laws.{length_decimal, length_prefixed, digit_count_positive, digit_count_fewest, digit_count_enough}
use Rattle.vm_hardware.specs.Registers.{register_of, special_of}
use Rattle.vm_operands.specs.Numbers.{order, immediate, unsigned, is_minus, signed, number_of}
use Rattle.vm_operands.proofs.DigitLaws.{digits_read, digits_read_to, digits_over, decimal_digits}
use Rattle.asm.specs.Parts.{Part}
use Rattle.asm.specs.Operands.{byte_is, is_digits, hex_numeral, is_numeral, is_source_number, source_number, is_register_at, register_of_place, inner, is_bracketed, with_number, Shape, paired, bare, register, number, label, special, name, shapes, first_match, operand_of}
use Rattle.asm.specs.declared.OlaAsmOperand.TheVariants.{ImmediateOperand, RegisterWithOffset, RegisterWithFactoredRegOffset}
use Rattle.asm.specs.declared.OlaAsmOperand.{OlaAsmOperand}

-- ---- what changes, and what stays

-- every text without "`0x` and one to sixteen hexadecimal digits" is n where it was, and the number that it was
pub numbers_stay : (x : List ℕ) → is_numeral (hex_numeral x) ≡ false → (is_source_number x ≡ is_digits (unsigned x)) × (source_number x ≡ number_of x)
unfolding is_source_number source_number
numbers_stay x e = (rw e (or-false (is_digits (unsigned x))), rw e)

-- what a numeral says, where it is one
numeral_told : (n : Option ℕ) → is_numeral n ≡ true → (v : ℕ) × (n ≡ Some v)
numeral_told (Some v) e = (v, refl)
numeral_told None e = absurd (true≢false (sym e))

module _ (x : List ℕ) (e : is_numeral (hex_numeral x) ≡ true) where
  -- the value of its digits, which is below 2 ^ 64
  hex_told : (byte_is x 0 48 && byte_is x 1 120 && ltb (length x) 19 ≡ true) × (is_numeral (numeral 16 (2 ^ 64) (drop 2 x)) ≡ true)
  hex_told = go (byte_is x 0 48 && byte_is x 1 120 && ltb (length x) 19) refl e
    where
      go : (t : Bool) → byte_is x 0 48 && byte_is x 1 120 && ltb (length x) 19 ≡ t → is_numeral (cond t (numeral 16 (2 ^ 64) (drop 2 x)) None) ≡ true
          → (byte_is x 0 48 && byte_is x 1 120 && ltb (length x) 19 ≡ true) × (is_numeral (numeral 16 (2 ^ 64) (drop 2 x)) ≡ true)
      go true f g = (f, g)
      go false f g = absurd (true≢false (sym g))

  hex_value : (hex_numeral x ≡ Some (value_from 16 0 (drop 2 x))) × (value_from 16 0 (drop 2 x) < 2 ^ 64)
  hex_value =
      let n = numeral_told (numeral 16 (2 ^ 64) (drop 2 x)) hex_told.1 in
      let v : n.0 ≡ value_from 16 0 (drop 2 x) = numeral_value 16 (2 ^ 64) n.0 (drop 2 x) n.1 in
      let b : n.0 < 2 ^ 64 = numeral_below 16 (2 ^ 64) n.0 (drop 2 x) n.1 in
      (rw hex_told.0 (n.1 ∙ ap Some v), rw (← v) b)

  -- it begins with `0x`
  pub hex_first : (byte_is x 0 48 ≡ true) × (byte_is x 1 120 ≡ true)
  hex_first = (and-eq-true_iff (byte_is x 0 48) (byte_is x 1 120)).0 ((and-eq-true_iff (byte_is x 0 48 && byte_is x 1 120) (ltb (length x) 19)).0 hex_told.0).0

  -- such a text was no number
  pub newly_read : is_digits (unsigned x) ≡ false
  unfolding all is_digit
  newly_read = go x hex_first.0 hex_first.1
    where
      go : (x : List ℕ) → byte_is x 0 48 ≡ true → byte_is x 1 120 ≡ true → is_digits (unsigned x) ≡ false
      go [] f g = refl
      go (a ∷ []) f g = absurd (true≢false (sym g))
      go (a ∷ b ∷ l) f g = rw (eqb-true a 48 f, eqb-true b 120 g)

-- ---- a number below 2 ^ 64 in decimal
module _ (v : ℕ) (h : v < 2 ^ 64) where
  -- its digits suffice
  enough : v < 10 ^ digit_count 10 63 v
  enough = digit_count_enough 10 63 v (omega arith) (lt_trans h (lit< tt))

  -- it is digits
  pub all_digits : all is_digit (decimal_text v) ≡ true
  all_digits = decimal_digits (digit_count 10 63 v) v

  -- no sign and no `x` stands among them
  no_minus : is_minus (decimal_text v) ≡ false
  unfolding is_digit
  no_minus = nowhere_among is_digit (decimal_text v) 0 45 all_digits refl refl

  no_plus : eqb (get_or (decimal_text v) 0 0) 43 ≡ false
  unfolding is_digit
  no_plus = nowhere_among is_digit (decimal_text v) 0 43 all_digits refl refl

  no_x : byte_is (decimal_text v) 1 120 ≡ false
  unfolding is_digit
  no_x = nowhere_among is_digit (decimal_text v) 1 120 all_digits refl refl

  -- at least one
  pub some_digit : is_empty (decimal_text v) ≡ false
  some_digit = go (decimal_text v) (let l = length_decimal v in let p = digit_count_positive 10 63 v in omega arith)
    where
      go : (l : List ℕ) → 1 ≤ length l → is_empty l ≡ false
      go [] k = absurd (omega arith)
      go (x ∷ l) k = refl

  -- it is n
  pub written_number : is_source_number (decimal_text v) ≡ true
  unfolding is_source_number
  written_number = rw (no_minus, no_plus, some_digit, all_digits)

  -- and what it is goes by its value
  written_value : source_number (decimal_text v) ≡ signed false (Some v)
  unfolding source_number number_of signed
  written_value = rw (no_x, and-false (byte_is (decimal_text v) 0 48), no_minus, no_plus) (go (ltb v order) refl)
    where
      go : (t : Bool) → ltb v order ≡ t → signed false (numeral 10 order (decimal_text v)) ≡ signed false (Some v)
      go true f = ap (signed false) (digits_read_to 10 (omega arith) (omega arith) (digit_count 10 63 v) v order (digit_count_positive 10 63 v) enough (ltb-true v order f))
      go false f = ap (signed false) (digits_over 10 (omega arith) (omega arith) (digit_count 10 63 v) v order enough (ltb-false v order f)) ∙ sym (rw f)

-- ---- the two spellings

-- A hexadecimal number, in either case, with zeros in front, from p on too, is what its value is in decimal.
pub spellings_agree : (x : List ℕ) → is_numeral (hex_numeral x) ≡ true → let d = decimal_text (value_from 16 0 (drop 2 x)) in (is_source_number d ≡ true) × (source_number x ≡ source_number d)
unfolding source_number
spellings_agree x e =
    let h = hex_value x e in
    let a : source_number x ≡ signed false (Some (value_from 16 0 (drop 2 x))) = rw e (ap (signed false) h.0) in
    (written_number (value_from 16 0 (drop 2 x)) h.1, a ∙ sym (written_value (value_from 16 0 (drop 2 x)) h.1))

-- What is printed as `0x` and up to sixteen digits, and the decimal text, is read as itself,
pub printed_reads : (n v : ℕ) → 1 ≤ n → n ≤ 16 → v < 16 ^ n → v < order → (source_number (prefixed_text n v) ≡ Some (immediate v)) × (source_number (decimal_text v) ≡ Some (immediate v))
unfolding source_number signed
printed_reads n v some most h k =
    let w : v < 2 ^ 64 = lt_trans k (lit< tt) in
    let l = length_prefixed n v in
    let s : ltb (length (prefixed_text n v)) 19 ≡ true = lt-ltb (length (prefixed_text n v)) 19 (omega arith) in
    let r : hex_numeral (prefixed_text n v) ≡ Some v = rw s (digits_read n v (2 ^ 64) some h w) in
    (rw (r, lt-ltb v order k), written_value v w ∙ rw (lt-ltb v order k))

-- so what the bytecode prints, a number or a word below p, can be pasted as it stands
pub pasted_reads : (v : ℕ) → v < order → (source_number (fewest_text v) ≡ Some (immediate v)) × (source_number (sixteen_text v) ≡ Some (immediate v))
pasted_reads v k =
    let w : v < 2 ^ 64 = lt_trans k (lit< tt) in
    let m = digit_count_fewest 16 63 15 v (omega arith) w in
    let e = digit_count_enough 16 63 v (omega arith) (lt_trans w (lit< tt)) in
    ((printed_reads (digit_count 16 63 v) v (digit_count_positive 16 63 v) m e k).0, (printed_reads 16 v (omega arith) (omega arith) w k).0)

-- ---- pieces

-- what stands before n in brackets
abbrev pub before_factor : List ℕ → Bool
before_factor x = is_bracketed x && is_register_at x 1 && byte_is x 3 44 && is_register_at x 4 && byte_is x 6 44

abbrev pub before_offset : List ℕ → Bool
before_offset x = is_bracketed x && is_register_at x 1 && byte_is x 3 44

-- n of a shape in decimal alone, as 01 has it
abbrev pub decimal_factored : Shape
decimal_factored = record {
  fits = λ x. before_factor x && is_digits (unsigned (inner x 7));
  means = λ q. with_number (λ v. RegisterWithFactoredRegOffset (register_of_place q.text 1) (register_of_place q.text 4) v) (number_of (inner q.text 7));
}

abbrev pub decimal_offset : Shape
decimal_offset = record {
  fits = λ x. before_offset x && is_digits (unsigned (inner x 4));
  means = λ q. with_number (λ v. RegisterWithOffset (register_of_place q.text 1) v) (number_of (inner q.text 4));
}

abbrev pub decimal_number : Shape
decimal_number = record { fits = λ x. is_digits (unsigned x); means = λ q. with_number ImmediateOperand (number_of q.text) }

-- the shapes so
abbrev pub decimal_shapes : List Shape
decimal_shapes = decimal_factored ∷ paired ∷ bare ∷ decimal_offset ∷ register ∷ decimal_number ∷ label ∷ special ∷ name ∷ []

-- a piece whose n is hexadecimal
abbrev pub has_hexadecimal : List ℕ → Bool
has_hexadecimal x = before_factor x && is_numeral (hex_numeral (inner x 7)) || before_offset x && is_numeral (hex_numeral (inner x 4)) || is_numeral (hex_numeral x)

-- of two shapes that differ in n alone, where the first has no hexadecimal one
narrowed : (p d h : Bool) (a b c e : Option OlaAsmOperand) → p && h ≡ false → (h ≡ false → a ≡ b) → c ≡ e → cond (p && (d || h)) a c ≡ cond (p && d) b e
narrowed false d h a b c e k f g = g
narrowed true d true a b c e k f g = absurd (true≢false k)
narrowed true true false a b c e k f g = f refl
narrowed true false false a b c e k f g = g

module _ (q : Part) where
  behind : (s : Shape) (c e : Option OlaAsmOperand) → c ≡ e → cond (s.fits q.text) (s.means q) c ≡ cond (s.fits q.text) (s.means q) e
  behind s c e h = ap (λ (r : Option OlaAsmOperand). cond (s.fits q.text) (s.means q) r) h

  -- every other piece is read as it was,
  pub pieces_stay : has_hexadecimal q.text ≡ false → operand_of q ≡ first_match decimal_shapes q
  unfolding is_source_number shapes first_match
  pieces_stay e =
      let a = both_false (before_factor q.text && is_numeral (hex_numeral (inner q.text 7)) || before_offset q.text && is_numeral (hex_numeral (inner q.text 4))) (is_numeral (hex_numeral q.text)) e in
      let b = both_false (before_factor q.text && is_numeral (hex_numeral (inner q.text 7))) (before_offset q.text && is_numeral (hex_numeral (inner q.text 4))) a.0 in
      narrowed (before_factor q.text) _ _ _ _ _ _ b.0 (λ k. ap (with_number _) (numbers_stay (inner q.text 7) k).1)
      (behind paired _ _
      (behind bare _ _
      (narrowed (before_offset q.text) _ _ _ _ _ _ b.1 (λ k. ap (with_number _) (numbers_stay (inner q.text 4) k).1)
      (behind register _ _
      (narrowed true (is_digits (unsigned q.text)) (is_numeral (hex_numeral q.text)) (number.means q) (decimal_number.means q) rest rest a.1
      (λ k. ap (with_number ImmediateOperand) (numbers_stay q.text k).1) refl)))))
    where
      rest : Option OlaAsmOperand
      rest = first_match (label ∷ special ∷ name ∷ []) q

-- the first byte of what stands in brackets from place k on is the byte there
pub inner_first : (x : List ℕ) (k : ℕ) → k < length x - 1 → get_or (inner x k) 0 0 ≡ get_or x k 0
inner_first x k h = get_or-drop k (take (length x - 1) x) 0 0 ∙ ap (λ (i : ℕ). get_or (take (length x - 1) x) i 0) (omega arith) ∙ get_or-take (length x - 1) x k 0 h

-- and there is one, where anything stands there
pub inner_some : (x : List ℕ) (k : ℕ) → (inner x k ≡ [] → ⊥) → k < length x - 1
inner_some x k e = go (ltb k (length x - 1)) refl
  where
    go : (t : Bool) → ltb k (length x - 1) ≡ t → k < length x - 1
    go true f = ltb-true k (length x - 1) f
    go false f =
        let l : length (take (length x - 1) x) ≤ k = let m = length-take-le (length x - 1) x (omega arith) in let n = ltb-false k (length x - 1) f in omega arith in
        absurd (e (drop_of_length-le (take (length x - 1) x) l))

inner_there : (x : List ℕ) (k : ℕ) → byte_is (inner x k) 0 48 ≡ true → k < length x - 1
inner_there x k e = inner_some x k (λ z. true≢false (sym e ∙ ap (λ (y : List ℕ). byte_is y 0 48) z))

-- no digits behind a letter `r`
no_digits : (y : List ℕ) → get_or y 0 0 ≡ 114 → is_digits (unsigned y) ≡ false
unfolding all is_digit
no_digits [] h = refl
no_digits (b ∷ y) h = rw h

-- a piece in brackets has no shape behind those in brackets
bracketed_else : (n : ℕ) (x : List ℕ) → byte_is x 0 91 ≡ true → first_match (register ∷ decimal_number ∷ label ∷ special ∷ name ∷ []) (record { start = n; text = x }) ≡ None
unfolding first_match register_of special_of same is_digit is_letter all scan
bracketed_else n [] e = absurd (true≢false (sym e))
bracketed_else n (b ∷ x) e = rw (eqb-true b 91 e, and-false (eqb (suc (length x)) 2))

-- a piece that is a hexadecimal number has none of these shapes
hexadecimal_else : (n : ℕ) (x : List ℕ) → byte_is x 0 48 ≡ true → byte_is x 1 120 ≡ true → first_match decimal_shapes (record { start = n; text = x }) ≡ None
unfolding first_match register_of special_of same is_digit is_letter all scan
hexadecimal_else n [] e f = absurd (true≢false (sym e))
hexadecimal_else n (a ∷ []) e f = absurd (true≢false (sym f))
hexadecimal_else n (a ∷ b ∷ x) e f = rw (eqb-true a 48 e, eqb-true b 120 f, and-false (eqb (suc (suc (length x))) 2))

module _ (q : Part) where
  -- the shapes in brackets, one after another, and then none
  none_fits : decimal_factored.fits q.text ≡ false → paired.fits q.text ≡ false → bare.fits q.text ≡ false → decimal_offset.fits q.text ≡ false
      → is_bracketed q.text ≡ true → first_match decimal_shapes q ≡ None
  unfolding first_match
  none_fits f p b o e =
      rw (f, p, b, o) (bracketed_else q.start q.text ((and-eq-true_iff (byte_is q.text 0 91) (byte_is q.text (length q.text - 1) 93)).0 e).0)

  -- with a hexadecimal offset
  offset_was : before_offset q.text ≡ true → is_numeral (hex_numeral (inner q.text 4)) ≡ true → first_match decimal_shapes q ≡ None
  offset_was p h =
      let x = hex_first (inner q.text 4) h in
      let l : 4 < length q.text - 1 = inner_there q.text 4 x.0 in
      let c : get_or q.text 4 0 ≡ 48 = sym (inner_first q.text 4 l) ∙ eqb-true _ 48 x.0 in
      let r : byte_is q.text 4 114 ≡ false = rw c in
      let b = ((and-eq-true_iff (is_bracketed q.text && is_register_at q.text 1) (byte_is q.text 3 44)).0 p).0 in
      none_fits
      (rw (r, and-false (before_offset q.text)))
      (rw (r, and-false (before_offset q.text)))
      (rw (ne_eqb (length q.text) 4 (λ z. omega arith), and-false (is_bracketed q.text && is_register_at q.text 1)))
      (rw (newly_read (inner q.text 4) h, and-false (before_offset q.text)))
      ((and-eq-true_iff (is_bracketed q.text) (is_register_at q.text 1)).0 b).0

  -- with a hexadecimal factor
  factor_was : before_factor q.text ≡ true → is_numeral (hex_numeral (inner q.text 7)) ≡ true → first_match decimal_shapes q ≡ None
  factor_was p h =
      let x = hex_first (inner q.text 7) h in
      let l : 7 < length q.text - 1 = inner_there q.text 7 x.0 in
      let a = ((and-eq-true_iff (before_offset q.text && is_register_at q.text 4) (byte_is q.text 6 44)).0 p).0 in
      let s = (and-eq-true_iff (before_offset q.text) (is_register_at q.text 4)).0 a in
      let r : get_or q.text 4 0 ≡ 114 = eqb-true _ 114 ((and-eq-true_iff (byte_is q.text 4 114) (is_digit (get_or q.text 5 0))).0 s.1).0 in
      let b = ((and-eq-true_iff (is_bracketed q.text && is_register_at q.text 1) (byte_is q.text 3 44)).0 s.0).0 in
      none_fits
      (rw (newly_read (inner q.text 7) h, and-false (before_factor q.text)))
      (rw (ne_eqb (length q.text) 7 (λ z. omega arith), and-false (before_offset q.text && is_register_at q.text 4)))
      (rw (ne_eqb (length q.text) 4 (λ z. omega arith), and-false (is_bracketed q.text && is_register_at q.text 1)))
      (rw (no_digits (inner q.text 4) (inner_first q.text 4 (omega arith) ∙ r), and-false (before_offset q.text)))
      ((and-eq-true_iff (is_bracketed q.text) (is_register_at q.text 1)).0 b).0

  -- and one with a hexadecimal n was unreadable
  pub pieces_were : has_hexadecimal q.text ≡ true → first_match decimal_shapes q ≡ None
  pieces_were e = go (before_factor q.text && is_numeral (hex_numeral (inner q.text 7))) refl (before_offset q.text && is_numeral (hex_numeral (inner q.text 4))) refl e
    where
      go : (t : Bool) → before_factor q.text && is_numeral (hex_numeral (inner q.text 7)) ≡ t → (u : Bool) → before_offset q.text && is_numeral (hex_numeral (inner q.text 4)) ≡ u
          → t || u || is_numeral (hex_numeral q.text) ≡ true → first_match decimal_shapes q ≡ None
      go true a u b f = let w = (and-eq-true_iff (before_factor q.text) (is_numeral (hex_numeral (inner q.text 7)))).0 a in factor_was w.0 w.1
      go false a true b f = let w = (and-eq-true_iff (before_offset q.text) (is_numeral (hex_numeral (inner q.text 4)))).0 b in offset_was w.0 w.1
      go false a false b f = let w = hex_first q.text f in hexadecimal_else q.start q.text w.0 w.1
