-- What the functions that shapes are made of find, one law for each way out.
use Rattle.std.specs.Prelude.{Option, Some, None, Result, Ok}
use Prim.Native.Nat.{ℕ, suc, ◌+◌, ◌-◌, ◌<◌, ◌≤◌}
use mathlib.Core.Path.{◌≡◌, refl, sym, ap, ◌∙◌}
use mathlib.Core.List.{List, [], ◌∷◌}
use mathlib.Core.Bool.{Bool, true, false, not, ◌&&◌, cond, and-false, or-true, or-false}
use native.Mathlib.Omega.{arith}
use borrow.Author.Rules.{rules}
use borrow.Author.Tests.{lt-ltb, eq-eqb, ne_eqb}
use lib.Dec.{eqb, ltb}
use lib.ListN.{length, get_or, take, drop, length-drop, get_or-eq_default}
use Rattle.std.specs.List.{slice_range}
use lib.Seq.{length-take-le, get_or-take, get_or-drop, drop-drop}
use Rattle.text.specs.Bytes.{is_digit, is_letter, is_word}
use Rattle.text.specs.Scan.{scan, all}
use Rattle.text.specs.Classes.{holds}
use Rattle.text.specs.declared.ByteClass.TheVariants.{Digit, Letter, Word, Is as IsByte}
use Rattle.text.proofs.Laws.{scan_all, all_scan, part_from, scan_within, told_not_true, told_not_false}
use Rattle.text_read.specs.Numerals.{decimal}
use Rattle.vm_hardware.specs.Registers.{register_of}
use Rattle.vm_operands.specs.Numbers.{order, is_minus, unsigned, signed, number_of}
use Rattle.vm_operands.specs.declared.ImmediateValue.{ImmediateValue}
use Rattle.asm.specs.Operands.{byte_is, is_digits, is_pair, is_name, hex_numeral, is_source_number, source_number}
use Rattle.asm_shapes.specs.Shapes.{register_found_at, in_range, source_number_of}
use Rattle.asm_shapes.specs.declared.OutOfRange.{OutOfRange}
use Rattle.vm_hardware.specs.declared.OlaRegister.{OlaRegister}

-- past the end stands 0
past : (x : List ℕ) (k : ℕ) → length x ≤ k → get_or x k 0 ≡ 0
past x k h = get_or-eq_default x 0 h

-- all bytes pass where the scan reaches the end, and only there
all_by_scan : (p : ℕ → Bool) (x : List ℕ) → eqb (scan p x) (length x) ≡ all p x
all_by_scan p x = go (all p x) refl
  where
    go : (t : Bool) → all p x ≡ t → eqb (scan p x) (length x) ≡ t
    go true e = eq-eqb _ _ (scan_all p x e)
    go false e = ne_eqb _ _ (λ q. let h = all_scan p x q in let z : ◌≡◌ {A = ℕ} 0 1 = cc in omega arith)

-- where no digit was scanned these are no digits
pub digits_none : (x : List ℕ) (n : ℕ) → n ≡ scan (holds Digit) x → n ≡ 0 → not (eqb n 0) ≡ is_digits x
digits_none [] n e h = rw h
digits_none (y ∷ ys) n e h = rw h (sym (ne_eqb (scan is_digit (y ∷ ys)) (suc (length ys)) (λ q. omega arith)) ∙ all_by_scan is_digit (y ∷ ys))

-- where one was, they are digits exactly where the scan reached the end
pub digits_all : (x : List ℕ) (n : ℕ) → n ≡ scan (holds Digit) x → (n ≡ 0 → ⊥) → eqb n (length x) ≡ is_digits x
unfolding scan
digits_all [] n e h = absurd (h e)
digits_all (y ∷ ys) n e h = ap (λ (k : ℕ). eqb k (suc (length ys))) e ∙ all_by_scan is_digit (y ∷ ys)

pub ruleset digits_laws = (digits_none, digits_all)

-- the first byte of what stands from place k on
first_from : (x : List ℕ) (k : ℕ) → get_or (take (length x - k) (drop k x)) 0 0 ≡ get_or x k 0
first_from x k = ap (λ (l : List ℕ). get_or l 0 0) (part_from k x) ∙ get_or-drop k x 0 0 ∙ ap (λ (i : ℕ). get_or x i 0) (omega arith)

-- what stands after it
rest_from : (x : List ℕ) (k : ℕ) → take (length (take (length x - k) (drop k x)) - 1) (drop 1 (take (length x - k) (drop k x))) ≡ drop (k + 1) x
rest_from x k = part_from 1 (take (length x - k) (drop k x)) ∙ ap (drop 1) (part_from k x) ∙ drop-drop 1 k x

-- a pair, where its first digits are told to end
pair_at : List ℕ → ℕ → Bool
pair_at x k = ltb 0 k && byte_is x k 95 && is_digits (drop (k + 1) x)

module _ (x : List ℕ) (n : ℕ) (e : n ≡ scan (holds Digit) x) where
  -- it is a pair exactly where it is one at that place
  by_place : pair_at x n ≡ is_pair x
  unfolding pair_at
  by_place = ap (pair_at x) e

  -- no digits, no pair
  pub pair_none : n ≡ 0 → false ≡ is_pair x
  unfolding pair_at
  pair_none h = ap (pair_at x) (sym h) ∙ by_place

  -- digits up to the end, no pair
  pub pair_end : length (take (length x - n) (drop n x)) < 1 → false ≡ is_pair x
  unfolding pair_at
  pair_end h =
      let l = length-drop n x in
      let m = ap length (part_from n x) in
      let z : get_or x n 0 ≡ 0 = past x n (omega arith) in
      sym (ap (λ (b : ℕ). ltb 0 n && eqb b 95 && is_digits (drop (n + 1) x)) z ∙ rw (and-false (ltb 0 n))) ∙ by_place

  -- another byte than `_` after the digits, no pair
  pub pair_other : (get_or (take (length x - n) (drop n x)) 0 0 ≡ 95 → ⊥) → false ≡ is_pair x
  unfolding pair_at
  pair_other h = sym (rw (ne_eqb _ _ (λ q. h (first_from x n ∙ q)), and-false (ltb 0 n))) ∙ by_place

  -- digits and `_`: a pair exactly where digits follow
  pub pair_rest : (n ≡ 0 → ⊥) → get_or (take (length x - n) (drop n x)) 0 0 ≡ 95 → (r : Bool) → r ≡ is_digits (take (length (take (length x - n) (drop n x)) - 1) (drop 1 (take (length x - n) (drop n x)))) → r ≡ is_pair x
  unfolding pair_at
  pair_rest h g r f = f ∙ ap is_digits (rest_from x n) ∙ sym (rw (lt-ltb 0 n (omega arith), eq-eqb _ _ (sym (first_from x n) ∙ g))) ∙ by_place

pub ruleset pair_laws = (pair_none, pair_end, pair_other, pair_rest, scan_within, rules)

-- a name, where its first underscores are told to end
name_at : List ℕ → ℕ → Bool
name_at x k = is_letter (get_or x k 0) && all is_word (drop k x)

module _ (x : List ℕ) (n : ℕ) (e : n ≡ scan (holds (IsByte 95)) x) where
  -- it is a name exactly where it is one at that place
  by_letter : name_at x n ≡ is_name x
  unfolding name_at
  by_letter = ap (name_at x) e

  -- underscores up to the end, no name
  pub name_end : length (take (length x - n) (drop n x)) < 1 → false ≡ is_name x
  unfolding name_at is_letter
  name_end h =
      let l = length-drop n x in
      let m = ap length (part_from n x) in
      let z : get_or x n 0 ≡ 0 = past x n (omega arith) in
      sym (ap (λ (b : ℕ). is_letter b && all is_word (drop n x)) z) ∙ by_letter

  module _ (b : Bool) (f : b ≡ holds Letter (get_or (take (length x - n) (drop n x)) 0 0)) where
    -- the byte after them, by its test
    letter_told : is_letter (get_or x n 0) ≡ b
    letter_told = sym (f ∙ ap is_letter (first_from x n))

    -- no letter after them, no name
    pub name_other : b ≡ false → false ≡ is_name x
    unfolding name_at
    name_other h = sym (rw (letter_told, h)) ∙ by_letter

    -- a letter: a name exactly where the scan of word bytes reaches the end
    pub name_rest : b ≡ true → (m : ℕ) → m ≡ scan (holds Word) (take (length x - n) (drop n x)) → eqb m (length (take (length x - n) (drop n x))) ≡ is_name x
    unfolding name_at
    name_rest h m g =
        ap (λ (k : ℕ). eqb k (length (take (length x - n) (drop n x)))) g
        ∙ all_by_scan is_word (take (length x - n) (drop n x))
        ∙ ap (all is_word) (part_from n x)
        ∙ sym (rw (letter_told, h))
        ∙ by_letter

pub ruleset name_laws = (name_end, name_other, name_rest, scan_within, rules)

-- a register at place k
module _ (x : List ℕ) (k : ℕ) where
  -- none where its digit would stand past the end
  pub register_past : length x ≤ k + 1 → None ≡ register_found_at x k
  unfolding register_found_at is_digit
  register_past h = sym (rw (past x (k + 1) h, and-false (byte_is x k 114)))

  module _ (y : List ℕ) (e : y ≡ slice_range x k (length x)) where
    -- what stands from the place on
    from_place : y ≡ drop k x
    from_place = e ∙ part_from k x

    -- none in fewer than two bytes from the place on
    pub register_short : length y < 2 → None ≡ register_found_at x k
    register_short h = let l = length-drop k x in let m = ap length from_place in register_past (omega arith)

    -- elsewhere it is the register that the two bytes there name
    pub register_there : 2 ≤ length y → (z : List ℕ) → z ≡ slice_range y 0 2 → (r : Option OlaRegister) → r ≡ register_of z → r ≡ register_found_at x k
    unfolding register_found_at register_of
    register_there h z f r g =
        let l : length (take 2 (drop k x)) ≡ 2 = length-take-le 2 (drop k x) (omega (arith, ap length from_place)) in
        let a : get_or (drop k x) 0 0 ≡ get_or x k 0 = get_or-drop k x 0 0 ∙ ap (λ (i : ℕ). get_or x i 0) (omega arith) in
        g ∙ rw (f, from_place) (rw (l, get_or-take 2 (drop k x) 0 0 (omega arith), get_or-take 2 (drop k x) 1 0 (omega arith), a, get_or-drop k x 1 0))

pub ruleset register_laws = (register_past, register_short, register_there)

-- n in decimal: digits behind a sign, or behind none
abbrev decimal_of : Bool → List ℕ → Result (Option ImmediateValue) OutOfRange
decimal_of negative d = cond (is_digits d) (in_range (signed negative (decimal order d))) (Ok None)

-- a number, by what its hexadecimal digits said
module _ (x : List ℕ) (n : Option ℕ) (e : n ≡ hex_numeral x) where
  -- a value
  pub number_hex : (v : ℕ) → n ≡ Some v → (f : Option ImmediateValue) → f ≡ signed false (Some v) → (o : Result (Option ImmediateValue) OutOfRange) → o ≡ in_range f → o ≡ source_number_of x
  unfolding source_number_of is_source_number source_number
  number_hex v h f k o l = l ∙ ap in_range k ∙ sym (rw (← e, h, or-true (is_digits (unsigned x))))

  -- none: decimal digits decide, behind their sign
  module _ (h : n ≡ None) where
    told : source_number_of x ≡ decimal_of (is_minus x) (unsigned x)
    unfolding source_number_of is_source_number source_number number_of
    told = rw (← e, h, or-false (is_digits (unsigned x)))

    -- no text
    pub number_none : length x ≡ 0 → (Ok None) ≡ source_number_of x
    number_none k = go x k ∙ sym told
      where
        go : (x : List ℕ) → length x ≡ 0 → (Ok None) ≡ decimal_of (is_minus x) (unsigned x)
        go [] k = refl
        go (y ∷ ys) k = absurd (omega arith)

    module _ (o : Result (Option ImmediateValue) OutOfRange) where
      -- after `-`
      pub number_minus : get_or x 0 0 ≡ 45 → o ≡ decimal_of true (take (length x - 1) (drop 1 x)) → o ≡ source_number_of x
      number_minus k l = l ∙ ap (decimal_of true) (part_from 1 x) ∙ sym (told ∙ rw (eq-eqb _ _ k))

      -- after `+`
      pub number_plus : (get_or x 0 0 ≡ 45 → ⊥) → get_or x 0 0 ≡ 43 → o ≡ decimal_of false (take (length x - 1) (drop 1 x)) → o ≡ source_number_of x
      number_plus k m l = l ∙ ap (decimal_of false) (part_from 1 x) ∙ sym (told ∙ rw (ne_eqb _ _ k, eq-eqb _ _ m))

      -- without a sign
      pub number_bare : (get_or x 0 0 ≡ 45 → ⊥) → (get_or x 0 0 ≡ 43 → ⊥) → o ≡ decimal_of false x → o ≡ source_number_of x
      number_bare k m l = l ∙ sym (told ∙ rw (ne_eqb _ _ k, ne_eqb _ _ m))

pub ruleset number_laws = (number_hex, number_none, number_minus, number_plus, number_bare)
