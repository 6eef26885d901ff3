-- Document 02, Point 2, piece by piece: what a label operand was, which pieces are read otherwise now, and as what. The promises cite none of this; it says
-- that "The old answers that change are these", and no other.
use Rattle.std.specs.Prelude.{Option, Some, None}
use Prim.Native.Nat.{ℕ, suc, ◌+◌}
use mathlib.Core.Path.{◌≡◌, refl, sym, ap, ◌∙◌, subst}
use mathlib.Core.List.{List, [], ◌∷◌, ◌++◌}
use mathlib.Core.Bool.{Bool, true, false, not, ◌&&◌, ◌||◌, cond, and-false, and-eq-true_iff, or-true, true≢false}
use native.Mathlib.Omega.{arith}
use borrow.Author.Tests.{ne_eqb, eqb-true, not-true}
use lib.Dec.{eqb, ltb}
use lib.ListN.{length, drop, get_or}
use lib.Seq.{slice}
use Rattle.text.specs.Bytes.{bytes, is_digit, is_letter, is_word, same}
use Rattle.text.specs.Scan.{scan, all, is_empty}
use Rattle.text.proofs.ClassLaws.{word_letter}
use Rattle.text.proofs.SameLaws.{same_equal}
use Rattle.vm_hardware.specs.Registers.{register_of, special_of}
use Rattle.vm_operands.specs.Numbers.{is_signed}
use Rattle.vm_mnemonics.specs.Mnemonics.{operation_of}
use Rattle.asm.specs.Parts.{Part}
use Rattle.asm.specs.Operands.{Shape, byte_is, is_digits, is_pair, is_bracketed, is_source_number, factored, paired, bare, offset, register, number, label, special, name, is_name, shapes, first_match, operand_of}
use Rattle.asm.specs.Rows.{one_operand_more, operands_of, arranged_if, row_of}
use Rattle.asm.specs.declared.OlaAsmOperand.TheVariants.{Label, Identifier}
use Rattle.asm.specs.declared.OlaAsmOperand.{OlaAsmOperand}
use Rattle.vm_opcodes.specs.declared.OlaOpcode.{OlaOpcode}

-- ---- what was

-- 01: "any one character then `LBL` digits `_` digits (a label)"
abbrev pub any_label : Shape
any_label = record { fits = λ x. same (slice 1 4 x) (bytes "LBL") && is_pair (drop 4 x); means = label.means }

-- the shapes with that label, in 01's order; of n SpellingLaws speaks
abbrev pub former_shapes : List Shape
former_shapes = factored ∷ paired ∷ bare ∷ offset ∷ register ∷ number ∷ any_label ∷ special ∷ name ∷ []

-- such a label, but for the dot
abbrev pub looks_like : List ℕ → Bool
looks_like x = any_label.fits x && not (byte_is x 0 46)

-- "A letter or underscore before LBL"
abbrev pub is_name_first : List ℕ → Bool
is_name_first x = is_letter (get_or x 0 0) || byte_is x 0 95

-- ---- what stays

dotted : (a b d : Bool) → a && b && not d ≡ false → d && a && b ≡ a && b
dotted true true true e = refl
dotted true true false e = sym e
dotted true false true e = refl
dotted true false false e = refl
dotted false b true e = refl
dotted false b false e = refl

-- whatever does not look like a label is read as with that label
pub others_stay : (q : Part) → looks_like q.text ≡ false → operand_of q ≡ first_match former_shapes q
unfolding shapes first_match
others_stay q e = rw (dotted (same (slice 1 4 q.text) (bytes "LBL")) (is_pair (drop 4 q.text)) (byte_is q.text 0 46) e)

-- ---- a piece that looks like a label

-- its bytes: one, `LBL` and a pair
record Looks (x : List ℕ) : Type 0 where
  first : ℕ
  pair : List ℕ
  made : x ≡ first ∷ 76 ∷ 66 ∷ 76 ∷ pair
  is_pair_lem : is_pair pair ≡ true

looks : (x : List ℕ) → any_label.fits x ≡ true → Looks x
looks x e = let b = (and-eq-true_iff (same (slice 1 4 x) (bytes "LBL")) (is_pair (drop 4 x))).0 e in go x (same_equal (slice 1 4 x) (bytes "LBL") b.0) b.1
  where
    go : (x : List ℕ) → slice 1 4 x ≡ 76 ∷ 66 ∷ 76 ∷ [] → is_pair (drop 4 x) ≡ true → Looks x
    go [] h p = absurd (omega (arith, ap length h))
    go (c ∷ []) h p = absurd (omega (arith, ap length h))
    go (c ∷ a ∷ []) h p = absurd (omega (arith, ap length h))
    go (c ∷ a ∷ b ∷ []) h p = absurd (omega (arith, ap length h))
    go (c ∷ a ∷ b ∷ d ∷ rest) h p =
        let i : a ≡ 76 = cc in
        let j : b ≡ 66 = cc in
        let k : d ≡ 76 = cc in
        record { first = c; pair = rest; made = rw (i, j, k) refl; is_pair_lem = p }

module _ (c : ℕ) (pair : List ℕ) (n : ℕ) where
  abbrev piece : Part
  piece = record { start = n; text = c ∷ 76 ∷ 66 ∷ 76 ∷ pair }

  -- it has none of the bracketed shapes, and is no register, no number and neither pc nor psp
  no_brackets : (factored.fits piece.text ≡ false) × (paired.fits piece.text ≡ false) × (bare.fits piece.text ≡ false) × (offset.fits piece.text ≡ false)
  no_brackets = let w : is_bracketed piece.text && false ≡ false = and-false (is_bracketed piece.text) in (rw w, rw w, rw w, rw w)

  no_register : register.fits piece.text ≡ false
  unfolding register_of
  no_register = rw (ne_eqb (suc (suc (suc (suc (length pair))))) 2 (λ e. omega arith))

  no_number : number.fits piece.text ≡ false
  unfolding is_source_number is_digit all
  no_number = rw (and-false (eqb c 48)) (go (is_signed piece.text))
    where
      go : (t : Bool) → is_digits (cond t (76 ∷ 66 ∷ 76 ∷ pair) piece.text) || false ≡ false
      go true = refl
      go false = rw (and-false (is_digit c))

  no_special : special.fits piece.text ≡ false
  unfolding special_of same
  no_special = rw (and-false (eqb c 112))

  -- so what decides is the label, and then the name
  from_label : (l : Shape) → first_match (factored ∷ paired ∷ bare ∷ offset ∷ register ∷ number ∷ l ∷ special ∷ name ∷ []) piece ≡ first_match (l ∷ name ∷ []) piece
  unfolding first_match
  from_label l = rw (no_brackets.0, no_brackets.1, no_brackets.2, no_brackets.3, no_register, no_number, no_special)

  was_label : is_pair pair ≡ true → first_match former_shapes piece ≡ Some (Label n (length piece.text))
  unfolding first_match same
  was_label p = from_label any_label ∙ rw p

  named_or_not : eqb c 46 ≡ false → operand_of piece ≡ cond (is_name piece.text) (Some (Identifier n (length piece.text))) None
  unfolding shapes first_match
  named_or_not e = from_label label ∙ rw e

-- ---- it is a name where it begins as one

digit_word : (x : ℕ) → is_digit x ≡ true → is_word x ≡ true
unfolding is_word
digit_word x e = rw (e, or-true (is_letter x))

digits_word : (xs : List ℕ) → all is_digit xs ≡ true → all is_word xs ≡ true
unfolding all
digits_word [] e = refl
digits_word (x ∷ xs) e = let a = (and-eq-true_iff (is_digit x) (all is_digit xs)).0 e in rw (digit_word x a.0, digits_word xs a.1)

underscore_word : is_word 95 ≡ true
unfolding is_word is_letter is_digit
underscore_word = refl

-- digits, an underscore and digits
parted_word : (l : List ℕ) → byte_is l (scan is_digit l) 95 ≡ true → all is_digit (drop (scan is_digit l + 1) l) ≡ true → all is_word l ≡ true
unfolding scan all
parted_word [] e f = absurd (true≢false (sym e))
parted_word (x ∷ xs) e f = go (is_digit x) refl (parted_word xs) e f
  where
    go : (t : Bool) → is_digit x ≡ t → (byte_is xs (scan is_digit xs) 95 ≡ true → all is_digit (drop (scan is_digit xs + 1) xs) ≡ true → all is_word xs ≡ true)
        → byte_is (x ∷ xs) (cond t (suc (scan is_digit xs)) 0) 95 ≡ true → all is_digit (drop (cond t (suc (scan is_digit xs)) 0 + 1) (x ∷ xs)) ≡ true → is_word x && all is_word xs ≡ true
    go true h r a b = let n : suc (scan is_digit xs) + 1 ≡ suc (scan is_digit xs + 1) = omega arith in rw (digit_word x h, r a (subst (λ (k : ℕ). all is_digit (drop k (x ∷ xs)) ≡ true) n b))
    go false h r a b = rw (eqb-true x 95 a, underscore_word, digits_word xs b)

pair_word : (l : List ℕ) → is_pair l ≡ true → all is_word l ≡ true
pair_word l e =
    let a = (and-eq-true_iff (ltb 0 (scan is_digit l) && byte_is l (scan is_digit l) 95) (is_digits (drop (scan is_digit l + 1) l))).0 e in
    let b = (and-eq-true_iff (ltb 0 (scan is_digit l)) (byte_is l (scan is_digit l) 95)).0 a.0 in
    let c = (and-eq-true_iff (not (is_empty (drop (scan is_digit l + 1) l))) (all is_digit (drop (scan is_digit l + 1) l))).0 a.1 in
    parted_word l b.1 c.1

letters_words : (is_letter 76 ≡ true) × (is_word 76 ≡ true) × (is_word 66 ≡ true)
unfolding is_letter is_word
letters_words = (refl, refl, refl)

named : (c : ℕ) (pair : List ℕ) → is_pair pair ≡ true → is_name (c ∷ 76 ∷ 66 ∷ 76 ∷ pair) ≡ is_name_first (c ∷ 76 ∷ 66 ∷ 76 ∷ pair)
unfolding scan all
named c pair p = go (eqb c 95) refl (is_letter c) refl
  where
    go : (t : Bool) → eqb c 95 ≡ t → (u : Bool) → is_letter c ≡ u
        → is_letter (get_or (c ∷ 76 ∷ 66 ∷ 76 ∷ pair) (cond t 1 0) 0) && all is_word (drop (cond t 1 0) (c ∷ 76 ∷ 66 ∷ 76 ∷ pair)) ≡ u || t
    go true e true f = rw (letters_words.0, letters_words.1, letters_words.2, pair_word pair p)
    go true e false f = rw (letters_words.0, letters_words.1, letters_words.2, pair_word pair p)
    go false e true f = rw (f, sym (word_letter c f), letters_words.1, letters_words.2, pair_word pair p)
    go false e false f = rw f

-- ---- what changes

-- it was a label,
pub changed_from : (q : Part) → looks_like q.text ≡ true → first_match former_shapes q ≡ Some (Label q.start (length q.text))
changed_from q e =
    let l = looks q.text ((and-eq-true_iff (any_label.fits q.text) (not (byte_is q.text 0 46))).0 e).0 in
    subst (λ (x : List ℕ). first_match former_shapes (record { start = q.start; text = x }) ≡ Some (Label q.start (length x))) (sym l.made)
    (was_label l.first l.pair q.start l.is_pair_lem)

-- and now "A letter or underscore before LBL is a name", and any other character makes it unreadable
pub changed_to : (q : Part) → looks_like q.text ≡ true → operand_of q ≡ cond (is_name_first q.text) (Some (Identifier q.start (length q.text))) None
changed_to q e =
    let b = (and-eq-true_iff (any_label.fits q.text) (not (byte_is q.text 0 46))).0 e in
    let l = looks q.text b.0 in
    let d : eqb l.first 46 ≡ false = subst (λ (x : List ℕ). byte_is x 0 46 ≡ false) l.made (not-true (byte_is q.text 0 46) b.1) in
    subst (λ (x : List ℕ). operand_of (record { start = q.start; text = x }) ≡ cond (is_name_first x) (Some (Identifier q.start (length x))) None) (sym l.made)
    (named_or_not l.first l.pair q.start d ∙ rw (named l.first l.pair l.is_pair_lem))

-- ---- its row

none_read : (r : Option OlaAsmOperand) → one_operand_more r None ≡ None
none_read None = refl
none_read (Some o) = refl

operands_none : (before : List Part) (q : Part) (after : List Part) → operand_of q ≡ None → operands_of (before ++ q ∷ after) ≡ None
unfolding operands_of
operands_none [] q after e = rw e
operands_none (b ∷ before) q after e = rw (operands_none before q after e) (none_read (operand_of b))

none_arranged : (o : Option OlaOpcode) → arranged_if o None ≡ None
unfolding arranged_if
none_arranged None = refl
none_arranged (Some o) = refl

-- "Any other character than a dot makes the row unreadable", whatever else stands in it
pub row_unreadable : (first : Part) (before : List Part) (q : Part) (after : List Part) → looks_like q.text ≡ true → is_name_first q.text ≡ false
    → row_of (first ∷ before ++ q ∷ after) ≡ None
unfolding row_of
row_unreadable first before q after e f = go before (operands_none before q after (changed_to q e ∙ rw f))
  where
    go : (before : List Part) → operands_of (before ++ q ∷ after) ≡ None → row_of (first ∷ before ++ q ∷ after) ≡ None
    go [] h = ap (arranged_if (operation_of first.text)) h ∙ none_arranged (operation_of first.text)
    go (b ∷ before) h = ap (arranged_if (operation_of first.text)) h ∙ none_arranged (operation_of first.text)
