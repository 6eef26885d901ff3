-- Document 02, Point 5: what comes of it that shapes are "tried in that file's own order, one after another". A piece has one at most of the eight shapes before
-- the name, and a name has none of them but a register's or a special register's. So whatever the order of the nine, with these two before the name a piece is
-- read alike.
use Rattle.std.specs.Prelude.{Option, None}
use Prim.Native.Nat.{ℕ, zero, suc, ◌-◌, ◌<◌}
use mathlib.Core.Path.{◌≡◌, refl, sym, ap, ◌∙◌, subst}
use mathlib.Core.List.{List, [], ◌∷◌, ◌++◌, map, append-nil}
use mathlib.Core.Bool.{Bool, true, false, ◌&&◌, ◌||◌, cond, and-eq-true_iff, and-false, or-true, true≢false}
use mathlib.Core.Logic.{◌⊎◌, inl, inr}
use native.Mathlib.Omega.{arith}
use borrow.Author.Tests.{eqb-true, eq-eqb, ne_eqb, lt-leb, ltb-true, ltb-false}
use lib.Dec.{eqb, leb, ltb}
use lib.ListN.{length, drop, get_or}
use Rattle.text.specs.Bytes.{bytes, is_digit, is_letter, is_word, same}
use Rattle.text.specs.Scan.{scan, all}
use Rattle.text.proofs.Laws.{other_byte}
use Rattle.text.proofs.ClassLaws.{letter_low}
use Rattle.text.proofs.SameLaws.{same_equal}
use Rattle.vm_hardware.specs.Registers.{register_of, special_of}
use Rattle.vm_operands.specs.Numbers.{unsigned}
use Rattle.asm.specs.Parts.{Part}
use Rattle.asm.specs.Operands.{byte_is, is_digits, hex_numeral, is_numeral, is_source_number, is_register_at, inner, is_bracketed, is_name, Shape, factored, paired, bare, offset, register, number, label, special, name, shapes, first_match, operand_of}
use Rattle.asm_laws.proofs.LabelLaws.{is_name_first}
use Rattle.asm_laws.proofs.SpellingLaws.{before_factor, before_offset, hex_first, inner_first, inner_some}
use Rattle.asm.specs.declared.OlaAsmOperand.{OlaAsmOperand}

-- the shapes before the name, in 01's order, and the one at a place
abbrev pub unnamed : List Shape
unnamed = factored ∷ paired ∷ bare ∷ offset ∷ register ∷ number ∷ label ∷ special ∷ []

abbrev pub shape_at : ℕ → Shape
shape_at k = get_or unnamed k name

-- what holds of each of the eight places
pub each_place : (P : ℕ → Type 0) → P 0 → P 1 → P 2 → P 3 → P 4 → P 5 → P 6 → P 7 → (k : ℕ) → k < 8 → P k
each_place P p0 p1 p2 p3 p4 p5 p6 p7 zero h = p0
each_place P p0 p1 p2 p3 p4 p5 p6 p7 (suc zero) h = p1
each_place P p0 p1 p2 p3 p4 p5 p6 p7 (suc (suc zero)) h = p2
each_place P p0 p1 p2 p3 p4 p5 p6 p7 (suc (suc (suc zero))) h = p3
each_place P p0 p1 p2 p3 p4 p5 p6 p7 (suc (suc (suc (suc zero)))) h = p4
each_place P p0 p1 p2 p3 p4 p5 p6 p7 (suc (suc (suc (suc (suc zero))))) h = p5
each_place P p0 p1 p2 p3 p4 p5 p6 p7 (suc (suc (suc (suc (suc (suc zero)))))) h = p6
each_place P p0 p1 p2 p3 p4 p5 p6 p7 (suc (suc (suc (suc (suc (suc (suc zero))))))) h = p7
each_place P p0 p1 p2 p3 p4 p5 p6 p7 (suc (suc (suc (suc (suc (suc (suc (suc k)))))))) h = absurd (omega arith)

-- the place of the only one that a piece can have, told by single bytes
abbrev only_place : List ℕ → ℕ
only_place x =
    cond (byte_is x 0 91) (cond (byte_is x 3 44) (cond (byte_is x 4 114) (cond (byte_is x 6 44) 0 1) 3) 2)
    (cond (byte_is x 0 114) 4
    (cond (byte_is x 0 46) 6
    (cond (byte_is x 0 112) 7 5)))

-- ---- the first byte of a number

-- a digit or a sign
abbrev begins_number : ℕ → Bool
begins_number c = is_digit c || (eqb c 43 || eqb c 45)

number_first : (y : List ℕ) → is_source_number y ≡ true → begins_number (get_or y 0 0) ≡ true
unfolding is_source_number all is_digit
number_first y e = go (is_numeral (hex_numeral y)) refl e
  where
    plain : (y : List ℕ) → is_digits (unsigned y) || false ≡ true → begins_number (get_or y 0 0) ≡ true
    plain [] f = absurd (true≢false (sym f))
    plain (c ∷ l) f = signs (is_digit c) refl (eqb c 43) refl (eqb c 45) refl f
      where
        signs : (d : Bool) → is_digit c ≡ d → (p : Bool) → eqb c 43 ≡ p → (m : Bool) → eqb c 45 ≡ m → is_digits (cond (m || p) l (c ∷ l)) || false ≡ true → d || (p || m) ≡ true
        signs true h p i m j f = refl
        signs false h true i m j f = refl
        signs false h false i true j f = refl
        signs false h false i false j f = absurd (true≢false (sym f ∙ rw h))

    go : (t : Bool) → is_numeral (hex_numeral y) ≡ t → is_digits (unsigned y) || t ≡ true → begins_number (get_or y 0 0) ≡ true
    go true h f = rw (eqb-true (get_or y 0 0) 48 (hex_first y h).0)
    go false h f = plain y f

-- ---- where each of the eight fits, the bytes tell its place

module _ (x : List ℕ) where
  -- the ends of brackets
  ends : is_bracketed x && is_register_at x 1 ≡ true → (byte_is x 0 91 ≡ true) × (get_or x (length x - 1) 0 ≡ 93)
  ends e =
      let b = (and-eq-true_iff (byte_is x 0 91) (byte_is x (length x - 1) 93)).0 ((and-eq-true_iff (is_bracketed x) (is_register_at x 1)).0 e).0 in
      (b.0, eqb-true _ 93 b.1)

  -- the comma, and the second register
  comma : before_offset x ≡ true → (byte_is x 0 91 ≡ true) × (byte_is x 3 44 ≡ true)
  comma e = let b = (and-eq-true_iff (is_bracketed x && is_register_at x 1) (byte_is x 3 44)).0 e in ((ends b.0).0, b.1)

  second : before_offset x && is_register_at x 4 ≡ true → (before_offset x ≡ true) × (byte_is x 4 114 ≡ true)
  second e = let b = (and-eq-true_iff (before_offset x) (is_register_at x 4)).0 e in (b.0, ((and-eq-true_iff (byte_is x 4 114) (is_digit (get_or x 5 0))).0 b.1).0)

  factored_place : factored.fits x ≡ true → only_place x ≡ 0
  factored_place e =
      let a = (and-eq-true_iff (before_offset x && is_register_at x 4) (byte_is x 6 44)).0 ((and-eq-true_iff (before_factor x) (is_source_number (inner x 7))).0 e).0 in
      let s = second a.0 in
      let c = comma s.0 in
      rw (c.0, c.1, s.1, a.1)

  paired_place : paired.fits x ≡ true → only_place x ≡ 1
  paired_place e =
      let a = (and-eq-true_iff (before_offset x && is_register_at x 4) (eqb (length x) 7)).0 e in
      let s = second a.0 in
      let c = comma s.0 in
      let n : length x - 1 ≡ 6 = let l = eqb-true (length x) 7 a.1 in omega arith in
      let z : get_or x 6 0 ≡ 93 = subst (λ (i : ℕ). get_or x i 0 ≡ 93) n (ends ((and-eq-true_iff (is_bracketed x && is_register_at x 1) (byte_is x 3 44)).0 s.0).0).1 in
      rw (c.0, c.1, s.1, z)

  bare_place : bare.fits x ≡ true → only_place x ≡ 2
  bare_place e =
      let a = (and-eq-true_iff (is_bracketed x && is_register_at x 1) (eqb (length x) 4)).0 e in
      let n : length x - 1 ≡ 3 = let l = eqb-true (length x) 4 a.1 in omega arith in
      let z : get_or x 3 0 ≡ 93 = subst (λ (i : ℕ). get_or x i 0 ≡ 93) n (ends a.0).1 in
      rw ((ends a.0).0, z)

  offset_place : offset.fits x ≡ true → only_place x ≡ 3
  unfolding is_source_number is_digit
  offset_place e =
      let a = (and-eq-true_iff (before_offset x) (is_source_number (inner x 4))).0 e in
      let c = comma a.0 in
      let l : 4 < length x - 1 = inner_some x 4 (λ z. true≢false (sym a.1 ∙ ap is_source_number z)) in
      let r : byte_is x 4 114 ≡ false = subst (λ (b : ℕ). eqb b 114 ≡ false) (inner_first x 4 l) (other_byte begins_number (get_or (inner x 4) 0 0) 114 (number_first (inner x 4) a.1) refl) in
      rw (c.0, c.1, r)

  register_place : register.fits x ≡ true → only_place x ≡ 4
  unfolding register_of
  register_place e = go (eqb (length x) 2 && eqb (get_or x 0 0) 114 && is_digit (get_or x 1 0)) refl e
    where
      go : (t : Bool) → eqb (length x) 2 && eqb (get_or x 0 0) 114 && is_digit (get_or x 1 0) ≡ t → register.fits x ≡ true → only_place x ≡ 4
      go true h f =
          let b = ((and-eq-true_iff (eqb (length x) 2 && eqb (get_or x 0 0) 114) (is_digit (get_or x 1 0))).0 h).0 in
          let c : get_or x 0 0 ≡ 114 = eqb-true _ 114 ((and-eq-true_iff (eqb (length x) 2) (eqb (get_or x 0 0) 114)).0 b).1 in
          rw c
      go false h f = absurd (true≢false (sym f ∙ rw h))

  number_place : number.fits x ≡ true → only_place x ≡ 5
  unfolding is_digit
  number_place e =
      let other : (b : ℕ) → begins_number b ≡ false → byte_is x 0 b ≡ false = λ b f. other_byte begins_number _ b (number_first x e) f in
      rw (other 91 refl, other 114 refl, other 46 refl, other 112 refl)

  label_place : label.fits x ≡ true → only_place x ≡ 6
  label_place e =
      let a = ((and-eq-true_iff (byte_is x 0 46 && same _ (bytes "LBL")) _).0 e).0 in
      let c : get_or x 0 0 ≡ 46 = eqb-true _ 46 ((and-eq-true_iff (byte_is x 0 46) (same _ (bytes "LBL"))).0 a).0 in
      rw c

  special_place : special.fits x ≡ true → only_place x ≡ 7
  unfolding special_of
  special_place e = go (same x (bytes "pc")) refl (same x (bytes "psp")) refl e
    where
      go : (t : Bool) → same x (bytes "pc") ≡ t → (u : Bool) → same x (bytes "psp") ≡ u → special.fits x ≡ true → only_place x ≡ 7
      go true h u k f = rw (same_equal x (bytes "pc") h)
      go false h true k f = rw (same_equal x (bytes "psp") k)
      go false h false k f = absurd (true≢false (sym f ∙ rw (h, k)))

  -- so one of the eight that a piece has stands at the place that its bytes tell
  one_place : (k : ℕ) → k < 8 → (shape_at k).fits x ≡ true → only_place x ≡ k
  one_place =
      each_place (λ (k : ℕ). (shape_at k).fits x ≡ true → only_place x ≡ k)
      factored_place paired_place bare_place offset_place register_place number_place label_place special_place

  -- ---- of the eight shapes before the name a piece has one at most
  pub one_shape : (j k : ℕ) → j < 8 → k < 8 → (shape_at j).fits x ≡ true → (shape_at k).fits x ≡ true → j ≡ k
  one_shape j k h l e f = sym (one_place j h e) ∙ one_place k l f

  -- and whatever the bytes, that is a place of the eight
  place_below : only_place x < 8
  place_below = ltb-true (only_place x) 8 (go (byte_is x 0 91) (byte_is x 3 44) (byte_is x 4 114) (byte_is x 6 44) (byte_is x 0 114) (byte_is x 0 46) (byte_is x 0 112))
    where
      go : (a b c d e f g : Bool) → ltb (cond a (cond b (cond c (cond d 0 1) 3) 2) (cond e 4 (cond f 6 (cond g 7 5)))) 8 ≡ true
      go true true true true e f g = refl
      go true true true false e f g = refl
      go true true false d e f g = refl
      go true false c d e f g = refl
      go false b c d true f g = refl
      go false b c d false true g = refl
      go false b c d false false true = refl
      go false b c d false false false = refl

  -- ---- and a name none but a register's, at 4, or a special register's, at 7

  -- a name begins with a letter or an underscore, so with no digit, sign, dot or bracket
  name_first : is_name x ≡ true → is_name_first x ≡ true
  unfolding scan is_letter
  name_first e = go x e
    where
      go : (x : List ℕ) → is_name x ≡ true → is_name_first x ≡ true
      go [] f = absurd (true≢false (sym f))
      go (c ∷ l) f = on (eqb c 95) refl f
        where
          on : (t : Bool) → eqb c 95 ≡ t → let k = cond t (suc (scan (λ b. eqb b 95) l)) 0 in is_letter (get_or (c ∷ l) k 0) && all is_word (drop k (c ∷ l)) ≡ true → is_letter c || t ≡ true
          on true h f = or-true (is_letter c)
          on false h f = rw ((and-eq-true_iff (is_letter c) (all is_word (c ∷ l))).0 f).0

  -- no number begins so: a byte below 65 is neither a letter nor an underscore, one from 65 on neither a digit nor a sign
  name_other : (c : ℕ) → is_letter c || eqb c 95 ≡ true → begins_number c ≡ true → ⊥
  unfolding is_digit
  name_other c e f = go (ltb c 65) refl
    where
      go : (t : Bool) → ltb c 65 ≡ t → ⊥
      go true h = true≢false (sym e ∙ rw (← letter_low c (ltb-true c 65 h)) (ne_eqb c 95 (let l = ltb-true c 65 h in λ z. omega arith)))
      go false h =
          let l = ltb-false c 65 h in
          true≢false (sym f ∙ rw (lt-leb c 57 (omega arith), and-false (leb 48 c), ne_eqb c 43 (λ z. omega arith), ne_eqb c 45 (λ z. omega arith)))

  pub names_apart : is_name x ≡ true → (k : ℕ) → k < 8 → (shape_at k).fits x ≡ true → (k ≡ 4) ⊎ (k ≡ 7)
  unfolding is_letter
  names_apart e k h f = go (byte_is x 0 91) refl (byte_is x 0 114) refl (byte_is x 0 46) refl (byte_is x 0 112) refl
    where
      first : is_name_first x ≡ true
      first = name_first e

      place : only_place x ≡ k
      place = one_place k h f

      go : (a : Bool) → byte_is x 0 91 ≡ a → (b : Bool) → byte_is x 0 114 ≡ b → (c : Bool) → byte_is x 0 46 ≡ c → (d : Bool) → byte_is x 0 112 ≡ d → (k ≡ 4) ⊎ (k ≡ 7)
      go true i b j c l d m = absurd (true≢false (sym first ∙ rw (eqb-true (get_or x 0 0) 91 i)))
      go false i true j c l d m = inl (sym place ∙ rw (i, j))
      go false i false j true l d m = absurd (true≢false (sym first ∙ rw (eqb-true (get_or x 0 0) 46 l)))
      go false i false j false l true m = inr (sym place ∙ rw (i, j, l, m))
      go false i false j false l false m =
          let p : k ≡ 5 = sym place ∙ rw (i, j, l, m) in
          absurd (name_other (get_or x 0 0) first (number_first x (subst (λ (n : ℕ). (shape_at n).fits x ≡ true) p f)))

-- ---- whatever the order of the nine, with the register and the special register before the name, a piece is read alike

-- 01's order, as places
abbrev places : List ℕ
places = 0 ∷ 1 ∷ 2 ∷ 3 ∷ 4 ∷ 5 ∷ 6 ∷ 7 ∷ []

-- places of the eight, and whether one is among them
abbrev pub are_places : List ℕ → Bool
are_places ks = all (λ k. ltb k 8) ks

unfoldable pub is_among : ℕ → List ℕ → Bool
is_among k [] = false
is_among k (j ∷ js) = eqb j k || is_among k js

own : (k : ℕ) → k < 8 → is_among k places ≡ true
unfolding is_among
own = each_place (λ (k : ℕ). is_among k places ≡ true) refl refl refl refl refl refl refl refl

module _ (q : Part) where
  abbrev place : ℕ
  place = only_place q.text

  -- by the one shape that can fit, where that is tried, and those behind
  abbrev read : Bool → List Shape → Option OlaAsmOperand
  read tried rest = cond ((shape_at place).fits q.text && tried) ((shape_at place).means q) (first_match rest q)

  -- that is how a list of the eight reads
  by_places : (ks : List ℕ) (rest : List Shape) → are_places ks ≡ true → first_match (map shape_at ks ++ rest) q ≡ read (is_among place ks) rest
  unfolding first_match all is_among
  by_places [] rest h = sym (rw (and-false ((shape_at place).fits q.text)))
  by_places (k ∷ ks) rest h = go ((shape_at k).fits q.text) refl (eqb k place) refl (by_places ks rest below.1)
    where
      below : (ltb k 8 ≡ true) × (are_places ks ≡ true)
      below = (and-eq-true_iff (ltb k 8) (are_places ks)).0 h

      go : (t : Bool) → (shape_at k).fits q.text ≡ t → (u : Bool) → eqb k place ≡ u → first_match (map shape_at ks ++ rest) q ≡ read (is_among place ks) rest
          → cond t ((shape_at k).means q) (first_match (map shape_at ks ++ rest) q) ≡ read (u || is_among place ks) rest
      go true g true i r = let p : k ≡ place = eqb-true k place i in rw (← p, g)
      go true g false i r = let p : k ≡ place = sym (one_place q.text k (ltb-true k 8 below.0) g) in absurd (true≢false (sym (eq-eqb k place p) ∙ i))
      go false g true i r = let p : k ≡ place = eqb-true k place i in r ∙ rw (← p, g)
      go false g false i r = r

  -- an order is what stands before the name and what stands behind it: between them each of the eight
  module _ (before after : List ℕ) (b : are_places before ≡ true) (a : are_places after ≡ true) (each : (k : ℕ) → k < 8 → is_among k before || is_among k after ≡ true) where
    pub any_order : is_among 4 before ≡ true → is_among 7 before ≡ true → first_match (map shape_at before ++ name ∷ map shape_at after) q ≡ operand_of q
    unfolding shapes first_match all
    any_order r s =
        by_places before (name ∷ map shape_at after) b
        ∙ ap (λ (o : Option OlaAsmOperand). cond ((shape_at place).fits q.text && is_among place before) ((shape_at place).means q) (cond (is_name q.text) (name.means q) o)) behind
        ∙ go ((shape_at place).fits q.text) refl (is_among place before) refl (is_among place after) (each place here) (is_name q.text) refl
        ∙ ap (λ (t : Bool). read t (name ∷ [])) (sym (own place here))
        ∙ sym (by_places places (name ∷ []) refl)
      where
        here : place < 8
        here = place_below q.text

        behind : first_match (map shape_at after) q ≡ read (is_among place after) []
        behind = ap (λ (ss : List Shape). first_match ss q) (sym (append-nil (map shape_at after))) ∙ by_places after [] a

        -- where the shape that fits stands behind the name, the piece is no name
        no_name : (shape_at place).fits q.text ≡ true → is_name q.text ≡ true → is_among place before ≡ false → ⊥
        no_name f n h = at (names_apart q.text n place here f)
          where
            at : (place ≡ 4) ⊎ (place ≡ 7) → ⊥
            at (inl p) = true≢false (sym r ∙ rw (← p) h)
            at (inr p) = true≢false (sym s ∙ rw (← p) h)

        go : (f : Bool) → (shape_at place).fits q.text ≡ f → (t : Bool) → is_among place before ≡ t → (u : Bool) → t || u ≡ true → (n : Bool) → is_name q.text ≡ n
            → cond (f && t) ((shape_at place).means q) (cond n (name.means q) (cond (f && u) ((shape_at place).means q) None))
            ≡ cond (f && true) ((shape_at place).means q) (cond n (name.means q) None)
        go true e true i u j n k = refl
        go true e false i true j true k = absurd (no_name e k i)
        go true e false i true j false k = refl
        go true e false i false j n k = absurd (true≢false (sym j))
        go false e t i u j n k = refl
