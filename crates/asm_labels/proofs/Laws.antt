-- Laws of label rows, one for each way out of the functions that find them.
use Rattle.std.specs.Prelude.{Option, Some, None}
use Prim.Native.Nat.{ℕ, ◌+◌, ◌-◌, ◌<◌, ◌≤◌}
use mathlib.Core.Path.{◌≡◌, refl, sym, ap, ◌∙◌}
use mathlib.Core.List.{List, [], ◌∷◌}
use mathlib.Core.Bool.{Bool, true, false, not, ◌&&◌, ◌||◌, and-true, and-false}
use native.Mathlib.Omega.{arith}
use borrow.Author.Rules.{rules}
use borrow.Author.Tests.{lt-ltb, eq-eqb, ne_eqb, ltb-true, ltb-false}
use lib.Dec.{eqb, ltb}
use lib.ListN.{length, get_or, take, drop, drop_of_length-le, get_or-eq_default, length-drop}
use lib.Pointwise.{pointwise}
use lib.Seq.{slice, drop-drop, length-take-le, take-take, get_or-drop}
use Rattle.text.specs.Bytes.{bytes, is_digit, same}
use Rattle.text.specs.Scan.{scan}
use Rattle.text.specs.Classes.{holds}
use Rattle.text.specs.declared.ByteClass.TheVariants.{Digit, Word}
use Rattle.text.proofs.Laws.{part_from, within_laws, part_slice}
use Rattle.asm.specs.Operands.{byte_is, is_pair}
use Rattle.asm.specs.Rows.{is_call_row, is_pair_row, label_row, or_else_row}
use Rattle.asm.specs.declared.AsmRow.TheVariants.{LabelCall, LabelJmp, LabelProphet}
use Rattle.text.proofs.SameLaws.{same_off}
use Rattle.asm.specs.declared.AsmRow.{AsmRow}

-- ---- comparing

-- the two tests of equal bytes are one
same_pointwise : (a b : List ℕ) → same a b ≡ pointwise eqb a b
unfolding same
same_pointwise [] [] = refl
same_pointwise [] (y ∷ ys) = refl
same_pointwise (x ∷ xs) [] = refl
same_pointwise (x ∷ xs) (y ∷ ys) = ap (λ (t : Bool). eqb x y && t) (same_pointwise xs ys)

-- a colon alone
colon_alone : (y : List ℕ) → length y ≡ 1 → get_or y 0 0 ≡ 58 → same y (bytes ":") ≡ true
unfolding same
colon_alone [] h d = absurd (omega arith)
colon_alone (a ∷ []) h d = rw (eq-eqb _ _ d)
colon_alone (a ∷ b ∷ r) h d = absurd (omega arith)

-- another byte than a colon in front
colon_off : (y : List ℕ) → (get_or y 0 0 ≡ 58 → ⊥) → same y (bytes ":") ≡ false
unfolding same
colon_off [] h = refl
colon_off (a ∷ r) h = rw (ne_eqb _ _ h)

-- ---- the row of a call label

-- a call label's row, where its word bytes are told to end
call_at : List ℕ → ℕ → ℕ → Bool
call_at x k m = ltb 0 k && (same (drop k x) (bytes ":") || (byte_is x k 46 && ltb 0 m && same (drop (k + 1 + m) x) (bytes ":")))

module _ (x : List ℕ) (k : ℕ) (e : k ≡ scan (holds Word) x) where
  -- it is one exactly where it is one at that place
  by_place : call_at x k (scan is_digit (drop (k + 1) x)) ≡ is_call_row x
  unfolding call_at is_call_row
  by_place = ap (λ (j : ℕ). call_at x j (scan is_digit (drop (j + 1) x))) e

  -- no word byte, no label
  pub call_none : k ≡ 0 → false ≡ is_call_row x
  unfolding call_at
  call_none h = sym (rw h) ∙ by_place

  -- what follows the word bytes
  module _ (y : List ℕ) (f : y ≡ take (length x - k) (drop k x)) where
    from_end : drop k x ≡ y
    from_end = sym (f ∙ part_from k x)

    first : get_or x k 0 ≡ get_or y 0 0
    first = ap (λ (i : ℕ). get_or x i 0) (omega arith) ∙ sym (get_or-drop k x 0 0) ∙ ap (λ (l : List ℕ). get_or l 0 0) from_end

    -- not a colon alone
    other : same y (bytes ":") ≡ false → (get_or y 0 0 ≡ 46 → ⊥) → false ≡ is_call_row x
    unfolding call_at
    other g d = sym (rw (from_end, g, first, ne_eqb _ _ d, and-false (ltb 0 k))) ∙ by_place

    -- neither a colon nor a dot after them
    pub call_end : length y < 1 → false ≡ is_call_row x
    call_end g = other (same_off y (bytes ":") (λ q. omega arith)) (λ q. let z : get_or y 0 0 ≡ 0 = get_or-eq_default y 0 (omega arith) in omega arith)

    pub call_long : (length y ≡ 1 → ⊥) → (get_or y 0 0 ≡ 46 → ⊥) → false ≡ is_call_row x
    call_long g d = other (same_off y (bytes ":") g) d

    pub call_other : (get_or y 0 0 ≡ 58 → ⊥) → (get_or y 0 0 ≡ 46 → ⊥) → false ≡ is_call_row x
    call_other g d = other (colon_off y g) d

    module _ (h : k ≡ 0 → ⊥) where
      -- word bytes and a colon
      pub call_plain : length y ≡ 1 → get_or y 0 0 ≡ 58 → true ≡ is_call_row x
      unfolding call_at
      call_plain g d = sym (rw (from_end, colon_alone y g d, lt-ltb 0 k (omega arith))) ∙ by_place

      module _ (d : get_or y 0 0 ≡ 46) (m : ℕ) (s : m ≡ scan (holds Digit) (take (length y - 1) (drop 1 y))) where
        -- what follows the dot
        rest : drop (k + 1) x ≡ drop 1 y
        rest = sym (ap (drop 1) (f ∙ part_from k x) ∙ drop-drop 1 k x)

        digits : scan is_digit (drop (k + 1) x) ≡ m
        digits = ap (scan is_digit) rest ∙ sym (s ∙ ap (scan is_digit) (part_from 1 y))

        bare : same (drop k x) (bytes ":") ≡ false
        bare = ap (λ (l : List ℕ). same l (bytes ":")) from_end ∙ colon_off y (λ q. omega arith)

        -- a dot without digits
        pub call_bare : m ≡ 0 → not (eqb m 0) ≡ is_call_row x
        unfolding call_at
        call_bare z = rw z (sym (rw (digits, z, bare, first, eq-eqb _ _ d, and-false (ltb 0 k))) ∙ by_place)

        -- a dot and digits: a label exactly where a colon follows
        pub call_dotted : (m ≡ 0 → ⊥) → (q : Bool) → q ≡ pointwise eqb (take (length (take (length y - 1) (drop 1 y)) - m) (drop m (take (length y - 1) (drop 1 y)))) (bytes ":") → q ≡ is_call_row x
        unfolding call_at
        call_dotted z q p =
            let t : same (drop (k + 1 + m) x) (bytes ":") ≡ q =
            same_pointwise (drop (k + 1 + m) x) (bytes ":")
            ∙ ap (λ (l : List ℕ). pointwise eqb l (bytes ":")) (sym (drop-drop m (k + 1) x) ∙ ap (drop m) (rest ∙ sym (part_from 1 y)) ∙ sym (part_from m (take (length y - 1) (drop 1 y))))
            ∙ sym p in
            sym (rw (digits, bare, first, eq-eqb _ _ d, lt-ltb 0 k (omega arith), lt-ltb 0 m (omega arith), t)) ∙ by_place

pub ruleset call_laws = (call_none, call_end, call_long, call_other, call_plain, call_bare, call_dotted, within_laws, rules)

-- ---- the rows of the other two kinds

module _ (letters x : List ℕ) where
  -- too few bytes
  pair_few : length x < length letters + 2 → false ≡ is_pair_row letters x
  unfolding is_pair_row scan
  pair_few h =
      let l : length (take (length x - 1) x) ≡ length x - 1 = length-take-le _ x (omega arith) in
      let w : slice (length letters + 1) (length x - 1) x ≡ [] = drop_of_length-le (take (length x - 1) x) {i = length letters + 1} (omega arith) in
      sym (rw (w, and-false (byte_is x 0 46 && same (slice 1 (length letters + 1) x) letters)))

  pub pair_short : length x < 2 → false ≡ is_pair_row letters x
  pair_short h = pair_few (omega arith)

  -- no dot in front
  pub pair_bare : (get_or x 0 0 ≡ 46 → ⊥) → false ≡ is_pair_row letters x
  unfolding is_pair_row
  pair_bare h = sym (rw (ne_eqb _ _ h))

  -- no colon at the end
  pub pair_open : (get_or x (length x - 1) 0 ≡ 58 → ⊥) → false ≡ is_pair_row letters x
  unfolding is_pair_row
  pair_open d = sym (rw (ne_eqb _ _ d, and-false (byte_is x 0 46 && same (slice 1 (length letters + 1) x) letters && is_pair (slice (length letters + 1) (length x - 1) x))))

  -- what stands between the dot and the colon
  module _ (y : List ℕ) (f : y ≡ take (length x - 1 - 1) (drop 1 x)) where
    -- its beginning as it is compared, where it is long enough
    spelt : length letters + 2 ≤ length x → same (slice 1 (length letters + 1) x) letters ≡ pointwise eqb (take (length letters) y) letters
    spelt h =
        same_pointwise (slice 1 (length letters + 1) x) letters
        ∙ ap (λ (l : List ℕ). pointwise eqb l letters) (sym (part_slice 1 (length letters + 1) x) ∙ ap (λ (n : ℕ). take n (drop 1 x)) (omega arith) ∙ sym (take-take (length letters) (length x - 1 - 1) (drop 1 x) (omega arith)) ∙ ap (take (length letters)) (sym f))

    -- other letters
    pub pair_other : pointwise eqb (take (length letters) y) letters ≡ false → false ≡ is_pair_row letters x
    unfolding is_pair_row
    pair_other g = go (ltb (length x) (length letters + 2)) refl
      where
        go : (t : Bool) → ltb (length x) (length letters + 2) ≡ t → false ≡ is_pair_row letters x
        go true e = pair_few (ltb-true _ _ e)
        go false e = sym (rw (spelt (ltb-false _ _ e), g, and-false (byte_is x 0 46)))

    -- all this: a label exactly where a pair stands between
    pub pair_between : get_or x 0 0 ≡ 46 → get_or x (length x - 1) 0 ≡ 58 → 2 ≤ length x → pointwise eqb (take (length letters) y) letters ≡ true → (z : List ℕ) → z ≡ drop (length letters) y → length z + length letters ≡ length y → (q : Bool) → q ≡ is_pair z → q ≡ is_pair_row letters x
    unfolding is_pair_row
    pair_between h d n g z i k q p =
        let l : length y ≡ length x - 1 - 1 = ap length f ∙ length-take-le (length x - 1 - 1) (drop 1 x) (omega (arith, length-drop 1 x)) in
        let t : is_pair (slice (length letters + 1) (length x - 1) x) ≡ q = sym (p ∙ ap is_pair (i ∙ inner)) in
        sym (rw (eq-eqb _ _ h, spelt (omega arith), g, t, eq-eqb _ _ d, and-true q))
      where
        inner : drop (length letters) y ≡ slice (length letters + 1) (length x - 1) x
        inner = ap (drop (length letters)) (f ∙ part_slice 1 (length x - 1) x) ∙ drop-drop (length letters) 1 (take (length x - 1) x) ∙ ap (λ (n : ℕ). drop n (take (length x - 1) x)) (omega arith)

pub ruleset pair_laws = (pair_short, pair_bare, pair_other, pair_open, pair_between, rules)

-- ---- the three kinds

-- what a piece is as a label row
abbrev labelled : ℕ → List ℕ → Option AsmRow
labelled start x = or_else_row (label_row (record { start = start; text = x })) None

-- a piece without bytes is none
pub label_empty : (start : ℕ) (x : List ℕ) → length x ≡ 0 → None ≡ labelled start x
unfolding label_row is_call_row is_pair_row scan
label_empty start [] h = refl
label_empty start (y ∷ ys) h = absurd (omega arith)

-- a piece by what the tests for the three kinds told
module _ (start : ℕ) (x : List ℕ) (a : Bool) (e : a ≡ is_call_row x) where
  -- a call label
  pub label_call : a ≡ true → Some (LabelCall start (length x - 1)) ≡ labelled start x
  unfolding label_row
  label_call h = rw (sym e ∙ h)

  module _ (h : a ≡ false) (b : Bool) (f : b ≡ is_pair_row (bytes "LBL") x) where
    -- a label for jumps
    pub label_jmp : b ≡ true → Some (LabelJmp start (length x - 1)) ≡ labelled start x
    unfolding label_row
    label_jmp g = rw (sym e ∙ h, sym f ∙ g)

    module _ (g : b ≡ false) (c : Bool) (i : c ≡ is_pair_row (bytes "PROPHET") x) where
      -- a prophet's label
      pub label_prophet : c ≡ true → Some (LabelProphet start (length x - 1)) ≡ labelled start x
      unfolding label_row
      label_prophet k = rw (sym e ∙ h, sym f ∙ g, sym i ∙ k)

      -- none of the three
      pub label_none : c ≡ false → None ≡ labelled start x
      unfolding label_row
      label_none k = rw (sym e ∙ h, sym f ∙ g, sym i ∙ k)

pub ruleset label_laws = (label_empty, label_call, label_jmp, label_prophet, label_none, rules)
