-- Facts about the registers: their order, the tables by that order, their bits in the three places, the search for the lowest bit, and their spellings.
use Rattle.std.specs.Prelude.{Option, Some, None}
use mathlib.Core.Path.{◌≡◌, refl, sym, ap, ◌∙◌}
use mathlib.Core.Bool.{Bool, true, false, cond}
use mathlib.Core.List.{List, [], ◌∷◌, map}
use mathlib.Core.Logic.{inl, inr}
use Prim.Native.Nat.{ℕ, ◌+◌, ◌-◌, ◌*◌, ◌/◌, ◌%◌, ◌^◌, ◌<◌, ◌≤◌}
use native.Mathlib.Nat.{mod-lt, mul-one, mul-zero, add-zero, eq-zero-or-pos}
use native.Mathlib.Numerals.{add-one}
use native.Mathlib.Omega.{arith}
use borrow.Author.Tests.{ltb-true, lt-ltb, le-ltb}
use lib.Dec.{eqb, ltb, lit<, lit≤}
use lib.ListN.{length, get_or, drop, drop_of_length-le}
use lib.Seq.{drop-cons}
use Rattle.text.specs.Bytes.{is_digit, same}
use Rattle.vm_opcodes.specs.Operations.{bit}
use Rattle.vm_opcodes.proofs.Table.{at}
use Rattle.vm_opcodes.proofs.Variants.{each}
use Rattle.vm_hardware.specs.Registers.{place_index, place_bit, registers, register_index, register_at, register_bit, first_register, register_text, register_of, special_text, special_of}
use Rattle.vm_hardware.specs.declared.OlaRegister.{OlaRegister}
use Rattle.vm_hardware.specs.declared.OlaRegister.TheVariants.{R0}
use Rattle.vm_hardware.specs.declared.OlaSpecialRegister.{OlaSpecialRegister}
use Rattle.vm_hardware.specs.declared.OlaSpecialRegister.TheVariants.{PC, PSP}
use Rattle.vm_hardware.specs.declared.Place.{Place}
use Rattle.vm_hardware.specs.declared.Place.TheVariants.{Op0, Op1, Dst}
use Rattle.vm_hardware.specs.contracts.OlaRegister.{enum}

-- a register's index is below ten: one computed test over the registers, as in the next law
pub index_lt : (r : OlaRegister) → register_index r < 10
index_lt r = ltb-true (register_index r) 10 (each enum tt (λ q. ltb (register_index q) 10) (λ q. true) refl r)

-- the register at a register's index is that register
pub register_at_index : (r : OlaRegister) → get_or registers (register_index r) R0 ≡ r
unfolding registers
register_at_index = each enum tt (λ r. get_or registers (register_index r) R0) (λ r. r) refl

-- two registers with one index are one register
pub index_one : (a b : OlaRegister) → register_index a ≡ register_index b → a ≡ b
index_one a b e = sym (register_at_index a) ∙ ap register_at e ∙ register_at_index b

-- the places by their index
abbrev pub places : List Place
places = Op0 ∷ Op1 ∷ Dst ∷ []

pub place_lt : (p : Place) → place_index p < 3
place_lt Op0 = lit< tt
place_lt Op1 = lit< tt
place_lt Dst = lit< tt

pub place_at_index : (p : Place) → get_or places (place_index p) Op0 ≡ p
place_at_index Op0 = refl
place_at_index Op1 = refl
place_at_index Dst = refl

pub placed_lt : (i : ℕ) (p : Place) → i ≡ place_index p → i < 3
placed_lt i p e = omega (arith, place_lt p)

-- the least and the most bit of a place's registers: 52 and 61 in op0, 42 and 51 in op1, 32 and 41 in dst
module _ (p : Place) (r : OlaRegister) where
  pub bit_least : place_bit p ≤ register_bit p r
  bit_least = omega arith

  pub bit_most : register_bit p r ≤ place_bit p + 9
  bit_most = omega (arith, index_lt r)

-- the places' bits lie apart: two places and registers with one bit are one place and one register
pub bit_one : (p q : Place) (a b : OlaRegister) → register_bit p a ≡ register_bit q b → (p ≡ q) × (a ≡ b)
bit_one Op0 Op0 a b e = (refl, index_one a b (omega arith))
bit_one Op0 Op1 a b e = absurd (omega (arith, index_lt b))
bit_one Op0 Dst a b e = absurd (omega (arith, index_lt b))
bit_one Op1 Op0 a b e = absurd (omega (arith, index_lt a))
bit_one Op1 Op1 a b e = (refl, index_one a b (omega arith))
bit_one Op1 Dst a b e = absurd (omega (arith, index_lt b))
bit_one Dst Op0 a b e = absurd (omega (arith, index_lt a))
bit_one Dst Op1 a b e = absurd (omega (arith, index_lt a))
bit_one Dst Dst a b e = (refl, index_one a b (omega arith))

place_most : (p : Place) → place_bit p ≤ 52
place_most Op0 = lit≤ tt
place_most Op1 = lit≤ tt
place_most Dst = lit≤ tt

-- a bit that was answered for a register lies within 64 bits
pub shift_lt : (p : Place) (r : OlaRegister) (k : ℕ) → k ≡ register_bit p r → k < 64
shift_lt p r k e = omega (arith, index_lt r, place_most p)

registers_long : length registers ≡ 10
unfolding registers
registers_long = refl

-- the search for the first register that passes a test, at place i of a list
module _ (f : OlaRegister → Bool) (x : Option OlaRegister) (l : List OlaRegister) (i : ℕ) (e : x ≡ first_register f (drop i l)) where
  pub first_passes : i < length l → f (get_or l i R0) ≡ true → Some (get_or l i R0) ≡ x
  unfolding first_register
  first_passes h b = sym (e ∙ rw (drop-cons l i R0 h, b))

  pub first_fails : i < length l → f (get_or l i R0) ≡ false → x ≡ first_register f (drop (i + 1) l)
  unfolding first_register
  first_fails h b = e ∙ rw (add-one, drop-cons l i R0 h, b)

  pub first_none : length l ≤ i → None ≡ x
  unfolding first_register
  first_none h = sym (e ∙ rw (drop_of_length-le l h))

-- the search in which all are looked at: while k is 1 none before place i passed, once it is 0 the first that passed stands at n
abbrev pub searched : (OlaRegister → Bool) → ℕ → ℕ → ℕ → Option OlaRegister
searched f k n i = cond (eqb k 1) (first_register f (drop i registers)) (Some (get_or registers n R0))

-- the turn at place i, where b says whether the register there passes: k stays 1 only where it does not, and n counts on while k is 1
module _ (f : OlaRegister → Bool) (x : Option OlaRegister) (k n i : ℕ) (s : x ≡ searched f k n i) (h : i < 10) where
  after_found : k ≡ 0 → (c : ℕ) → c ≡ 0 → x ≡ searched f c (n + c) (i + 1)
  after_found e c z = s ∙ rw (e, z, add-zero)

  now_found : k ≡ 1 → n ≡ i → f (get_or registers i R0) ≡ true → (c : ℕ) → c ≡ 0 → x ≡ searched f c (n + c) (i + 1)
  now_found e m t c z = sym (rw (z, add-zero, m) (first_passes f x registers i (s ∙ rw e) (omega (arith, registers_long)) t))

  not_found : k ≡ 1 → f (get_or registers i R0) ≡ false → (c : ℕ) → c ≡ 1 → x ≡ searched f c (n + c) (i + 1)
  not_found e t c z = rw z (first_fails f x registers i (s ∙ rw e) (omega (arith, registers_long)) t)

  turned : (b : ℕ) → b < 2 → f (get_or registers i R0) ≡ eqb b 1 → k ≤ 1 → (k ≡ 1 → n ≡ i) → x ≡ searched f (k - k * b) (n + (k - k * b)) (i + 1)
  turned b d t l m =
      elim (eq-zero-or-pos k) [
        | inl z ↦ after_found z (k - k * b) (omega arith)
        | inr y ↦
            let o : k ≡ 1 = omega arith in
            elim (eq-zero-or-pos b) [
              | inl z ↦ not_found o (t ∙ rw z) (k - k * b) (let e : k * b ≡ 0 = ap (λ (j : ℕ). k * j) z ∙ mul-zero k in omega arith)
              | inr q ↦
                  let u : b ≡ 1 = omega arith in
                  now_found o (m o) (t ∙ rw u) (k - k * b) (let e : k * b ≡ k = ap (λ (j : ℕ). k * j) u ∙ mul-one k in omega arith)
            ]
      ]

-- after all ten: where none passed n is past the last, and else the register at n is the first that did
pub last_found : (f : OlaRegister → Bool) (x : Option OlaRegister) (k n i : ℕ) → x ≡ searched f k n i → k ≤ 1 → 10 ≤ i → i ≤ 10 → n + 1 ≤ i + k → i + 10 * k ≤ n + 10 → cond (ltb n 10) (Some (get_or registers n R0)) None ≡ x
last_found f x k n i s l h z a b =
    elim (eq-zero-or-pos k) [
      | inl e ↦ rw (lt-ltb n 10 (omega arith)) (sym (s ∙ rw e))
      | inr y ↦
          let o : k ≡ 1 = omega arith in
          rw (le-ltb n 10 (omega arith)) (first_none f x registers i (s ∙ rw o) (omega (arith, registers_long)))
    ]

-- the table of shifts: a row by the places' order, an entry by the registers'
pub row_of : (table : List (List ℕ)) → table ≡ map (λ q. map (register_bit q) registers) places → (p : Place) (k : ℕ) → k ≡ place_index p → get_or table k [] ≡ map (register_bit p) registers
row_of table t p k e =
    at (λ q. map (register_bit q) registers) Op0 [] places table t k (placed_lt k p e)
    ∙ ap (λ (i : ℕ). map (register_bit (get_or places i Op0)) registers) e
    ∙ ap (λ (q : Place). map (register_bit q) registers) (place_at_index p)

-- a place's row of shifts
module _ (p : Place) (row : List ℕ) (t : row ≡ map (register_bit p) registers) (i : ℕ) (h : i < 10) where
  shift_at : get_or row i 0 ≡ register_bit p (get_or registers i R0)
  shift_at = at (register_bit p) R0 0 registers row t i (omega (arith, registers_long))

  pub shift_at_lt : get_or row i 0 < 64
  shift_at_lt = shift_lt p (get_or registers i R0) _ shift_at

  -- the search for the lowest bit of the place, at place i of the row: the bit of the register there decides
  pub looked : (x : Option OlaRegister) (w c n b : ℕ) → x ≡ searched (λ r. bit (register_bit p r) w) c n i → c ≤ 1 → (c ≡ 1 → n ≡ i) → b ≡ w / 2 ^ get_or row i 0 % 2 → x ≡ searched (λ r. bit (register_bit p r) w) (c - c * b) (n + (c - c * b)) (i + 1)
  looked x w c n b s l m q =
      let d : b < 2 = rw q (mod-lt (w / 2 ^ get_or row i 0) (lit< tt)) in
      turned (λ r. bit (register_bit p r) w) x c n i s h b d (ap (λ (j : ℕ). eqb (w / 2 ^ j % 2) 1) (sym shift_at) ∙ ap (λ (j : ℕ). eqb j 1) (sym q)) l m

-- a spelling is read as what it was written for
pub register_of_text : (r : OlaRegister) → register_of (register_text r) ≡ Some r
unfolding register_of is_digit registers
register_of_text = each enum tt (λ r. register_of (register_text r)) Some refl

pub special_of_text : (s : OlaSpecialRegister) → special_of (special_text s) ≡ Some s
unfolding special_of same
special_of_text PC = refl
special_of_text PSP = refl
