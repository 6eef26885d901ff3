-- Hosts marked in words of 64 bits: the mark of h is bit h % 64 of word h / 64.
use Prim.Native.Nat.{ℕ, zero, suc, ◌+◌, ◌*◌, ◌/◌, ◌%◌, ◌^◌, ◌<◌}
use mathlib.Core.Path.{◌≡◌, refl, sym, ap, ◌∙◌}
use mathlib.Core.List.{List, [], ◌∷◌}
use mathlib.Core.Bool.{Bool, true, false, ◌||◌}
use native.Mathlib.Omega.{arith}
use native.Mathlib.Nat.{zero-div}
use borrow.Author.Tests.{eq-eqb, ne_eqb, eqb-true, eqb-false}
use lib.Dec.{eqb, lit<}
use lib.ListN.{length, get_or, set, replicate, length-set, length-replicate}
use lib.Seq.{get_or-set_same, get_or-set_other}
use Rattle.vm_opcodes.specs.Operations.{bit}
use Rattle.relocate.specs.Prophets.{is_in}
use Rattle.relocate_kept.proofs.BitLaws.{bit_added, bit_kept, bit_fits, bit_alone}

abbrev word_of : List ℕ → ℕ → ℕ
word_of ms h = get_or ms (h / 64) 0

abbrev marked : List ℕ → ℕ → Bool
marked ms h = bit (h % 64) (word_of ms h)

-- in n words those hosts are marked that a list has, of all that have a mark there
pub record Marks (n : ℕ) (ms hs : List ℕ) : Type 0 where
  pub long : length ms ≡ n
  pub narrow : (k : ℕ) → get_or ms k 0 < 2 ^ 64
  pub each : (h : ℕ) → h / 64 < n → marked ms h ≡ is_in h hs

zero_words : (n k : ℕ) → ◌≡◌ {A = ℕ} (get_or (replicate n 0) k 0) 0
zero_words zero k = refl
zero_words (suc n) zero = refl
zero_words (suc n) (suc k) = zero_words n k

-- none is marked at the start
pub marks_none : (n : ℕ) → Marks n (replicate n 0) []
unfolding is_in
marks_none n = record {
  long = length-replicate n 0;
  narrow = λ k. rw (zero_words n k) (lit< tt);
  each = λ h l. rw (zero_words n (h / 64), zero-div);
}

module _ (n : ℕ) (ms hs : List ℕ) (m : Marks n ms hs) (h : ℕ) (l : h / 64 < n) where
  -- a host that has its mark is in the list
  pub marked_in : (word_of ms h / 2 ^ (h % 64) % 2 ≡ 0 → ⊥) → is_in h hs ≡ true
  marked_in k = let e : word_of ms h / 2 ^ (h % 64) % 2 ≡ 1 = omega arith in sym (m.each h l) ∙ eq-eqb _ 1 e

  -- one that lacks it is not
  pub unmarked_out : word_of ms h / 2 ^ (h % 64) % 2 ≡ 0 → is_in h hs ≡ false
  unmarked_out k = sym (m.each h l) ∙ ne_eqb (word_of ms h / 2 ^ (h % 64) % 2) 1 (omega arith)

  -- with the first, the marks are those of a list that has it once more
  pub marks_again : (word_of ms h / 2 ^ (h % 64) % 2 ≡ 0 → ⊥) → Marks n ms (h ∷ hs)
  unfolding is_in
  marks_again k = record { long = m.long; narrow = m.narrow; each = λ g b. m.each g b ∙ go g (eqb g h) refl }
    where
      go : (g : ℕ) (t : Bool) → eqb g h ≡ t → is_in g hs ≡ t || is_in g hs
      go g true e = ap (λ (x : ℕ). is_in x hs) (eqb-true g h e) ∙ marked_in k
      go g false e = refl

  -- with the second, they are so once it is marked
  module _ (z : word_of ms h / 2 ^ (h % 64) % 2 ≡ 0) where
    abbrev after : List ℕ
    after = set ms (h / 64) (word_of ms h + 2 ^ (h % 64))

    at : (k : ℕ) → k ≡ h / 64 → get_or after k 0 ≡ word_of ms h + 2 ^ (h % 64)
    at k e = ap (λ (j : ℕ). get_or after j 0) e ∙ get_or-set_same ms (h / 64) _ 0 (omega arith)

    besides : (k : ℕ) → (k ≡ h / 64 → ⊥) → get_or after k 0 ≡ get_or ms k 0
    besides k e = get_or-set_other ms (h / 64) k _ 0 e

    fits : word_of ms h + 2 ^ (h % 64) < 2 ^ 64
    fits = bit_fits 64 (h % 64) (word_of ms h) (omega arith) (m.narrow (h / 64)) z

    narrow_after : (k : ℕ) → get_or after k 0 < 2 ^ 64
    narrow_after k = go (eqb k (h / 64)) refl
      where
        go : (t : Bool) → eqb k (h / 64) ≡ t → get_or after k 0 < 2 ^ 64
        go true e = rw (at k (eqb-true k (h / 64) e)) fits
        go false e = rw (besides k (eqb-false k (h / 64) e)) (m.narrow k)

    -- another host's mark
    other : (g : ℕ) → (g ≡ h → ⊥) → marked after g ≡ marked ms g
    other g d = go (eqb (g / 64) (h / 64)) refl
      where
        go : (t : Bool) → eqb (g / 64) (h / 64) ≡ t → marked after g ≡ marked ms g
        go true e =
            let p : g / 64 ≡ h / 64 = eqb-true (g / 64) (h / 64) e in
            let q : g % 64 ≡ h % 64 → ⊥ = λ s. d (omega arith) in
            ap (λ (w : ℕ). bit (g % 64) w) (at (g / 64) p)
            ∙ ap (λ (x : ℕ). eqb x 1) (bit_kept (h % 64) (g % 64) (word_of ms h) q z)
            ∙ ap (λ (k : ℕ). bit (g % 64) (get_or ms k 0)) (sym p)
        go false e = ap (λ (w : ℕ). bit (g % 64) w) (besides (g / 64) (eqb-false (g / 64) (h / 64) e))

    own : marked after h ≡ true
    own = ap (λ (w : ℕ). bit (h % 64) w) (at (h / 64) refl) ∙ eq-eqb _ 1 (bit_added (h % 64) (word_of ms h) z)

    marks_set : Marks n after (h ∷ hs)
    unfolding is_in
    marks_set = record { long = length-set ms (h / 64) _ ∙ m.long; narrow = narrow_after; each = λ g b. go g b (eqb g h) refl }
      where
        go : (g : ℕ) → g / 64 < n → (t : Bool) → eqb g h ≡ t → marked after g ≡ t || is_in g hs
        go g b true e = ap (λ (x : ℕ). marked after x) (eqb-true g h e) ∙ own
        go g b false e = other g (eqb-false g h e) ∙ m.each g b

    pub marks_more : Marks n (set ms (h / 64) (word_of ms h + (1 * 2 ^ (h % 64)) % 2 ^ 64)) (h ∷ hs)
    marks_more = rw (bit_alone (h % 64) (omega arith)) marks_set

    pub mark_fits : word_of ms h + (1 * 2 ^ (h % 64)) % 2 ^ 64 < 2 ^ 64
    mark_fits = rw (bit_alone (h % 64) (omega arith)) fits
