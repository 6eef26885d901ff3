-- Laws of scan and of what a test told, in the shapes in which functions ask for them; later crates cite them.
use Prim.Native.Nat.{ℕ, zero, suc, ◌+◌, ◌-◌, ◌<◌, ◌≤◌}
use mathlib.Core.Path.{◌≡◌, refl, sym, ap, ◌∙◌}
use mathlib.Core.List.{List, [], ◌∷◌}
use mathlib.Core.Bool.{Bool, true, false, cond, not, ◌&&◌, ◌||◌, and-eq-true_iff, true≢false}
use native.Mathlib.Omega.{arith}
use native.Mathlib.Numerals.{add-one, unary_clauses}
use native.Mathlib.Nat.{zero-sub, le_refl}
use borrow.Author.Tests.{le-leb, lt-leb, lt-ltb, le-ltb, eq-eqb, ne_eqb, not-true, not-false}
use lib.Dec.{eqb}
use Rattle.std.specs.List.{prefix_len, take_while}
use Rattle.std.proofs.lemmas.List.Folds.{length-prefix_len}
use Rattle.std.proofs.lemmas.List.Sums.{prefix_len-le-length, prefix_len_stops}
use lib.ListN.{length, get_or, take, drop, length-drop}
use lib.Seq.{slice, drop-cons, take_all, take-nil, length-take-le}
use Rattle.text.specs.Scan.{scan, all}

-- a definition that goes by tests, at a return: each test's value from what a branch told
pub ruleset tests = (eq-eqb, ne_eqb, le-leb, lt-leb, le-ltb, lt-ltb)

-- the element at i and the rest, by the code's i + 1
pub drop_next : (s : List ℕ) (i : ℕ) → i < length s → drop i s ≡ get_or s i 0 ∷ drop (i + 1) s
drop_next s i h = rw add-one (drop-cons s i 0 h)

-- a part `&s[a..]`, as the code has it, is what `drop` leaves
pub part_from : (a : ℕ) (l : List ℕ) → take (length l - a) (drop a l) ≡ drop a l
part_from a l = take_all (length l - a) (drop a l) (simp length-drop (le_refl _))

-- a part `&l[f..t]`, as the code has it, is the slice
pub part_slice : (f t : ℕ) (l : List ℕ) → take (t - f) (drop f l) ≡ slice f t l
part_slice zero t l = simp unary_clauses refl
part_slice (suc f) zero l = rw (zero-sub (suc f))
part_slice (suc f) (suc t) [] = simp unary_clauses (take-nil (t - f))
part_slice (suc f) (suc t) (x ∷ xs) = simp unary_clauses (part_slice f t xs)

-- what stands up to a place has as many entries
pub part_counts : {A : Type 0} (xs : List A) (n : ℕ) → n ≤ length xs → n ≡ length (take n xs)
part_counts xs n h = sym (length-take-le n xs h)

-- what a call that returns a flag told, behind a test of the flag
module _ (r t : Bool) (e : r ≡ t) where
  pub told_not_true : not r ≡ true → t ≡ false
  told_not_true h = sym e ∙ not-true r h

  pub told_not_false : not r ≡ false → t ≡ true
  told_not_false h = sym e ∙ not-false r h

-- std's `take_while` takes the bytes that the scan counts
scan_prefix : (p : ℕ → Bool) (s : List ℕ) → scan p s ≡ prefix_len p s
unfolding scan
scan_prefix p [] = refl
scan_prefix p (x ∷ xs) = let h = scan_prefix p xs in ap (λ (n : ℕ). cond (p x) n 0) (omega arith)

pub scan_taken : (p : ℕ → Bool) (s : List ℕ) → length (take_while p s) ≡ scan p s
scan_taken p s = length-prefix_len p s ∙ sym (scan_prefix p s)

pub scan_le : (p : ℕ → Bool) (s : List ℕ) → scan p s ≤ length s
scan_le p s = rw (scan_prefix p s) (prefix_len-le-length p s)

-- what a caller needs of a count that a scan returned: it lies within the text, and the part `&s[..r]` has that length
module _ (p : ℕ → Bool) (l : List ℕ) (r : ℕ) where
  pub scan_within : r ≡ scan p l → r ≤ length l
  scan_within e = let h = scan_le p l in omega arith

  pub scan_counts : r ≡ scan p l → r ≡ length (take r l)
  scan_counts e = sym (length-take-le r l (scan_within e))

pub ruleset within_laws = (scan_within, scan_counts)

-- where the scan stops short, the test fails at the byte that stopped it
pub scan_stopped : (p : ℕ → Bool) (s : List ℕ) → scan p s < length s → p (get_or s (scan p s) 0) ≡ false
scan_stopped p s = rw (scan_prefix p s) (prefix_len_stops p s 0)

-- the scan takes all exactly where all bytes pass
pub scan_all : (p : ℕ → Bool) (s : List ℕ) → all p s ≡ true → scan p s ≡ length s
unfolding scan all
scan_all p [] h = refl
scan_all p (x ∷ xs) h = go (p x) refl (scan_all p xs) h
  where
    go : (t : Bool) → p x ≡ t → (all p xs ≡ true → scan p xs ≡ length xs) → t && all p xs ≡ true → cond t (suc (scan p xs)) 0 ≡ suc (length xs)
    go true e f k = ap suc (f k)
    go false e f k = let z : ◌≡◌ {A = ℕ} 0 1 = cc in absurd (omega arith)

pub all_scan : (p : ℕ → Bool) (s : List ℕ) → scan p s ≡ length s → all p s ≡ true
unfolding scan all
all_scan p [] h = refl
all_scan p (x ∷ xs) h = go (p x) (all_scan p xs) h
  where
    go : (t : Bool) → (scan p xs ≡ length xs → all p xs ≡ true) → cond t (suc (scan p xs)) 0 ≡ suc (length xs) → t && all p xs ≡ true
    go true f k = f (omega arith)
    go false f k = absurd (omega arith)

-- where neither of two is true
pub both_false : (t u : Bool) → t || u ≡ false → (t ≡ false) × (u ≡ false)
both_false true u e = absurd (true≢false e)
both_false false u e = (refl, e)

-- a byte that passes a test is not one that does not
pub other_byte : (p : ℕ → Bool) (x b : ℕ) → p x ≡ true → p b ≡ false → eqb x b ≡ false
other_byte p x b h k = ne_eqb x b (λ q. true≢false (sym h ∙ ap p q ∙ k))

-- which stands nowhere among bytes that pass, unless it is 0, as past their end
pub nowhere_among : (p : ℕ → Bool) (s : List ℕ) (k b : ℕ) → all p s ≡ true → p b ≡ false → eqb 0 b ≡ false → eqb (get_or s k 0) b ≡ false
unfolding all
nowhere_among p [] k b h f z = z
nowhere_among p (x ∷ xs) zero b h f z = other_byte p x b ((and-eq-true_iff (p x) (all p xs)).0 h).0 f
nowhere_among p (x ∷ xs) (suc k) b h f z = nowhere_among p xs k b ((and-eq-true_iff (p x) (all p xs)).0 h).1 f z
