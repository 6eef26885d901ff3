-- Laws of a line's ends: the one scan, to a comment and on from there to the line feed, finds what the line without its comment and the line are.
use Prim.Native.Nat.{ℕ, suc, ◌+◌, ◌<◌, ◌≤◌}
use mathlib.Core.Path.{◌≡◌, refl, sym, ap, ◌∙◌}
use mathlib.Core.List.{List, [], ◌∷◌}
use mathlib.Core.Bool.{Bool, true, false, ◌&&◌, cond}
use native.Mathlib.Omega.{arith}
use borrow.Author.Rules.{rules}
use borrow.Author.Tests.{eq-eqb, ne_eqb}
use lib.ListN.{length, get_or, take, drop, drop_of_length-le}
use lib.Seq.{drop-drop}
use Rattle.text.specs.Scan.{scan}
use Rattle.text.specs.Lines.{not_feed}
use Rattle.std.specs.List.{slice_range}
use Rattle.std.specs.Option.{MatchOption, unwrap_or}
use denote.Ref.{Bor}
use mathlib.Core.Logic.{◌⊎◌, inl, inr}
use Rattle.std.specs.Prelude.{Option, Some, None}
use Rattle.text.proofs.Laws.{drop_next, part_from}
use Rattle.asm_rows.specs.Found.{is_not, both, stop_at, line_ends}

-- what `get` gives of a text from place i on, or nothing where that is past its end
pub got_from : (l : List ℕ) (i : ℕ) (r : Option (Bor (List ℕ))) (d : Bor (List ℕ)) → MatchOption r ((length l < i) ⊎ (length l < length l)) (λ x. (i ≤ length l) × (length l ≤ length l) × (x.now ≡ slice_range l i (length l)) × (length x.now + i ≡ length l)) → d.now ≡ [] → (unwrap_or r d).now ≡ drop i l
got_from l i (Some x) d h e = h.2 ∙ part_from i l
got_from l i None d h e = e ∙ sym (drop_of_length-le l (go h))
  where
    go : (length l < i) ⊎ (length l < length l) → length l ≤ i
    go (inl k) = omega arith
    go (inr k) = omega arith

-- ---- one scan by two tests

-- the same test twice is that test
scan_twice : (q : ℕ → Bool) (l : List ℕ) → scan (both q q) l ≡ scan q l
unfolding scan
scan_twice q [] = refl
scan_twice q (x ∷ xs) = go (q x) (scan_twice q xs)
  where
    go : (u : Bool) → scan (both q q) xs ≡ scan q xs → cond (u && u) (suc (scan (both q q) xs)) 0 ≡ cond u (suc (scan q xs)) 0
    go true h = ap suc h
    go false h = refl

module _ (p q : ℕ → Bool) where
  -- a scan by both is the scan by the first of what the second passes
  scan_both : (l : List ℕ) → scan (both p q) l ≡ scan p (take (scan q l) l)
  unfolding scan
  scan_both [] = refl
  scan_both (x ∷ xs) = go (p x) (q x) refl (scan_both xs)
    where
      go : (t u : Bool) → p x ≡ t → scan (both p q) xs ≡ scan p (take (scan q xs) xs) → cond (t && u) (suc (scan (both p q) xs)) 0 ≡ scan p (take (cond u (suc (scan q xs)) 0) (x ∷ xs))
      go true true e h = rw e (ap suc h)
      go true false e h = refl
      go false true e h = rw e
      go false false e h = refl

  -- the scan by the second goes on from where it stops
  scan_on : (l : List ℕ) → scan (both p q) l + scan q (drop (scan (both p q) l) l) ≡ scan q l
  unfolding scan
  scan_on [] = refl
  scan_on (x ∷ xs) = go (p x) (q x) refl (scan_on xs)
    where
      go : (t u : Bool) → q x ≡ u → scan (both p q) xs + scan q (drop (scan (both p q) xs) xs) ≡ scan q xs → cond (t && u) (suc (scan (both p q) xs)) 0 + scan q (drop (cond (t && u) (suc (scan (both p q) xs)) 0) (x ∷ xs)) ≡ scan q (x ∷ xs)
      go true true e h = rw e (omega arith)
      go true false e h = omega arith
      go false true e h = omega arith
      go false false e h = omega arith

-- ---- where a line stops

-- place j is reached from place i on
module _ (s : List ℕ) (i j m : ℕ) (e : stop_at s i m ≡ stop_at s j m) where
  pub stop_more : j < length s → (get_or s j 0 ≡ m → ⊥) → (get_or s j 0 ≡ 10 → ⊥) → stop_at s i m ≡ stop_at s (j + 1) m
  unfolding stop_at scan
  stop_more h f g = e ∙ rw (drop_next s j h, ne_eqb (get_or s j 0) m f, ne_eqb (get_or s j 0) 10 g) (omega arith)

  pub stop_mark : j < length s → get_or s j 0 ≡ m → j ≡ stop_at s i m
  unfolding stop_at scan
  stop_mark h f = sym (e ∙ rw (drop_next s j h, eq-eqb (get_or s j 0) m f) (omega arith))

  pub stop_feed : j < length s → (get_or s j 0 ≡ m → ⊥) → get_or s j 0 ≡ 10 → j ≡ stop_at s i m
  unfolding stop_at scan
  stop_feed h f g = sym (e ∙ rw (drop_next s j h, ne_eqb (get_or s j 0) m f, eq-eqb (get_or s j 0) 10 g) (omega arith))

  pub stop_end : length s ≤ j → j ≡ stop_at s i m
  unfolding stop_at scan
  stop_end h = sym (e ∙ rw (drop_of_length-le s h) (omega arith))

pub ruleset stop_laws = (stop_more, stop_mark, stop_feed, stop_end, rules)

-- ---- where it ends

-- at its comment or its line feed, and on from there at its line feed
pub ends_told : (s : List ℕ) (i a b : ℕ) → a ≡ stop_at s i 59 → b ≡ stop_at s a 10 → record { end = a; feed = b } ≡ line_ends s i
unfolding stop_at line_ends
ends_told s i a b e f =
    let n : ℕ = scan (both (is_not 59) not_feed) (drop i s) in
    let c : a ≡ i + scan (is_not 59) (take (scan not_feed (drop i s)) (drop i s)) = e ∙ ap (λ (k : ℕ). i + k) (scan_both (is_not 59) not_feed (drop i s)) in
    let r : scan (both not_feed not_feed) (drop a s) ≡ scan not_feed (drop n (drop i s)) = scan_twice not_feed (drop a s) ∙ ap (λ (k : ℕ). scan not_feed (drop k s)) e ∙ ap (scan not_feed) (sym (drop-drop n i s)) in
    let o : n + scan not_feed (drop n (drop i s)) ≡ scan not_feed (drop i s) = scan_on (is_not 59) not_feed (drop i s) in
    let d : b ≡ i + scan not_feed (drop i s) = f ∙ omega arith in
    cc

pub ruleset end_laws = (ends_told, rules)
