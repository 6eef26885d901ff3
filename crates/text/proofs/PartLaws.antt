-- Lines and pieces one after another: a text that is not empty has its first line and then the lines of what follows it.
use Prim.Native.Nat.{ℕ, suc, ◌+◌, ◌-◌, ◌<◌, ◌≤◌}
use mathlib.Core.Path.{◌≡◌, refl, sym, ap, ◌∙◌}
use mathlib.Core.List.{List, [], ◌∷◌}
use mathlib.Core.Bool.{Bool, true, false, cond, not}
use native.Mathlib.Omega.{arith}
use native.Mathlib.Numerals.{add-one}
use borrow.Author.Tests.{lt-ltb, le-ltb, ltb-true, ltb-false, not-false}
use lib.Dec.{ltb}
use lib.ListN.{length, get_or, take, drop, drop_of_length-le, length-drop}
use lib.Seq.{drop-cons, take_all, take-take, length-take-le, drop-drop}
use Rattle.text.specs.Scan.{scan, parts, on_first}
use Rattle.text.specs.Bytes.{is_space}
use Rattle.text.specs.Lines.{is_feed, not_feed, ends_in_return, without_return, ended, lines, line_length, line_next}
use Rattle.text.specs.Pieces.{filled, pieces, not_space, piece_start, piece_length}
use Rattle.text.proofs.Laws.{scan_le, scan_stopped}

abbrev other : (ℕ → Bool) → ℕ → Bool
other p b = not (p b)

-- the first part, and the parts of what follows the byte that ended it
module _ (p : ℕ → Bool) where
  pub parts_whole : (s : List ℕ) → length s ≤ scan (other p) s → parts p s ≡ s ∷ []
  unfolding scan parts
  parts_whole [] h = refl
  parts_whole (x ∷ xs) h = go (p x) (parts_whole xs) h
    where
      go : (t : Bool) → (length xs ≤ scan (other p) xs → parts p xs ≡ xs ∷ []) → suc (length xs) ≤ cond (not t) (suc (scan (other p) xs)) 0 → cond t ([] ∷ parts p xs) (on_first x (parts p xs)) ≡ (x ∷ xs) ∷ []
      go true f k = absurd (omega arith)
      go false f k = ap (on_first x) (f (omega arith))

  pub parts_first : (s : List ℕ) → scan (other p) s < length s → parts p s ≡ take (scan (other p) s) s ∷ parts p (drop (suc (scan (other p) s)) s)
  unfolding scan parts
  parts_first [] h = absurd (omega arith)
  parts_first (x ∷ xs) h = go (p x) (parts_first xs) h
    where
      go : (t : Bool) → (scan (other p) xs < length xs → parts p xs ≡ take (scan (other p) xs) xs ∷ parts p (drop (suc (scan (other p) xs)) xs)) → cond (not t) (suc (scan (other p) xs)) 0 < suc (length xs) → cond t ([] ∷ parts p xs) (on_first x (parts p xs)) ≡ take (cond (not t) (suc (scan (other p) xs)) 0) (x ∷ xs) ∷ parts p (drop (suc (cond (not t) (suc (scan (other p) xs)) 0)) (x ∷ xs))
      go true f k = refl
      go false f k = ap (on_first x) (f (omega arith))

  parts_count : (s : List ℕ) → 0 < length (parts p s)
  unfolding parts
  parts_count [] = omega arith
  parts_count (x ∷ xs) = go (p x) (parts p xs)
    where
      go : (t : Bool) (ls : List (List ℕ)) → 0 < length (cond t ([] ∷ ls) (on_first x ls))
      go true ls = omega arith
      go false [] = omega arith
      go false (m ∷ ls) = omega arith

  -- there is always a part
  pub parts_some : (s : List ℕ) → (l : List ℕ) × (ls : List (List ℕ)) × (parts p s ≡ l ∷ ls)
  parts_some s = go (parts p s) refl (parts_count s)
    where
      go : (ls : List (List ℕ)) → parts p s ≡ ls → 0 < length (parts p s) → (l : List ℕ) × (ls : List (List ℕ)) × (parts p s ≡ l ∷ ls)
      go [] e h = absurd (omega (arith, ap length e))
      go (l ∷ ls) e h = (l, ls, e)

-- ---- lines

pub lines_none : lines [] ≡ []
unfolding lines ended parts
lines_none = refl

-- a line without its return is no longer
pub without_return_le : (l : List ℕ) → length (without_return l) ≤ length l
without_return_le l = go (ends_in_return l)
  where
    go : (t : Bool) → length (cond t (take (length l - 1) l) l) ≤ length l
    go true = let e = length-take-le (length l - 1) l (omega arith) in omega arith
    go false = omega arith

without_return_take : (n : ℕ) (s : List ℕ) → n ≤ length s → take (length (without_return (take n s))) s ≡ without_return (take n s)
without_return_take n s h = go (ends_in_return (take n s))
  where
    go : (t : Bool) → take (length (cond t (take (length (take n s) - 1) (take n s)) (take n s))) s ≡ cond t (take (length (take n s) - 1) (take n s)) (take n s)
    go true =
        let e : length (take n s) ≡ n = length-take-le n s h in
        let f : length (take (length (take n s) - 1) (take n s)) ≡ n - 1 = length-take-le (length (take n s) - 1) (take n s) (omega arith) ∙ omega arith in
        rw (f, e) (sym (take-take (n - 1) n s (omega arith)))
    go false = rw (length-take-le n s h)

module _ (s : List ℕ) where
  pub line_ended : scan not_feed s < length s → (line_length s ≡ length (without_return (take (scan not_feed s) s))) × (line_next s ≡ scan not_feed s + 1)
  unfolding line_length line_next
  line_ended h = (rw (lt-ltb _ _ h), rw (lt-ltb _ _ h))

  pub line_last : length s ≤ scan not_feed s → (line_length s ≡ scan not_feed s) × (line_next s ≡ scan not_feed s)
  unfolding line_length line_next
  line_last h = (rw (le-ltb _ _ h), rw (le-ltb _ _ h))

  pub line_within : (line_length s ≤ line_next s) × (line_next s ≤ length s)
  line_within = go (ltb (scan not_feed s) (length s)) refl
    where
      go : (t : Bool) → ltb (scan not_feed s) (length s) ≡ t → (line_length s ≤ line_next s) × (line_next s ≤ length s)
      go true e =
          let h : scan not_feed s < length s = ltb-true _ _ e in
          let w = line_ended h in
          let k = without_return_le (take (scan not_feed s) s) in
          let l = length-take-le (scan not_feed s) s (omega arith) in
          (omega arith, omega arith)
      go false e =
          let h : length s ≤ scan not_feed s = ltb-false _ _ e in
          let w = line_last h in
          let k = scan_le not_feed s in
          (omega arith, omega arith)

ended_more : (l t : List ℕ) → ended (l ∷ parts is_feed t) ≡ without_return l ∷ ended (parts is_feed t)
unfolding ended
ended_more l t = let q = parts_some is_feed t in rw q.2

last_line : (l : List ℕ) → 0 < length l → (n : ℕ) → length l ≤ n → ended (l ∷ []) ≡ take n l ∷ ended (parts is_feed (drop n l))
unfolding ended parts
last_line [] p n q = absurd (omega arith)
last_line (x ∷ xs) p n q = rw (take_all n (x ∷ xs) q, drop_of_length-le (x ∷ xs) q)

-- a text that is not empty is its first line and then the lines from the next one's start
pub lines_first : (s : List ℕ) → 0 < length s → lines s ≡ take (line_length s) s ∷ lines (drop (line_next s) s)
unfolding lines
lines_first s h = go (ltb (scan not_feed s) (length s)) refl
  where
    go : (t : Bool) → ltb (scan not_feed s) (length s) ≡ t → ended (parts is_feed s) ≡ take (line_length s) s ∷ ended (parts is_feed (drop (line_next s) s))
    go true e =
        let k : scan not_feed s < length s = ltb-true _ _ e in
        let w = line_ended s k in
        rw (parts_first is_feed s k, ended_more, w.0, w.1, add-one, without_return_take (scan not_feed s) s (omega arith))
    go false e =
        let k : length s ≤ scan not_feed s = ltb-false _ _ e in
        let w = line_last s k in
        rw (parts_whole is_feed s k, w.0, w.1) (last_line s h (scan not_feed s) k)

-- and the next line starts further on
pub line_next_more : (s : List ℕ) → 0 < length s → 0 < line_next s
line_next_more s h = go (ltb (scan not_feed s) (length s)) refl
  where
    go : (t : Bool) → ltb (scan not_feed s) (length s) ≡ t → 0 < line_next s
    go true e = let w = line_ended s (ltb-true _ _ e) in omega arith
    go false e = let k : length s ≤ scan not_feed s = ltb-false _ _ e in let w = line_last s k in omega arith

-- ---- pieces

pieces_space : (x : ℕ) (xs : List ℕ) → is_space x ≡ true → pieces (x ∷ xs) ≡ pieces xs
unfolding pieces parts filled
pieces_space x xs h = rw h

pieces_after_lem : (s : List ℕ) → pieces s ≡ pieces (drop (scan is_space s) s)
unfolding scan
pieces_after_lem [] = refl
pieces_after_lem (x ∷ xs) = go (is_space x) refl (pieces_after_lem xs)
  where
    go : (t : Bool) → is_space x ≡ t → pieces xs ≡ pieces (drop (scan is_space xs) xs) → pieces (x ∷ xs) ≡ pieces (drop (cond t (suc (scan is_space xs)) 0) (x ∷ xs))
    go true e f = pieces_space x xs e ∙ f
    go false e f = refl

filled_some : (n : ℕ) (l : List ℕ) (ls : List (List ℕ)) → 0 < n → n ≤ length l → filled (take n l ∷ ls) ≡ take n l ∷ filled ls
unfolding filled
filled_some ℕ.zero l ls p q = absurd (omega arith)
filled_some (suc n) [] ls p q = absurd (omega arith)
filled_some (suc n) (x ∷ xs) ls p q = refl

filled_nothing : filled (parts is_space []) ≡ []
unfolding filled parts
filled_nothing = refl

-- a text that begins with a piece
piece_front : (t : List ℕ) → 0 < scan not_space t → pieces t ≡ take (scan not_space t) t ∷ pieces (drop (scan not_space t) t)
unfolding pieces filled
piece_front t h = go (ltb (scan not_space t) (length t)) refl
  where
    go : (b : Bool) → ltb (scan not_space t) (length t) ≡ b → filled (parts is_space t) ≡ take (scan not_space t) t ∷ filled (parts is_space (drop (scan not_space t) t))
    go true e =
        let k : scan not_space t < length t = ltb-true _ _ e in
        let space : is_space (get_or t (scan not_space t) 0) ≡ true = not-false _ (scan_stopped not_space t k) in
        ap filled (parts_first is_space t k)
        ∙ filled_some (scan not_space t) t (parts is_space (drop (suc (scan not_space t)) t)) h (omega arith)
        ∙ ap (λ (l : List (List ℕ)). take (scan not_space t) t ∷ l) (sym (ap pieces (drop-cons t (scan not_space t) 0 k) ∙ pieces_space _ _ space))
    go false e =
        let k : length t ≤ scan not_space t = ltb-false _ _ e in
        let w = scan_le not_space t in
        ap filled (parts_whole is_space t k ∙ ap (λ (l : List ℕ). l ∷ []) (sym (take_all (scan not_space t) t k)))
        ∙ filled_some (scan not_space t) t [] h (omega arith)
        ∙ ap (λ (l : List (List ℕ)). take (scan not_space t) t ∷ l) (sym (ap (λ (l : List ℕ). filled (parts is_space l)) (drop_of_length-le t k) ∙ filled_nothing))

-- a row's first piece and then the pieces of what follows it
pub pieces_first : (s : List ℕ) → 0 < piece_length s → pieces s ≡ take (piece_length s) (drop (piece_start s) s) ∷ pieces (drop (piece_start s + piece_length s) s)
unfolding piece_length piece_start
pieces_first s h =
    pieces_after_lem s ∙ piece_front (drop (scan is_space s) s) h
    ∙ ap (λ (l : List ℕ). take (scan not_space (drop (scan is_space s) s)) (drop (scan is_space s) s) ∷ pieces l) (drop-drop (scan not_space (drop (scan is_space s) s)) (scan is_space s) s)

after_spaces : (l : List ℕ) → scan is_space (drop (scan is_space l) l) ≡ 0
unfolding scan
after_spaces [] = refl
after_spaces (x ∷ xs) = go (is_space x) refl (after_spaces xs)
  where
    go : (t : Bool) → is_space x ≡ t → scan is_space (drop (scan is_space xs) xs) ≡ 0 → scan is_space (drop (cond t (suc (scan is_space xs)) 0) (x ∷ xs)) ≡ 0
    go true e f = f
    go false e f = rw e

neither : (t : List ℕ) → scan is_space t ≡ 0 → scan not_space t ≡ 0 → pieces t ≡ []
unfolding scan pieces filled parts
neither [] a b = refl
neither (x ∷ xs) a b = absurd (clash (is_space x) a b)
  where
    clash : (t : Bool) → cond t (suc (scan is_space xs)) 0 ≡ 0 → cond (not t) (suc (scan not_space xs)) 0 ≡ 0 → ⊥
    clash true p q = omega arith
    clash false p q = omega arith

-- a row whose first piece is empty has no piece
pub pieces_none : (s : List ℕ) → piece_length s ≡ 0 → pieces s ≡ []
unfolding piece_length piece_start
pieces_none s h = pieces_after_lem s ∙ neither (drop (scan is_space s) s) (after_spaces s) h

pub piece_within : (s : List ℕ) → piece_start s + piece_length s ≤ length s
unfolding piece_start piece_length
piece_within s =
    let a = scan_le is_space s in
    let b = scan_le not_space (drop (scan is_space s) s) in
    let l = length-drop (scan is_space s) s in
    omega arith
