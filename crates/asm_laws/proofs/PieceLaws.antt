-- The pieces of a text with their places, one after another: the first piece, and then the pieces of what follows it.
use Prim.Native.Nat.{ℕ, suc, ◌+◌, ◌-◌, ◌<◌, ◌≤◌}
use mathlib.Core.Path.{◌≡◌, refl, sym, ap, subst, ◌∙◌}
use mathlib.Core.List.{List, [], ◌∷◌}
use mathlib.Core.Bool.{Bool, true, false, cond, not}
use native.Mathlib.Omega.{arith}
use borrow.Author.Tests.{ltb-true, ltb-false, not-false}
use lib.Dec.{ltb}
use lib.ListN.{length, get_or, take, drop, drop_of_length-le}
use lib.Seq.{drop-cons, take_all, drop-drop, length-take-le}
use Rattle.text.specs.Bytes.{is_space}
use Rattle.text.specs.Scan.{scan, parts}
use Rattle.text.specs.Pieces.{not_space, piece_start, piece_length}
use Rattle.text.proofs.Laws.{scan_le, scan_stopped, part_slice}
use Rattle.text.proofs.PartLaws.{parts_first, parts_whole}
use Rattle.asm.specs.Parts.{Part, placed, filled_parts, pieces_from}

-- a part of a text by its start and its end, and by its start and its length
pub part_taken : (i n : ℕ) (l : List ℕ) → drop i (take (i + n) l) ≡ take n (drop i l)
part_taken i n l = let e : i + n - i ≡ n = omega arith in sym (part_slice i (i + n) l) ∙ ap (λ (k : ℕ). take k (drop i l)) e

-- an empty text has no piece
pub nothing : (i : ℕ) → pieces_from i [] ≡ []
unfolding pieces_from placed filled_parts parts
nothing i = refl

-- whitespace in front is passed over
pub space_first : (i x : ℕ) (xs : List ℕ) → is_space x ≡ true → pieces_from i (x ∷ xs) ≡ pieces_from (suc i) xs
unfolding pieces_from placed filled_parts parts
space_first i x xs h = rw h (ap (λ (k : ℕ). filled_parts (placed k (parts is_space xs))) (omega arith))

-- and so is all of it
pub spaces_first : (i : ℕ) (t : List ℕ) → pieces_from i t ≡ pieces_from (i + scan is_space t) (drop (scan is_space t) t)
unfolding scan
spaces_first i [] = ap (λ (k : ℕ). pieces_from k []) (omega arith)
spaces_first i (x ∷ xs) = go (is_space x) refl (spaces_first (suc i) xs)
  where
    go : (t : Bool) → is_space x ≡ t → pieces_from (suc i) xs ≡ pieces_from (suc i + scan is_space xs) (drop (scan is_space xs) xs)
        → pieces_from i (x ∷ xs) ≡ pieces_from (i + cond t (suc (scan is_space xs)) 0) (drop (cond t (suc (scan is_space xs)) 0) (x ∷ xs))
    go true e f = space_first i x xs e ∙ f ∙ ap (λ (k : ℕ). pieces_from k (drop (scan is_space xs) xs)) (omega arith)
    go false e f = ap (λ (k : ℕ). pieces_from k (x ∷ xs)) (omega arith)

filled_some : (i n : ℕ) (l : List ℕ) (qs : List Part) → 0 < n → n ≤ length l → filled_parts (record { start = i; text = take n l } ∷ qs) ≡ record { start = i; text = take n l } ∷ filled_parts qs
unfolding filled_parts
filled_some i ℕ.zero l qs p q = absurd (omega arith)
filled_some i (suc n) [] qs p q = absurd (omega arith)
filled_some i (suc n) (x ∷ xs) qs p q = refl

none_filled : filled_parts [] ≡ []
unfolding filled_parts
none_filled = refl

-- a text that begins with a piece
pub piece_front : (i : ℕ) (t : List ℕ) → 0 < scan not_space t → pieces_from i t ≡ record { start = i; text = take (scan not_space t) t } ∷ pieces_from (i + scan not_space t) (drop (scan not_space t) t)
unfolding pieces_from placed
piece_front i t h = go (ltb (scan not_space t) (length t)) refl
  where
    n : ℕ
    n = scan not_space t

    whole : n ≤ length t
    whole = scan_le not_space t

    q : Part
    q = record { start = i; text = take n t }

    opened : (ls : List (List ℕ)) → filled_parts (placed i (take n t ∷ ls)) ≡ q ∷ filled_parts (placed (suc (i + n)) ls)
    opened ls =
        let l : length (take n t) ≡ n = length-take-le n t whole in
        filled_some i n t (placed (i + (length (take n t) + 1)) ls) h whole
        ∙ ap (λ (k : ℕ). q ∷ filled_parts (placed k ls)) (omega arith)

    go : (b : Bool) → ltb n (length t) ≡ b → pieces_from i t ≡ q ∷ pieces_from (i + n) (drop n t)
    go true e =
        let k : n < length t = ltb-true _ _ e in
        let space : is_space (get_or t n 0) ≡ true = not-false _ (scan_stopped not_space t k) in
        ap (λ (ls : List (List ℕ)). filled_parts (placed i ls)) (parts_first is_space t k)
        ∙ opened (parts is_space (drop (suc n) t))
        ∙ ap (λ (ps : List Part). q ∷ ps) (sym (ap (pieces_from (i + n)) (drop-cons t n 0 k) ∙ space_first (i + n) (get_or t n 0) (drop (suc n) t) space))
    go false e =
        let k : length t ≤ n = ltb-false _ _ e in
        ap (λ (ls : List (List ℕ)). filled_parts (placed i ls)) (parts_whole is_space t k ∙ ap (λ (l : List ℕ). l ∷ []) (sym (take_all n t k)))
        ∙ opened []
        ∙ ap (λ (ps : List Part). q ∷ ps) (none_filled ∙ sym (ap (pieces_from (i + n)) (drop_of_length-le t k) ∙ nothing (i + n)))

-- after whitespace no more stands
after_spaces : (l : List ℕ) → scan is_space (drop (scan is_space l) l) ≡ 0
unfolding scan
after_spaces [] = refl
after_spaces (x ∷ xs) = go (is_space x) refl (after_spaces xs)
  where
    go : (t : Bool) → is_space x ≡ t → scan is_space (drop (scan is_space xs) xs) ≡ 0 → scan is_space (drop (cond t (suc (scan is_space xs)) 0) (x ∷ xs)) ≡ 0
    go true e f = f
    go false e f = rw e

neither : (i : ℕ) (t : List ℕ) → scan is_space t ≡ 0 → scan not_space t ≡ 0 → pieces_from i t ≡ []
unfolding scan
neither i [] a b = nothing i
neither i (x ∷ xs) a b = absurd (clash (is_space x) a b)
  where
    clash : (t : Bool) → cond t (suc (scan is_space xs)) 0 ≡ 0 → cond (not t) (suc (scan not_space xs)) 0 ≡ 0 → ⊥
    clash true p q = omega arith
    clash false p q = omega arith

module _ (l : List ℕ) (i : ℕ) where
  -- where the first piece of what stands from place i on is empty, there is none
  pub pieces_end : piece_length (drop i l) ≡ 0 → pieces_from i (drop i l) ≡ []
  unfolding piece_length piece_start
  pieces_end h = spaces_first i (drop i l) ∙ neither (i + scan is_space (drop i l)) (drop (scan is_space (drop i l)) (drop i l)) (after_spaces (drop i l)) h

  -- its first piece, and then the pieces of what stands from that piece's end on
  pub pieces_next : (start end : ℕ) → start ≡ i + piece_start (drop i l) → end ≡ start + piece_length (drop i l) → 0 < piece_length (drop i l)
      → pieces_from i (drop i l) ≡ record { start = start; text = take (end - start) (drop start l) } ∷ pieces_from end (drop end l)
  unfolding piece_length piece_start
  pieces_next start end e f h =
      let a : ℕ = scan is_space (drop i l) in
      let d : drop a (drop i l) ≡ drop start l = drop-drop a i l ∙ ap (λ (k : ℕ). drop k l) (sym e) in
      let n : end - start ≡ scan not_space (drop start l) = (omega arith) ∙ ap (scan not_space) d in
      let g : end ≡ start + scan not_space (drop start l) = f ∙ ap (λ (t : List ℕ). start + scan not_space t) d in
      spaces_first i (drop i l)
      ∙ ap (λ (t : List ℕ). pieces_from (i + a) t) d
      ∙ ap (λ (k : ℕ). pieces_from k (drop start l)) (sym e)
      ∙ piece_front start (drop start l) (subst (λ (t : List ℕ). 0 < scan not_space t) d h)
      ∙ rw (n, drop-drop, g)
