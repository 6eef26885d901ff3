-- The rows of a source are those of its lines as Rust's `lines` gives them: a carriage return at a line's end is whitespace, so it adds no piece.
use Prim.Native.Nat.{ℕ, suc, ◌+◌, ◌-◌}
use mathlib.Core.Path.{◌≡◌, refl, ap, ap₂, ◌∙◌}
use mathlib.Core.List.{List, [], ◌∷◌, ◌++◌, map, zip_with}
use mathlib.Core.Bool.{Bool, true, false, cond, not}
use native.Mathlib.Omega.{arith}
use borrow.Author.Tests.{eqb-true}
use lib.Dec.{eqb}
use lib.ListN.{length, take, get_or, drop_of_length-le}
use lib.Seq.{split_at}
use Rattle.text.specs.Bytes.{is_space}
use Rattle.text.specs.Scan.{scan, parts, is_empty}
use Rattle.text.specs.Lines.{is_feed, ends_in_return, without_return, ended, lines}
use Rattle.text.specs.Pieces.{filled, pieces}
use Rattle.asm.specs.Parts.{Part, placed, filled_parts, without_comment, pieces_from, line_pieces, row_pieces, source_pieces, text_of, lines_at, placed_lines}
use Rattle.asm_laws.proofs.MoveLaws.{parts_joined}

-- ---- a carriage return at the end of a line

-- a text that ends in a carriage return is what stands before it, and then it
return_last : (l : List ℕ) → ends_in_return l ≡ true → l ≡ take (length l - 1) l ++ 13 ∷ []
return_last [] e = absurd (let z : ◌≡◌ {A = ℕ} 0 13 = eqb-true 0 13 e in omega arith)
return_last (x ∷ xs) e =
    let l : List ℕ = x ∷ xs in
    let n : ℕ = length l - 1 in
    split_at l n 0 (omega arith)
    ∙ ap₂ (λ (b : ℕ) (rest : List ℕ). take n l ++ b ∷ rest) (eqb-true (get_or l n 0) 13 e) (drop_of_length-le l {i = suc n} (omega arith))

-- an empty part at the end holds no piece
last_empty : (i : ℕ) (ls : List (List ℕ)) → filled_parts (placed i (ls ++ [] ∷ [])) ≡ filled_parts (placed i ls)
unfolding placed filled_parts
last_empty i [] = refl
last_empty i (l ∷ ls) = ap (λ (qs : List Part). cond (is_empty l) qs (record { start = i; text = l } ∷ qs)) (last_empty (i + (length l + 1)) ls)

-- whitespace at the end adds no piece
space_last : (i : ℕ) (l : List ℕ) (b : ℕ) → is_space b ≡ true → pieces_from i (l ++ b ∷ []) ≡ pieces_from i l
unfolding pieces_from parts
space_last i l b e = ap (λ (ls : List (List ℕ)). filled_parts (placed i ls)) (parts_joined is_space l b [] e) ∙ last_empty i (parts is_space l)

-- a byte at a line's end falls with a comment, or stays
data Cut (full short : List ℕ) (b : ℕ) : Type 0 where
  falls : full ≡ short → Cut full short b
  stays : full ≡ short ++ b ∷ [] → Cut full short b

-- a byte that is no semicolon
cut : (l : List ℕ) (b : ℕ) → eqb b 59 ≡ false → Cut (without_comment (l ++ b ∷ [])) (without_comment l) b
unfolding scan
cut [] b e = stays (rw e)
cut (x ∷ xs) b e = go (eqb x 59) (cut xs b e)
  where
    other : ℕ → Bool
    other c = not (eqb c 59)

    go : (t : Bool) → Cut (without_comment (xs ++ b ∷ [])) (without_comment xs) b
        → Cut (take (cond (not t) (suc (scan other (xs ++ b ∷ []))) 0) (x ∷ xs ++ b ∷ [])) (take (cond (not t) (suc (scan other xs)) 0) (x ∷ xs)) b
    go true c = falls refl
    go false (falls h) = falls (ap (λ (l : List ℕ). x ∷ l) h)
    go false (stays h) = stays (ap (λ (l : List ℕ). x ∷ l) h)

-- so a carriage return at a line's end changes no piece
return_changes_nothing : (i : ℕ) (l : List ℕ) → pieces_from i (without_comment (l ++ 13 ∷ [])) ≡ pieces_from i (without_comment l)
unfolding is_space
return_changes_nothing i l = go (cut l 13 refl)
  where
    go : Cut (without_comment (l ++ 13 ∷ [])) (without_comment l) 13 → pieces_from i (without_comment (l ++ 13 ∷ [])) ≡ pieces_from i (without_comment l)
    go (falls h) = ap (pieces_from i) h
    go (stays h) = ap (pieces_from i) h ∙ space_last i (without_comment l) 13 refl

-- nor does taking it off
line_without_return : (i : ℕ) (l : List ℕ) → line_pieces (record { start = i; text = l }) ≡ line_pieces (record { start = i; text = without_return l })
unfolding line_pieces
line_without_return i l = go (ends_in_return l) refl
  where
    go : (t : Bool) → ends_in_return l ≡ t → pieces_from i (without_comment l) ≡ pieces_from i (without_comment (cond t (take (length l - 1) l) l))
    go true e = ap (λ (m : List ℕ). pieces_from i (without_comment m)) (return_last l e) ∙ return_changes_nothing i (take (length l - 1) l)
    go false e = refl

-- ---- lines with their places

-- the rows of the parts are those of the lines
ended_rows : (i : ℕ) (ls : List (List ℕ)) → row_pieces (placed i ls) ≡ row_pieces (lines_at (placed i ls) (ended ls))
unfolding row_pieces line_pieces pieces_from placed filled_parts parts scan ended zip_with
ended_rows i [] = refl
ended_rows i ([] ∷ []) = refl
ended_rows i ((x ∷ xs) ∷ []) = refl
ended_rows i (l ∷ m ∷ ls) = rw (line_without_return i l, ended_rows (i + (length l + 1)) (m ∷ ls))

-- and their texts are the lines
ended_texts : (i : ℕ) (ls : List (List ℕ)) → map text_of (lines_at (placed i ls) (ended ls)) ≡ ended ls
unfolding placed ended zip_with
ended_texts i [] = refl
ended_texts i ([] ∷ []) = refl
ended_texts i ((x ∷ xs) ∷ []) = refl
ended_texts i (l ∷ m ∷ ls) = ap (λ (rest : List (List ℕ)). without_return l ∷ rest) (ended_texts (i + (length l + 1)) (m ∷ ls))

-- ---- the texts of the pieces

-- the pieces of each line that has one, without their places
unfoldable pub text_rows : List (List ℕ) → List (List (List ℕ))
text_rows [] = []
text_rows (l ∷ ls) = let ps = pieces (without_comment l) in cond (is_empty ps) (text_rows ls) (ps ∷ text_rows ls)

-- the parts that hold a byte
filled_texts : (i : ℕ) (ls : List (List ℕ)) → map text_of (filled_parts (placed i ls)) ≡ filled ls
unfolding placed filled_parts filled
filled_texts i [] = refl
filled_texts i ([] ∷ ls) = filled_texts (i + (0 + 1)) ls
filled_texts i ((x ∷ xs) ∷ ls) = ap (λ (rest : List (List ℕ)). (x ∷ xs) ∷ rest) (filled_texts (i + (suc (length xs) + 1)) ls)

-- where lines start changes no text of a piece
rows_texts : (qs : List Part) → map (map text_of) (row_pieces qs) ≡ text_rows (map text_of qs)
unfolding row_pieces line_pieces pieces_from text_rows pieces
rows_texts [] = refl
rows_texts (q ∷ qs) = rw (← filled_texts q.start (parts is_space (without_comment q.text)), ← rows_texts qs) (go (line_pieces q))
  where
    go : (ps : List Part)
        → map (map text_of) (cond (is_empty ps) (row_pieces qs) (ps ∷ row_pieces qs)) ≡ cond (is_empty (map text_of ps)) (map (map text_of) (row_pieces qs)) (map text_of ps ∷ map (map text_of) (row_pieces qs))
    go [] = refl
    go (p ∷ ps) = refl

-- ---- the rows of a source

-- they are those of its lines, whose texts are what `lines` gives
pub source_lines : (s : List ℕ) → (source_pieces s ≡ row_pieces (placed_lines s)) × (map text_of (placed_lines s) ≡ lines s)
unfolding lines
source_lines s = (ended_rows 0 (parts is_feed s), ended_texts 0 (parts is_feed s))

-- so the lines decide the texts of all pieces
pub lines_texts : (s : List ℕ) → map (map text_of) (source_pieces s) ≡ text_rows (lines s)
lines_texts s = let x = source_lines s in ap (map (map text_of)) x.0 ∙ rows_texts (placed_lines s) ∙ ap text_rows x.1
