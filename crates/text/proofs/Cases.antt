-- Inputs that separate likely misreadings of this crate's definitions, by computation. Expected values: document 01 and READINGS 11 and 13,
-- Rust's documentation of `lines` and `split_whitespace`.
use Prim.Native.Nat.{ℕ, suc}
use mathlib.Core.Path.{◌≡◌, refl}
use mathlib.Core.List.{List, [], ◌∷◌}
use mathlib.Core.Bool.{Bool, true, false, not, ◌&&◌, cond}
use lib.Dec.{eqb}
use Rattle.text.specs.Bytes.{bytes, same, is_space, is_digit, is_letter, is_word}
use Rattle.text.specs.Scan.{scan, parts}
use Rattle.text.specs.Lines.{lines, ended, line_length, line_next}
use Rattle.text.specs.Pieces.{pieces, filled, piece_start, piece_length}

same_lists : List (List ℕ) → List (List ℕ) → Bool
same_lists [] [] = true
same_lists [] (y ∷ ys) = false
same_lists (x ∷ xs) [] = false
same_lists (x ∷ xs) (y ∷ ys) = same x y && same_lists xs ys

-- a text and the lines that Rust gives, a row and its pieces, a byte and whether it is of a class
data Case : Type 0 where
  hasLines hasPieces : List ℕ → List (List ℕ) → Case
  first_line_ends : List ℕ → ℕ → ℕ → Case
  first_piece_ends : List ℕ → ℕ → ℕ → Case
  of_class : (ℕ → Bool) → ℕ → Bool → Case

same_truth : Bool → Bool → Bool
same_truth true b = b
same_truth false b = not b

right : Case → Bool
right (hasLines s ls) = same_lists (lines s) ls
right (hasPieces s ls) = same_lists (pieces s) ls
right (first_line_ends s a b) = eqb (line_length s) a && eqb (line_next s) b
right (first_piece_ends s a b) = eqb (piece_start s) a && eqb (piece_length s) b
right (of_class f b t) = same_truth (f b) t

-- the place of the first wrong case from k, or 1000
first_wrong : ℕ → List Case → ℕ
first_wrong k [] = 1000
first_wrong k (c ∷ cs) = cond (right c) (first_wrong (suc k) cs) k

cases : List Case
cases =
    hasLines [] []
    ∷ hasLines (bytes "\n") ([] ∷ [])
    ∷ hasLines (bytes "\n\n") ([] ∷ [] ∷ [])
    ∷ hasLines (bytes "a") (bytes "a" ∷ [])
    ∷ hasLines (bytes "a\n") (bytes "a" ∷ [])
    ∷ hasLines (bytes "a\nb") (bytes "a" ∷ bytes "b" ∷ [])
    ∷ hasLines (bytes "a\r\nb\r\n") (bytes "a" ∷ bytes "b" ∷ [])
    ∷ hasLines (bytes "a\r\r\nb") (bytes "a\r" ∷ bytes "b" ∷ [])
    ∷ hasLines (bytes "a\rb") (bytes "a\rb" ∷ [])
    ∷ hasLines (bytes "a\r") (bytes "a\r" ∷ [])
    ∷ hasLines (bytes "\r") (bytes "\r" ∷ [])
    ∷ hasLines (bytes "\r\n") ([] ∷ [])
    ∷ hasLines (bytes " a \n") (bytes " a " ∷ [])
    ∷ first_line_ends [] 0 0
    ∷ first_line_ends (bytes "\nx") 0 1
    ∷ first_line_ends (bytes "ab\r\nx") 2 4
    ∷ first_line_ends (bytes "ab\nx") 2 3
    ∷ first_line_ends (bytes "ab\r") 3 3
    ∷ hasPieces [] []
    ∷ hasPieces (bytes " \t\r") []
    ∷ hasPieces (bytes "mov r1 -1") (bytes "mov" ∷ bytes "r1" ∷ bytes "-1" ∷ [])
    ∷ hasPieces (bytes "  mov\t r1\r") (bytes "mov" ∷ bytes "r1" ∷ [])
    ∷ hasPieces (bytes "main:\rend") (bytes "main:" ∷ bytes "end" ∷ [])
    ∷ hasPieces (97 ∷ 11 ∷ 98 ∷ 12 ∷ 99 ∷ []) (bytes "a" ∷ bytes "b" ∷ bytes "c" ∷ [])
    ∷ hasPieces (97 ∷ 28 ∷ 98 ∷ []) ((97 ∷ 28 ∷ 98 ∷ []) ∷ [])
    ∷ hasPieces (97 ∷ 0 ∷ 98 ∷ []) ((97 ∷ 0 ∷ 98 ∷ []) ∷ [])
    ∷ first_piece_ends (bytes "  ab c") 2 2
    ∷ first_piece_ends (bytes "ab") 0 2
    ∷ first_piece_ends (bytes "   ") 3 0
    ∷ first_piece_ends [] 0 0
    ∷ of_class is_space 8 false
    ∷ of_class is_space 9 true
    ∷ of_class is_space 13 true
    ∷ of_class is_space 14 false
    ∷ of_class is_space 28 false
    ∷ of_class is_space 32 true
    ∷ of_class is_digit 47 false
    ∷ of_class is_digit 48 true
    ∷ of_class is_digit 57 true
    ∷ of_class is_digit 58 false
    ∷ of_class is_letter 64 false
    ∷ of_class is_letter 65 true
    ∷ of_class is_letter 90 true
    ∷ of_class is_letter 91 false
    ∷ of_class is_letter 96 false
    ∷ of_class is_letter 97 true
    ∷ of_class is_letter 122 true
    ∷ of_class is_letter 123 false
    ∷ of_class is_word 95 true
    ∷ of_class is_word 46 false
    ∷ of_class is_word 57 true
    ∷ []

all_right : first_wrong 0 cases ≡ 1000
unfolding same_lists same_truth right first_wrong cases same is_space is_digit is_letter is_word scan parts lines ended line_length line_next pieces filled piece_start piece_length
all_right = refl
