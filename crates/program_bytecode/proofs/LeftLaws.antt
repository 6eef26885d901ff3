-- The text that a writer has left to write before its first word is the bytecode of the words.
use Rattle.std.specs.Prelude.{Option, Some, None}
use Prim.Native.Nat.{ℕ}
use mathlib.Core.Path.{◌≡◌, refl, sym, ap, ◌∙◌}
use mathlib.Core.List.{List, [], ◌∷◌, ◌++◌, append-nil}
use mathlib.Core.Bool.{Bool, true, false, cond}
use Rattle.text_write.specs.Digits.{fewest_text, sixteen_text}
use Rattle.program.specs.Groups.{grouped, has_second}
use Rattle.program.specs.Bytecode.{lines_of_groups, joined, bytecode_of}
use Rattle.program_bytecode.specs.Left.{line_text, asks_number, left_text}

-- the lines of words that are left
unfoldable pub lines_from : Bool → List ℕ → List (List ℕ)
lines_from number [] = []
lines_from number (w ∷ ws) = line_text number w ∷ lines_from (asks_number number w) ws

-- the same, with the first word that waits for its second
abbrev pub lines_after : Option ℕ → List ℕ → List (List ℕ)
lines_after None ws = lines_from false ws
lines_after (Some a) ws = sixteen_text a ∷ lines_from true ws

-- the lines of the instructions are the lines of the words one by one
pub lines_left : (o : Option ℕ) (ws : List ℕ) → lines_of_groups (grouped has_second o ws) ≡ lines_after o ws
unfolding lines_of_groups grouped lines_from
lines_left None [] = refl
lines_left (Some a) [] = refl
lines_left (Some a) (b ∷ bs) = ap (λ (ls : List (List ℕ)). sixteen_text a ∷ fewest_text b ∷ ls) (lines_left None bs)
lines_left None (a ∷ as') = go (has_second a) (lines_left (Some a) as') (lines_left None as')
  where
    go : (t : Bool) → lines_of_groups (grouped has_second (Some a) as') ≡ sixteen_text a ∷ lines_from true as' → lines_of_groups (grouped has_second None as') ≡ lines_from false as'
        → lines_of_groups (cond t (grouped has_second (cond t (Some a) None) as') (record { first = a; second = None } ∷ grouped has_second (cond t (Some a) None) as')) ≡ sixteen_text a ∷ lines_from t as'
    go true e f = e
    go false e f = ap (λ (ls : List (List ℕ)). sixteen_text a ∷ ls) f

-- lines joined behind a line: a line feed stands before each
joined_behind : (l : List ℕ) (number : Bool) (ws : List ℕ) → joined (l ∷ lines_from number ws) ≡ l ++ left_text false number ws
unfolding joined lines_from left_text
joined_behind l number [] = sym (append-nil l)
joined_behind l number (w ∷ ws) = ap (λ (s : List ℕ). l ++ (10 ∷ s)) (joined_behind (line_text number w) (asks_number number w) ws)

-- lines joined
joined_left : (number : Bool) (ws : List ℕ) → joined (lines_from number ws) ≡ left_text true number ws
unfolding joined lines_from left_text
joined_left number [] = refl
joined_left number (w ∷ ws) = joined_behind (line_text number w) (asks_number number w) ws

-- the bytecode of words is the text that is left before the first of them
pub bytecode_left : (ws : List ℕ) → bytecode_of ws ≡ left_text true false ws
bytecode_left ws = ap joined (lines_left None ws) ∙ joined_left false ws
