-- Bytecode text: "Given words alone, the bytecode writer takes a word after one with bit 62, 22 or 21 as a number."
use Rattle.std.specs.Prelude.{ℕ, List, [], ◌∷◌, ◌++◌, ltb, length, Option, Some, None}
use Rattle.text.specs.Answer.{Answer, ok, ◌>>◌, refuse_if, over, on_ok}
use Rattle.text_write.specs.Digits.{fewest_text, sixteen_text}
use Rattle.program.specs.Groups.{Group, word_groups}

abbrev pub second_line : Option ℕ → List (List ℕ)
second_line None = []
second_line (Some v) = fewest_text v ∷ []

-- "The first word is printed as `0x` and sixteen digits"; a number "`0x` and the fewest lower-case digits"
abbrev pub group_lines : Group ℕ → List (List ℕ)
group_lines g = sixteen_text g.first ∷ second_line g.second

unfoldable pub lines_of_groups : List (Group ℕ) → List (List ℕ)
lines_of_groups [] = []
lines_of_groups (g ∷ gs) = group_lines g ++ lines_of_groups gs

-- the lines of words
abbrev pub word_lines : List ℕ → List (List ℕ)
word_lines ws = lines_of_groups (word_groups ws)

-- "The text has no final line feed"
unfoldable pub joined : List (List ℕ) → List ℕ
joined [] = []
joined (l ∷ []) = l
joined (l ∷ m ∷ ls) = l ++ 10 ∷ joined (m ∷ ls)

-- the bytecode of words
abbrev pub bytecode_of : List ℕ → List ℕ
bytecode_of ws = joined (word_lines ws)

-- "last, 23 the lent text is too short": a text where there is room for it
unfoldable pub within : ℕ → List ℕ → Answer (List ℕ)
within room text = refuse_if (ltb room (length text)) 23 >> ok text

-- writing bytecode
abbrev pub bytecode_written : List ℕ → ℕ → Answer (List ℕ)
bytecode_written ws room = within room (bytecode_of ws)

-- "The text is untouched" by a refusal; "what stands past them is untouched" on acceptance
abbrev pub text_left : Answer (List ℕ) → List ℕ → List ℕ
text_left answer text = on_ok answer (λ written. over written text) text
