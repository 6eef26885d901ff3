-- The text of what is left of words, from a word on: what a writer that goes from word to word has still to write.
use Rattle.std.specs.Prelude.{ℕ, List, [], ◌∷◌, ◌++◌, Bool, false, cond}
use Rattle.text_write.specs.Digits.{fewest_text, sixteen_text}
use Rattle.program.specs.Groups.{has_second}

-- the line of a word: a number "`0x` and the fewest lower-case digits", a first word "`0x` and sixteen digits"
abbrev pub line_text : Bool → ℕ → List ℕ
line_text number w = cond number (fewest_text w) (sixteen_text w)

-- whether the word after it is a number: "takes a word after one with bit 62, 22 or 21 as a number", and what comes after a number is a first word
abbrev pub asks_number : Bool → ℕ → Bool
asks_number number w = cond number false (has_second w)

-- the line of the first word, or a line feed and the line of a later one
abbrev pub word_text : Bool → Bool → ℕ → List ℕ
word_text first number w = cond first (line_text number w) (10 ∷ line_text number w)

-- the text of words that are left: whether the first of all is among them, and whether the first of them is a number
unfoldable pub left_text : Bool → Bool → List ℕ → List ℕ
left_text first number [] = []
left_text first number (w ∷ ws) = word_text first number w ++ left_text false (asks_number number w) ws
