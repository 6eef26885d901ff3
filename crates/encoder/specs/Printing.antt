-- "The printing program": what it prints for what it reads on standard input.
use Rattle.std.specs.Prelude.{ℕ, suc, List, [], ◌∷◌, ◌++◌, cond, ltb, length}
use Rattle.text.specs.Bytes.{bytes}
use Rattle.text.specs.Answer.{Answer, ok, refused}
use Rattle.text_write.specs.Digits.{decimal_text}
use Rattle.program.specs.Bytecode.{word_lines}
use Rattle.encoder.specs.Assemble.{Room, Accepted, assembled}

-- "One space parts the two, and a line feed ends each line"
abbrev pub two_fields : List ℕ → List ℕ → List ℕ
two_fields a b = a ++ bytes " " ++ b ++ bytes "\n"

-- "decimal position of each word, and the word as the bytecode text prints it", from position k
unfoldable pub numbered_lines : ℕ → List (List ℕ) → List ℕ
numbered_lines k [] = []
numbered_lines k (l ∷ ls) = two_fields (decimal_text k) l ++ numbered_lines (suc k) ls

-- "a line of names, then values"; "A refusal prints `refusal detail`, then its number and detail"
abbrev pub reported : Answer Accepted → List ℕ
reported (ok a) = two_fields (bytes "address") (bytes "word") ++ numbered_lines 0 (word_lines a.words)
reported (refused n d) = two_fields (bytes "refusal") (bytes "detail") ++ two_fields (decimal_text n) (decimal_text d)

-- room for any source of 4,096 bytes
abbrev pub printing_room : Room
printing_room = record { entries = 4096; words = 4096; hosts = 0 }

-- "It reads source of up to 4,096 bytes on standard input (more prints refusal 1), no prophets"
unfoldable pub printing : List ℕ → List ℕ
printing s = cond (ltb 4096 (length s)) (reported (refused 1 0)) (reported (assembled s [] printing_room))
