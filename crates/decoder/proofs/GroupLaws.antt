-- A program's words, and the lines of its bytecode, part into its instructions.
use Rattle.std.specs.Prelude.{Option, Some, None}
use Prim.Native.Nat.{ℕ, ◌^◌, ◌<◌}
use mathlib.Core.Path.{◌≡◌, refl, ap, ◌∙◌}
use mathlib.Core.List.{List, [], ◌∷◌, ◌++◌, map}
use mathlib.Core.Bool.{Bool, true, false}
use Rattle.text.specs.Answer.{ok}
use Rattle.text.specs.All.{All, one_more}
use Rattle.text_write.specs.Digits.{fewest_text, sixteen_text}
use Rattle.program.specs.Words.{first_word, second_word, in_order, program_words}
use Rattle.program.specs.Groups.{Group, grouped, has_second, word_groups}
use Rattle.program.specs.Bytecode.{group_lines, lines_of_groups, word_lines}
use Rattle.program.specs.declared.BinaryInstruction.{BinaryInstruction}
use Rattle.program.proofs.FormLaws.{is_some}
use Rattle.decoder.specs.Lines.{first_of_line, is_readable, line_has_second, line_groups, is_complete}
use Rattle.decoder.specs.Decode.{decoded, on_first, group_decoded}
use Rattle.decoder.specs.AsRead.{as_read}
use Rattle.decoder.proofs.TextLaws.{first_read}

-- the line of a number, if there is one
abbrev pub line_of : Option ℕ → Option (List ℕ)
line_of None = None
line_of (Some v) = Some (fewest_text v)

-- an instruction's words and lines
abbrev pub word_group_of : BinaryInstruction → Group ℕ
word_group_of i = record { first = first_word i; second = second_word i }

abbrev pub line_group_of : BinaryInstruction → Group (List ℕ)
line_group_of i = record { first = sixteen_text (first_word i); second = line_of (second_word i) }

-- an instruction that its own words give back
pub record Readable (i : BinaryInstruction) : Type 0 where
  pub first_below : first_word i < 2 ^ 64
  pub second_shows : has_second (first_word i) ≡ is_some (second_word i)
  pub decodes : (k : ℕ) → decoded k (first_word i) (line_of (second_word i)) ≡ ok (as_read i)

-- ---- one group in front
module _ {A : Type 0} (two : A → Bool) (a : A) where
  pub grouped_one : (as' : List A) → two a ≡ false → grouped two None (a ∷ as') ≡ record { first = a; second = None } ∷ grouped two None as'
  unfolding grouped
  grouped_one as' h = rw h

  pub grouped_two : (b : A) (as' : List A) → two a ≡ true → grouped two None (a ∷ b ∷ as') ≡ record { first = a; second = Some b } ∷ grouped two None as'
  unfolding grouped
  grouped_two b as' h = rw h

-- a first word and a second, if it says that there is one
module _ (w : ℕ) where
  words_front : (v : Option ℕ) (ws : List ℕ) → has_second w ≡ is_some v → word_groups (in_order w v ++ ws) ≡ record { first = w; second = v } ∷ word_groups ws
  words_front None ws h = grouped_one has_second w ws h
  words_front (Some v) ws h = grouped_two has_second w v ws h

  module _ (b : w < 2 ^ 64) where
    line_shows : line_has_second (sixteen_text w) ≡ has_second w
    line_shows = rw (first_read w b)

    lines_front : (v : Option ℕ) (ls : List (List ℕ)) → has_second w ≡ is_some v
        → line_groups (group_lines (record { first = w; second = v }) ++ ls) ≡ record { first = sixteen_text w; second = line_of v } ∷ line_groups ls
    lines_front None ls h = grouped_one line_has_second (sixteen_text w) ls (line_shows ∙ h)
    lines_front (Some v) ls h = grouped_two line_has_second (sixteen_text w) (fewest_text v) ls (line_shows ∙ h)

-- ---- a program's groups

-- The words of a program part into its instructions.
pub groups_words : (is : List BinaryInstruction) → All Readable is → word_groups (program_words is) ≡ map word_group_of is
unfolding program_words grouped
groups_words [] c = refl
groups_words (i ∷ is) (one_more r c) =
    words_front (first_word i) (second_word i) (program_words is) r.second_shows ∙ ap (λ gs. word_group_of i ∷ gs) (groups_words is c)

-- so the lines of a program are those of one instruction after the other
pub lines_words : (is : List BinaryInstruction) → All Readable is → word_lines (program_words is) ≡ lines_of_groups (map word_group_of is)
lines_words is c = ap lines_of_groups (groups_words is c)

lines_parted : (is : List BinaryInstruction) → All Readable is → line_groups (lines_of_groups (map word_group_of is)) ≡ map line_group_of is
unfolding lines_of_groups grouped
lines_parted [] c = refl
lines_parted (i ∷ is) (one_more r c) =
    lines_front (first_word i) r.first_below (second_word i) (lines_of_groups (map word_group_of is)) r.second_shows
    ∙ ap (λ gs. line_group_of i ∷ gs) (lines_parted is c)

-- The lines of a program part into its instructions.
pub groups_lines : (is : List BinaryInstruction) → All Readable is → line_groups (word_lines (program_words is)) ≡ map line_group_of is
groups_lines is c = ap line_groups (lines_words is c) ∙ lines_parted is c

-- ---- each group

complete : (w : ℕ) (v : Option ℕ) → w < 2 ^ 64 → has_second w ≡ is_some v → is_complete (record { first = sixteen_text w; second = line_of v }) ≡ true
complete w None b h = rw (line_shows w b ∙ h)
complete w (Some v) b h = rw (line_shows w b ∙ h)

module _ (i : BinaryInstruction) (r : Readable i) where
  pub group_complete : is_complete (line_group_of i) ≡ true
  group_complete = complete (first_word i) (second_word i) r.first_below r.second_shows

  pub group_readable : is_readable (first_of_line (line_group_of i).first) ≡ true
  group_readable = ap is_readable (first_read (first_word i) r.first_below)

  pub group_decoded_lem : (k : ℕ) → group_decoded k (line_group_of i) ≡ ok (as_read i)
  unfolding on_first
  group_decoded_lem k = ap (λ w. on_first k w (line_of (second_word i))) (first_read (first_word i) r.first_below) ∙ r.decodes k
