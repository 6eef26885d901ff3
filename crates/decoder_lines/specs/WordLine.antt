-- A first line as the bytecode writer has it: "The first word is printed as `0x` and sixteen digits."
use Rattle.std.specs.Prelude.{ℕ, ◌^◌, List, ◌&&◌, cond, leb, length, get_or, take, drop, Option, None}
use Rattle.text.specs.Lines.{is_feed}
use Rattle.text_read.specs.Numerals.{numeral}
use Rattle.decoder.specs.Lines.{has_prefix}

-- its word where the line has this form and a line feed ends it; WordLaws say that it is the first line's word
unfoldable pub word_line : List ℕ → Option ℕ
word_line s = cond (leb 19 (length s) && has_prefix s && is_feed (get_or s 18 0)) (numeral 16 (2 ^ 64) (take 16 (drop 2 s))) None
