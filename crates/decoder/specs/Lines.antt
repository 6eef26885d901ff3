-- "Bytecode": what its lines say.
use Rattle.std.specs.Prelude.{ℕ, ◌+◌, ◌^◌, List, [], ◌∷◌, Bool, true, false, not, ◌&&◌, ◌||◌, cond, eqb, get_or, Option, Some, None}
use Rattle.text_read.specs.Numerals.{hexadecimal}
use Rattle.vm_operands.specs.Numbers.{order, immediate, number_of}
use Rattle.program.specs.Groups.{Group, grouped, has_second}
use Rattle.vm_operands.specs.declared.ImmediateValue.{ImmediateValue}

-- "A first word may lack `0x`, and repeated `0x` is dropped; it is hexadecimal"
abbrev pub first_of_line : List ℕ → Option ℕ
first_of_line l = hexadecimal (2 ^ 64) l

abbrev pub has_prefix : List ℕ → Bool
has_prefix l = eqb (get_or l 0 0) 48 && eqb (get_or l 1 0) 120

abbrev pub number_found : Option ℕ → Option ImmediateValue
number_found (Some v) = Some (immediate v)
number_found None = None

-- "A second line is hexadecimal only with `0x`, once or repeated, otherwise decimal"; "no number below p in size" is none
abbrev pub second_of_line : List ℕ → Option ImmediateValue
second_of_line l = cond (has_prefix l) (number_found (hexadecimal order l)) (number_of l)

abbrev pub is_readable : Option ℕ → Bool
is_readable (Some w) = true
is_readable None = false

abbrev pub word_has_second : Option ℕ → Bool
word_has_second (Some w) = has_second w
word_has_second None = false

-- a line after which a second one belongs to the same instruction
abbrev pub line_has_second : List ℕ → Bool
line_has_second l = word_has_second (first_of_line l)

-- the instructions of lines, parted as the writer parts words
abbrev pub line_groups : List (List ℕ) → List (Group (List ℕ))
line_groups ls = grouped line_has_second None ls

abbrev pub is_here : Option (List ℕ) → Bool
is_here None = false
is_here (Some l) = true

-- "A last first word that lacks its second line is dropped"
abbrev pub is_complete : Group (List ℕ) → Bool
is_complete g = not (line_has_second g.first) || is_here g.second

unfoldable pub complete_of : List (Group (List ℕ)) → List (Group (List ℕ))
complete_of [] = []
complete_of (g ∷ gs) = cond (is_complete g) (g ∷ complete_of gs) (complete_of gs)

abbrev pub lines_in : Group (List ℕ) → ℕ
lines_in g = cond (is_here g.second) 2 1

-- 15: "a first word that is no 64-bit hexadecimal number (line index from 0), tested over the whole text"; the groups start at line k
unfoldable pub first_unreadable : ℕ → List (Group (List ℕ)) → Option ℕ
first_unreadable k [] = None
first_unreadable k (g ∷ gs) = let later = first_unreadable (k + lines_in g) gs in cond (is_readable (first_of_line g.first)) later (Some k)
