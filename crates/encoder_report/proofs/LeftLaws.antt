-- The rows that a writer has left to write before its first word are the numbered lines of the words.
use Rattle.std.specs.Prelude.{None}
use Prim.Native.Nat.{ℕ, suc}
use mathlib.Core.Path.{◌≡◌, refl, ap, ◌∙◌}
use mathlib.Core.List.{List, [], ◌∷◌, ◌++◌}
use mathlib.Core.Bool.{Bool, false}
use Rattle.program.specs.Bytecode.{word_lines}
use Rattle.program_bytecode.specs.Left.{asks_number}
use Rattle.program_bytecode.proofs.LeftLaws.{lines_from, lines_left}
use Rattle.encoder.specs.Printing.{numbered_lines}
use Rattle.encoder_report.specs.Left.{row_text, rows_left}

-- the lines of words that are left, numbered from position k on
numbered_from : (k : ℕ) (number : Bool) (ws : List ℕ) → numbered_lines k (lines_from number ws) ≡ rows_left k number ws
unfolding numbered_lines lines_from rows_left
numbered_from k number [] = refl
numbered_from k number (w ∷ ws) = ap (λ (s : List ℕ). row_text k number w ++ s) (numbered_from (suc k) (asks_number number w) ws)

-- the numbered lines of words are the rows that are left before the first of them
pub numbered_left : (ws : List ℕ) → numbered_lines 0 (word_lines ws) ≡ rows_left 0 false ws
numbered_left ws = ap (numbered_lines 0) (lines_left None ws) ∙ numbered_from 0 false ws
