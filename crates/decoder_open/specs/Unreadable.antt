-- The line of a first word that is no number, and what else is answered.
use Rattle.std.specs.Prelude.{ℕ, Option}
use Rattle.text.specs.Answer.{Answer, ◌>>◌, refuse_at}

-- 15 for such a line; where there is none, another answer
abbrev pub line_first : Option ℕ → Answer (Unit {0}) → Answer (Unit {0})
line_first line answer = refuse_at line 15 >> answer
