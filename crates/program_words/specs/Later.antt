-- What a later place makes of the second word.
use Rattle.std.specs.Prelude.{ℕ, Option, Some, None}

-- a second word, or the number of a later place in its stead
abbrev pub later : Option ℕ → Option ℕ → Option ℕ
later earlier None = earlier
later earlier (Some n) = Some n
