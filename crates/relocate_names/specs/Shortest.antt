-- How many entries a table of five columns has.
use Rattle.std.specs.Prelude.{ℕ, min}

abbrev pub shortest_of : ℕ → ℕ → ℕ → ℕ → ℕ → ℕ
shortest_of a b c d e = min a (min b (min c (min d e)))
