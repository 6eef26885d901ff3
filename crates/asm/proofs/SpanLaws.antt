-- The part of a source that a name is, by where its entry starts and ends.
use Prim.Native.Nat.{ℕ, ◌+◌, ◌-◌, ◌<◌, ◌≤◌}
use mathlib.Core.Path.{◌≡◌}
use mathlib.Core.List.{List}
use native.Mathlib.Omega.{arith}
use borrow.Author.Tests.{le-leb, lt-leb}
use lib.ListN.{length}
use Rattle.asm.specs.Parts.{name_part}

module _ (s : List ℕ) (start n : ℕ) where
  -- the empty one where the entry starts past the source's end
  pub span_past : length s < start → record { start = 0; length = 0 } ≡ name_part s start n
  span_past h = rw (lt-leb (start + n) (length s) (omega arith))

  -- or reaches past it
  pub span_long : start ≤ length s → length s - start < n → record { start = 0; length = 0 } ≡ name_part s start n
  span_long g h = rw (lt-leb (start + n) (length s) (omega arith))

  -- any other is the entry's own
  pub span_within : start ≤ length s → n ≤ length s - start → record { start = start; length = n } ≡ name_part s start n
  span_within g h = rw (le-leb (start + n) (length s) (omega arith))
