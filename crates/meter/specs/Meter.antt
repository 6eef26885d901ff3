-- 02, Point 3, "The build meter": "one running total of words from accepted builds since start", and the meter that holds it.
use Rattle.std.specs.Prelude.{ℕ, ◌+◌, min, List, [], ◌∷◌, map, length}
use Rattle.text.specs.Lists.{total}
use Rattle.text.specs.Answer.{Answer, ok, refused}
use Rattle.encoder.specs.Assemble.{Room, Accepted, assembled}
use Rattle.encoder.specs.declared.Totals.{Totals}
use Rattle.meter.specs.declared.Meter.{Meter}

-- ---- the total of a history

-- a build: a source, a prophet list, and the room that is lent for it
pub record Build : Type 0 where
  pub source : List ℕ
  pub prophets : List ℕ
  pub room : Room

-- what it answers
abbrev pub built_of : Build → Answer Accepted
built_of b = assembled b.source b.prophets b.room

-- "words from accepted builds"; "A refused build adds nothing"
abbrev pub added : Answer Accepted → ℕ
added (ok a) = length a.words
added (refused n d) = 0

-- "a sum that would pass 2^64 - 1 stops there"
abbrev pub stopped : ℕ → ℕ
stopped n = min n 18446744073709551615

-- "The total is defined from the history of builds": of what each build answered, the first first
unfoldable pub total_of : List (Answer Accepted) → ℕ
total_of history = stopped (total (map added history))

-- ---- the meter

-- a meter at its start
abbrev pub at_start : Meter
at_start = record { total = 0 }

-- the meter after a build that answered so
abbrev pub meter_after : Meter → Answer Accepted → Meter
meter_after m (ok a) = record { total = stopped (m.total + length a.words) }
meter_after m (refused n d) = m

-- the same by the counts that were answered
abbrev pub meter_told : Meter → Answer Totals → Meter
meter_told m (ok t) = record { total = stopped (m.total + t.words) }
meter_told m (refused n d) = m

-- the meter after one build after another, each on the meter that the last one returned
unfoldable pub played : Meter → List Build → Meter
played m [] = m
played m (b ∷ bs) = played (meter_after m (built_of b)) bs
