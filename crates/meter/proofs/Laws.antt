-- The meter after builds one after another holds the total of their history.
use Prim.Native.Nat.{ℕ, ◌+◌, ◌≤◌}
use mathlib.Core.Path.{◌≡◌, refl, ap, ◌∙◌}
use mathlib.Core.List.{List, [], ◌∷◌, map}
use native.Mathlib.Omega.{arith}
use Rattle.text.specs.Lists.{total}
use Rattle.text.specs.Answer.{Answer, ok, refused, ◌>>=◌}
use Rattle.encoder.specs.Assemble.{Accepted, totals_of}
use Rattle.meter.specs.declared.Meter.{Meter}
use Rattle.meter.specs.Meter.{Build, built_of, added, stopped, total_of, at_start, meter_after, meter_told, played}

-- ---- histories

-- one build
after_adds : (m : Meter) (x : Answer Accepted) → m.total ≤ 18446744073709551615 → (meter_after m x).total ≡ stopped (m.total + added x)
after_adds m (ok a) h = refl
after_adds m (refused n d) h = omega arith

-- one build after another, from any meter
pub played_from : (m : Meter) (bs : List Build) → m.total ≤ 18446744073709551615 → (played m bs).total ≡ stopped (m.total + total (map added (map built_of bs)))
unfolding played total
played_from m [] h = omega arith
played_from m (b ∷ bs) h =
    let e = after_adds m (built_of b) h in
    let l : (meter_after m (built_of b)).total ≤ 18446744073709551615 = omega arith in
    let f = played_from (meter_after m (built_of b)) bs l in
    omega arith

-- and from the start
pub played_counts : (bs : List Build) → (played at_start bs).total ≡ total_of (map built_of bs)
unfolding total_of
played_counts bs = played_from at_start bs (omega arith) ∙ ap stopped (omega arith)

-- a refused build leaves the meter as it was
pub refused_keeps : (m : Meter) (x : Answer Accepted) (n d : ℕ) → x ≡ refused n d → meter_after m x ≡ m
refused_keeps m x n d e = rw e

-- ---- the counts answered

-- are those of the build: the meter told by them is the meter after it
pub told_after : (m : Meter) (x : Answer Accepted) → meter_told m (x >>= λ a. ok (totals_of a)) ≡ meter_after m x
unfolding ◌>>=◌
told_after m (ok a) = refl
told_after m (refused n d) = refl
