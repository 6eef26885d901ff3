-- The stretch of the source that a place of the sorted source lies in.
use Rattle.std.specs.Prelude.{ℕ, ◌+◌, ◌-◌, cond, ltb}
use Rattle.relocate_walk.specs.declared.Stretch.{Stretch}

-- a place of the source as it stands, of n bytes
abbrev pub as_written : ℕ → ℕ → Stretch
as_written n v = record { stop = n; place = v; add = 0; take = 0 }

-- main's stretch comes first, then what stands before it, then what stands after it
unfoldable pub stretch_at : ℕ → ℕ → ℕ → ℕ → Stretch
stretch_at n start end v =
    cond (ltb end start) (as_written n v)
    (cond (ltb n end) (as_written n v)
    (cond (ltb v (end - start)) (record { stop = end; place = start + v; add = 0; take = start })
    (cond (ltb v end) (record { stop = start; place = v - (end - start); add = end - start; take = 0 })
    (as_written n v))))
