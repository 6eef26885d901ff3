-- A lent slice by where it points and how many bytes it has, and a part of one.
use Rattle.std.specs.Prelude.{ℕ, ◌+◌, List, length}
use Rattle.std.specs.Borrow.{Bor}
use Rattle.asm.specs.Parts.{Span}

-- where a slice points, a block of memory and an offset in it, and its length
pub record Reference : Type 0 where
  pub points : ℕ × ℕ
  pub length : ℕ

-- those of a slice
abbrev pub reference_of : Bor (List ℕ) → Reference
reference_of r = record { points = r.ref_ptr; length = length r.now }

-- "that part of the source": it points into the source itself, so many bytes behind its first
abbrev pub part_of : Bor (List ℕ) → Span → Reference
part_of s p = record { points = (s.ref_ptr.0, p.start + s.ref_ptr.1); length = p.length }
