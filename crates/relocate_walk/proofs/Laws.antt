-- Laws of the walk over the sorted rows: a line of a stretch of the source is one of the sorted source.
use Prim.Native.Nat.{ℕ, ◌+◌, ◌-◌, ◌^◌, ◌<◌, ◌≤◌}
use mathlib.Core.Path.{◌≡◌, refl, ap, ◌∙◌}
use mathlib.Core.List.{List}
use mathlib.Core.Bool.{Bool, true, false}
use native.Mathlib.Omega.{arith}
use borrow.Author.Rules.{rules}
use borrow.Author.Tests.{le-leb, lt-leb, ltb-true, ltb-false}
use mir.Val.{Fits}
use mir.Syntax.{w64}
use lib.Dec.{ltb}
use lib.ListN.{length, take}
use lib.Seq.{length-take-le, take_all}
use Rattle.text.proofs.Laws.{part_counts}
use Rattle.asm.specs.Rows.{row_at}
use Rattle.asm.specs.declared.LineRead.{LineRead}
use Rattle.asm.specs.declared.RowAt.{RowAt}
use Rattle.asm_laws.proofs.StepLaws.{next_further}
use Rattle.relocate.specs.Layout.{further, sorted_row_at}
use Rattle.relocate_walk.specs.Stretch.{as_written, stretch_at}
use Rattle.relocate_walk.specs.declared.Stretch.{Stretch}

made : (x : LineRead) (a b : ℕ) → a ≡ b → ◌≡◌ {A = RowAt} (record { read = x; next = a }) (record { read = x; next = b })
made x a b e = cc

-- the line that is read in a stretch
abbrev within : List ℕ → Stretch → RowAt
within s t = row_at (take t.stop s) t.place

module _ (s : List ℕ) (start end v : ℕ) where
  -- a stretch that lies in the source, with a line x of the sorted source, whose place after it is neither below 0 nor past the source's end
  abbrev Right : Stretch → RowAt → Type 0
  Right t x =
      (further t.add t.take (within s t) ≡ x)
      × (t.stop ≤ length s)
      × (t.take ≤ (within s t).next + t.add)
      × (0 < t.add → (within s t).next + t.add ≤ length s)

  right_written : Right (as_written (length s) v) (row_at s v)
  right_written =
      let e : take (length s) s ≡ s = take_all (length s) s (omega arith) in
      rw e (made (row_at s v).read ((row_at s v).next + 0 - 0) (row_at s v).next (omega arith), omega arith, omega arith, λ z. absurd (omega (arith, z)))

  right_main : start ≤ end → end ≤ length s → v < end - start → Right (record { stop = end; place = start + v; add = 0; take = start }) (further 0 start (row_at (take end s) (start + v)))
  right_main h k l = (refl, k, omega arith, λ z. absurd (omega (arith, z)))

  right_before : start ≤ end → end ≤ length s → end - start ≤ v → v < end → Right (record { stop = start; place = v - (end - start); add = end - start; take = 0 }) (further (end - start) 0 (row_at (take start s) (v - (end - start))))
  right_before h k l m =
      let c = length-take-le start s (omega arith) in
      let w = next_further (take start s) (v - (end - start)) (omega arith) in
      (refl, omega arith, omega arith, λ z. omega arith)

  -- the stretch of each place is such a one
  right : Right (stretch_at (length s) start end v) (sorted_row_at s start end v)
  unfolding stretch_at sorted_row_at
  right = first (ltb end start) refl
    where
      fourth : start ≤ end → end ≤ length s → end - start ≤ v → (b : Bool) → ltb v end ≡ b → ltb end start ≡ false → ltb (length s) end ≡ false → ltb v (end - start) ≡ false → Right (stretch_at (length s) start end v) (sorted_row_at s start end v)
      fourth h k l true e x y z = rw (x, y, z, e, le-leb start end h, le-leb end (length s) k) (right_before h k l (ltb-true _ _ e))
      fourth h k l false e x y z = rw (x, y, z, e, le-leb start end h, le-leb end (length s) k) right_written

      third : start ≤ end → end ≤ length s → (b : Bool) → ltb v (end - start) ≡ b → ltb end start ≡ false → ltb (length s) end ≡ false → Right (stretch_at (length s) start end v) (sorted_row_at s start end v)
      third h k true e x y = rw (x, y, e, le-leb start end h, le-leb end (length s) k) (right_main h k (ltb-true _ _ e))
      third h k false e x y = fourth h k (ltb-false _ _ e) (ltb v end) refl x y e

      second : start ≤ end → (b : Bool) → ltb (length s) end ≡ b → ltb end start ≡ false → Right (stretch_at (length s) start end v) (sorted_row_at s start end v)
      second h true e x = rw (x, e, le-leb start end h, lt-leb end (length s) (ltb-true _ _ e)) right_written
      second h false e x = third h (ltb-false _ _ e) (ltb v (end - start)) refl x e

      first : (b : Bool) → ltb end start ≡ b → Right (stretch_at (length s) start end v) (sorted_row_at s start end v)
      first true e = rw (e, lt-leb start end (ltb-true _ _ e)) right_written
      first false e = second (ltb-false _ _ e) (ltb (length s) end) refl e

  module _ (t : Stretch) (e : t ≡ stretch_at (length s) start end v) where
    told : Right t (sorted_row_at s start end v)
    told = rw e right

    pub stretch_within : t.stop ≤ length s
    stretch_within = told.1

    pub stretch_counts : t.stop ≡ length (take t.stop s)
    stretch_counts = part_counts s t.stop stretch_within

    module _ (r : RowAt) (f : r ≡ row_at (take t.stop s) t.place) where
      pub next_fits : length s < 2 ^ 64 → r.next < 2 ^ 64 → Fits w64 (r.next + t.add)
      next_fits g h = go (ltb 0 t.add) refl
        where
          n : r.next ≡ (within s t).next
          n = ap (λ (x : RowAt). x.next) f

          go : (b : Bool) → ltb 0 t.add ≡ b → Fits w64 (r.next + t.add)
          go true q = let k : (within s t).next + t.add ≤ length s = told.3 (ltb-true _ _ q) in let m = n in omega arith
          go false q = let k : t.add ≤ 0 = ltb-false _ _ q in omega arith

      pub next_starts : t.take ≤ r.next + t.add
      next_starts = let n = ap (λ (x : RowAt). x.next) f in let k = told.2 in omega arith

      pub stretch_row : record { read = r.read; next = r.next + t.add - t.take } ≡ sorted_row_at s start end v
      stretch_row = ap (further t.add t.take) f ∙ told.0

pub ruleset walk_laws = (stretch_within, stretch_counts, next_fits, next_starts, stretch_row, rules)
