-- Laws of refusals 1 to 7, one for each way out of the functions that ask them.
use Rattle.std.specs.Prelude.{Some, None, Result, Ok, Err}
use Prim.Native.Nat.{ℕ, suc, ◌+◌, ◌<◌, ◌≤◌}
use mathlib.Core.Path.{◌≡◌, refl, sym, ap, ◌∙◌}
use mathlib.Core.List.{List, [], ◌∷◌}
use mathlib.Core.Bool.{Bool, true, false, cond}
use native.Mathlib.Omega.{arith}
use native.Mathlib.Nat.{zero-add}
use borrow.Author.Rules.{rules}
use borrow.Author.Tests.{eq-eqb, ne_eqb, lt-ltb, le-ltb, leb-true, leb-false}
use lib.Dec.{leb}
use lib.ListN.{length}
use Rattle.text.specs.Scan.{scan}
use Rattle.text.specs.Classes.{holds}
use Rattle.text.specs.Answer.{Answer, ◌>>=◌, ◌>>◌, refuse_if, refuse_at}
use Rattle.text.specs.declared.ByteClass.TheVariants.{Ascii}
use Rattle.asm.specs.Survey.{survey_of, survey_numbered}
use Rattle.asm.specs.declared.RowCount.{RowCount}
use Rattle.asm.specs.declared.Tally.{Tally}
use Rattle.relocate.specs.Relocate.{first_above127}
use Rattle.relocate.specs.Layout.{place_or, laid_out, measured, measured_numbered}
use Rattle.relocate.specs.Room.{room_of, room_numbered}
use Rattle.relocate.specs.declared.Layout.{Layout}
use Rattle.relocate.specs.declared.RelocateRefusal.{RelocateRefusal}
use Rattle.relocate.specs.declared.RelocateRefusal.TheVariants.{SourceTooLong, ByteAbove127, UnreadableRow, NoRow, NoMain, TwoMains, TableTooShort}
use Rattle.relocate_laws.proofs.StretchLaws.{layout_figures, room_laid}
use Rattle.relocate_measure.specs.Weighed.{weighed}

-- ---- 4 to 6

module _ (n : ℕ) (t : Tally) where
  pub no_row : t.rows ≡ 0 → measured_numbered (Err NoRow) ≡ weighed n t
  unfolding weighed ◌>>◌ refuse_if
  no_row a = rw (eq-eqb t.rows 0 a)

  module _ (a : t.rows ≡ 0 → ⊥) where
    pub no_main : t.mains ≡ 0 → measured_numbered (Err NoMain) ≡ weighed n t
    unfolding weighed ◌>>◌ refuse_if
    no_main b = rw (ne_eqb t.rows 0 a, eq-eqb t.mains 0 b)

    module _ (b : t.mains ≡ 0 → ⊥) where
      pub two_mains_lem : 1 < t.mains → measured_numbered (Err TwoMains) ≡ weighed n t
      unfolding weighed ◌>>◌ refuse_if
      two_mains_lem c = rw (ne_eqb t.rows 0 a, ne_eqb t.mains 0 b, lt-ltb 1 t.mains c)

      module _ (c : t.mains ≤ 1) where
        pub laid_out_lem : (start end : ℕ) → start ≡ place_or 0 t.main → end ≡ place_or n t.end
            → measured_numbered (Ok (record { labels = t.labels; instructions = t.instructions; counted = t.counted; words = t.words; start = start; end = end })) ≡ weighed n t
        unfolding weighed ◌>>◌ refuse_if
        laid_out_lem start end e f = rw (ne_eqb t.rows 0 a, ne_eqb t.mains 0 b, le-ltb 1 t.mains c, e, f)

pub ruleset weigh_laws = (no_row, no_main, two_mains_lem, laid_out_lem, rules)

-- ---- 1 to 3

above_at : (k : ℕ) (s : List ℕ) → scan (holds Ascii) s < length s → first_above127 k s ≡ Some (k + scan (holds Ascii) s)
unfolding first_above127 scan
above_at k [] h = absurd (omega arith)
above_at k (b ∷ bs) h = go (leb b 127) refl (above_at (suc k) bs) h
  where
    go : (u : Bool) → leb b 127 ≡ u → (scan (holds Ascii) bs < length bs → first_above127 (suc k) bs ≡ Some (suc k + scan (holds Ascii) bs))
        → cond u (suc (scan (holds Ascii) bs)) 0 < suc (length bs) → first_above127 k (b ∷ bs) ≡ Some (k + cond u (suc (scan (holds Ascii) bs)) 0)
    go true e f h =
        let n : suc k + scan (holds Ascii) bs ≡ k + suc (scan (holds Ascii) bs) = omega arith in
        rw (le-ltb 127 b (leb-true b 127 e)) (f (omega arith) ∙ ap Some n)
    go false e f h =
        let n : k ≡ k + 0 = omega arith in
        rw (lt-ltb 127 b (leb-false b 127 e)) (ap Some n)

above_none : (k : ℕ) (s : List ℕ) → length s ≤ scan (holds Ascii) s → first_above127 k s ≡ None
unfolding first_above127 scan
above_none k [] h = refl
above_none k (b ∷ bs) h = go (leb b 127) refl (above_none (suc k) bs) h
  where
    go : (u : Bool) → leb b 127 ≡ u → (length bs ≤ scan (holds Ascii) bs → first_above127 (suc k) bs ≡ None)
        → suc (length bs) ≤ cond u (suc (scan (holds Ascii) bs)) 0 → first_above127 k (b ∷ bs) ≡ None
    go true e f h = rw (le-ltb 127 b (leb-true b 127 e)) (f (omega arith))
    go false e f h = absurd (omega arith)

module _ (s : List ℕ) where
  pub too_long : 65536 < length s → measured_numbered (Err SourceTooLong) ≡ laid_out s
  unfolding laid_out ◌>>◌ refuse_if
  too_long h = rw (lt-ltb 65536 (length s) h)

  module _ (n : ℕ) (h : length s ≤ 65536) (e : n ≡ scan (holds Ascii) s) where
    pub byte_above : n < length s → measured_numbered (Err (ByteAbove127 n)) ≡ laid_out s
    unfolding laid_out ◌>>◌ refuse_if refuse_at
    byte_above k =
        let m : 0 + scan (holds Ascii) s ≡ n = zero-add (scan (holds Ascii) s) ∙ sym e in
        rw (le-ltb 65536 (length s) h, above_at 0 s (omega arith), m)

    module _ (k : length s ≤ n) (r : Result Tally RowCount) (f : survey_numbered r ≡ survey_of s) where
      asked : laid_out s ≡ (survey_of s >>= weighed (length s))
      unfolding laid_out weighed ◌>>◌ refuse_if refuse_at
      asked = rw (le-ltb 65536 (length s) h, above_none 0 s (omega arith))

      pub survey_weighed : (t : Tally) (m : Result Layout RelocateRefusal) → r ≡ Ok t → measured_numbered m ≡ weighed (length s) t → measured_numbered m ≡ laid_out s
      unfolding ◌>>=◌
      survey_weighed t m g i = i ∙ sym (asked ∙ ap (λ (x : Answer Tally). x >>= weighed (length s)) (sym f ∙ ap survey_numbered g))

      pub survey_refused : (rows : RowCount) → r ≡ Err rows → measured_numbered (Err (UnreadableRow rows)) ≡ laid_out s
      unfolding ◌>>=◌
      survey_refused rows g = sym (asked ∙ ap (λ (x : Answer Tally). x >>= weighed (length s)) (sym f ∙ ap survey_numbered g))

pub ruleset lay_laws = (too_long, byte_above, survey_weighed, survey_refused, rules)

-- ---- 7, and the figures

module _ (s : List ℕ) (m : Result Layout RelocateRefusal) (e : measured_numbered m ≡ laid_out s) where
  pub not_laid : (room : ℕ) (f : RelocateRefusal) → m ≡ Err f → measured_numbered (Err f) ≡ measured s room
  unfolding measured ◌>>=◌
  not_laid room f g = rw (← e, g)

  module _ (l : Layout) (g : m ≡ Ok l) where
    pub table_short : (room : ℕ) → room < l.labels → measured_numbered (Err TableTooShort) ≡ measured s room
    unfolding measured ◌>>=◌ ◌>>◌ refuse_if
    table_short room k = rw (← e, g, lt-ltb room l.labels k)

    pub table_fits : (room : ℕ) → l.labels ≤ room → measured_numbered (Ok l) ≡ measured s room
    unfolding measured ◌>>=◌ ◌>>◌ refuse_if
    table_fits room k = rw (← e, g, le-ltb room l.labels k)

    pub room_is : room_numbered (Ok (layout_figures l)) ≡ room_of s
    unfolding ◌>>=◌
    room_is = sym (room_laid s ∙ rw (← e, g))

  pub room_not : (f : RelocateRefusal) → m ≡ Err f → room_numbered (Err f) ≡ room_of s
  unfolding ◌>>=◌
  room_not f g = sym (room_laid s ∙ rw (← e, g))
