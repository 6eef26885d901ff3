-- The sums of rows one after another: two runs of rows together, and three in either grouping.
use Rattle.std.specs.Prelude.{Option, Some, None}
use Prim.Native.Nat.{ℕ, suc, ◌+◌}
use mathlib.Core.Path.{◌≡◌, refl, sym, ap, ◌∙◌}
use mathlib.Core.List.{List, [], ◌∷◌, ◌++◌, append-nil}
use mathlib.Core.Bool.{Bool, true, false, cond}
use native.Mathlib.Omega.{arith}
use native.Mathlib.Nat.{add_assoc, add-zero, zero-add}
use lib.ListN.{length-append}
use Rattle.text.specs.Lists.{total}
use Rattle.text.specs.Answer.{Answer, ok, refused}
use Rattle.text.proofs.SumLaws.{total_append}
use Rattle.asm.specs.Rows.{instructions, counted_length}
use Rattle.asm.specs.Survey.{word_count, is_label_row, is_main_row, count_rows, call_place, or_place, first_call, main_start, main_end, tally_of, joined_end, joined, joined_surveys}
use Rattle.asm.specs.declared.OlaAsmInstruction.{OlaAsmInstruction}
use Rattle.asm.specs.declared.AsmRow.{AsmRow}
use Rattle.asm.specs.declared.AsmRow.TheVariants.{Instruction, LabelCall, LabelJmp, LabelProphet}
use Rattle.asm.specs.declared.Tally.{Tally}

-- ---- places

-- the first of three places, in either grouping
or_assoc : (a b c : Option ℕ) → or_place (or_place a b) c ≡ or_place a (or_place b c)
or_assoc (Some i) b c = refl
or_assoc None b c = refl

-- nowhere is nothing more
pub or_nothing : (a : Option ℕ) → or_place a None ≡ a
or_nothing (Some i) = refl
or_nothing None = refl

-- main's end over three texts, in either grouping
end_assoc : (fm fe gc gm ge hc he : Option ℕ)
    → joined_end (or_place fm gm) (joined_end fm fe gc ge) hc he ≡ joined_end fm fe (or_place gc hc) (joined_end gm ge hc he)
end_assoc (Some i) fe gc gm ge hc he = or_assoc fe gc hc
end_assoc None fe gc gm ge hc he = refl

-- ---- the parts of a tally over two runs of rows

-- the instructions of the first and then of the second
instructions_append : (rs qs : List AsmRow) → instructions (rs ++ qs) ≡ instructions rs ++ instructions qs
unfolding instructions
instructions_append [] qs = refl
instructions_append (Instruction i ∷ rs) qs = ap (λ (l : List OlaAsmInstruction). i ∷ l) (instructions_append rs qs)
instructions_append (LabelCall start n ∷ rs) qs = instructions_append rs qs
instructions_append (LabelJmp start n ∷ rs) qs = instructions_append rs qs
instructions_append (LabelProphet start n ∷ rs) qs = instructions_append rs qs

-- the rows that pass a test, over both
pub count_append : (f : AsmRow → Bool) (rs qs : List AsmRow) → count_rows f (rs ++ qs) ≡ count_rows f rs + count_rows f qs
unfolding count_rows
count_append f [] qs = omega arith
count_append f (r ∷ rs) qs = go (f r) (count_append f rs qs)
  where
    go : (t : Bool) → count_rows f (rs ++ qs) ≡ count_rows f rs + count_rows f qs
        → cond t (suc (count_rows f (rs ++ qs))) (count_rows f (rs ++ qs)) ≡ cond t (suc (count_rows f rs)) (count_rows f rs) + count_rows f qs
    go true h = omega arith
    go false h = h

-- the first call label of the first, or else of the second
call_append : (rs qs : List AsmRow) → first_call (rs ++ qs) ≡ or_place (first_call rs) (first_call qs)
unfolding first_call
call_append [] qs = refl
call_append (r ∷ rs) qs = ap (or_place (call_place r)) (call_append rs qs) ∙ sym (or_assoc (call_place r) (first_call rs) (first_call qs))

-- main's start in the first, or else in the second
main_append : (s : List ℕ) (rs qs : List AsmRow) → main_start s (rs ++ qs) ≡ or_place (main_start s rs) (main_start s qs)
unfolding main_start
main_append s [] qs = refl
main_append s (r ∷ rs) qs = go r (main_append s rs qs)
  where
    go : (r : AsmRow) → main_start s (rs ++ qs) ≡ or_place (main_start s rs) (main_start s qs)
        → main_start s (r ∷ (rs ++ qs)) ≡ or_place (main_start s (r ∷ rs)) (main_start s qs)
    go (Instruction i) h = h
    go (LabelCall start n) h = pick (is_main_row s (LabelCall start n)) h
      where
        pick : (t : Bool) → main_start s (rs ++ qs) ≡ or_place (main_start s rs) (main_start s qs)
            → cond t (Some start) (main_start s (rs ++ qs)) ≡ or_place (cond t (Some start) (main_start s rs)) (main_start s qs)
        pick true h = refl
        pick false h = h
    go (LabelJmp start n) h = h
    go (LabelProphet start n) h = h

-- main's end, where main may begin in the first and run into the second
end_append : (s : List ℕ) (rs qs : List AsmRow) → main_end s (rs ++ qs) ≡ joined_end (main_start s rs) (main_end s rs) (first_call qs) (main_end s qs)
unfolding main_start main_end
end_append s [] qs = refl
end_append s (r ∷ rs) qs = go r (end_append s rs qs)
  where
    go : (r : AsmRow) → main_end s (rs ++ qs) ≡ joined_end (main_start s rs) (main_end s rs) (first_call qs) (main_end s qs)
        → main_end s (r ∷ (rs ++ qs)) ≡ joined_end (main_start s (r ∷ rs)) (main_end s (r ∷ rs)) (first_call qs) (main_end s qs)
    go (Instruction i) h = h
    go (LabelCall start n) h = pick (is_main_row s (LabelCall start n)) h
      where
        pick : (t : Bool) → main_end s (rs ++ qs) ≡ joined_end (main_start s rs) (main_end s rs) (first_call qs) (main_end s qs)
            → cond t (first_call (rs ++ qs)) (main_end s (rs ++ qs))
            ≡ joined_end (cond t (Some start) (main_start s rs)) (cond t (first_call rs) (main_end s rs)) (first_call qs) (main_end s qs)
        pick true h = call_append rs qs
        pick false h = h
    go (LabelJmp start n) h = h
    go (LabelProphet start n) h = h

-- ---- tallies

-- the tally of two runs of rows is theirs joined
pub tally_append : (s : List ℕ) (rs qs : List AsmRow) → tally_of s (rs ++ qs) ≡ joined (tally_of s rs) (tally_of s qs)
tally_append s rs qs =
    rw (
      length-append rs qs,
      count_append is_label_row rs qs,
      instructions_append rs qs,
      length-append (instructions rs) (instructions qs),
      count_append (is_main_row s) rs qs,
      total_append counted_length (instructions rs) (instructions qs),
      total_append word_count (instructions rs) (instructions qs),
      call_append rs qs,
      main_append s rs qs,
      end_append s rs qs,
    )

-- three tallies joined, in either grouping
pub joined_assoc : (f g h : Tally) → joined (joined f g) h ≡ joined f (joined g h)
joined_assoc f g h =
    rw (
      add_assoc f.rows g.rows h.rows,
      add_assoc f.labels g.labels h.labels,
      add_assoc f.instructions g.instructions h.instructions,
      add_assoc f.mains g.mains h.mains,
      add_assoc f.counted g.counted h.counted,
      add_assoc f.words g.words h.words,
      or_assoc f.call g.call h.call,
      or_assoc f.main g.main h.main,
      end_assoc f.main f.end g.call g.main g.end h.call h.end,
    )

-- no rows before
pub none_joined : (s : List ℕ) (f : Tally) → joined (tally_of s []) f ≡ f
unfolding count_rows instructions total first_call main_start main_end
none_joined s f =
    rw (zero-add f.rows, zero-add f.labels, zero-add f.instructions, zero-add f.mains, zero-add f.counted, zero-add f.words)

-- main ends only where it began
abbrev pub Settled : Tally → Type 0
Settled f = joined_end f.main f.end None None ≡ f.end

-- no rows after: a tally with an end and no main would lose the end
pub joined_none : (s : List ℕ) (f : Tally) → Settled f → joined f (tally_of s []) ≡ f
unfolding count_rows instructions total first_call main_start main_end
joined_none s f h =
    rw (
      add-zero f.rows,
      add-zero f.labels,
      add-zero f.instructions,
      add-zero f.mains,
      add-zero f.counted,
      add-zero f.words,
      or_nothing f.call,
      or_nothing f.main,
      h,
    )

-- every tally of rows is settled
pub tally_settled : (s : List ℕ) (rs : List AsmRow) → Settled (tally_of s rs)
unfolding first_call main_end
tally_settled s rs = sym (end_append s rs []) ∙ ap (main_end s) (append-nil rs)

-- and every tally that a settled one was joined to
pub joined_settled : (f g : Tally) → Settled g → Settled (joined f g)
joined_settled f g h = go f.main
  where
    go : (m : Option ℕ) → joined_end (or_place m g.main) (joined_end m f.end g.call g.end) None None ≡ joined_end m f.end g.call g.end
    go (Some i) = or_nothing (or_place f.end g.call)
    go None = h

-- ---- surveys

-- a survey joined to two tallies, one after the other or both at once
pub joined_surveys_assoc : (f g : Tally) (x : Answer Tally) → joined_surveys (ok (joined f g)) x ≡ joined_surveys (ok f) (joined_surveys (ok g) x)
unfolding joined_surveys
joined_surveys_assoc f g (ok h) = ap ok (joined_assoc f g h)
joined_surveys_assoc f g (refused n d) = ap (refused n) (add_assoc f.rows g.rows d)

-- no rows before
pub none_joined_surveys : (s : List ℕ) (x : Answer Tally) → joined_surveys (ok (tally_of s [])) x ≡ x
unfolding joined_surveys
none_joined_surveys s (ok f) = ap ok (none_joined s f)
none_joined_surveys s (refused n d) = ap (refused n) (zero-add d)

-- no rows after
pub joined_surveys_none : (s : List ℕ) (f : Tally) → Settled f → joined_surveys (ok f) (ok (tally_of s [])) ≡ ok f
unfolding joined_surveys
joined_surveys_none s f h = ap ok (joined_none s f h)
