-- The walk over the lines: what is left of the survey after each line, and that the sums stay small.
use Rattle.std.specs.Prelude.{None, Ok, Err}
use Prim.Native.Nat.{ℕ, ◌+◌, ◌-◌, ◌^◌, ◌<◌, ◌≤◌}
use mathlib.Core.Path.{◌≡◌, refl, sym, ap, subst, ◌∙◌}
use mathlib.Core.List.{List, [], ◌∷◌}
use mathlib.Core.Bool.{Bool, true, false, ◌||◌, cond}
use native.Mathlib.Omega.{arith}
use native.Mathlib.Nat.{le_refl, add-zero}
use borrow.Author.Rules.{rules}
use lib.ListN.{length}
use Rattle.text.specs.Bytes.{bytes, same}
use Rattle.text.specs.Lists.{total}
use Rattle.text.specs.Answer.{ok, refused}
use Rattle.vm_opcodes.specs.Operations.{row_places}
use Rattle.asm.specs.Parts.{name_at, line_pieces, line_at, next_line}
use Rattle.asm.specs.Rows.{instructions, line_of, row_at}
use Rattle.asm.specs.Survey.{is_memory_row, takes_word, count_rows, first_call, main_start, main_end, tally_of, survey_from, survey_of, survey_numbered, joined, joined_surveys}
use Rattle.asm.specs.declared.OlaAsmInstruction.{OlaAsmInstruction}
use Rattle.asm.specs.declared.AsmRow.{AsmRow}
use Rattle.asm.specs.declared.AsmRow.TheVariants.{Instruction, LabelCall, LabelJmp, LabelProphet}
use Rattle.asm.specs.declared.LineRead.TheVariants.{Blank, Row, Unreadable as NoRow}
use Rattle.asm.specs.declared.RowAt.{RowAt}
use Rattle.asm.specs.declared.RowCount.{RowCount}
use Rattle.asm.specs.declared.Tally.{Tally}
use Rattle.asm_laws.proofs.JoinLaws.{joined_settled, joined_surveys_assoc, none_joined_surveys, joined_surveys_none, tally_settled}
use Rattle.asm_laws.proofs.StepLaws.{survey_end, survey_blank, survey_row, survey_unreadable, next_further, instruction_room}
use Rattle.asm_survey.specs.Small.{Small}
use Rattle.asm_survey.proofs.Laws.{counted_le}

-- ---- where the walk begins

-- no sums
abbrev no_tally : Tally
no_tally = record { rows = 0; labels = 0; instructions = 0; mains = 0; counted = 0; words = 0; call = None; main = None; end = None }

pub walk_start : (s : List ℕ) → survey_of s ≡ joined_surveys (ok no_tally) (survey_from s 0)
unfolding count_rows instructions total first_call main_start main_end
walk_start s = sym (none_joined_surveys s (survey_from s 0))

pub small_start : Small no_tally 0
small_start = record { rows = le_refl 0; labels = le_refl 0; instructions = le_refl 0; mains = le_refl 0; counted = le_refl 0; words = le_refl 0; settled = refl }

-- ---- small sums

-- sums stay small further on
more_room : (t : Tally) (m n : ℕ) → m ≤ n → Small t m → Small t n
more_room t m n h w =
    let a = w.rows in
    let b = w.labels in
    let c = w.instructions in
    let d = w.mains in
    let e = w.counted in
    let f = w.words in
    record { rows = omega arith; labels = omega arith; instructions = omega arith; mains = omega arith; counted = omega arith; words = omega arith; settled = w.settled }

-- the sums of a row that takes n bytes
row_small : (s : List ℕ) (r : AsmRow) (n : ℕ) → 1 ≤ n → ((i : OlaAsmInstruction) → r ≡ Instruction i → 3 ≤ n) → Small (tally_of s (r ∷ [])) n
unfolding count_rows instructions total first_call main_start main_end
row_small s (Instruction i) n h k =
    let a = counted_le i.op0 in
    let b = counted_le i.op1 in
    let c = k i refl in
    record { rows = omega arith; labels = omega arith; instructions = omega arith; mains = omega arith; counted = omega arith; words = words (is_memory_row (row_places i.opcode) || takes_word i.op1) c; settled = refl }
  where
    words : (u : Bool) → 3 ≤ n → cond u 2 1 + 0 ≤ n
    words true c = omega arith
    words false c = omega arith
row_small s (LabelCall start m) n h k =
    record { rows = omega arith; labels = omega arith; instructions = omega arith; mains = mains (same (name_at s start m) (bytes "main")); counted = omega arith; words = omega arith; settled = tally_settled s (LabelCall start m ∷ []) }
  where
    mains : (u : Bool) → cond u 1 0 ≤ n
    mains true = omega arith
    mains false = omega arith
row_small s (LabelJmp start m) n h k =
    record { rows = omega arith; labels = omega arith; instructions = omega arith; mains = omega arith; counted = omega arith; words = omega arith; settled = refl }
row_small s (LabelProphet start m) n h k =
    record { rows = omega arith; labels = omega arith; instructions = omega arith; mains = omega arith; counted = omega arith; words = omega arith; settled = refl }

-- the sums of two texts that take m and n bytes
joined_small : (t u : Tally) (m n : ℕ) → Small t m → Small u n → Small (joined t u) (m + n)
joined_small t u m n v w =
    let a = v.rows in
    let b = v.labels in
    let c = v.instructions in
    let d = v.mains in
    let e = v.counted in
    let f = v.words in
    let a' = w.rows in
    let b' = w.labels in
    let c' = w.instructions in
    let d' = w.mains in
    let e' = w.counted in
    let f' = w.words in
    record { rows = omega arith; labels = omega arith; instructions = omega arith; mains = omega arith; counted = omega arith; words = omega arith; settled = joined_settled t u w.settled }

-- ---- a line more

module _ (s : List ℕ) (t : Tally) (i : ℕ) (line : RowAt) (e : line ≡ row_at s i) where
  read_is : line.read ≡ line_of (line_pieces (line_at s i))
  read_is = ap (λ (x : RowAt). x.read) e

  next_is : line.next ≡ next_line s i
  next_is = ap (λ (x : RowAt). x.next) e

  -- the next line starts further on, within the text
  next_past : i < length s → i < line.next
  next_past h = let w = (next_further s i h).0 in let k = next_is in omega arith

  pub next_less : i < length s → length s - line.next < length s - i
  next_less h = let w = next_past h in omega arith

  pub next_within : i < length s → line.next ≤ length s
  next_within h = let w = (next_further s i h).1 in let k = next_is in omega arith

  pub small_blank : i < length s → Small t i → Small t line.next
  small_blank h w = let k = next_past h in more_room t i line.next (omega arith) w

  pub small_row : (r : AsmRow) (u : Tally) → i < length s → Small t i → line.read ≡ Row r → u ≡ joined t (tally_of s (r ∷ [])) → Small u line.next
  small_row r u h w k f =
      let p = next_past h in
      let n : i + (line.next - i) ≡ line.next = omega arith in
      subst (λ (x : Tally). Small x line.next) (sym f)
      (subst (Small (joined t (tally_of s (r ∷ [])))) n
      (joined_small t (tally_of s (r ∷ [])) i (line.next - i) w (row_small s r (line.next - i) (omega arith) room)))
    where
      room : (j : OlaAsmInstruction) → r ≡ Instruction j → 3 ≤ line.next - i
      room j g = let a = instruction_room s i j (sym read_is ∙ k ∙ ap Row g) in let b = next_is in omega arith

  module _ (k : survey_of s ≡ joined_surveys (ok t) (survey_from s i)) where
    pub walk_blank : line.read ≡ Blank → survey_of s ≡ joined_surveys (ok t) (survey_from s line.next)
    walk_blank f = k ∙ ap (joined_surveys (ok t)) (survey_blank s i (sym read_is ∙ f) ∙ ap (survey_from s) (sym next_is))

    pub walk_row : (r : AsmRow) (u : Tally) → line.read ≡ Row r → u ≡ joined t (tally_of s (r ∷ [])) → survey_of s ≡ joined_surveys (ok u) (survey_from s line.next)
    walk_row r u f g =
        k
        ∙ ap (joined_surveys (ok t)) (survey_row s i r (sym read_is ∙ f))
        ∙ sym (joined_surveys_assoc t (tally_of s (r ∷ [])) (survey_from s (next_line s i)))
        ∙ rw (g, next_is)

    pub walk_unreadable : (rows : RowCount) → line.read ≡ NoRow → rows ≡ record { 0 = t.rows } → survey_numbered (Err rows) ≡ survey_of s
    unfolding joined_surveys
    walk_unreadable rows f g =
        ap (λ (x : RowCount). refused 3 x.0) g
        ∙ sym (k ∙ ap (joined_surveys (ok t)) (survey_unreadable s i (sym read_is ∙ f)) ∙ ap (refused 3) (add-zero t.rows))

-- the walk's end
pub walk_end : (s : List ℕ) (t : Tally) (i : ℕ) → length s ≤ i → Small t i → survey_of s ≡ joined_surveys (ok t) (survey_from s i) → survey_numbered (Ok t) ≡ survey_of s
walk_end s t i h w k = sym (k ∙ ap (joined_surveys (ok t)) (survey_end s i h) ∙ joined_surveys_none s t w.settled)

-- what the sums with one row more ask for
pub small_enough : (s : List ℕ) (t : Tally) (i : ℕ) → i < length s → length s < 2 ^ 63 → Small t i → Small t 9223372036854775807
small_enough s t i h k w = more_room t i 9223372036854775807 (omega arith) w

pub ruleset walk_laws = (walk_start, small_start, next_less, next_within, small_blank, small_row, walk_blank, walk_row, walk_unreadable, walk_end, small_enough, rules)
