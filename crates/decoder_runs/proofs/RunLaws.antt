-- Laws of the reader's functions on lines and runs: where a line starts, one call at a line, and a run of calls.
use Prim.Native.Nat.{ℕ, suc, ◌+◌, ◌-◌, ◌^◌, ◌<◌, ◌≤◌}
use mathlib.Core.Path.{◌≡◌, refl, sym, ap, ◌∙◌}
use mathlib.Core.List.{List}
use mathlib.Core.Bool.{Bool, true, false}
use native.Mathlib.Omega.{arith}
use native.Mathlib.Nat.{zero-add, sub-zero}
use borrow.Author.Rules.{rules}
use borrow.Author.Tests.{eqb-true, eqb-false}
use mir.Val.{Fits}
use mir.Syntax.{w64}
use lib.Dec.{eqb}
use lib.ListN.{length, take, drop, length-drop}
use lib.Seq.{drop-drop}
use Rattle.text.specs.Lines.{line_next, first_line}
use Rattle.text.specs.declared.Line.{Line}
use Rattle.text.proofs.Laws.{part_from}
use Rattle.text.proofs.PartLaws.{line_within}
use Rattle.decoder.specs.Steps.{found_numbered, stepped, lines_end, next_at, instruction_at, lines_at, offset_after, SteppedAt, step_numbered, stepped_at, nth_call}
use Rattle.decoder.specs.declared.StepAt.{StepAt}
use Rattle.decoder.proofs.OffsetLaws.{lines_end_past, answer_read, lines_read, lines_read_most, call_at, nth_call_lem, call_stays}

-- ---- where a line starts
pub line_start : (text : List ℕ) (line : ℕ) → lines_end line text ≡ 0 + lines_end (line - 0) (drop 0 text)
line_start text line = sym (zero-add (lines_end (line - 0) text) ∙ ap (λ (m : ℕ). lines_end m text) (sub-zero line))

module _ (text : List ℕ) (line at n : ℕ) (e : lines_end line text ≡ at + lines_end (line - n) (drop at text)) where
  pub line_past : at ≡ length text → at ≡ lines_end line text
  line_past h =
      let k = length-drop at text in
      let z = lines_end_past (line - n) (drop at text) (omega arith) in
      omega arith

  pub line_found : line ≤ n → at ≡ lines_end line text
  unfolding lines_end
  line_found h =
      let z : line - n ≡ 0 = omega arith in
      let f : lines_end line text ≡ at + 0 = e ∙ ap (λ (m : ℕ). at + lines_end m (drop at text)) z in
      omega arith

  module _ (first : Line) (f : first ≡ first_line (take (length text - at) (drop at text))) where
    next_is : first.next ≡ line_next (drop at text)
    next_is = ap (λ (l : Line). l.next) (f ∙ ap first_line (part_from at text))

    pub line_ends_lem : at ≤ length text → at + first.next ≤ length text
    line_ends_lem h =
        let a = next_is in
        let w = line_within (drop at text) in
        let k = length-drop at text in
        omega arith

    pub line_fits : at ≤ length text → length text < 2 ^ 64 → Fits w64 (at + first.next)
    line_fits h b = let w = line_ends_lem h in omega arith

    pub line_more : n < line → lines_end line text ≡ at + first.next + lines_end (line - (n + 1)) (drop (at + first.next) text)
    unfolding lines_end
    line_more h =
        let m : line - n ≡ suc (line - (n + 1)) = omega arith in
        let g : lines_end line text ≡ at + (line_next (drop at text) + lines_end (line - (n + 1)) (drop (line_next (drop at text)) (drop at text))) =
        e ∙ ap (λ (j : ℕ). at + lines_end j (drop at text)) m in
        let d : lines_end (line - (n + 1)) (drop (line_next (drop at text)) (drop at text)) ≡ lines_end (line - (n + 1)) (drop (at + first.next) text) =
        ap (lines_end (line - (n + 1))) (drop-drop (line_next (drop at text)) at text ∙ ap (λ (j : ℕ). drop (at + j) text) (sym next_is)) in
        let a = next_is in
        omega arith

pub ruleset line_laws = (line_start, line_past, line_found, line_ends_lem, line_fits, line_more, rules)

-- ---- one call at a line
module _ (text : List ℕ) (offset : ℕ) (step : StepAt) (e : step_numbered step ≡ stepped_at text offset) where
  step_answer : found_numbered step.found ≡ instruction_at (next_at text offset)
  step_answer = ap (λ (s : SteppedAt). s.answer) e

  step_lines : step.lines ≡ lines_at (next_at text offset)
  step_lines = ap (λ (s : SteppedAt). s.lines) e

  step_offset : step.offset ≡ offset_after offset (next_at text offset)
  step_offset = ap (λ (s : SteppedAt). s.offset) e

module _ (text : List ℕ) (line offset : ℕ) (o : offset ≡ lines_end line text) (step : StepAt) (e : step_numbered step ≡ stepped_at text offset) where
  lines_here : step.lines ≡ lines_at (next_at text (lines_end line text))
  lines_here = step_lines text offset step e ∙ ap (λ (n : ℕ). lines_at (next_at text n)) o

  -- the line reached is no further than the text has bytes
  pub reached_fits : line < 2 ^ 64 → length text < 2 ^ 64 → Fits w64 (line + step.lines)
  reached_fits b f = go (eqb (lines_at (next_at text (lines_end line text))) 0) refl
    where
      go : (t : Bool) → eqb (lines_at (next_at text (lines_end line text))) 0 ≡ t → Fits w64 (line + step.lines)
      go true p = let z : lines_at (next_at text (lines_end line text)) ≡ 0 = eqb-true _ _ p in let k = lines_here in omega arith
      go false p = let m = lines_read_most text line (eqb-false _ _ p) in let k = lines_here in omega arith

  pub line_stepped : record { answer = found_numbered step.found; line = line + step.lines } ≡ stepped text line
  line_stepped =
      let a : found_numbered step.found ≡ instruction_at (next_at text (lines_end line text)) =
      step_answer text offset step e ∙ ap (λ (n : ℕ). instruction_at (next_at text n)) o in
      let k = lines_here in
      rw (answer_read text line, lines_read text line, a, k)

pub ruleset step_laws = (reached_fits, line_stepped, rules)

-- ---- a run of calls
pub nth_start : (text : List ℕ) (k : ℕ) → nth_call text k ≡ call_at (k - 0) text 0
nth_start text k = nth_call_lem text k ∙ ap (λ (j : ℕ). call_at j text 0) (sym (sub-zero k))

module _ (text : List ℕ) (k i offset : ℕ) (c : nth_call text k ≡ call_at (k - i) text offset) (step : StepAt) (e : step_numbered step ≡ stepped_at text offset) where
  -- after a refusal every later call answers the same
  pub nth_stays : step.lines ≡ 0 → found_numbered step.found ≡ nth_call text k
  nth_stays h =
      let z : lines_at (next_at text offset) ≡ 0 = sym (step_lines text offset step e) ∙ h in
      step_answer text offset step e ∙ sym (c ∙ call_stays (k - i) text offset z)

  pub nth_more : i < k → nth_call text k ≡ call_at (k - (i + 1)) text step.offset
  unfolding call_at
  nth_more h =
      let m : k - i ≡ suc (k - (i + 1)) = omega arith in
      c ∙ ap (λ (j : ℕ). call_at j text offset) m ∙ ap (call_at (k - (i + 1)) text) (sym (step_offset text offset step e))

  pub nth_found : k ≤ i → found_numbered step.found ≡ nth_call text k
  unfolding call_at
  nth_found h =
      let m : k - i ≡ 0 = omega arith in
      step_answer text offset step e ∙ sym (c ∙ ap (λ (j : ℕ). call_at j text offset) m)

pub ruleset nth_laws = (nth_start, nth_stays, nth_more, nth_found, rules)
