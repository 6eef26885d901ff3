-- Laws of the functions that find what stands from an offset on, one for each way out.
use Rattle.std.specs.Prelude.{Option, Some, None}
use Prim.Native.Nat.{ℕ, ◌+◌, ◌-◌, ◌^◌, ◌<◌, ◌≤◌}
use mathlib.Core.Path.{◌≡◌, sym, ap, ◌∙◌}
use mathlib.Core.List.{List}
use mathlib.Core.Bool.{Bool, true, false, not}
use native.Mathlib.Omega.{arith}
use borrow.Author.Rules.{rules}
use borrow.Author.Tests.{lt-ltb, le-ltb, not-true, not-false}
use mir.Val.{Fits}
use mir.Syntax.{w64}
use lib.ListN.{length, take, drop, length-drop}
use Rattle.text.specs.Lines.{line_length, line_next, first_line}
use Rattle.text.specs.declared.Line.{Line}
use Rattle.text.proofs.Laws.{part_from, part_counts}
use Rattle.text.proofs.PartLaws.{line_within}
use Rattle.text_read.specs.Numerals.{hexadecimal}
use Rattle.program.specs.Groups.{has_second}
use Rattle.program_bytecode.specs.Left.{asks_number}
use Rattle.decoder_lines.specs.GroupAt.{group_of, group_on, group_at}
use Rattle.decoder_lines.specs.WordLine.{word_line}
use Rattle.decoder_lines.specs.declared.GroupAt.{GroupAt}
use Rattle.decoder_lines.specs.declared.GroupAt.TheVariants.{Nothing, Unreadable, Incomplete, Single, Pair}
use Rattle.decoder_lines.proofs.WordLaws.{Said, said}

-- the first line of `&text[at..]`
module _ (text : List ℕ) (at : ℕ) (line : Line) (e : line ≡ first_line (take (length text - at) (drop at text))) where
  line_from_lem : line ≡ first_line (drop at text)
  line_from_lem = e ∙ ap first_line (part_from at text)

  next_is : line.next ≡ line_next (drop at text)
  next_is = ap (λ (l : Line). l.next) line_from_lem

  length_is : line.length ≡ line_length (drop at text)
  length_is = ap (λ (l : Line). l.length) line_from_lem

  -- what follows it starts within the text
  pub next_ends : at ≤ length text → at + line.next ≤ length text
  next_ends h =
      let a = next_is in
      let w = line_within (drop at text) in
      let k = length-drop at text in
      omega arith

  pub next_fits : at ≤ length text → length text < 2 ^ 64 → Fits w64 (at + line.next)
  next_fits h f = let w = next_ends h in omega arith

-- ---- the group of a first word
module _ (text : List ℕ) (w at : ℕ) (r : Bool) (e : r ≡ asks_number false w) where
  pub word_alone : not r ≡ true → Single w at ≡ group_of text w at
  unfolding group_of
  word_alone h = let k : has_second w ≡ false = sym e ∙ not-true r h in rw k

  pub word_last : not r ≡ false → at ≡ length text → Incomplete ≡ group_of text w at
  unfolding group_of
  word_last h p = let k : has_second w ≡ true = sym e ∙ not-false r h in rw (k, le-ltb at (length text) (omega arith))

  pub word_two : not r ≡ false → (at ≡ length text → ⊥) → at ≤ length text → (line : Line) → line ≡ first_line (take (length text - at) (drop at text))
      → Pair w at line.length (at + line.next) ≡ group_of text w at
  unfolding group_of
  word_two h p b line f =
      let k : has_second w ≡ true = sym e ∙ not-false r h in
      rw (k, lt-ltb at (length text) (omega arith), length_is text at line f, next_is text at line f)

pub ruleset of_laws = (next_fits, word_alone, word_last, word_two, rules)

-- ---- what stands from an offset on
pub at_past : (text : List ℕ) (at : ℕ) → length text ≤ at → Nothing ≡ group_at text at
unfolding group_at
at_past text at h = rw (le-ltb at (length text) h)

-- a first line as the writer has it
module _ (text : List ℕ) (at : ℕ) (h : at < length text) (m : Option ℕ) (e : m ≡ word_line (take (length text - at) (drop at text))) (w : ℕ) (f : m ≡ Some w) where
  line_said : Said (drop at text) w
  line_said = said (drop at text) w (ap word_line (sym (part_from at text)) ∙ sym e ∙ f)

  pub said_starts : at + 19 ≤ length text
  said_starts = let a = line_said.0 in let k = length-drop at text in omega arith

  pub at_said : (r : GroupAt) → r ≡ group_of text w (at + 19) → r ≡ group_at text at
  unfolding group_at group_on
  at_said r k = let a = line_said in k ∙ sym (rw (lt-ltb at (length text) h, a.1, a.2, a.3))

module _ (text : List ℕ) (at : ℕ) (h : at < length text) (line : Line) (e : line ≡ first_line (take (length text - at) (drop at text))) where
  -- `&rest[..length]` has that length
  pub first_counts : line.length ≡ length (take line.length (take (length text - at) (drop at text)))
  first_counts =
      let a = length_is text at line e in
      let w = line_within (drop at text) in
      part_counts (take (length text - at) (drop at text)) line.length (rw (part_from at text) (omega arith))

  pub next_starts : at + line.next ≤ length text
  next_starts = next_ends text at line e (omega arith)

  pub start_fits : length text < 2 ^ 64 → Fits w64 (at + line.next)
  start_fits f = let w = next_starts in omega arith

  module _ (m : Option ℕ) (f : m ≡ hexadecimal (2 ^ 64) (take line.length (take (length text - at) (drop at text)))) where
    -- what the first word says decides
    at_word : group_at text at ≡ group_on text (at + line.next) m
    unfolding group_at
    at_word = rw (lt-ltb at (length text) h, f, part_from at text, length_is text at line e, next_is text at line e)

    pub at_unreadable : m ≡ None → Unreadable ≡ group_at text at
    unfolding group_on
    at_unreadable g = sym (at_word ∙ rw g)

    pub at_group : (w : ℕ) → m ≡ Some w → (r : GroupAt) → r ≡ group_of text w (at + line.next) → r ≡ group_at text at
    unfolding group_on
    at_group w g r k = k ∙ sym (at_word ∙ rw g)

pub ruleset at_laws = (at_past, said_starts, at_said, first_counts, next_starts, start_fits, at_unreadable, at_group, rules)
