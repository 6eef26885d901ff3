-- The instruction from an offset on, by what stands there.
use Rattle.std.specs.Prelude.{Some, None, Result, Ok, Err}
use Prim.Native.Nat.{ℕ, ◌+◌, ◌-◌, ◌^◌, ◌<◌, ◌≤◌}
use mathlib.Core.Path.{◌≡◌, sym, ap, ◌∙◌}
use mathlib.Core.List.{List, [], ◌∷◌}
use mathlib.Core.Bool.{true, false}
use native.Mathlib.Omega.{arith}
use borrow.Author.Rules.{rules}
use mir.Val.{Fits}
use mir.Syntax.{w64}
use lib.ListN.{length, take, drop}
use lib.Seq.{drop-drop}
use Rattle.text.specs.Lines.{line_next}
use Rattle.text.specs.Answer.{Answer, ok, refused, ◌>>=◌}
use Rattle.program.specs.Groups.{Group, has_second}
use Rattle.program.specs.declared.BinaryInstruction.{BinaryInstruction}
use Rattle.decoder.specs.Lines.{first_of_line}
use Rattle.decoder.specs.Decode.{decoded, on_first}
use Rattle.decoder.specs.Open.{open_number, open_detail}
use Rattle.decoder.specs.Steps.{lines_end, ReadAt}
use Rattle.decoder.specs.declared.OpenRefusal.{OpenRefusal}
use Rattle.decoder_words.specs.Decoded.{decoded_numbered}
use Rattle.decoder_lines.specs.GroupAt.{group_at}
use Rattle.decoder_lines.specs.ReadFrom.{read_as, groups_read, read_from}
use Rattle.decoder_lines.specs.declared.GroupAt.{GroupAt}
use Rattle.decoder_lines.specs.declared.GroupAt.TheVariants.{Nothing, Unreadable, Incomplete, Single, Pair}
use Rattle.decoder_lines.proofs.GroupLaws.{line_at, nothing_groups, unreadable_first, unreadable_groups, incomplete_first, incomplete_groups, single_first, single_alone, single_next, single_groups, pair_first, pair_two, pair_start, pair_next, pair_line, pair_groups}

-- ---- an answer with its lines and the offset after them
module _ (d : Result BinaryInstruction OpenRefusal) (n next : ℕ) where
  pub as_read : (i : BinaryInstruction) → d ≡ Ok i → ok (record { instruction = i; lines = n; offset = next }) ≡ read_as (decoded_numbered d) n next
  unfolding read_as ◌>>=◌
  as_read i e = rw e

  pub as_refused : (f : OpenRefusal) → d ≡ Err f → refused (open_number f) (open_detail f) ≡ read_as (decoded_numbered d) n next
  unfolding read_as ◌>>=◌
  as_refused f e = rw e

-- ---- the first group
module _ (k at : ℕ) (rest : List ℕ) (l : List ℕ) (gs : List (Group (List ℕ))) (w : ℕ) (f : first_of_line l ≡ Some w) where
  read_single : has_second w ≡ false → groups_read k at rest (record { first = l; second = None } ∷ gs) ≡ read_as (decoded k w None) 1 (at + lines_end 1 rest)
  unfolding groups_read on_first
  read_single h = rw (f, h)

  read_pair : (m : List ℕ) → has_second w ≡ true → groups_read k at rest (record { first = l; second = Some m } ∷ gs) ≡ read_as (decoded k w (Some m)) 2 (at + lines_end 2 rest)
  unfolding groups_read on_first
  read_pair m h = rw (f, h)

  read_incomplete : has_second w ≡ true → groups_read k at rest (record { first = l; second = None } ∷ gs) ≡ refused 20 0
  unfolding groups_read
  read_incomplete h = rw (f, h)

read_unreadable : (k at : ℕ) (rest : List ℕ) (l : List ℕ) (gs : List (Group (List ℕ))) → first_of_line l ≡ None
    → groups_read k at rest (record { first = l; second = None } ∷ gs) ≡ refused 15 k
unfolding groups_read on_first read_as ◌>>=◌
read_unreadable k at rest l gs f = rw f

-- ---- where one line and two lines end
one_end : (text : List ℕ) (at : ℕ) → at + lines_end 1 (drop at text) ≡ at + line_next (drop at text)
unfolding lines_end
one_end text at = omega arith

two_end : (text : List ℕ) (at start : ℕ) → start ≡ at + line_next (drop at text) → at + lines_end 2 (drop at text) ≡ start + line_next (drop start text)
unfolding lines_end
two_end text at start e =
    let d : drop (line_next (drop at text)) (drop at text) ≡ drop start text = drop-drop (line_next (drop at text)) at text ∙ ap (λ (n : ℕ). drop n text) (sym e) in
    rw d (omega arith)

-- ---- by what stands there
module _ (k : ℕ) (text : List ℕ) (at : ℕ) (g : GroupAt) (e : g ≡ group_at text at) where
  abbrev from : List (Group (List ℕ)) → Answer ReadAt
  from gs = groups_read k at (drop at text) gs

  pub reads_nothing : g ≡ Nothing → refused 20 0 ≡ read_from k text at
  unfolding groups_read
  reads_nothing h = sym (ap from (nothing_groups text at (sym e ∙ h)))

  pub reads_unreadable : g ≡ Unreadable → refused 15 k ≡ read_from k text at
  reads_unreadable h =
      let q = sym e ∙ h in
      sym (ap from (unreadable_groups text at q) ∙ read_unreadable k at (drop at text) (line_at text at) _ (unreadable_first text at q))

  pub reads_incomplete : g ≡ Incomplete → refused 20 0 ≡ read_from k text at
  reads_incomplete h =
      let q = sym e ∙ h in
      let f = incomplete_first text at q in
      sym (ap from (incomplete_groups text at q) ∙ read_incomplete k at (drop at text) (line_at text at) [] f.0 f.1 f.2)

  pub reads_single : (w next : ℕ) → g ≡ Single w next → (d : Answer BinaryInstruction) → d ≡ decoded k w None
      → (a : Answer ReadAt) → a ≡ read_as d 1 next → a ≡ read_from k text at
  reads_single w next h d f a p =
      let q = sym e ∙ h in
      p ∙ ap (λ (x : Answer BinaryInstruction). read_as x 1 next) f
      ∙ ap (λ (n : ℕ). read_as (decoded k w None) 1 n) (single_next text at w next q ∙ sym (one_end text at))
      ∙ sym (ap from (single_groups text at w next q) ∙ read_single k at (drop at text) (line_at text at) _ w (single_first text at w next q) (single_alone text at w next q))

  module _ (w start n next : ℕ) (h : g ≡ Pair w start n next) where
    here : group_at text at ≡ Pair w start n next
    here = sym e ∙ h

    -- the second line's end
    pub end_within : start + n ≤ length text
    end_within = pair_line text at w start n next here

    pub end_fits : length text < 2 ^ 64 → Fits w64 (start + n)
    end_fits f = let b = end_within in omega arith

    pub reads_pair : (d : Answer BinaryInstruction) → d ≡ decoded k w (Some (take (start + n - start) (drop start text)))
        → (a : Answer ReadAt) → a ≡ read_as d 2 next → a ≡ read_from k text at
    reads_pair d f a p =
        let m : start + n - start ≡ n = omega arith in
        p ∙ ap (λ (x : Answer BinaryInstruction). read_as x 2 next) f
        ∙ ap (λ (j : ℕ). read_as (decoded k w (Some (take j (drop start text)))) 2 next) m
        ∙ ap (λ (j : ℕ). read_as (decoded k w (Some (take n (drop start text)))) 2 j)
        (pair_next text at w start n next here ∙ sym (two_end text at start (pair_start text at w start n next here)))
        ∙ sym
        (ap from (pair_groups text at w start n next here)
        ∙ read_pair k at (drop at text) (line_at text at) _ w (pair_first text at w start n next here) (take n (drop start text)) (pair_two text at w start n next here))

pub ruleset read_laws = (reads_nothing, reads_unreadable, reads_incomplete, reads_single, end_within, end_fits, reads_pair, rules)
