-- The first line that is no first word, from an offset on, by what stands from a later one on.
use Rattle.std.specs.Prelude.{Some, None}
use Prim.Native.Nat.{ℕ, ◌+◌, ◌-◌, ◌^◌, ◌<◌, ◌≤◌}
use mathlib.Core.Path.{◌≡◌, sym, ap, ◌∙◌}
use mathlib.Core.List.{List, [], ◌∷◌}
use native.Mathlib.Omega.{arith}
use borrow.Author.Rules.{rules}
use mir.Val.{Fits}
use mir.Syntax.{w64}
use lib.ListN.{length, drop}
use Rattle.text.specs.Lines.{lines}
use Rattle.program.specs.Groups.{Group}
use Rattle.decoder.specs.Lines.{first_of_line, lines_in, line_groups, first_unreadable}
use Rattle.decoder_lines.specs.GroupAt.{group_at}
use Rattle.decoder_lines.specs.declared.GroupAt.{GroupAt}
use Rattle.decoder_lines.specs.declared.GroupAt.TheVariants.{Nothing, Unreadable, Incomplete, Single, Pair}
use Rattle.decoder_lines.proofs.GroupLaws.{groups_from, nothing_groups, unreadable_first, unreadable_groups, incomplete_first, incomplete_groups, single_first, single_groups, single_more, single_within, pair_first, pair_groups, pair_more, pair_within}

-- a first group that is a word, and one that is none
module _ (line : ℕ) (g : Group (List ℕ)) (gs : List (Group (List ℕ))) where
  word_first : (w : ℕ) → first_of_line g.first ≡ Some w → first_unreadable line (g ∷ gs) ≡ first_unreadable (line + lines_in g) gs
  unfolding first_unreadable
  word_first w f = rw f

  none_first : first_of_line g.first ≡ None → first_unreadable line (g ∷ gs) ≡ Some line
  unfolding first_unreadable
  none_first f = rw f

module _ (text : List ℕ) (offset first line at : ℕ) (left : first_unreadable first (line_groups (lines (drop offset text))) ≡ first_unreadable line (line_groups (lines (drop at text)))) where
  -- what is left, where the groups are known
  left_as : (gs : List (Group (List ℕ))) → groups_from text at ≡ gs → first_unreadable first (line_groups (lines (drop offset text))) ≡ first_unreadable line gs
  left_as gs e = left ∙ ap (first_unreadable line) e

  module _ (g : GroupAt) (e : g ≡ group_at text at) where
    -- no line is left
    pub line_nothing : g ≡ Nothing → None ≡ first_unreadable first (line_groups (lines (drop offset text)))
    unfolding first_unreadable
    line_nothing h = sym (left_as [] (nothing_groups text at (sym e ∙ h)))

    -- a line that is no number
    pub line_unreadable : g ≡ Unreadable → Some line ≡ first_unreadable first (line_groups (lines (drop offset text)))
    line_unreadable h =
        let q = sym e ∙ h in
        sym (left_as _ (unreadable_groups text at q) ∙ none_first line _ _ (unreadable_first text at q))

    -- a last word that lacks its second line
    pub line_incomplete : g ≡ Incomplete → None ≡ first_unreadable first (line_groups (lines (drop offset text)))
    unfolding first_unreadable
    line_incomplete h =
        let q = sym e ∙ h in
        let f = incomplete_first text at q in
        sym (left_as _ (incomplete_groups text at q) ∙ rw f.1)

    -- one line
    module _ (w next : ℕ) (h : g ≡ Single w next) where
      pub line_single : first_unreadable first (line_groups (lines (drop offset text))) ≡ first_unreadable (line + 1) (line_groups (lines (drop next text)))
      line_single =
          let q = sym e ∙ h in
          left_as _ (single_groups text at w next q) ∙ word_first line _ _ w (single_first text at w next q)

      pub count_single : line ≤ at → line + 1 ≤ next
      count_single k = let m = single_more text at w next (sym e ∙ h) in omega arith

      pub fits_single : line ≤ at → length text < 2 ^ 64 → Fits w64 (line + 1)
      fits_single k b = let m = count_single k in let n = single_within text at w next (sym e ∙ h) in omega arith

      pub less_single : length text - next < length text - at
      less_single = let m = single_more text at w next (sym e ∙ h) in let n = single_within text at w next (sym e ∙ h) in omega arith

    -- two lines
    module _ (w start n next : ℕ) (h : g ≡ Pair w start n next) where
      pub line_pair : first_unreadable first (line_groups (lines (drop offset text))) ≡ first_unreadable (line + 2) (line_groups (lines (drop next text)))
      line_pair =
          let q = sym e ∙ h in
          left_as _ (pair_groups text at w start n next q) ∙ word_first line _ _ w (pair_first text at w start n next q)

      pub count_pair : line ≤ at → line + 2 ≤ next
      count_pair k = let m = pair_more text at w start n next (sym e ∙ h) in omega arith

      pub fits_pair : line ≤ at → length text < 2 ^ 64 → Fits w64 (line + 2)
      fits_pair k b = let m = count_pair k in let v = pair_within text at w start n next (sym e ∙ h) in omega arith

      pub less_pair : length text - next < length text - at
      less_pair = let m = pair_more text at w start n next (sym e ∙ h) in let v = pair_within text at w start n next (sym e ∙ h) in omega arith

pub ruleset line_laws = (line_nothing, line_unreadable, line_incomplete, line_single, count_single, fits_single, less_single, line_pair, count_pair, fits_pair, less_pair, rules)
