-- What a bytecode has from an offset on, by the instruction that stands there; and that a text that opens has, from its first byte on, what it opens to.
use Rattle.std.specs.Prelude.{Some, None, Result, Ok, Err}
use Prim.Native.Nat.{ℕ, suc, ◌-◌, ◌+◌, ◌<◌, ◌≤◌}
use mathlib.Core.Path.{◌≡◌, refl, sym, ap, subst, ◌∙◌}
use mathlib.Core.List.{List, [], ◌∷◌, ◌++◌, map, append-nil}
use mathlib.Core.Bool.{Bool, true, false}
use native.Mathlib.Omega.{arith}
use lib.ListN.{length, take, drop, length-append}
use Rattle.text.specs.Bytes.{bytes}
use Rattle.text.specs.Lines.{lines, line_next}
use Rattle.text.specs.Answer.{Answer, ok, refused, ◌>>=◌, on_ok}
use Rattle.text.proofs.AnswerLaws.{ok_same, ok_bind, if_passed, at_passed}
use Rattle.program.specs.Groups.{Group, grouped}
use Rattle.program.specs.Bytecode.{joined}
use Rattle.program.specs.declared.BinaryInstruction.{BinaryInstruction}
use Rattle.decoder.specs.Lines.{line_has_second, line_groups, is_complete, complete_of}
use Rattle.decoder.specs.Decode.{decoded, on_first, group_decoded}
use Rattle.decoder.specs.Open.{all_decoded, opened}
use Rattle.decoder.specs.Steps.{ReadAt}
use Rattle.decoder.specs.declared.NextRefusal.{NextRefusal}
use Rattle.decoder.proofs.GroupLaws.{grouped_one, grouped_two}
use Rattle.decoder.proofs.DecodeLaws.{group_outcome, outcome_read}
use Rattle.decoder_lines.specs.GroupAt.{group_at}
use Rattle.decoder_lines.specs.ReadFrom.{read_as, read_from, at_numbered}
use Rattle.decoder_lines.specs.declared.GroupAt.{GroupAt}
use Rattle.decoder_lines.specs.declared.GroupAt.TheVariants.{Nothing, Unreadable, Incomplete, Single, Pair}
use Rattle.decoder_lines.specs.declared.InstructionAt.{InstructionAt}
use Rattle.decoder_lines.proofs.GroupLaws.{line_at, groups_from, nothing_groups, unreadable_first, unreadable_groups, incomplete_first, incomplete_groups, single_first, single_alone, single_groups, single_more, single_within, pair_first, pair_two, pair_groups, pair_more, pair_within}
use Rattle.decoder_lines.proofs.ReadLaws.{reads_nothing, reads_unreadable, reads_incomplete, reads_single, reads_pair}
use Rattle.source.specs.SourceText.{source_row, source_text}
use Rattle.source_laws.proofs.RowLengths.{read_most}
use Rattle.source_write.specs.Rest.{read_in_order, instructions_from, rows_text}

-- ---- the first of groups
module _ (g : Group (List ℕ)) (gs : List (Group (List ℕ))) where
  -- one that is not complete ends what is read
  incomplete_none : is_complete g ≡ false → read_in_order (g ∷ gs) ≡ []
  unfolding read_in_order
  incomplete_none c = rw c

  module _ (c : is_complete g ≡ true) where
    -- a complete one is read, and those after it
    first_read : (i : BinaryInstruction) → group_decoded 0 g ≡ ok i → read_in_order (g ∷ gs) ≡ i ∷ read_in_order gs
    unfolding read_in_order on_ok
    first_read i d = rw (c, d)

    -- or ends what is read
    first_refused : (n k : ℕ) → group_decoded 0 g ≡ refused n k → read_in_order (g ∷ gs) ≡ []
    unfolding read_in_order on_ok
    first_refused n k d = rw (c, d)

-- ---- a text that opens

-- groups that are read in order as they decode, whatever the first index
abbrev AsDecoded : List (Group (List ℕ)) → Type 0
AsDecoded gs = (k : ℕ) (is : List BinaryInstruction) → all_decoded k (complete_of gs) ≡ ok is → read_in_order gs ≡ is

decoded_next : (g : Group (List ℕ)) (gs : List (Group (List ℕ))) → is_complete g ≡ true → AsDecoded gs → AsDecoded (g ∷ gs)
unfolding complete_of all_decoded
decoded_next g gs c rest k is e =
    let a = ok_bind (group_decoded k g) _ is (sym (ap (all_decoded k) (kept c)) ∙ e) in
    let b = ok_bind (all_decoded (suc k) (complete_of gs)) _ is a.2 in
    first_read g gs c a.0 ((outcome_read _ (group_outcome g c) k a.0 a.1).any_index 0)
    ∙ ap (λ js. a.0 ∷ js) (rest (suc k) b.0 b.1)
    ∙ ok_same b.2
  where
    kept : is_complete g ≡ true → complete_of (g ∷ gs) ≡ g ∷ complete_of gs
    kept c = rw c

-- one that is not complete, at the end
decoded_last : (g : Group (List ℕ)) → is_complete g ≡ false → AsDecoded (g ∷ [])
unfolding complete_of all_decoded
decoded_last g c k is e = incomplete_none g [] c ∙ ok_same (sym (ap (all_decoded k) dropped) ∙ e)
  where
    dropped : complete_of (g ∷ []) ≡ []
    dropped = rw c

decoded_none : AsDecoded []
unfolding complete_of all_decoded read_in_order
decoded_none k is e = ok_same e

-- the groups of lines are read so: only the last one may lack its second line
as_decoded : (ls : List (List ℕ)) → AsDecoded (line_groups ls)
unfolding grouped
as_decoded [] = decoded_none
as_decoded (l ∷ []) = go (line_has_second l) refl
  where
    go : (t : Bool) → line_has_second l ≡ t → AsDecoded (line_groups (l ∷ []))
    go false f = subst AsDecoded (sym (grouped_one line_has_second l [] f)) (decoded_next (record { first = l; second = None }) [] (rw f) decoded_none)
    go true f = subst AsDecoded (sym alone) (decoded_last (record { first = l; second = None }) (rw f))
      where
        alone : line_groups (l ∷ []) ≡ record { first = l; second = None } ∷ []
        alone = rw f
as_decoded (l ∷ m ∷ ms) = go (line_has_second l) refl (as_decoded (m ∷ ms)) (as_decoded ms)
  where
    go : (t : Bool) → line_has_second l ≡ t → AsDecoded (line_groups (m ∷ ms)) → AsDecoded (line_groups ms) → AsDecoded (line_groups (l ∷ m ∷ ms))
    go false f one two = subst AsDecoded (sym (grouped_one line_has_second l (m ∷ ms) f)) (decoded_next (record { first = l; second = None }) (line_groups (m ∷ ms)) (rw f) one)
    go true f one two = subst AsDecoded (sym (grouped_two line_has_second l m ms f)) (decoded_next (record { first = l; second = Some m }) (line_groups ms) (rw f) two)

-- the instructions from the first byte on of a text that opens are those that it opens to
pub opened_from : (text : List ℕ) (is : List BinaryInstruction) → opened text ≡ ok is → instructions_from text 0 ≡ is
unfolding opened
opened_from text is e =
    let a = if_passed _ _ _ is e in
    let b = at_passed _ _ _ is a.1 in
    as_decoded (lines text) 0 is b.1

-- ---- from an offset on
module _ (text : List ℕ) (at : ℕ) where
  from_as : (gs : List (Group (List ℕ))) → groups_from text at ≡ gs → instructions_from text at ≡ read_in_order gs
  from_as gs e = ap read_in_order e

  -- what an answer says of what is left: an instruction and what is left behind it, or nothing
  abbrev Says : Answer ReadAt → Type 0
  Says (ok r) =
      (instructions_from text at ≡ r.instruction ∷ instructions_from text r.offset) × (length (source_row r.instruction) ≤ 40)
      × (at < r.offset) × (r.offset ≤ length text)
  Says (refused n d) = instructions_from text at ≡ []

  complete_says : (g : Group (List ℕ)) (n next : ℕ) → groups_from text at ≡ g ∷ groups_from text next → is_complete g ≡ true → (at < next) × (next ≤ length text)
      → (a : Answer BinaryInstruction) → group_decoded 0 g ≡ a → Says (read_as a n next)
  unfolding read_as ◌>>=◌
  complete_says g n next e c l (ok i) p = (from_as _ e ∙ first_read g (groups_from text next) c i p, read_most _ i (outcome_read _ (group_outcome g c) 0 i p), l.0, l.1)
  complete_says g n next e c l (refused m d) p = from_as _ e ∙ first_refused g (groups_from text next) c m d p

  -- so does the instruction from there on
  says : Says (read_from 0 text at)
  unfolding read_in_order on_first
  says = go (group_at text at) refl
    where
      go : (g : GroupAt) → group_at text at ≡ g → Says (read_from 0 text at)
      go Nothing e = subst Says (reads_nothing 0 text at (group_at text at) refl e) (from_as [] (nothing_groups text at e))
      go Unreadable e =
          let f = unreadable_first text at e in
          subst Says (reads_unreadable 0 text at (group_at text at) refl e)
          (from_as _ (unreadable_groups text at e) ∙ first_refused (record { first = line_at text at; second = None }) (groups_from text (at + line_next (drop at text))) (rw f) 15 0 (rw f))
      go Incomplete e =
          let f = incomplete_first text at e in
          subst Says (reads_incomplete 0 text at (group_at text at) refl e)
          (from_as _ (incomplete_groups text at e) ∙ incomplete_none (record { first = line_at text at; second = None }) [] (rw (f.1, f.2)))
      go (Single w next) e =
          let f = single_first text at w next e in
          let h = single_alone text at w next e in
          subst Says (reads_single 0 text at (group_at text at) refl w next e (decoded 0 w None) refl (read_as (decoded 0 w None) 1 next) refl)
          (complete_says (record { first = line_at text at; second = None }) 1 next (single_groups text at w next e) (rw (f, h))
          (single_more text at w next e, single_within text at w next e) (decoded 0 w None) (rw f))
      go (Pair w start n next) e =
          let f = pair_first text at w start n next e in
          let h = pair_two text at w start n next e in
          let m = pair_more text at w start n next e in
          let l : List ℕ = take n (drop start text) in
          let j : start + n - start ≡ n = omega arith in
          subst Says (reads_pair 0 text at (group_at text at) refl w start n next e (decoded 0 w (Some l)) (rw j) (read_as (decoded 0 w (Some l)) 2 next) refl)
          (complete_says (record { first = line_at text at; second = Some l }) 2 next (pair_groups text at w start n next e) (rw (f, h))
          (omega arith, pair_within text at w start n next e) (decoded 0 w (Some l)) (rw f))

  module _ (r : Result InstructionAt NextRefusal) (e : at_numbered r ≡ read_from 0 text at) where
    told : Says (at_numbered r)
    told = subst Says (sym e) says

    -- where no instruction is read nothing is left
    pub rest_over : (f : NextRefusal) → r ≡ Err f → instructions_from text at ≡ []
    rest_over f h = subst Says (ap at_numbered h) told

    module _ (i : InstructionAt) (h : r ≡ Ok i) where
      -- an instruction, and what is left behind it
      pub rest_next : instructions_from text at ≡ i.instruction ∷ instructions_from text i.next
      rest_next = (subst Says (ap at_numbered h) told).0

      -- its row is short
      pub next_short : length (source_row i.instruction) ≤ 40
      next_short = (subst Says (ap at_numbered h) told).1

      -- what is left behind it begins further on
      pub next_more : at < i.next
      next_more = (subst Says (ap at_numbered h) told).2

      -- and within the bytecode
      pub next_within : i.next ≤ length text
      next_within = (subst Says (ap at_numbered h) told).3

      -- so less is left
      pub next_less : length text - i.next < length text - at
      next_less = let m = next_more in let n = next_within in omega arith

-- ---- the rows

-- a line, and rows behind it
joined_rows : (l : List ℕ) (is : List BinaryInstruction) → joined (l ∷ map source_row is) ≡ l ++ rows_text is
unfolding joined rows_text
joined_rows l [] = sym (append-nil l)
joined_rows l (i ∷ is) = ap (λ (s : List ℕ). l ++ 10 ∷ s) (joined_rows (source_row i) is)

-- the source is `main:` and then the rows, each behind a line feed
pub source_rows : (is : List BinaryInstruction) → source_text is ≡ bytes "main:" ++ rows_text is
source_rows is = joined_rows (bytes "main:") is

-- how many bytes it has
pub source_long : (is : List BinaryInstruction) → length (source_text is) ≡ 5 + length (rows_text is)
source_long is = ap length (source_rows is) ∙ length-append (bytes "main:") (rows_text is)
