-- How the lines of a bytecode from an offset on are parted, for each case of what stands there, and where the offsets lie.
use Rattle.std.specs.Prelude.{Option, Some, None}
use Prim.Native.Nat.{ℕ, ◌+◌, ◌<◌, ◌≤◌}
use mathlib.Core.Path.{◌≡◌, refl, sym, ap, subst, ◌∙◌}
use mathlib.Core.List.{List, [], ◌∷◌}
use mathlib.Core.Bool.{Bool, true, false, cond}
use native.Mathlib.Omega.{arith}
use borrow.Author.Tests.{ltb-true, ltb-false}
use lib.Dec.{ltb}
use lib.ListN.{length, take, drop, drop_of_length-le, length-drop}
use lib.Seq.{drop-drop}
use Rattle.text.specs.Lines.{lines, line_length, line_next}
use Rattle.text.proofs.PartLaws.{lines_none, lines_first, line_next_more, line_within}
use Rattle.program.specs.Groups.{Group, grouped, has_second}
use Rattle.decoder.specs.Lines.{first_of_line, word_has_second, line_has_second, line_groups}
use Rattle.decoder.proofs.GroupLaws.{grouped_one, grouped_two}
use Rattle.decoder_lines.specs.GroupAt.{group_of, group_on, group_at}
use Rattle.decoder_lines.specs.declared.GroupAt.{GroupAt}
use Rattle.decoder_lines.specs.declared.GroupAt.TheVariants.{Nothing, Unreadable, Incomplete, Single, Pair}

-- the line that starts at an offset
abbrev pub line_at : List ℕ → ℕ → List ℕ
line_at text at = take (line_length (drop at text)) (drop at text)

-- the instructions of the lines from an offset on
abbrev pub groups_from : List ℕ → ℕ → List (Group (List ℕ))
groups_from text at = line_groups (lines (drop at text))

-- ---- lines one after the other

-- from an offset within a text, its line and then the lines from the next one's start
lines_at : (text : List ℕ) (at : ℕ) → at < length text → lines (drop at text) ≡ line_at text at ∷ lines (drop (at + line_next (drop at text)) text)
lines_at text at h =
    let k = length-drop at text in
    lines_first (drop at text) (omega arith) ∙ ap (λ (s : List ℕ). line_at text at ∷ lines s) (drop-drop (line_next (drop at text)) at text)

lines_past : (text : List ℕ) (at : ℕ) → length text ≤ at → lines (drop at text) ≡ []
lines_past text at h = ap lines (drop_of_length-le text h) ∙ lines_none

-- the next line starts further on, and within the text
next_from : (text : List ℕ) (at : ℕ) → at < length text
    → (at < at + line_next (drop at text)) × (at + line_next (drop at text) ≤ length text) × (at + line_length (drop at text) ≤ length text)
next_from text at h =
    let k = length-drop at text in
    let m = line_next_more (drop at text) (omega arith) in
    let w = line_within (drop at text) in
    (omega arith, omega arith, omega arith)

-- how a first and what follows it are grouped
module _ {A : Type 0} (two : A → Bool) (a : A) where
  group_last : two a ≡ true → grouped two None (a ∷ []) ≡ record { first = a; second = None } ∷ []
  unfolding grouped
  group_last h = rw h

module _ (text : List ℕ) (at : ℕ) where
  -- where the line after this one starts
  abbrev after : ℕ
  after = at + line_next (drop at text)

  -- ---- what each case says of the text
  abbrev Says : GroupAt → Type 0
  Says Nothing = length text ≤ at
  Says Unreadable = (at < length text) × (first_of_line (line_at text at) ≡ None)
  Says Incomplete = (w : ℕ) × (at < length text) × (first_of_line (line_at text at) ≡ Some w) × (has_second w ≡ true) × (length text ≤ after)
  Says (Single w next) = (at < length text) × (first_of_line (line_at text at) ≡ Some w) × (has_second w ≡ false) × (next ≡ after)
  Says (Pair w start n next) =
      (at < length text) × (first_of_line (line_at text at) ≡ Some w) × (has_second w ≡ true) × (start ≡ after) × (start < length text)
      × (n ≡ line_length (drop start text)) × (next ≡ start + line_next (drop start text))

  says : Says (group_at text at)
  unfolding group_at group_on group_of
  says = go (ltb at (length text)) refl
    where
      second : (w : ℕ) → at < length text → first_of_line (line_at text at) ≡ Some w → has_second w ≡ true → (t : Bool) → ltb after (length text) ≡ t
          → Says (cond t (Pair w after (line_length (drop after text)) (after + line_next (drop after text))) Incomplete)
      second w h f k true e = (h, f, k, refl, ltb-true _ _ e, refl, refl)
      second w h f k false e = (w, h, f, k, ltb-false _ _ e)

      word : (w : ℕ) → at < length text → first_of_line (line_at text at) ≡ Some w → (t : Bool) → has_second w ≡ t
          → Says (cond t (cond (ltb after (length text)) (Pair w after (line_length (drop after text)) (after + line_next (drop after text))) Incomplete) (Single w after))
      word w h f true k = second w h f k (ltb after (length text)) refl
      word w h f false k = (h, f, k, refl)

      on : at < length text → (m : Option ℕ) → first_of_line (line_at text at) ≡ m → Says (group_on text after m)
      on h (Some w) f = word w h f (has_second w) refl
      on h None f = (h, f)

      go : (t : Bool) → ltb at (length text) ≡ t → Says (cond t (group_on text after (first_of_line (line_at text at))) Nothing)
      go true e = on (ltb-true _ _ e) (first_of_line (line_at text at)) refl
      go false e = ltb-false _ _ e

  -- a line whose first word is told
  two_told : (m : Option ℕ) → first_of_line (line_at text at) ≡ m → line_has_second (line_at text at) ≡ word_has_second m
  two_told m f = ap word_has_second f

  -- ---- no line
  module _ (e : group_at text at ≡ Nothing) where
    pub nothing_end : length text ≤ at
    nothing_end = subst Says e says

    pub nothing_groups : groups_from text at ≡ []
    unfolding grouped
    nothing_groups = ap line_groups (lines_past text at nothing_end)

  -- ---- a first word that is none
  module _ (e : group_at text at ≡ Unreadable) where
    pub unreadable_first : first_of_line (line_at text at) ≡ None
    unreadable_first = (subst Says e says).1

    pub unreadable_groups : groups_from text at ≡ record { first = line_at text at; second = None } ∷ groups_from text after
    unreadable_groups =
        ap line_groups (lines_at text at (subst Says e says).0)
        ∙ grouped_one line_has_second (line_at text at) (lines (drop after text)) (two_told None unreadable_first)

  -- ---- a last first word that lacks its second line
  module _ (e : group_at text at ≡ Incomplete) where
    pub incomplete_first : (w : ℕ) × (first_of_line (line_at text at) ≡ Some w) × (has_second w ≡ true)
    incomplete_first = let s = subst Says e says in (s.0, s.2, s.3)

    pub incomplete_groups : groups_from text at ≡ record { first = line_at text at; second = None } ∷ []
    incomplete_groups =
        let s = subst Says e says in
        ap line_groups (lines_at text at s.1 ∙ ap (λ (ls : List (List ℕ)). line_at text at ∷ ls) (lines_past text after s.4))
        ∙ group_last line_has_second (line_at text at) (two_told (Some s.0) s.2 ∙ s.3)

  -- ---- a first word alone
  module _ (w next : ℕ) (e : group_at text at ≡ Single w next) where
    pub single_first : first_of_line (line_at text at) ≡ Some w
    single_first = (subst Says e says).1

    pub single_alone : has_second w ≡ false
    single_alone = (subst Says e says).2

    -- where the next line starts
    pub single_next : next ≡ at + line_next (drop at text)
    single_next = (subst Says e says).3

    pub single_groups : groups_from text at ≡ record { first = line_at text at; second = None } ∷ groups_from text next
    single_groups =
        ap line_groups (lines_at text at (subst Says e says).0)
        ∙ grouped_one line_has_second (line_at text at) (lines (drop after text)) (two_told (Some w) single_first ∙ single_alone)
        ∙ ap (λ (k : ℕ). record { first = line_at text at; second = None } ∷ groups_from text k) (sym single_next)

    pub single_more : at < next
    single_more = let f = next_from text at (subst Says e says).0 in let k = single_next in omega arith

    pub single_within : next ≤ length text
    single_within = let f = next_from text at (subst Says e says).0 in let k = single_next in omega arith

  -- ---- a first word and its second line
  module _ (w start n next : ℕ) (e : group_at text at ≡ Pair w start n next) where
    pub pair_first : first_of_line (line_at text at) ≡ Some w
    pair_first = (subst Says e says).1

    pub pair_two : has_second w ≡ true
    pair_two = (subst Says e says).2

    -- where the second line and the next one start
    pub pair_start : start ≡ at + line_next (drop at text)
    pair_start = (subst Says e says).3

    pub pair_next : next ≡ start + line_next (drop start text)
    pair_next = (subst Says e says).6

    pair_length : n ≡ line_length (drop start text)
    pair_length = (subst Says e says).5

    pub pair_groups : groups_from text at ≡ record { first = line_at text at; second = Some (take n (drop start text)) } ∷ groups_from text next
    pair_groups =
        let s = subst Says e says in
        ap line_groups
        (lines_at text at s.0
        ∙ ap (λ (k : ℕ). line_at text at ∷ lines (drop k text)) (sym pair_start)
        ∙ ap (λ (ls : List (List ℕ)). line_at text at ∷ ls) (lines_at text start s.4))
        ∙ grouped_two line_has_second (line_at text at) (line_at text start) (lines (drop (start + line_next (drop start text)) text)) (two_told (Some w) pair_first ∙ pair_two)
        ∙ ap (λ (k : ℕ). record { first = line_at text at; second = Some (take k (drop start text)) } ∷ groups_from text (start + line_next (drop start text))) (sym pair_length)
        ∙ ap (λ (k : ℕ). record { first = line_at text at; second = Some (take n (drop start text)) } ∷ groups_from text k) (sym pair_next)

    pub pair_more : at + 1 < next
    pair_more =
        let s = subst Says e says in
        let f = next_from text at s.0 in
        let g = next_from text start s.4 in
        let a = pair_start in
        let b = pair_next in
        omega arith

    pub pair_within : next ≤ length text
    pair_within = let g = next_from text start (subst Says e says).4 in let b = pair_next in omega arith

    -- the second line lies within the text
    pub pair_line : start + n ≤ length text
    pair_line = let g = next_from text start (subst Says e says).4 in let b = pair_length in omega arith
