-- Lines of the prophet list one after another, and where its labels start.
use Rattle.std.specs.Prelude.{Option, Some, None}
use Prim.Native.Nat.{ℕ, suc, ◌+◌, ◌-◌, ◌^◌, ◌<◌, ◌≤◌}
use mathlib.Core.Path.{◌≡◌, refl, sym, ap, ◌∙◌}
use mathlib.Core.List.{List, [], ◌∷◌}
use Rattle.std.specs.Bool.{then_some}
use mathlib.Core.Bool.{Bool, true, false, cond}
use native.Mathlib.Omega.{arith}
use borrow.Author.Rules.{rules}
use borrow.Author.Tests.{lt-ltb, le-ltb, ltb-true, ltb-false, eqb-true, eqb-false}
use mir.Val.{Fits}
use mir.Syntax.{w64}
use lib.Dec.{eqb, ltb}
use lib.ListN.{length, take, drop, drop_of_length-le, length-drop}
use lib.Seq.{take_all, drop-drop, length-take-le}
use Rattle.text.specs.Bytes.{bytes, same}
use Rattle.text.specs.Scan.{scan, parts}
use Rattle.text.specs.Lines.{is_feed, not_feed, line_next}
use Rattle.text.specs.Classes.{holds}
use Rattle.text.specs.Answer.{Answer, ok, refused, ◌>>◌, refuse_if}
use Rattle.text.specs.declared.ByteClass.TheVariants.{IsNot}
use Rattle.text.specs.declared.Line.{Line}
use Rattle.text.proofs.Laws.{scan_le, part_from}
use Rattle.text.proofs.PartLaws.{parts_whole, parts_first, parts_some, line_ended, line_last}
use Rattle.asm.specs.Parts.{next_line}
use Rattle.relocate.specs.Prophets.{without_last_empty, labels_after_head, listed_labels}
use Rattle.relocate_prophets.specs.Walk.{lines_from, line_from, labels_start}

-- ---- the lines from a place on

-- an empty text has no line
none_left : without_last_empty (parts is_feed []) ≡ []
unfolding without_last_empty parts
none_left = refl

-- a line that a line feed ended stays
ended_line : (l t : List ℕ) → without_last_empty (l ∷ parts is_feed t) ≡ l ∷ without_last_empty (parts is_feed t)
unfolding without_last_empty
ended_line l t = let q = parts_some is_feed t in rw q.2

-- so does the last one, where it is not empty
last_line : (l : List ℕ) → 0 < length l → without_last_empty (l ∷ []) ≡ l ∷ []
unfolding without_last_empty
last_line [] h = absurd (omega arith)
last_line (x ∷ xs) h = refl

module _ (list : List ℕ) (i : ℕ) where
  -- past the end there is no line
  pub lines_end : length list ≤ i → lines_from list i ≡ []
  unfolding lines_from
  lines_end h = rw (drop_of_length-le list h) none_left

  -- the line that starts at a place, and then those from the next one's start
  pub lines_next : i < length list → lines_from list i ≡ take (scan not_feed (drop i list)) (drop i list) ∷ lines_from list (next_line list i)
  unfolding lines_from
  lines_next h = go (ltb (scan not_feed (drop i list)) (length (drop i list))) refl
    where
      go : (t : Bool) → ltb (scan not_feed (drop i list)) (length (drop i list)) ≡ t
          → without_last_empty (parts is_feed (drop i list)) ≡ take (scan not_feed (drop i list)) (drop i list) ∷ without_last_empty (parts is_feed (drop (next_line list i) list))
      go true e =
          let k : scan not_feed (drop i list) < length (drop i list) = ltb-true _ _ e in
          let w = (line_ended (drop i list) k).1 in
          let j : i + suc (scan not_feed (drop i list)) ≡ next_line list i = omega arith in
          let n : drop (suc (scan not_feed (drop i list))) (drop i list) ≡ drop (next_line list i) list = drop-drop (suc (scan not_feed (drop i list))) i list ∙ ap (λ (m : ℕ). drop m list) j in
          ap without_last_empty (parts_first is_feed (drop i list) k)
          ∙ ended_line (take (scan not_feed (drop i list)) (drop i list)) (drop (suc (scan not_feed (drop i list))) (drop i list))
          ∙ ap (λ (t : List ℕ). take (scan not_feed (drop i list)) (drop i list) ∷ without_last_empty (parts is_feed t)) n
      go false e =
          let k : length (drop i list) ≤ scan not_feed (drop i list) = ltb-false _ _ e in
          let w = (line_last (drop i list) k).1 in
          let d = length-drop i list in
          ap without_last_empty (parts_whole is_feed (drop i list) k)
          ∙ last_line (drop i list) (omega arith)
          ∙ rw (take_all (scan not_feed (drop i list)) (drop i list) k, drop_of_length-le list {i = next_line list i} (omega arith), none_left)

-- ---- the line at a place

-- past the end it is empty
pub line_past : (list : List ℕ) (i : ℕ) → length list ≤ i → record { length = 0; next = i } ≡ line_from list i
unfolding line_next scan
line_past list i h = rw (drop_of_length-le list h) (ap (λ (k : ℕ). record { length = 0; next = k }) (omega arith))

module _ (list : List ℕ) (i n : ℕ) (e : n ≡ scan (holds (IsNot 10)) (take (length list - i) (drop i list))) where
  -- the line's length by the scan
  feed_at : n ≡ scan not_feed (drop i list)
  feed_at = e ∙ ap (scan not_feed) (part_from i list)

  -- it ends within the list
  feed_within : i < length list → i + n ≤ length list
  feed_within h = let w = scan_le not_feed (drop i list) in let k = length-drop i list in let f = feed_at in omega arith

  -- so its end and the next line's start fit a usize
  pub end_fits : i < length list → length list < 2 ^ 64 → Fits w64 (i + n)
  end_fits h f = let w = feed_within h in omega arith

  pub next_fits : i < length list → (i + n ≡ length list → ⊥) → length list < 2 ^ 64 → Fits w64 (i + n + 1)
  next_fits h k f = let w = feed_within h in omega arith

  -- the last line, which no line feed ends
  pub line_unended : i < length list → i + n ≡ length list → record { length = n; next = i + n } ≡ line_from list i
  line_unended h k =
      let d = length-drop i list in
      let c = feed_at in
      let w = (line_last (drop i list) (omega arith)).1 in
      let o : i + n ≡ next_line list i = omega arith in
      cc

  -- any other
  pub line_feed : i < length list → (i + n ≡ length list → ⊥) → record { length = n; next = i + n + 1 } ≡ line_from list i
  line_feed h k =
      let d = length-drop i list in
      let c = feed_at in
      let f = feed_within h in
      let w = (line_ended (drop i list) (omega arith)).1 in
      let o : i + n + 1 ≡ next_line list i = omega arith in
      cc

pub ruleset line_laws = (line_past, end_fits, next_fits, line_unended, line_feed, rules)

-- ---- where the labels start

module _ (list : List ℕ) where
  -- a list above 16,384 bytes
  pub start_long : 16384 < length list → None ≡ labels_start list
  unfolding labels_start
  start_long h = rw (lt-ltb 16384 (length list) h)

  -- the empty list
  pub start_empty : length list ≤ 16384 → eqb (length list) 0 ≡ true → Some 0 ≡ labels_start list
  unfolding labels_start
  start_empty h k = rw (le-ltb 16384 (length list) h, k)

  module _ (line : Line) (e : line ≡ line_from list 0) where
    -- the first line's length by the scan
    first_length : line.length ≡ scan not_feed list
    first_length = ap (λ (x : Line). x.length) e

    -- the first line is a part of the list
    pub first_counts : line.length ≡ length (take line.length list)
    first_counts =
        let w = scan_le not_feed list in
        let k = first_length in
        sym (length-take-le line.length list (omega arith))

    module _ (r : Bool) (f : r ≡ same (take line.length list) (bytes "label")) (h : length list ≤ 16384) (k : eqb (length list) 0 ≡ false) where
      -- what was compared is the first line
      first_told : same (take (scan not_feed list) list) (bytes "label") ≡ r
      first_told = sym (f ∙ ap (λ (n : ℕ). same (take n list) (bytes "label")) first_length)

      -- a first line `label`, or another
      pub start_head : then_some r line.next ≡ labels_start list
      unfolding labels_start
      start_head = rw (le-ltb 16384 (length list) h, k, first_told) (ap (then_some r) (ap (λ (x : Line). x.next) e) ∙ go r)
        where
          go : (t : Bool) → then_some t (next_line list 0) ≡ cond t (Some (next_line list 0)) None
          go true = refl
          go false = refl

pub ruleset start_laws = (start_long, start_empty, first_counts, start_head, rules)

-- ---- the labels of a list

-- the labels where they start somewhere, and refusal 8 where not
abbrev pub labels_found : List ℕ → Option ℕ → Answer (List (List ℕ))
labels_found list (Some i) = ok (lines_from list i)
labels_found list None = refused 8 0

-- the labels behind a head
head_is : (l : List ℕ) (ls : List (List ℕ)) → labels_after_head (l ∷ ls) ≡ cond (same l (bytes "label")) (ok ls) (refused 8 0)
unfolding labels_after_head
head_is l ls = refl

-- a test tells both where they start and what they are
found_or_not : (list : List ℕ) (j : ℕ) (t : Bool) → cond t (ok (lines_from list j)) (refused 8 0) ≡ labels_found list (cond t (Some j) None)
found_or_not list j true = refl
found_or_not list j false = refl

-- an empty list names none
no_head : (list : List ℕ) → length list ≡ 0 → labels_after_head (lines_from list 0) ≡ ok (lines_from list 0)
unfolding labels_after_head
no_head list h = rw (lines_end list 0 (omega arith))

-- any other names those behind its first line
with_head : (list : List ℕ) → (length list ≡ 0 → ⊥)
    → labels_after_head (lines_from list 0) ≡ labels_found list (cond (same (take (scan not_feed list) list) (bytes "label")) (Some (next_line list 0)) None)
with_head list h =
    ap labels_after_head (lines_next list 0 (omega arith))
    ∙ head_is (take (scan not_feed list) list) (lines_from list (next_line list 0))
    ∙ found_or_not list (next_line list 0) (same (take (scan not_feed list) list) (bytes "label"))

-- a list names the labels that stand from there on
pub listed_found : (list : List ℕ) → listed_labels list ≡ labels_found list (labels_start list)
unfolding listed_labels labels_start lines_from refuse_if ◌>>◌
listed_found list = go (ltb 16384 (length list)) (eqb (length list) 0) refl
  where
    go : (t u : Bool) → eqb (length list) 0 ≡ u
        → refuse_if t 8 >> labels_after_head (lines_from list 0)
        ≡ labels_found list (cond t None (cond u (Some 0) (cond (same (take (scan not_feed list) list) (bytes "label")) (Some (next_line list 0)) None)))
    go true u e = refl
    go false true e = no_head list (eqb-true _ _ e)
    go false false e = with_head list (eqb-false _ _ e)
