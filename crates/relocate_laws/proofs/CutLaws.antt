-- A text cut where a row begins: the rows before it are those of the text up to there, the others those of the text from there on.
use Prim.Native.Nat.{ℕ, zero, suc, ◌+◌, ◌-◌, ◌<◌, ◌≤◌}
use mathlib.Core.Path.{◌≡◌, refl, sym, ap, subst, ◌∙◌}
use mathlib.Core.List.{List, [], ◌∷◌, ◌++◌}
use mathlib.Core.Bool.{Bool, true, false, cond, not}
use native.Mathlib.Omega.{arith}
use borrow.Author.Tests.{ltb-true, ltb-false}
use lib.Dec.{eqb, ltb}
use lib.ListN.{length, take, drop, drop_of_length-le, length-drop, length-take}
use lib.Seq.{take_all, take-take, length-take-le, drop-drop}
use Rattle.text.specs.Bytes.{is_space}
use Rattle.text.specs.Scan.{scan, is_empty}
use Rattle.text.specs.Lines.{not_feed, line_next}
use Rattle.text.specs.Pieces.{not_space}
use Rattle.text.proofs.Laws.{scan_le}
use Rattle.text.proofs.PartLaws.{line_ended, line_last}
use Rattle.asm.specs.Parts.{Part, without_comment, pieces_from, line_pieces, pieces_after, line_at, next_line}
use Rattle.asm_laws.proofs.PieceLaws.{part_taken, nothing, space_first, spaces_first, piece_front}
use Rattle.asm_laws.proofs.StepLaws.{nothing_after, pieces_step, pieces_row, next_further}

-- ---- how far a scan goes in the front of a text, and in what stands behind it

module _ (p : ℕ → Bool) where
  -- a front that the scan passes
  scan_front : (k : ℕ) (t : List ℕ) → k ≤ scan p t → scan p (take k t) ≡ k
  unfolding scan
  scan_front zero t h = refl
  scan_front (suc k) [] h = absurd (omega arith)
  scan_front (suc k) (x ∷ xs) h = go (p x) (scan_front k xs) h
    where
      go : (t : Bool) → (k ≤ scan p xs → scan p (take k xs) ≡ k) → suc k ≤ cond t (suc (scan p xs)) 0 → cond t (suc (scan p (take k xs))) 0 ≡ suc k
      go true f h = ap suc (f (omega arith))
      go false f h = absurd (omega arith)

  -- what stands behind it
  scan_behind : (k : ℕ) (t : List ℕ) → k ≤ scan p t → k + scan p (drop k t) ≡ scan p t
  unfolding scan
  scan_behind zero t h = omega arith
  scan_behind (suc k) [] h = absurd (omega arith)
  scan_behind (suc k) (x ∷ xs) h = go (p x) (scan_behind k xs) h
    where
      go : (t : Bool) → (k ≤ scan p xs → k + scan p (drop k xs) ≡ scan p xs) → suc k ≤ cond t (suc (scan p xs)) 0
          → suc k + scan p (drop k xs) ≡ cond t (suc (scan p xs)) 0
      go true f h = let e = f (omega arith) in omega arith
      go false f h = absurd (omega arith)

  -- a front in which the scan stops
  scan_before : (n : ℕ) (t : List ℕ) → scan p t < n → scan p (take n t) ≡ scan p t
  unfolding scan
  scan_before zero t h = absurd (omega arith)
  scan_before (suc n) [] h = refl
  scan_before (suc n) (x ∷ xs) h = go (p x) (scan_before n xs) h
    where
      go : (t : Bool) → (scan p xs < n → scan p (take n xs) ≡ scan p xs) → cond t (suc (scan p xs)) 0 < suc n
          → cond t (suc (scan p (take n xs))) 0 ≡ cond t (suc (scan p xs)) 0
      go true f h = ap suc (f (omega arith))
      go false f h = refl

  -- what the scan takes of a front that it passes
  taken_front : (k : ℕ) (t : List ℕ) → k ≤ scan p t → take (scan p (take k t)) (take k t) ≡ take k t
  taken_front k t h = rw (scan_front k t h) (take-take k k t (omega arith))

  -- and of what stands behind it
  taken_behind : (k : ℕ) (t : List ℕ) → k ≤ scan p t → take (scan p (drop k t)) (drop k t) ≡ drop k (take (scan p t) t)
  taken_behind k t h = sym (part_taken k (scan p (drop k t)) t) ∙ ap (λ (m : ℕ). drop k (take m t)) (scan_behind k t h)

-- ---- the first line of a text, cut

-- the byte that begins a comment ends a row
abbrev not_comment : ℕ → Bool
not_comment b = not (eqb b 59)

-- the bytes of a text's first line
abbrev first_of : List ℕ → List ℕ
first_of t = take (scan not_feed t) t

-- those before its comment
abbrev body : List ℕ → List ℕ
body t = without_comment (first_of t)

module _ (t : List ℕ) (k : ℕ) (h : k ≤ scan not_comment (first_of t)) where
  -- what stands before the comment stands in the line
  in_line : k ≤ scan not_feed t
  in_line =
      let a = scan_le not_feed t in
      let b = length-take-le (scan not_feed t) t a in
      let c = scan_le not_comment (first_of t) in
      omega arith

  -- a front that lies within them
  body_front : body (take k t) ≡ take k t
  body_front =
      let e : take k (first_of t) ≡ take k t = take-take k (scan not_feed t) t in_line in
      ap without_comment (taken_front not_feed k t in_line) ∙ rw (← e) (taken_front not_comment k (first_of t) h)

  -- what stands behind it
  body_behind : body (drop k t) ≡ drop k (body t)
  body_behind = ap without_comment (taken_behind not_feed k t in_line) ∙ taken_behind not_comment k (first_of t) h

module _ (t : List ℕ) (k : ℕ) where
  -- a front with no line feed has no line after its own
  next_front : k ≤ scan not_feed t → line_next (take k t) ≡ k
  next_front h =
      let a = scan_le not_feed t in
      let b = length-take-le k t (omega arith) in
      let c = scan_front not_feed k t h in
      let w = line_last (take k t) (omega arith) in
      omega arith

  -- the line after the first is where it was
  next_behind : k ≤ scan not_feed t → k + line_next (drop k t) ≡ line_next t
  next_behind h = go (ltb (scan not_feed t) (length t)) refl (scan_behind not_feed k t h) (length-drop k t)
    where
      go : (b : Bool) → ltb (scan not_feed t) (length t) ≡ b → k + scan not_feed (drop k t) ≡ scan not_feed t → length (drop k t) ≡ length t - k
          → k + line_next (drop k t) ≡ line_next t
      go true e f l = let g = ltb-true _ _ e in let v = line_ended t g in let w = line_ended (drop k t) (omega arith) in omega arith
      go false e f l = let g = ltb-false _ _ e in let v = line_last t g in let w = line_last (drop k t) (omega arith) in omega arith

  -- a front that holds the first line and its ending has the same first line
  first_kept : line_next t ≤ k → (first_of (take k t) ≡ first_of t) × (line_next (take k t) ≡ line_next t)
  first_kept h = go (ltb (scan not_feed t) (length t)) refl
    where
      go : (b : Bool) → ltb (scan not_feed t) (length t) ≡ b → (first_of (take k t) ≡ first_of t) × (line_next (take k t) ≡ line_next t)
      go true e =
          let g : scan not_feed t < length t = ltb-true _ _ e in
          let v = line_ended t g in
          let l = length-take k t in
          let f = scan_before not_feed k t (omega arith) in
          let w = line_ended (take k t) (omega arith) in
          (rw f (take-take (scan not_feed t) k t (omega arith)), omega arith)
      go false e =
          let g : length t ≤ scan not_feed t = ltb-false _ _ e in
          let v = line_last t g in
          let a = take_all k t (omega arith) in
          (ap first_of a, ap line_next a)

-- ---- the first piece of a text

-- it stands behind the whitespace in front
first_start : (i : ℕ) (t : List ℕ) (q : Part) (qs : List Part) → pieces_from i t ≡ q ∷ qs → q.start ≡ i + scan is_space t
unfolding scan
first_start i [] q qs h = absurd (some_none (sym (nothing i) ∙ h))
  where
    some_none : [] ≡ q ∷ qs → ⊥
    some_none e = let z : ◌≡◌ {A = ℕ} 0 1 = cc in omega arith
first_start i (x ∷ xs) q qs h = go (is_space x) refl (first_start (suc i) xs q qs)
  where
    begins : (b : Bool) → b ≡ false → 0 < cond (not b) (suc (scan not_space xs)) 0
    begins true e = let z : ◌≡◌ {A = ℕ} 0 1 = cc in absurd (omega arith)
    begins false e = omega arith

    go : (b : Bool) → is_space x ≡ b → (pieces_from (suc i) xs ≡ q ∷ qs → q.start ≡ suc i + scan is_space xs) → q.start ≡ i + cond b (suc (scan is_space xs)) 0
    go true e f = let w = f (sym (space_first i x xs e) ∙ h) in omega arith
    go false e f = let w = sym h ∙ piece_front i (x ∷ xs) (begins (is_space x) e) in let g : q.start ≡ i = cc in omega arith

-- ---- cut

-- past the text's end there is no piece
pub pieces_past : (s : List ℕ) (i : ℕ) → length s ≤ i → pieces_after s i ≡ []
pieces_past s i h = rw (drop_of_length-le s h) (nothing_after i)

module _ (s : List ℕ) (i p : ℕ) where
  -- the text up to p, from i on
  up_to : i ≤ p → drop i (take p s) ≡ take (p - i) (drop i s)
  up_to h = let e : i + (p - i) ≡ p = omega arith in rw e at (part_taken i (p - i) s)

  -- a text cut past a line keeps the line and where the next one starts
  kept : next_line s i ≤ p → (line_pieces (line_at (take p s) i) ≡ line_pieces (line_at s i)) × (next_line (take p s) i ≡ next_line s i)
  kept h =
      let w = first_kept (drop i s) (p - i) (omega arith) in (
        ap (λ (t : List ℕ). line_pieces (record { start = i; text = first_of t })) (up_to (omega arith)) ∙ ap (λ (l : List ℕ). line_pieces (record { start = i; text = l })) w.0,
        ap (λ (t : List ℕ). i + line_next t) (up_to (omega arith)) ∙ ap (λ (n : ℕ). i + n) w.1,
      )

  -- so its rows are the line's and then those from the next line on
  kept_step : next_line s i ≤ p → pieces_after (take p s) i
      ≡ cond (is_empty (line_pieces (line_at s i))) (pieces_after (take p s) (next_line s i)) (line_pieces (line_at s i) ∷ pieces_after (take p s) (next_line s i))
  kept_step h = let w = kept h in pieces_step (take p s) i ∙ rw (w.0, w.1)

-- a text cut at place p: the pieces of the rows before it, and those of the row that begins there and of those after it
pub record Parted (s : List ℕ) (i p : ℕ) (before after : List (List Part)) : Type 0 where
  pub later : i ≤ p
  pub within : p ≤ length s
  pub front : pieces_after (take p s) i ≡ before
  pub back : pieces_after s p ≡ after

-- cut behind the whitespace in front of a line's first piece
module _ (s : List ℕ) (i k : ℕ) (h : i ≤ length s) (e : k ≡ scan is_space (body (drop i s))) where
  -- the whitespace stands before the comment
  in_body : k ≤ scan not_comment (first_of (drop i s))
  in_body =
      let a = scan_le is_space (body (drop i s)) in
      let b = length-take-le (scan not_comment (first_of (drop i s))) (first_of (drop i s)) (scan_le not_comment (first_of (drop i s))) in
      omega arith

  -- and so in the line
  in_first : k ≤ scan not_feed (drop i s)
  in_first = in_line (drop i s) k in_body

  -- what is cut off is whitespace
  spaces_none : pieces_from i (take k (drop i s)) ≡ []
  spaces_none =
      let b : List ℕ = body (drop i s) in
      let f : take k b ≡ take k (drop i s) =
      take-take k (scan not_comment (first_of (drop i s))) (first_of (drop i s)) in_body ∙ take-take k (scan not_feed (drop i s)) (drop i s) in_first in
      let n : scan is_space (take k b) ≡ k = scan_front is_space k b (omega arith) in
      let l = length-take k b in
      ap (pieces_from i) (sym f)
      ∙ spaces_first i (take k b)
      ∙ ap (pieces_from (i + scan is_space (take k b))) (drop_of_length-le (take k b) {i = scan is_space (take k b)} (omega arith))
      ∙ nothing (i + scan is_space (take k b))

  -- so no row stands before the cut
  parted_front : pieces_after (take (i + k) s) i ≡ []
  unfolding line_pieces
  parted_front =
      let d : drop i (take (i + k) s) ≡ take k (drop i s) = part_taken i k s in
      let b : line_pieces (line_at (take (i + k) s) i) ≡ [] =
      ap (λ (t : List ℕ). pieces_from i (body t)) d ∙ ap (pieces_from i) (body_front (drop i s) k in_body) ∙ spaces_none in
      let n : next_line (take (i + k) s) i ≡ i + k = ap (λ (t : List ℕ). i + line_next t) d ∙ ap (λ (m : ℕ). i + m) (next_front (drop i s) k in_first) in
      let l = length-take (i + k) s in
      pieces_step (take (i + k) s) i ∙ rw (b, n) (pieces_past (take (i + k) s) (i + k) (omega arith))

  -- the line has the same pieces from the cut on
  parted_line : line_pieces (line_at s (i + k)) ≡ line_pieces (line_at s i)
  unfolding line_pieces
  parted_line =
      ap (λ (t : List ℕ). pieces_from (i + k) (body t)) (sym (drop-drop k i s))
      ∙ ap (pieces_from (i + k)) (body_behind (drop i s) k in_body)
      ∙ rw (← e) at (sym (spaces_first i (body (drop i s))))

  -- and the same line after it
  parted_next : next_line s (i + k) ≡ next_line s i
  parted_next =
      let n = next_behind (drop i s) k in_first in
      ap (λ (t : List ℕ). i + k + line_next t) (sym (drop-drop k i s)) ∙ omega arith

  -- the cut lies within the text
  parted_within : i + k ≤ length s
  parted_within =
      let a = in_first in
      let b = scan_le not_feed (drop i s) in
      let c = length-drop i s in
      omega arith

-- cut at the first piece of a line
parted_first : (s : List ℕ) (i : ℕ) (q : Part) (qs : List Part) → i ≤ length s → line_pieces (line_at s i) ≡ q ∷ qs
    → Parted s i q.start [] ((q ∷ qs) ∷ pieces_after s (next_line s i))
unfolding line_pieces
parted_first s i q qs h e =
    let k : ℕ = scan is_space (body (drop i s)) in
    let l = parted_line s i k h refl ∙ e in
    subst (λ (p : ℕ). Parted s i p [] ((q ∷ qs) ∷ pieces_after s (next_line s i))) (sym (first_start i (body (drop i s)) q qs e))
    record {
      later = omega arith;
      within = parted_within s i k h refl;
      front = parted_front s i k h refl;
      back = pieces_row s (i + k) (ap is_empty l) ∙ rw (l, parted_next s i k h refl);
    }

-- a list with an entry is not empty
not_none : (before : List (List Part)) (ps : List Part) (after : List (List Part)) → [] ≡ before ++ ps ∷ after → ⊥
not_none [] ps after h = let z : ◌≡◌ {A = ℕ} 0 1 = cc in omega arith
not_none (b ∷ before) ps after h = let z : ◌≡◌ {A = ℕ} 0 1 = cc in omega arith

module _ (s : List ℕ) (i : ℕ) (q : Part) (qs : List Part) (after : List (List Part)) where
  -- cut at a row of a line or of one after it
  cut_line : i < length s
      → ((before : List (List Part)) → pieces_after s (next_line s i) ≡ before ++ (q ∷ qs) ∷ after → Parted s (next_line s i) q.start before ((q ∷ qs) ∷ after))
      → (before : List (List Part)) → pieces_after s i ≡ before ++ (q ∷ qs) ∷ after → Parted s i q.start before ((q ∷ qs) ∷ after)
  cut_line l rest before h = go (line_pieces (line_at s i)) refl before h
    where
      go : (ps : List Part) → line_pieces (line_at s i) ≡ ps → (before : List (List Part)) → pieces_after s i ≡ before ++ (q ∷ qs) ∷ after
          → Parted s i q.start before ((q ∷ qs) ∷ after)
      go [] e before h =
          let n = next_further s i l in
          let w = rest before (sym (pieces_step s i ∙ rw e) ∙ h) in
          let m = w.later in
          record { later = omega arith; within = w.within; front = kept_step s i q.start m ∙ rw e w.front; back = w.back }
      go (r ∷ rs) e [] h =
          let k = sym (pieces_row s i (ap is_empty e)) ∙ h in
          let f : line_pieces (line_at s i) ≡ q ∷ qs = cc in
          let g : pieces_after s (next_line s i) ≡ after = cc in
          subst (λ (pss : List (List Part)). Parted s i q.start [] ((q ∷ qs) ∷ pss)) g (parted_first s i q qs (omega arith) f)
      go (r ∷ rs) e (b ∷ before) h =
          let n = next_further s i l in
          let k = sym (pieces_row s i (ap is_empty e)) ∙ h in
          let f : line_pieces (line_at s i) ≡ b = cc in
          let g : pieces_after s (next_line s i) ≡ before ++ (q ∷ qs) ∷ after = cc in
          let w = rest before g in
          let m = w.later in
          record {
            later = omega arith;
            within = w.within;
            front = kept_step s i q.start m ∙ rw (ap is_empty e, f, w.front);
            back = w.back;
          }

-- cut at the first piece of any row, where n bytes or fewer are left
cut_within : (n : ℕ) (s : List ℕ) (i : ℕ) (q : Part) (qs : List Part) (after : List (List Part)) → length s ≤ i + n
    → (before : List (List Part)) → pieces_after s i ≡ before ++ (q ∷ qs) ∷ after → Parted s i q.start before ((q ∷ qs) ∷ after)
cut_within zero s i q qs after l before h = absurd (not_none before (q ∷ qs) after (sym (pieces_past s i (omega arith)) ∙ h))
cut_within (suc n) s i q qs after l before h =
    go (ltb i (length s)) refl (λ (k : length s ≤ next_line s i + n). cut_within n s (next_line s i) q qs after k)
  where
    go : (t : Bool) → ltb i (length s) ≡ t
        → (length s ≤ next_line s i + n → (before : List (List Part)) → pieces_after s (next_line s i) ≡ before ++ (q ∷ qs) ∷ after → Parted s (next_line s i) q.start before ((q ∷ qs) ∷ after))
        → Parted s i q.start before ((q ∷ qs) ∷ after)
    go true e f = let k = ltb-true i (length s) e in let m = next_further s i k in cut_line s i q qs after k (f (omega arith)) before h
    go false e f = absurd (not_none before (q ∷ qs) after (sym (pieces_past s i (ltb-false i (length s) e)) ∙ h))

-- a text cut at the first piece of any row: the rows before it stand in the text up to there, the others in the text from there on
pub cut_pieces : (s : List ℕ) (i : ℕ) (before : List (List Part)) (q : Part) (qs : List Part) (after : List (List Part))
    → pieces_after s i ≡ before ++ (q ∷ qs) ∷ after → Parted s i q.start before ((q ∷ qs) ∷ after)
cut_pieces s i before q qs after h = cut_within (length s) s i q qs after (omega arith) before h
