-- A run by offsets is the run by lines: where a line starts, what is read from there, and a run of calls.
use Rattle.std.specs.Prelude.{Some, None}
use Prim.Native.Nat.{ℕ, zero, suc, ◌+◌, ◌<◌, ◌≤◌}
use mathlib.Core.Path.{◌≡◌, refl, sym, ap, subst, ◌∙◌}
use mathlib.Core.List.{List, [], ◌∷◌, map}
use mathlib.Core.Bool.{Bool, true, false, cond}
use native.Mathlib.Omega.{arith}
use native.Mathlib.Nat.{zero-add, add-zero, suc-add}
use borrow.Author.Tests.{ltb-true, ltb-false, le-ltb}
use lib.Dec.{ltb}
use lib.ListN.{length, drop, get_or, drop_of_length-le, length-drop}
use lib.Seq.{drop-drop}
use Rattle.text.specs.Lists.{total}
use Rattle.text.specs.Lines.{is_feed, ended, lines, line_next}
use Rattle.text.specs.Answer.{Answer, ok, refused, ◌>>=◌, ◌>>◌, refuse_if}
use Rattle.text.proofs.PartLaws.{parts_some, lines_none, lines_first, line_within}
use Rattle.text.proofs.SumLaws.{spaced, parts_total}
use Rattle.program.specs.Groups.{Group, grouped}
use Rattle.program.specs.declared.BinaryInstruction.{BinaryInstruction}
use Rattle.decoder.specs.Lines.{line_has_second, line_groups, is_complete, is_here, lines_in}
use Rattle.decoder.specs.Decode.{group_decoded}
use Rattle.decoder.specs.Open.{max_bytecode_bytes, Read, first_read, next, instruction_read, line_after, run}
use Rattle.decoder.specs.Steps.{lines_end, ReadAt, next_at, instruction_at, lines_at, offset_after, run_at, nth_call}

-- ---- where lines end

-- past the end there is no further line
next_past : (s : List ℕ) → length s ≤ 0 → line_next s ≡ 0
next_past s h = let w = line_within s in omega arith

pub lines_end_past : (n : ℕ) (s : List ℕ) → length s ≤ 0 → lines_end n s ≡ 0
unfolding lines_end
lines_end_past zero s h = refl
lines_end_past (suc n) s h =
    let a = next_past s h in
    let k = length-drop (line_next s) s in
    let r = lines_end_past n (drop (line_next s) s) (omega arith) in
    omega arith

pub lines_end_within : (n : ℕ) (s : List ℕ) → lines_end n s ≤ length s
unfolding lines_end
lines_end_within zero s = omega arith
lines_end_within (suc n) s =
    let w = line_within s in
    let k = length-drop (line_next s) s in
    let r = lines_end_within n (drop (line_next s) s) in
    omega arith

-- some lines, and then some more
pub lines_end_add : (m n : ℕ) (s : List ℕ) → lines_end (m + n) s ≡ lines_end m s + lines_end n (drop (lines_end m s) s)
unfolding lines_end
lines_end_add zero n s = ap (λ (k : ℕ). lines_end k s) (zero-add n) ∙ sym (zero-add (lines_end n s))
lines_end_add (suc m) n s =
    let h = lines_end_add m n (drop (line_next s) s) in
    let d = drop-drop (lines_end m (drop (line_next s) s)) (line_next s) s in
    ap (λ (k : ℕ). lines_end k s) (suc-add m n)
    ∙ ap (λ (k : ℕ). line_next s + k) (h ∙ ap (λ (t : List ℕ). lines_end m (drop (line_next s) s) + lines_end n t) d)
    ∙ omega arith

-- the lines behind the first n
pub lines_drop : (n : ℕ) (s : List ℕ) → lines (drop (lines_end n s) s) ≡ drop n (lines s)
unfolding lines_end
lines_drop zero s = refl
lines_drop (suc n) s = go (ltb 0 (length s)) refl (lines_drop n (drop (line_next s) s))
  where
    go : (t : Bool) → ltb 0 (length s) ≡ t → lines (drop (lines_end n (drop (line_next s) s)) (drop (line_next s) s)) ≡ drop n (lines (drop (line_next s) s))
        → lines (drop (line_next s + lines_end n (drop (line_next s) s)) s) ≡ drop (suc n) (lines s)
    go true e h =
        ap lines (sym (drop-drop (lines_end n (drop (line_next s) s)) (line_next s) s))
        ∙ h
        ∙ ap (drop (suc n)) (sym (lines_first s (ltb-true _ _ e)))
    go false e h =
        let b : length s ≤ 0 = ltb-false _ _ e in
        let z : s ≡ [] = drop_of_length-le s {i = 0} b in
        ap lines (drop_of_length-le s {i = line_next s + lines_end n (drop (line_next s) s)} (omega arith))
        ∙ lines_none
        ∙ sym (ap (λ (t : List ℕ). drop (suc n) (lines t)) z ∙ ap (drop (suc n)) lines_none)

-- ---- how many lines there are

ended_count : (l : List ℕ) (ls : List (List ℕ)) → length (ended (l ∷ ls)) + 1 ≤ total (map spaced (l ∷ ls))
unfolding ended total
ended_count [] [] = omega arith
ended_count (x ∷ l) [] = omega arith
ended_count l (m ∷ ls) = let h = ended_count m ls in omega arith

-- a text has no more lines than bytes
pub lines_most : (s : List ℕ) → length (lines s) ≤ length s
unfolding lines
lines_most s =
    let q = parts_some is_feed s in
    let h = ended_count q.0 q.1 in
    let e = ap (λ (ps : List (List ℕ)). length (ended ps)) q.2 in
    let f = ap (λ (ps : List (List ℕ)). total (map spaced ps)) q.2 in
    let k = parts_total is_feed s in
    omega arith

-- a group has a line
lines_some : (g : Group (List ℕ)) → 0 < lines_in g
lines_some g = go (is_here g.second)
  where
    go : (t : Bool) → 0 < cond t 2 1
    go true = omega arith
    go false = omega arith

-- the first group has no more lines than there are
abbrev FirstLines : ℕ → List (Group (List ℕ)) → Type 0
FirstLines n [] = Unit {0}
FirstLines n (g ∷ gs) = lines_in g ≤ n

first_lines : (ls : List (List ℕ)) → FirstLines (length ls) (line_groups ls)
unfolding grouped
first_lines [] = tt
first_lines (l ∷ ls) = go (line_has_second l) ls
  where
    go : (t : Bool) (ms : List (List ℕ))
        → FirstLines (suc (length ms))
        (let rest = grouped line_has_second (cond t (Some l) None) ms in cond t rest (record { first = l; second = None } ∷ rest))
    go true [] = omega arith
    go true (m ∷ ms) = omega arith
    go false ms = omega arith

pub group_lines : (ls : List (List ℕ)) (g : Group (List ℕ)) (gs : List (Group (List ℕ))) → line_groups ls ≡ g ∷ gs → lines_in g ≤ length ls
unfolding grouped
group_lines ls g gs e = subst (λ (hs : List (Group (List ℕ))). FirstLines (length ls) hs) e (first_lines ls)

-- ---- one call

-- an answer by lines, from one by an offset
abbrev pub by_line : ℕ → Answer ReadAt → Answer Read
by_line line (ok r) = ok (record { instruction = r.instruction; line = line + r.lines })
by_line line (refused n d) = refused n d

-- what is read at an offset, where the rest of the text begins
abbrev pub at_offset : ℕ → List ℕ → Read → Answer ReadAt
at_offset offset rest r = ok (record { instruction = r.instruction; lines = r.line; offset = offset + lines_end r.line rest })

-- its lines are the first group's, and they end at the offset reached
abbrev Placed : ℕ → List ℕ → List (Group (List ℕ)) → Answer ReadAt → Type 0
Placed offset rest hs (ok r) = (g : Group (List ℕ)) × (gs : List (Group (List ℕ))) × (hs ≡ g ∷ gs) × (r.lines ≡ lines_in g) × (r.offset ≡ offset + lines_end r.lines rest)
Placed offset rest hs (refused n d) = Unit {0}

module _ (offset : ℕ) (rest : List ℕ) where
  placed_groups : (gs : List (Group (List ℕ))) → Placed offset rest gs (first_read 0 gs >>= at_offset offset rest)
  unfolding first_read ◌>>=◌
  placed_groups [] = tt
  placed_groups (g ∷ gs) = go (is_complete g) (group_decoded 0 g)
    where
      go : (t : Bool) (a : Answer BinaryInstruction)
          → Placed offset rest (g ∷ gs) (cond t (a >>= λ i. ok (record { instruction = i; line = 0 + lines_in g })) (refused 20 0) >>= at_offset offset rest)
      go true (ok i) = (g, gs, refl, omega arith, refl)
      go true (refused n d) = tt
      go false a = tt

  by_line_groups : (line : ℕ) (gs : List (Group (List ℕ))) → first_read line gs ≡ by_line line (first_read 0 gs >>= at_offset offset rest)
  unfolding first_read ◌>>=◌
  by_line_groups line [] = refl
  by_line_groups line (g ∷ gs) = go (is_complete g) (group_decoded 0 g)
    where
      go : (t : Bool) (a : Answer BinaryInstruction)
          → cond t (a >>= λ i. ok (record { instruction = i; line = line + lines_in g })) (refused 20 0)
          ≡ by_line line (cond t (a >>= λ i. ok (record { instruction = i; line = 0 + lines_in g })) (refused 20 0) >>= at_offset offset rest)
      go true (ok i) = ap (λ (n : ℕ). ok (record { instruction = i; line = line + n })) (sym (zero-add (lines_in g)))
      go true (refused n d) = refl
      go false a = refl

-- a text within 524,288 bytes, or longer
module _ (text : List ℕ) where
  module _ (h : ltb max_bytecode_bytes (length text) ≡ false) where
    pub short_next : (line : ℕ) → next text line ≡ first_read line (line_groups (drop line (lines text)))
    unfolding next ◌>>◌ refuse_if
    short_next line = rw h

    pub short_at : (offset : ℕ) → next_at text offset ≡ (first_read 0 (line_groups (lines (drop offset text))) >>= at_offset offset (drop offset text))
    unfolding next_at next ◌>>◌ refuse_if
    short_at offset =
        let k = length-drop offset text in
        let b : length text ≤ max_bytecode_bytes = ltb-false _ _ h in
        rw (h, le-ltb max_bytecode_bytes (length (drop offset text)) (omega arith))

  module _ (h : ltb max_bytecode_bytes (length text) ≡ true) where
    long_next : (line : ℕ) → next text line ≡ refused 14 0
    unfolding next ◌>>◌ refuse_if
    long_next line = rw h

    pub long_at : (offset : ℕ) → next_at text offset ≡ refused 14 0
    unfolding next_at ◌>>◌ refuse_if
    long_at offset = rw h

  placed : (offset : ℕ) → Placed offset (drop offset text) (line_groups (lines (drop offset text))) (next_at text offset)
  placed offset = go (ltb max_bytecode_bytes (length text)) refl
    where
      go : (t : Bool) → ltb max_bytecode_bytes (length text) ≡ t → Placed offset (drop offset text) (line_groups (lines (drop offset text))) (next_at text offset)
      go true e = rw (long_at e offset) tt
      go false e = rw (short_at e offset) (placed_groups offset (drop offset text) (line_groups (lines (drop offset text))))

  -- What next reads from a line is what is read at the offset where the line starts, and the line reached is as many lines on.
  pub next_by_offset : (line : ℕ) → next text line ≡ by_line line (next_at text (lines_end line text))
  next_by_offset line = go (ltb max_bytecode_bytes (length text)) refl
    where
      go : (t : Bool) → ltb max_bytecode_bytes (length text) ≡ t → next text line ≡ by_line line (next_at text (lines_end line text))
      go true e = long_next e line ∙ sym (ap (by_line line) (long_at e (lines_end line text)))
      go false e =
          short_next e line
          ∙ ap (λ (ls : List (List ℕ)). first_read line (line_groups ls)) (sym (lines_drop line text))
          ∙ by_line_groups (lines_end line text) (drop (lines_end line text) text) line (line_groups (lines (drop (lines_end line text) text)))
          ∙ sym (ap (by_line line) (short_at e (lines_end line text)))

  module _ (line : ℕ) where
    pub answer_read : instruction_read (next text line) ≡ instruction_at (next_at text (lines_end line text))
    answer_read = ap instruction_read (next_by_offset line) ∙ go (next_at text (lines_end line text))
      where
        go : (a : Answer ReadAt) → instruction_read (by_line line a) ≡ instruction_at a
        go (ok r) = refl
        go (refused n d) = refl

    pub lines_read : line_after line (next text line) ≡ line + lines_at (next_at text (lines_end line text))
    lines_read = ap (line_after line) (next_by_offset line) ∙ go (next_at text (lines_end line text))
      where
        go : (a : Answer ReadAt) → line_after line (by_line line a) ≡ line + lines_at a
        go (ok r) = refl
        go (refused n d) = sym (add-zero line)

    -- the offset reached is where the line reached starts
    pub offset_read : offset_after (lines_end line text) (next_at text (lines_end line text)) ≡ lines_end (line_after line (next text line)) text
    offset_read = go (next_at text (lines_end line text)) (placed (lines_end line text)) ∙ ap (λ (n : ℕ). lines_end n text) (sym lines_read)
      where
        go : (a : Answer ReadAt) → Placed (lines_end line text) (drop (lines_end line text) text) (line_groups (lines (drop (lines_end line text) text))) a
            → offset_after (lines_end line text) a ≡ lines_end (line + lines_at a) text
        go (ok r) p = p.4 ∙ sym (lines_end_add line r.lines text)
        go (refused n d) p = ap (λ (n : ℕ). lines_end n text) (sym (add-zero line))

    -- a line reached is no further than there are bytes
    pub lines_read_most : (lines_at (next_at text (lines_end line text)) ≡ 0 → ⊥) → line + lines_at (next_at text (lines_end line text)) ≤ length text
    lines_read_most h = go (next_at text (lines_end line text)) (placed (lines_end line text)) h
      where
        go : (a : Answer ReadAt) → Placed (lines_end line text) (drop (lines_end line text) text) (line_groups (lines (drop (lines_end line text) text))) a
            → (lines_at a ≡ 0 → ⊥) → line + lines_at a ≤ length text
        go (ok r) p k =
            let b = group_lines (lines (drop (lines_end line text) text)) p.0 p.1 p.2 in
            let c = ap length (lines_drop line text) in
            let d = length-drop line (lines text) in
            let m = lines_most text in
            let e = p.3 in
            omega arith
        go (refused n d) p k = absurd (k refl)

  -- a call that reads no line is a refusal, and the reader stays
  pub none_read : (offset : ℕ) → lines_at (next_at text offset) ≡ 0 → offset_after offset (next_at text offset) ≡ offset
  none_read offset h = go (next_at text offset) (placed offset) h
    where
      go : (a : Answer ReadAt) → Placed offset (drop offset text) (line_groups (lines (drop offset text))) a → lines_at a ≡ 0 → offset_after offset a ≡ offset
      go (ok r) p k = let e = p.3 in let b = lines_some p.0 in absurd (omega arith)
      go (refused n d) p k = refl

-- ---- runs

-- from where a line starts
pub run_from_offset : (k : ℕ) (text : List ℕ) (line : ℕ) → run_at k text (lines_end line text) ≡ run k text line
unfolding run_at run
run_from_offset zero text line = refl
run_from_offset (suc k) text line =
    ap (λ (n : ℕ). instruction_at (next_at text (lines_end line text)) ∷ run_at k text n) (offset_read text line)
    ∙ ap (λ (as' : List (Answer BinaryInstruction)). instruction_at (next_at text (lines_end line text)) ∷ as') (run_from_offset k text (line_after line (next text line)))
    ∙ ap (λ (a : Answer BinaryInstruction). a ∷ run k text (line_after line (next text line))) (sym (answer_read text line))

-- A run by offsets answers what the run by lines does.
pub run_by_offsets : (k : ℕ) (text : List ℕ) → run_at k text 0 ≡ run k text 0
unfolding lines_end
run_by_offsets k text = run_from_offset k text 0

-- ---- one call of a run

-- the j-th call, from 0, from an offset on
unfoldable pub call_at : ℕ → List ℕ → ℕ → Answer BinaryInstruction
call_at zero text offset = instruction_at (next_at text offset)
call_at (suc j) text offset = call_at j text (offset_after offset (next_at text offset))

pub run_call : (j : ℕ) (text : List ℕ) (offset : ℕ) → get_or (run_at (suc j) text offset) j (refused 20 0) ≡ call_at j text offset
unfolding run_at call_at
run_call zero text offset = refl
run_call (suc j) text offset = run_call j text (offset_after offset (next_at text offset))

pub nth_call_lem : (text : List ℕ) (k : ℕ) → nth_call text k ≡ call_at k text 0
nth_call_lem text k = ap (λ (as' : List (Answer BinaryInstruction)). get_or as' k (refused 20 0)) (sym (run_by_offsets (suc k) text)) ∙ run_call k text 0

-- where the reader stays, every later call answers the same
pub call_stays : (j : ℕ) (text : List ℕ) (offset : ℕ) → lines_at (next_at text offset) ≡ 0 → call_at j text offset ≡ instruction_at (next_at text offset)
unfolding call_at
call_stays zero text offset h = refl
call_stays (suc j) text offset h = ap (call_at j text) (none_read text offset h) ∙ call_stays j text offset h
