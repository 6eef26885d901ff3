-- The sorted rows line by line: what the line at a place of the sorted source adds, and where the next one is.
use Prim.Native.Nat.{ℕ, ◌+◌, ◌-◌, ◌<◌, ◌≤◌}
use mathlib.Core.Path.{◌≡◌, refl, sym, ap, ◌∙◌}
use mathlib.Core.List.{List, [], ◌∷◌, ◌++◌, append-nil, append_assoc}
use mathlib.Core.Bool.{Bool, true, false, cond}
use native.Mathlib.Omega.{arith}
use borrow.Author.Tests.{ltb-true, ltb-false, lt-ltb, le-ltb, le-leb}
use lib.Dec.{ltb}
use lib.ListN.{length, take}
use lib.Seq.{length-take-le}
use Rattle.asm.specs.Parts.{line_pieces, line_at, next_line}
use Rattle.asm.specs.Rows.{line_of, row_at}
use Rattle.asm.specs.declared.OlaAsmInstruction.{OlaAsmInstruction}
use Rattle.asm.specs.declared.AsmRow.{AsmRow}
use Rattle.asm.specs.declared.AsmRow.TheVariants.{Instruction}
use Rattle.asm.specs.declared.LineRead.TheVariants.{Blank, Row, Unreadable}
use Rattle.asm.specs.declared.RowAt.{RowAt}
use Rattle.asm_laws.proofs.StepLaws.{next_further, instruction_room}
use Rattle.relocate.specs.Layout.{further, sorted_row_at, stretch_rows, sorted_from}
use Rattle.relocate_laws.proofs.StretchRowLaws.{stretch_end, stretch_blank, stretch_row, stretch_unreadable}

module _ (s : List ℕ) (start end v : ℕ) (a : start ≤ end) (b : end ≤ length s) where
  -- after the second stretch only the third is left
  in_third : end ≤ v → sorted_from s start end v ≡ stretch_rows s v
  unfolding sorted_from
  in_third h = rw (le-ltb v (end - start) (omega arith), le-ltb v end h)

  -- from the first stretch's end on, to the second's
  in_second : end - start ≤ v → v ≤ end → sorted_from s start end v ≡ stretch_rows (take start s) (v - (end - start)) ++ stretch_rows s end
  unfolding sorted_from
  in_second h k = go (ltb v end) refl
    where
      go : (t : Bool) → ltb v end ≡ t → sorted_from s start end v ≡ stretch_rows (take start s) (v - (end - start)) ++ stretch_rows s end
      go true e = rw (le-ltb v (end - start) h, e)
      go false e =
          let f : end ≤ v = ltb-false v end e in
          let l = length-take-le start s (omega arith) in
          in_third f ∙ rw (stretch_end (take start s) (v - (end - start)) (omega arith)) (ap (stretch_rows s) (omega arith))

  -- up to the first stretch's end
  in_first : v ≤ end - start → sorted_from s start end v ≡ stretch_rows (take end s) (start + v) ++ (stretch_rows (take start s) 0 ++ stretch_rows s end)
  unfolding sorted_from
  in_first h = go (ltb v (end - start)) refl
    where
      go : (t : Bool) → ltb v (end - start) ≡ t → sorted_from s start end v ≡ stretch_rows (take end s) (start + v) ++ (stretch_rows (take start s) 0 ++ stretch_rows s end)
      go true e = rw e (append_assoc (stretch_rows (take end s) (start + v)) (stretch_rows (take start s) 0) (stretch_rows s end))
      go false e =
          let f : end - start ≤ v = ltb-false v (end - start) e in
          let l = length-take-le end s b in
          in_second f (omega arith)
          ∙ rw (stretch_end (take end s) (start + v) (omega arith)) (ap (λ (k : ℕ). stretch_rows (take start s) k ++ stretch_rows s end) (omega arith))

-- the line at a place of the sorted source as a line of one of the three stretches
record Stepped (s : List ℕ) (start end v : ℕ) (r : RowAt) : Type 0 where
  text : List ℕ
  place : ℕ
  rest : List AsmRow
  before : sorted_from s start end v ≡ stretch_rows text place ++ rest
  after : sorted_from s start end r.next ≡ stretch_rows text (next_line text place) ++ rest
  read : line_of (line_pieces (line_at text place)) ≡ r.read
  past : v < r.next
  within : r.next ≤ length s
  moved : next_line text place + v ≡ r.next + place

module _ (s : List ℕ) (start end v : ℕ) (a : start ≤ end) (b : end ≤ length s) (h : v < length s) where
  -- the line read, where main's scope lies within the source
  sorted_at : sorted_row_at s start end v
      ≡ cond (ltb v (end - start)) (further 0 start (row_at (take end s) (start + v)))
      (cond (ltb v end) (further (end - start) 0 (row_at (take start s) (v - (end - start)))) (row_at s v))
  unfolding sorted_row_at
  sorted_at = rw (le-leb start end a, le-leb end (length s) b)

  -- it is a line of one of the three stretches
  stepped : Stepped s start end v (sorted_row_at s start end v)
  stepped = rw sorted_at (go (ltb v (end - start)) refl (ltb v end) refl)
    where
      go : (t : Bool) → ltb v (end - start) ≡ t → (u : Bool) → ltb v end ≡ u
          → Stepped s start end v
          (cond t (further 0 start (row_at (take end s) (start + v)))
          (cond u (further (end - start) 0 (row_at (take start s) (v - (end - start)))) (row_at s v)))
      go true e u f =
          let k : v < end - start = ltb-true v (end - start) e in
          let l = length-take-le end s b in
          let n = next_further (take end s) (start + v) (omega arith) in
          let m : ℕ = next_line (take end s) (start + v) in
          let w : start + (m + 0 - start) ≡ m = omega arith in
          record {
            text = take end s;
            place = start + v;
            rest = stretch_rows (take start s) 0 ++ stretch_rows s end;
            before = in_first s start end v a b (omega arith);
            after = in_first s start end (m + 0 - start) a b (omega arith) ∙ rw w;
            read = refl;
            past = omega arith;
            within = omega arith;
            moved = omega arith;
          }
      go false e true f =
          let k : end - start ≤ v = ltb-false v (end - start) e in
          let j : v < end = ltb-true v end f in
          let l = length-take-le start s (omega arith) in
          let n = next_further (take start s) (v - (end - start)) (omega arith) in
          let m : ℕ = next_line (take start s) (v - (end - start)) in
          let w : m + (end - start) - 0 - (end - start) ≡ m = omega arith in
          record {
            text = take start s;
            place = v - (end - start);
            rest = stretch_rows s end;
            before = in_second s start end v a b k (omega arith);
            after = in_second s start end (m + (end - start) - 0) a b (omega arith) (omega arith) ∙ rw w;
            read = refl;
            past = omega arith;
            within = omega arith;
            moved = omega arith;
          }
      go false e false f =
          let k : end ≤ v = ltb-false v end f in
          let n = next_further s v h in
          record {
            text = s;
            place = v;
            rest = [];
            before = in_third s start end v a b k ∙ sym (append-nil (stretch_rows s v));
            after = in_third s start end (next_line s v) a b (omega arith) ∙ sym (append-nil (stretch_rows s (next_line s v)));
            read = refl;
            past = n.0;
            within = n.1;
            moved = refl;
          }

-- past the sorted source's end there is no row
pub sorted_end : (s : List ℕ) (start end v : ℕ) → start ≤ end → end ≤ length s → length s ≤ v → sorted_from s start end v ≡ []
sorted_end s start end v a b h = in_third s start end v a b (omega arith) ∙ stretch_end s v h

-- main's scope is read first
pub sorted_start : (s : List ℕ) (start end : ℕ) → start < end
    → sorted_from s start end 0 ≡ stretch_rows (take end s) start ++ stretch_rows (take start s) 0 ++ stretch_rows s end
unfolding sorted_from
sorted_start s start end h =
    rw (lt-ltb 0 (end - start) (omega arith)) (ap (λ (k : ℕ). stretch_rows (take end s) k ++ stretch_rows (take start s) 0 ++ stretch_rows s end) (omega arith))

module _ (s : List ℕ) (start end v : ℕ) (r : RowAt) (a : start ≤ end) (b : end ≤ length s) (e : r ≡ sorted_row_at s start end v) where
  -- the line at v is a line of a stretch
  step : v < length s → Stepped s start end v r
  step h = rw e (stepped s start end v a b h)

  -- a line with no piece adds nothing
  pub sorted_blank : v < length s → r.read ≡ Blank → sorted_from s start end v ≡ sorted_from s start end r.next
  sorted_blank h k =
      let w = step h in
      w.before ∙ ap (λ (l : List AsmRow). l ++ w.rest) (stretch_blank w.text w.place (w.read ∙ k)) ∙ sym w.after

  -- a row stands before those of the lines after it
  pub sorted_row : (x : AsmRow) → v < length s → r.read ≡ Row x → sorted_from s start end v ≡ x ∷ sorted_from s start end r.next
  sorted_row x h k =
      let w = step h in
      w.before ∙ ap (λ (l : List AsmRow). l ++ w.rest) (stretch_row w.text w.place x (w.read ∙ k)) ∙ sym (ap (λ (l : List AsmRow). x ∷ l) w.after)

  -- an unreadable line is left out
  pub sorted_unreadable : v < length s → r.read ≡ Unreadable → sorted_from s start end v ≡ sorted_from s start end r.next
  sorted_unreadable h k =
      let w = step h in
      w.before ∙ ap (λ (l : List AsmRow). l ++ w.rest) (stretch_unreadable w.text w.place (w.read ∙ k)) ∙ sym w.after

  -- the next line starts further on
  pub sorted_next_past : v < length s → v < r.next
  sorted_next_past h = (step h).past

  -- within the source
  pub sorted_next_within : v < length s → r.next ≤ length s
  sorted_next_within h = (step h).within

  -- an instruction takes at least three bytes of its line
  pub sorted_room : (i : OlaAsmInstruction) → v < length s → r.read ≡ Row (Instruction i) → v + 3 ≤ r.next
  sorted_room i h k =
      let w = step h in
      let n = instruction_room w.text w.place i (w.read ∙ k) in
      let m = w.moved in
      omega arith
