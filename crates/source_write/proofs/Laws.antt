-- Laws of the passes over a bytecode and of the writers, in the shapes in which the functions ask for them.
use Rattle.std.specs.Prelude.{Option, Some, None, Result, Ok, Err, ⊤}
use Prim.Native.Nat.{ℕ, suc, ◌+◌, ◌-◌, ◌*◌, ◌^◌, ◌<◌, ◌≤◌}
use mathlib.Core.Path.{◌≡◌, refl, sym, ap, ◌∙◌}
use mathlib.Core.List.{List, [], ◌∷◌}
use mathlib.Core.Bool.{Bool, true, false, not}
use native.Mathlib.Omega.{arith}
use native.Mathlib.Numerals.{add-one}
use borrow.Author.Rules.{rules}
use borrow.Author.Tests.{le-leb, lt-leb, leb-true, leb-false}
use lib.Dec.{leb}
use lib.ListN.{length, set, length-append, length-set}
use lib.Seq.{sets}
use mir.Val.{Fits}
use mir.Syntax.{w64}
use Rattle.text.specs.Bytes.{bytes}
use Rattle.text.specs.Answer.{Answer, ok, refused, ◌>>=◌, ◌>>◌, refuse_at, on_ok}
use Rattle.text.proofs.Laws.{told_not_true, told_not_false}
use Rattle.text.proofs.AnswerLaws.{not_ok}
use Rattle.text_write.specs.Put.{put_count, put_into}
use Rattle.text_write.proofs.Laws.{sets_append, put_fits, length_put, count_told, never_short}
use Rattle.program.specs.Bytecode.{within, text_left}
use Rattle.program.specs.declared.BinaryInstruction.{BinaryInstruction}
use Rattle.program_bytecode.specs.Written.{count_of}
use Rattle.program_bytecode.proofs.Laws.{stored_left, kept_left, count_left, short_left}
use Rattle.decoder.specs.Open.{open_number, open_detail, opened}
use Rattle.decoder.specs.Steps.{accepted_of, open_numbered}
use Rattle.decoder.specs.declared.OpenRefusal.{OpenRefusal}
use Rattle.decoder.specs.declared.NextRefusal.{NextRefusal}
use Rattle.decoder_lines.specs.ReadFrom.{read_from, at_numbered}
use Rattle.decoder_lines.specs.declared.InstructionAt.{InstructionAt}
use Rattle.source.specs.SourceText.{source_row, source_text, is_off_row, first_off_row, source_written, source_numbered}
use Rattle.source.specs.declared.SourceRefusal.TheVariants.{TextTooShort}
use Rattle.source_write.specs.Rest.{instructions_from, rows_text}
use Rattle.source_write.proofs.RestLaws.{opened_from, rest_over, rest_next, next_short, next_more, next_within, next_less, source_rows, source_long}
use Rattle.source.specs.declared.SourceRefusal.{SourceRefusal}

-- ---- first_off_row: what stands from an offset and its index on
module _ (text : List ℕ) (index at : ℕ) (inv : first_off_row 0 (instructions_from text 0) ≡ first_off_row index (instructions_from text at)) where
  off_nothing : instructions_from text at ≡ [] → None ≡ first_off_row 0 (instructions_from text 0)
  unfolding first_off_row
  off_nothing h = sym (inv ∙ ap (first_off_row index) h)

  module _ (r : Result InstructionAt NextRefusal) (e : at_numbered r ≡ read_from 0 text at) where
    -- all passed: none is off its row
    pub off_over : (f : NextRefusal) → r ≡ Err f → None ≡ first_off_row 0 (instructions_from text 0)
    off_over f h = off_nothing (rest_over text at r e f h)

    module _ (i : InstructionAt) (h : r ≡ Ok i) where
      -- the index counts no more instructions than bytes
      pub index_next : index ≤ at → index + 1 ≤ i.next
      index_next p = let m = next_more text at r e i h in omega arith

      pub index_fits : index ≤ at → length text < 2 ^ 64 → Fits w64 (index + 1)
      index_fits p q = let m = index_next p in let n = next_within text at r e i h in omega arith

      module _ (t : Bool) (p : t ≡ is_off_row i.instruction) where
        -- the one here is off its row
        pub off_here : t ≡ true → Some index ≡ first_off_row 0 (instructions_from text 0)
        unfolding first_off_row
        off_here q = sym (inv ∙ ap (first_off_row index) (rest_next text at r e i h) ∙ rw (sym p ∙ q))

        -- it is not: those behind it decide
        pub off_later : t ≡ false → first_off_row 0 (instructions_from text 0) ≡ first_off_row (index + 1) (instructions_from text i.next)
        unfolding first_off_row
        off_later q =
            inv
            ∙ ap (first_off_row index) (rest_next text at r e i h)
            ∙ rw (sym p ∙ q) (ap (λ (k : ℕ). first_off_row k (instructions_from text i.next)) (sym (add-one index)))

pub ruleset off_laws = (off_over, index_next, index_fits, off_here, off_later, next_less, rules)

-- ---- row_length and write_row: w is a row
module _ (w d : List ℕ) (h : length w ≤ 40) (l : length d ≡ 40) (r : Option ℕ) (e : r ≡ put_count d 0 w) where
  -- it fits 40 bytes
  pub row_never_short : r ≡ None → ⊥
  row_never_short f = never_short d 0 w r e (omega arith) f

  module _ (n : ℕ) (f : r ≡ Some n) where
    -- one more than its count fits
    pub row_fits : Fits w64 (n + 1)
    row_fits = let c = count_told d 0 w r e n f in omega arith

    -- and is its length behind a line feed
    pub row_counted : n + 1 ≡ length (10 ∷ w)
    row_counted = add-one n ∙ ap suc (count_told d 0 w r e n f)

-- a line feed and a row leave as many bytes
pub row_kept : (d : List ℕ) (at : ℕ) (w b : List ℕ) → b ≡ put_into (set d at 10) (at + 1) w → length b ≡ length d
row_kept d at w b e = ap length e ∙ length_put (set d at 10) (at + 1) w ∙ length-set d at 10

module _ (d : List ℕ) (at : ℕ) (w : List ℕ) (h : at + length (10 ∷ w) ≤ length d) where
  -- the line feed has room
  pub feed_within : at < length d
  feed_within = omega arith

  -- and the row behind it
  behind_within : (at + 1) + length w ≤ length (set d at 10)
  behind_within = simp length-set (omega arith)

  -- what they leave
  pub row_stored : (b : List ℕ) → b ≡ put_into (set d at 10) (at + 1) w → b ≡ sets d at (10 ∷ w)
  row_stored b e = e ∙ put_fits (set d at 10) (at + 1) w behind_within ∙ ap (λ (k : ℕ). sets (set d at 10) k w) (add-one at)

  module _ (r : Option ℕ) (e : r ≡ put_count (set d at 10) (at + 1) w) where
    -- the row is not refused
    pub row_never : r ≡ None → ⊥
    row_never f = never_short (set d at 10) (at + 1) w r e behind_within f

    module _ (n : ℕ) (f : r ≡ Some n) where
      -- it ends behind the line feed and its bytes
      pub row_end : (at + 1) + n ≡ at + length (10 ∷ w)
      row_end = let c = count_told (set d at 10) (at + 1) w r e n f in omega arith

      -- which fits
      pub row_end_fits : length d * 1 < 2 ^ 63 → Fits w64 ((at + 1) + n)
      row_end_fits m = let c = row_end in omega arith

pub ruleset length_laws = (row_never_short, row_fits, row_counted, rules)

pub ruleset row_laws = (row_kept, feed_within, row_stored, row_never, row_end, row_end_fits, rules)

-- ---- source_fits and write_rows: the rows that are left from an offset on, where the last one ended at a byte
module _ (text : List ℕ) (at end : ℕ) (inv : 5 + length (rows_text (instructions_from text 0)) ≡ end + length (rows_text (instructions_from text at))) where
  all_passed : instructions_from text at ≡ [] → end ≡ 5 + length (rows_text (instructions_from text 0))
  unfolding rows_text
  all_passed h = let z = ap (λ (is : List BinaryInstruction). length (rows_text is)) h in omega arith

  all_inside : (room : ℕ) → end ≤ room → end ≡ 5 + length (rows_text (instructions_from text 0)) → true ≡ leb (5 + length (rows_text (instructions_from text 0))) room
  all_inside room k h = sym (le-leb (5 + length (rows_text (instructions_from text 0))) room (omega arith))

  module _ (r : Result InstructionAt NextRefusal) (e : at_numbered r ≡ read_from 0 text at) where
    -- all passed: the rows end here
    pub rows_over : (f : NextRefusal) → r ≡ Err f → end ≡ 5 + length (rows_text (instructions_from text 0))
    rows_over f h = all_passed (rest_over text at r e f h)

    -- and fit
    pub fit_over : (room : ℕ) (f : NextRefusal) → end ≤ room → r ≡ Err f → true ≡ leb (5 + length (rows_text (instructions_from text 0))) room
    fit_over room f k h = all_inside room k (rows_over f h)

    module _ (i : InstructionAt) (h : r ≡ Ok i) where
      next_long : length (rows_text (instructions_from text at)) ≡ length (10 ∷ source_row i.instruction) + length (rows_text (instructions_from text i.next))
      unfolding rows_text
      next_long =
          ap (λ (is : List BinaryInstruction). length (rows_text is)) (rest_next text at r e i h)
          ∙ length-append (10 ∷ source_row i.instruction) (rows_text (instructions_from text i.next))

      -- what is left behind the row here, which ends at m
      pub rows_more : (m : ℕ) → m ≡ end + length (10 ∷ source_row i.instruction) → 5 + length (rows_text (instructions_from text 0)) ≡ m + length (rows_text (instructions_from text i.next))
      rows_more m f = let z = next_long in omega arith

      -- the same where m is its length
      pub rows_added : (m : ℕ) → m ≡ length (10 ∷ source_row i.instruction) → 5 + length (rows_text (instructions_from text 0)) ≡ (end + m) + length (rows_text (instructions_from text i.next))
      rows_added m f = rows_more (end + m) (ap (λ (k : ℕ). end + k) f)

      -- a row that does not fit: neither do all
      pub row_over : (room m : ℕ) → end ≤ room → m ≡ length (10 ∷ source_row i.instruction) → room - end < m → false ≡ leb (5 + length (rows_text (instructions_from text 0))) room
      row_over room m k f l = let z = next_long in sym (lt-leb (5 + length (rows_text (instructions_from text 0))) room (omega arith))

      -- the row here lies within a text that has room for all
      pub row_within : (d t : List ℕ) → 5 + length (rows_text (instructions_from text 0)) ≤ length d → length t ≡ length d → end + length (10 ∷ source_row i.instruction) ≤ length t
      row_within d t l m = let z = next_long in omega arith

-- no room for the first k bytes of `main:`
pub main_over : (room k : ℕ) (w : List ℕ) → room < k → leb k 5 ≡ true → false ≡ leb (5 + length w) room
main_over room k w h l = let m = leb-true k 5 l in sym (lt-leb (5 + length w) room (omega arith))

pub ruleset fit_laws = (main_over, fit_over, rows_added, next_short, row_over, next_less, rules)

-- ---- write_rows: t is the text d when the rows before the offset are written
module _ (text d t : List ℕ) (at end : ℕ) (inv : sets d 5 (rows_text (instructions_from text 0)) ≡ sets t end (rows_text (instructions_from text at))) where
  all_written : instructions_from text at ≡ [] → t ≡ sets d 5 (rows_text (instructions_from text 0))
  unfolding rows_text
  all_written h = sym (inv ∙ ap (λ (is : List BinaryInstruction). sets t end (rows_text is)) h)

  module _ (r : Result InstructionAt NextRefusal) (e : at_numbered r ≡ read_from 0 text at) where
    -- all passed: they are written
    pub written_over : (f : NextRefusal) → r ≡ Err f → t ≡ sets d 5 (rows_text (instructions_from text 0))
    written_over f h = all_written (rest_over text at r e f h)

    -- the row here is written too
    pub written_more : (i : InstructionAt) → r ≡ Ok i → (u : List ℕ) (m : ℕ) → u ≡ sets t end (10 ∷ source_row i.instruction) → m ≡ end + length (10 ∷ source_row i.instruction)
        → sets d 5 (rows_text (instructions_from text 0)) ≡ sets u m (rows_text (instructions_from text i.next))
    unfolding rows_text
    written_more i h u m f g =
        inv
        ∙ ap (λ (is : List BinaryInstruction). sets t end (rows_text is)) (rest_next text at r e i h)
        ∙ sets_append (10 ∷ source_row i.instruction) (rows_text (instructions_from text i.next)) t end
        ∙ sym (rw (f, g))

pub ruleset rows_laws = (rows_more, rows_over, row_within, written_over, written_more, next_less, rules)

-- ---- write_fitting: t is whether the source fits
module _ (d : List ℕ) (is : List BinaryInstruction) (t : Bool) (e : t ≡ leb (5 + length (rows_text is)) (length d)) where
  source_over : not t ≡ true → length d < length (source_text is)
  source_over h = let z = source_long is in let y = leb-false (5 + length (rows_text is)) (length d) (told_not_true t _ e h) in omega arith

  source_inside : not t ≡ false → length (source_text is) ≤ length d
  source_inside h = let z = source_long is in let y = leb-true (5 + length (rows_text is)) (length d) (told_not_false t _ e h) in omega arith

  -- 23
  pub short_answer : not t ≡ true → source_numbered (Err TextTooShort) ≡ count_of (within (length d) (source_text is))
  short_answer h = short_left d (source_text is) (source_over h)

  -- the text is left as it was
  pub short_kept : not t ≡ true → d ≡ text_left (within (length d) (source_text is)) d
  short_kept h = kept_left d (source_text is) (source_over h)

  -- the count
  pub done_answer : (n : ℕ) → not t ≡ false → n ≡ 5 + length (rows_text is) → source_numbered (Ok n) ≡ count_of (within (length d) (source_text is))
  done_answer n h f = ap ok (f ∙ sym (source_long is)) ∙ count_left d (source_text is) (source_inside h)

  -- u is the text when `main:` is written
  module _ (u : List ℕ) (f : u ≡ put_into d 0 (bytes "main:")) where
    -- the rows have room
    pub rows_inside : not t ≡ false → 5 + length (rows_text is) ≤ length u
    rows_inside h = let z = source_long is in let y = source_inside h in let x = ap length f in let v = length_put d 0 (bytes "main:") in omega arith

    -- the source written
    pub done_text : (b : List ℕ) → not t ≡ false → b ≡ sets u 5 (rows_text is) → b ≡ text_left (within (length d) (source_text is)) d
    done_text b h g =
        let z = source_long is in
        let y = source_inside h in
        g
        ∙ ap (λ (x : List ℕ). sets x 5 (rows_text is)) (f ∙ put_fits d 0 (bytes "main:") (omega arith))
        ∙ sym (sets_append (bytes "main:") (rows_text is) d 0)
        ∙ ap (sets d 0) (sym (source_rows is))
        ∙ stored_left d (source_text is) y

pub ruleset fitting_laws = (short_answer, short_kept, done_answer, rows_inside, done_text, rules)

-- ---- write_source
module _ (text d : List ℕ) (o : Result ⊤ OpenRefusal) (e : open_numbered o ≡ accepted_of (opened text)) where
  not_opened : (n k : ℕ) → refused n k ≡ accepted_of (opened text) → opened text ≡ refused n k
  not_opened n k = go (opened text)
    where
      go : (a : Answer (List BinaryInstruction)) → refused n k ≡ accepted_of a → a ≡ refused n k
      go (ok is) p = absurd (not_ok p)
      go (refused m j) p = let x : n ≡ m = cc in let y : k ≡ j = cc in rw (x, y) refl

  -- 14 to 19
  pub open_answer : (f : OpenRefusal) → o ≡ Err f → refused (open_number f) (open_detail f) ≡ count_of (source_written text (length d))
  unfolding source_written ◌>>=◌
  open_answer f h = sym (rw (not_opened _ _ (sym (ap open_numbered h) ∙ e)) refl)

  -- leave the text as it was
  pub open_kept : (f : OpenRefusal) → o ≡ Err f → d ≡ text_left (source_written text (length d)) d
  unfolding source_written ◌>>=◌ on_ok
  open_kept f h = sym (rw (not_opened _ _ (sym (ap open_numbered h) ∙ e)) refl)

  module _ (h : o ≡ Ok tt) where
    opens : opened text ≡ ok (instructions_from text 0)
    opens = go (opened text) refl (sym (ap open_numbered h) ∙ e)
      where
        go : (a : Answer (List BinaryInstruction)) → opened text ≡ a → ok tt ≡ accepted_of a → opened text ≡ ok (instructions_from text 0)
        go (ok is) p q = p ∙ ap ok (sym (opened_from text is p))
        go (refused n k) p q = absurd (not_ok (sym q))

    module _ (a : Option ℕ) (f : a ≡ first_off_row 0 (instructions_from text 0)) where
      off_written : (k : ℕ) → a ≡ Some k → source_written text (length d) ≡ refused 26 k
      unfolding source_written ◌>>=◌ ◌>>◌ refuse_at
      off_written k g = rw (opens, sym f ∙ g) refl

      -- 26
      pub off_answer : (k : ℕ) → a ≡ Some k → refused 26 k ≡ count_of (source_written text (length d))
      unfolding ◌>>=◌
      off_answer k g = sym (ap count_of (off_written k g))

      -- leaves the text as it was
      pub off_kept : (k : ℕ) → a ≡ Some k → d ≡ text_left (source_written text (length d)) d
      unfolding on_ok
      off_kept k g = sym (ap (λ (x : Answer (List ℕ)). text_left x d) (off_written k g))

      on_written : a ≡ None → source_written text (length d) ≡ within (length d) (source_text (instructions_from text 0))
      unfolding source_written ◌>>=◌ ◌>>◌ refuse_at
      on_written g = rw (opens, sym f ∙ g) refl

      -- otherwise what the source's writer answers
      pub on_answer : (w : Result ℕ SourceRefusal) → a ≡ None → source_numbered w ≡ count_of (within (length d) (source_text (instructions_from text 0))) → source_numbered w ≡ count_of (source_written text (length d))
      on_answer w g p = p ∙ sym (ap count_of (on_written g))

      -- and what it leaves
      pub on_text : (b : List ℕ) → a ≡ None → b ≡ text_left (within (length d) (source_text (instructions_from text 0))) d → b ≡ text_left (source_written text (length d)) d
      on_text b g p = p ∙ sym (ap (λ (x : Answer (List ℕ)). text_left x d) (on_written g))

pub ruleset source_laws = (open_answer, open_kept, off_answer, off_kept, on_answer, on_text, rules)
