-- Words written one after another: those of an instruction, and those of a source's instruction rows.
use Rattle.std.specs.Prelude.{Option, Some, None, Result, Ok, Err}
use Prim.Native.Nat.{ℕ, suc, ◌+◌, ◌<◌, ◌≤◌}
use mathlib.Core.Path.{◌≡◌, refl, sym, ap, ◌∙◌}
use mathlib.Core.List.{List, [], ◌∷◌, ◌++◌}
use native.Mathlib.Omega.{arith}
use native.Mathlib.Numerals.{add-one}
use borrow.Author.Rules.{rules}
use lib.ListN.{length, set, length-append}
use lib.Seq.{sets, length-sets}
use Rattle.text.specs.Answer.{ok}
use Rattle.text.proofs.AnswerLaws.{ok_same}
use Rattle.text_write.proofs.Laws.{sets_append}
use Rattle.asm.specs.declared.OlaAsmInstruction.{OlaAsmInstruction}
use Rattle.relocate.specs.Layout.{sorted_instructions}
use Rattle.relocate.specs.Columns.{LookUp}
use Rattle.program.specs.Words.{first_word, second_word, in_order, words_of, program_words}
use Rattle.program.specs.declared.BinaryInstruction.{BinaryInstruction}
use Rattle.encoder_canonical.specs.Held.{held_program}
use Rattle.encoder_lines.specs.Lines.{of_canonical, canonical_at}
use Rattle.encoder_lines.specs.declared.CanonicalAt.{CanonicalAt}
use Rattle.encoder_walks.proofs.LineLaws.{rows_from, rows_start, rows_end, line_skip, line_row, line_laws}
use Rattle.encoder_walks.proofs.ProgramLaws.{accepted_first}
use Rattle.encoder_assemble.specs.Written.{words_if, held_words}
use Rattle.encoder_canonical.specs.declared.CanonicalRefusal.{CanonicalRefusal}
use Rattle.encoder_canonical.specs.declared.CanonicalRefusal.TheVariants.{Unknown, Misused, Bracketed}

-- ---- the words of an instruction

-- there is a first word
words_some : (w : ℕ) (o : Option ℕ) → 1 ≤ length (in_order w o)
words_some w None = omega arith
words_some w (Some v) = omega arith

-- a second word told is the second word
second_some : (o : Option ℕ) (w v : ℕ) → Some v ≡ o → in_order w o ≡ w ∷ v ∷ []
second_some None w v e = let z : ◌≡◌ {A = ℕ} 0 1 = cc in absurd (omega arith)
second_some (Some u) w v e = let z : v ≡ u = cc in rw z

-- none told is none
second_none : (o : Option ℕ) (w : ℕ) → None ≡ o → in_order w o ≡ w ∷ []
second_none None w e = refl
second_none (Some u) w e = let z : ◌≡◌ {A = ℕ} 0 1 = cc in absurd (omega arith)

module _ (m : BinaryInstruction) (n : ℕ) (words : List ℕ) (k : n + length (words_of m) ≤ length words) where
  -- there is room for the first word
  pub put_first : n < length words
  put_first = let w = words_some (first_word m) (second_word m) in omega arith

  module _ (o : Option ℕ) (e : o ≡ second_word m) where
    module _ (v : ℕ) (f : o ≡ Some v) where
      -- the words, where a second was told
      two_words : words_of m ≡ first_word m ∷ v ∷ []
      two_words = second_some (second_word m) (first_word m) v (sym f ∙ e)

      -- there is room for the second word
      pub put_second : n + 1 < length words
      put_second = let w = ap length two_words in omega arith

      -- the place after two words
      pub put_two : n + 2 ≡ n + length (words_of m)
      put_two = rw two_words

      -- both words written
      pub put_both : (w : ℕ) → w ≡ first_word m → set (set words n w) (n + 1) v ≡ sets words n (words_of m)
      put_both w g = rw (two_words, g, add-one n)

    module _ (f : o ≡ None) where
      -- the words, where none was told
      one_word : words_of m ≡ first_word m ∷ []
      one_word = second_none (second_word m) (first_word m) (sym f ∙ e)

      -- the place after one word
      pub put_one : n + 1 ≡ n + length (words_of m)
      put_one = rw one_word

      -- one word written
      pub put_alone : (w : ℕ) → w ≡ first_word m → set words n w ≡ sets words n (words_of m)
      put_alone w g = rw (one_word, g)

pub ruleset put_laws = (put_first, put_second, put_two, put_both, put_one, put_alone, rules)

-- ---- the words of the rows

module _ (s : List ℕ) (look : LookUp) (start end at : ℕ) (r : CanonicalAt) (e : r ≡ canonical_at s look start end at) (a : start ≤ end) (b : end ≤ length s) (h : at < length s) where
  -- what a row became stands before the words of the rows behind it
  words_row : (c : Result BinaryInstruction CanonicalRefusal) → r.found ≡ of_canonical c → held_words s look (rows_from s start end at) ≡ words_if c ++ held_words s look (rows_from s start end r.next)
  unfolding held_words
  words_row c f =
      let w = line_row s look start end at r a b e h c f in
      ap (held_words s look) w.rest ∙ ap (λ (x : Result BinaryInstruction CanonicalRefusal). words_if x ++ held_words s look (rows_from s start end r.next)) w.held

  -- a line that is no instruction row has no words
  pub words_skip : r.found ≡ Ok None → held_words s look (rows_from s start end at) ≡ held_words s look (rows_from s start end r.next)
  words_skip f = ap (held_words s look) (line_skip s look start end at r a b e h f)

  -- nor has a row that is refused
  pub words_refused : (c : CanonicalRefusal) → r.found ≡ Err c → held_words s look (rows_from s start end at) ≡ held_words s look (rows_from s start end r.next)
  words_refused Unknown f = words_row (Err Unknown) f
  words_refused Misused f = words_row (Err Misused) f
  words_refused Bracketed f = words_row (Err Bracketed) f

  module _ (n : ℕ) (new : List ℕ) (k : n + length (held_words s look (rows_from s start end at)) ≤ length new) where
    -- it leaves the room
    pub room_none : held_words s look (rows_from s start end at) ≡ held_words s look (rows_from s start end r.next) → n + length (held_words s look (rows_from s start end r.next)) ≤ length new
    room_none f = let w = ap length f in omega arith

    module _ (m : BinaryInstruction) (f : r.found ≡ Ok (Some m)) where
      -- an instruction's words and those behind it, counted
      words_count : length (held_words s look (rows_from s start end at)) ≡ length (words_of m) + length (held_words s look (rows_from s start end r.next))
      words_count = ap length (words_row (Ok m) f) ∙ length-append (words_of m) (held_words s look (rows_from s start end r.next))

      -- an instruction has room for its words
      pub room_made : n + length (words_of m) ≤ length new
      room_made = let w = words_count in omega arith

      -- and they leave room for the rest
      pub room_more : (p : ℕ) (next : List ℕ) → p ≡ n + length (words_of m) → next ≡ sets new n (words_of m) → p + length (held_words s look (rows_from s start end r.next)) ≤ length next
      room_more p next g i =
          let w = words_count in
          let l : length next ≡ length new = ap length i ∙ length-sets new n (words_of m) in
          omega arith

  module _ (n : ℕ) (old new : List ℕ) (t : sets old 0 (held_words s look (sorted_instructions s start end)) ≡ sets new n (held_words s look (rows_from s start end at))) where
    -- and what is to be written
    pub write_none : held_words s look (rows_from s start end at) ≡ held_words s look (rows_from s start end r.next) → sets old 0 (held_words s look (sorted_instructions s start end)) ≡ sets new n (held_words s look (rows_from s start end r.next))
    write_none f = t ∙ ap (sets new n) f

    -- an instruction's words more
    pub write_more : (m : BinaryInstruction) (p : ℕ) (next : List ℕ) → r.found ≡ Ok (Some m) → p ≡ n + length (words_of m) → next ≡ sets new n (words_of m)
        → sets old 0 (held_words s look (sorted_instructions s start end)) ≡ sets next p (held_words s look (rows_from s start end r.next))
    write_more m p next f g i =
        t
        ∙ ap (sets new n) (words_row (Ok m) f)
        ∙ sets_append (words_of m) (held_words s look (rows_from s start end r.next)) new n
        ∙ rw (g, i)

module _ (s : List ℕ) (look : LookUp) (start end : ℕ) (a : start ≤ end) (b : end ≤ length s) where
  -- the words from the start on are all of them
  pub write_start : (old : List ℕ) → sets old 0 (held_words s look (sorted_instructions s start end)) ≡ sets old 0 (held_words s look (rows_from s start end 0))
  write_start old = rw (rows_start s start end a b)

  -- there is room for them
  pub room_start : (old : List ℕ) → length (held_words s look (sorted_instructions s start end)) ≤ length old → 0 + length (held_words s look (rows_from s start end 0)) ≤ length old
  room_start old h = let w = ap (λ (is : List OlaAsmInstruction). length (held_words s look is)) (rows_start s start end a b) in omega arith

  -- at the source's end they are written
  pub write_end : (at n : ℕ) (old new : List ℕ) → length s ≤ at
      → sets old 0 (held_words s look (sorted_instructions s start end)) ≡ sets new n (held_words s look (rows_from s start end at))
      → new ≡ sets old 0 (held_words s look (sorted_instructions s start end))
  unfolding held_words
  write_end at n old new h t = sym (t ∙ rw (rows_end s start end at a b h))

-- an instruction's words keep the length
pub length_more : (m : BinaryInstruction) (n : ℕ) (old new next : List ℕ) → next ≡ sets new n (words_of m) → length new ≡ length old → length next ≡ length old
length_more m n old new next i l = ap length i ∙ length-sets new n (words_of m) ∙ l

pub ruleset write_laws = (line_laws, write_start, room_start, write_end, words_skip, words_refused, room_none, room_made, room_more, write_none, write_more, length_more, rules)

-- ---- a program whose names are all known

-- the words of the rows are those of the program
pub held_words_lem : (s : List ℕ) (look : LookUp) (k : ℕ) (is : List OlaAsmInstruction) (bs : List BinaryInstruction)
    → held_program s look k is ≡ ok bs → held_words s look is ≡ program_words bs
unfolding held_words program_words held_program
held_words_lem s look k [] bs e = rw (← (ok_same e))
held_words_lem s look k (i ∷ is) bs e =
    let w = accepted_first s look k i is bs e in
    rw (w.held, held_words_lem s look (suc k) is w.later w.rest) (ap program_words w.whole)
