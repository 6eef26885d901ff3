-- Laws of the writers of lines and words, in the shapes in which the functions ask for them.
use Rattle.std.specs.Prelude.{Option, Ok, Err}
use Prim.Native.Nat.{ℕ, ◌+◌, ◌-◌, ◌*◌, ◌^◌, ◌<◌, ◌≤◌}
use mathlib.Core.Path.{◌≡◌, sym, ap, ◌∙◌}
use mathlib.Core.List.{List, [], ◌++◌}
use mathlib.Core.Bool.{Bool, true, false, not}
use native.Mathlib.Omega.{arith}
use native.Mathlib.Nat.{zero-add}
use borrow.Author.Rules.{rules}
use borrow.Author.Tests.{ne_eqb, le-leb, lt-leb, leb-true, leb-false, lt-ltb, le-ltb}
use lib.Dec.{eqb, leb}
use lib.ListN.{length, get_or, drop, length-append, drop_of_length-le}
use lib.Seq.{sets}
use mir.Val.{Fits}
use mir.Syntax.{w64}
use Rattle.std.specs.Option.{unwrap_or}
use Rattle.text.specs.Answer.{Answer, ok, refused, ◌>>=◌, ◌>>◌, refuse_if, on_ok}
use Rattle.text.proofs.AnswerLaws.{sets_over}
use Rattle.text.proofs.Laws.{drop_next, told_not_true, told_not_false}
use Rattle.text_write.specs.Put.{put_count, put_into}
use Rattle.text_write.proofs.Laws.{sets_append, put_fits, count_fits, length_sixteen, fewest_most}
use Rattle.program.specs.Bytecode.{within, bytecode_of, bytecode_written, text_left}
use Rattle.program.specs.declared.WriteRefusal.TheVariants.{TextTooShort}
use Rattle.program_bytecode.specs.Left.{line_text, word_text, asks_number, left_text}
use Rattle.program_bytecode.specs.Written.{written_numbered, count_of}
use Rattle.program_bytecode.proofs.LeftLaws.{bytecode_left}

-- ---- a put that fits: u is the count that it answers
module _ (d : List ℕ) (at : ℕ) (w : List ℕ) (r : Option ℕ) (u : ℕ) (e : r ≡ put_count d at w) (f : u ≡ unwrap_or r 0) (h : at + length w ≤ length d) where
  pub put_long : u ≡ length w
  put_long = f ∙ ap (λ (o : Option ℕ). unwrap_or o 0) (e ∙ count_fits d at w h)

  -- where it ends
  pub put_end : at + u ≡ at + length w
  put_end = ap (λ (k : ℕ). at + k) put_long

  pub put_adds : length d * 1 < 2 ^ 63 → Fits w64 (at + u)
  put_adds l = let z = put_end in omega arith

  -- and what it leaves
  pub put_stored : (b : List ℕ) → b ≡ put_into d at w → b ≡ sets d at w
  put_stored b g = g ∙ put_fits d at w h

pub ruleset put_laws = (put_end, put_adds, put_stored, rules)

-- ---- line_length and word_length

-- a line has at most 18 bytes
pub line_most : (number : Bool) (w : ℕ) → w < 2 ^ 64 → length (line_text number w) ≤ 18
line_most true w h = fewest_most w h
line_most false w h = omega (arith, length_sixteen w)

-- ---- what is left from word i on
module _ (s : List ℕ) (i : ℕ) (number : Bool) where
  -- a word, and what is left behind it
  left_next : i < length s → left_text (eqb i 0) number (drop i s) ≡ word_text (eqb i 0) number (get_or s i 0) ++ left_text (eqb (i + 1) 0) (asks_number number (get_or s i 0)) (drop (i + 1) s)
  unfolding left_text
  left_next h = rw (drop_next s i h, ne_eqb (i + 1) 0 (λ e. omega arith))

  -- and their lengths
  left_long : i < length s → length (left_text (eqb i 0) number (drop i s)) ≡ length (word_text (eqb i 0) number (get_or s i 0)) + length (left_text (eqb (i + 1) 0) (asks_number number (get_or s i 0)) (drop (i + 1) s))
  left_long h = ap length (left_next h) ∙ length-append (word_text (eqb i 0) number (get_or s i 0)) (left_text (eqb (i + 1) 0) (asks_number number (get_or s i 0)) (drop (i + 1) s))

  -- nothing past the last
  left_none : length s ≤ i → left_text (eqb i 0) number (drop i s) ≡ []
  unfolding left_text
  left_none h = rw (drop_of_length-le s h)

  module _ (at : ℕ) (e : length (left_text true false s) ≡ at + length (left_text (eqb i 0) number (drop i s))) where
    -- all words passed: the text has as many bytes as were added up
    pub left_end : length s ≤ i → at ≡ length (left_text true false s)
    left_end h = let z = ap length (left_none h) in omega arith

    -- ---- fits: n is the length of word i
    module _ (room : ℕ) (k : at ≤ room) where
      -- all words passed: they fit
      pub all_fit : length s ≤ i → true ≡ leb (length (left_text true false s)) room
      all_fit h = sym (le-leb (length (left_text true false s)) room (let z = left_end h in omega arith))

      module _ (n : ℕ) (h : i < length s) (f : n ≡ length (word_text (eqb i 0) number (get_or s i 0))) where
        -- a word that does not fit: neither do all
        pub word_over : room - at < n → false ≡ leb (length (left_text true false s)) room
        word_over l =
            let z = left_long h in
            sym (lt-leb (length (left_text true false s)) room (omega arith))

    -- what is left behind word i, whose text ends at m
    pub left_more : (m : ℕ) (b : Bool) → i < length s → m ≡ at + length (word_text (eqb i 0) number (get_or s i 0)) → b ≡ asks_number number (get_or s i 0)
        → length (left_text true false s) ≡ m + length (left_text (eqb (i + 1) 0) b (drop (i + 1) s))
    left_more m b h f g =
        let z = left_long h in
        rw g (omega arith)

    -- the same where n is the length of word i
    pub left_added : (n : ℕ) (b : Bool) → i < length s → n ≡ length (word_text (eqb i 0) number (get_or s i 0)) → b ≡ asks_number number (get_or s i 0)
        → length (left_text true false s) ≡ (at + n) + length (left_text (eqb (i + 1) 0) b (drop (i + 1) s))
    left_added n b h f g = left_more (at + n) b h (ap (λ (k : ℕ). at + k) f) g

    -- word i lies within a text that has room for all
    pub word_within : (d t : List ℕ) → i < length s → length (left_text true false s) ≤ length d → length t ≡ length d → at + length (word_text (eqb i 0) number (get_or s i 0)) ≤ length t
    word_within d t h l m =
        let z = left_long h in
        omega arith

  -- ---- write_words: t is the text d when the words before word i are written
  module _ (d t : List ℕ) (at : ℕ) (e : sets d 0 (left_text true false s) ≡ sets t at (left_text (eqb i 0) number (drop i s))) where
    -- word i is written too
    pub written_more : (u : List ℕ) (m : ℕ) (b : Bool) → i < length s → u ≡ sets t at (word_text (eqb i 0) number (get_or s i 0)) → m ≡ at + length (word_text (eqb i 0) number (get_or s i 0))
        → b ≡ asks_number number (get_or s i 0) → sets d 0 (left_text true false s) ≡ sets u m (left_text (eqb (i + 1) 0) b (drop (i + 1) s))
    written_more u m b h f g k =
        e
        ∙ ap (sets t at) (left_next h)
        ∙ sets_append (word_text (eqb i 0) number (get_or s i 0)) (left_text (eqb (i + 1) 0) (asks_number number (get_or s i 0)) (drop (i + 1) s)) t at
        ∙ sym (rw (f, g, k))

    -- all words passed: the text is written
    pub written_end : length s ≤ i → t ≡ sets d 0 (left_text true false s)
    written_end h = sym (e ∙ ap (sets t at) (left_none h))

-- before the first word all is left
pub left_start : (s : List ℕ) → length (left_text true false s) ≡ 0 + length (left_text (eqb 0 0) false (drop 0 s))
left_start s = sym (zero-add (length (left_text true false s)))

pub ruleset fits_laws = (left_start, left_added, all_fit, word_over, rules)

pub ruleset words_laws = (left_start, left_more, left_end, word_within, written_more, written_end, rules)

-- ---- a text and the room for it

-- too little: 23
within_short : (room : ℕ) (w : List ℕ) → room < length w → within room w ≡ refused 23 0
unfolding within ◌>>◌ refuse_if
within_short room w h = rw (lt-ltb room (length w) h)

-- enough
within_fits : (room : ℕ) (w : List ℕ) → length w ≤ room → within room w ≡ ok w
unfolding within ◌>>◌ refuse_if
within_fits room w h = rw (le-ltb room (length w) h)

module _ (d w : List ℕ) where
  -- what is stored from the start on lies over what stood there
  pub stored_left : length w ≤ length d → sets d 0 w ≡ text_left (within (length d) w) d
  unfolding on_ok
  stored_left h = sets_over w d h ∙ sym (ap (λ (a : Answer (List ℕ)). text_left a d) (within_fits (length d) w h))

  -- a text that is too short is left as it was
  pub kept_left : length d < length w → d ≡ text_left (within (length d) w) d
  unfolding on_ok
  kept_left h = sym (ap (λ (a : Answer (List ℕ)). text_left a d) (within_short (length d) w h))

  -- the count of what is written
  pub count_left : length w ≤ length d → ok (length w) ≡ count_of (within (length d) w)
  unfolding ◌>>=◌
  count_left h = sym (ap count_of (within_fits (length d) w h))

  -- 23
  pub short_left : length d < length w → refused 23 0 ≡ count_of (within (length d) w)
  unfolding ◌>>=◌
  short_left h = sym (ap count_of (within_short (length d) w h))

-- ---- write_bytecode: t is whether the text of the words fits
module _ (s d : List ℕ) (t : Bool) (e : t ≡ leb (length (left_text true false s)) (length d)) where
  -- what does not fit is longer than the text
  over_long : not t ≡ true → length d < length (bytecode_of s)
  over_long h = rw (bytecode_left s) (leb-false _ _ (told_not_true t _ e h))

  -- what fits is not
  pub words_fit : not t ≡ false → length (left_text true false s) ≤ length d
  words_fit h = leb-true _ _ (told_not_false t _ e h)

  -- nor is the bytecode, which is the same
  fit_long : not t ≡ false → length (bytecode_of s) ≤ length d
  fit_long h = rw (bytecode_left s) (words_fit h)

  -- 23 is answered
  pub short_answer : not t ≡ true → written_numbered (Err TextTooShort) ≡ count_of (bytecode_written s (length d))
  short_answer h = short_left d (bytecode_of s) (over_long h)

  -- and the text left as it was
  pub short_text : not t ≡ true → d ≡ text_left (bytecode_written s (length d)) d
  short_text h = kept_left d (bytecode_of s) (over_long h)

  -- the count is answered
  pub done_answer : (n : ℕ) → not t ≡ false → n ≡ length (left_text true false s) → written_numbered (Ok n) ≡ count_of (bytecode_written s (length d))
  done_answer n h f = ap ok (f ∙ ap length (sym (bytecode_left s))) ∙ count_left d (bytecode_of s) (fit_long h)

  -- and the bytecode written
  pub done_text : (b : List ℕ) → not t ≡ false → b ≡ sets d 0 (left_text true false s) → b ≡ text_left (bytecode_written s (length d)) d
  done_text b h f = f ∙ ap (sets d 0) (sym (bytecode_left s)) ∙ stored_left d (bytecode_of s) (fit_long h)

pub ruleset bytecode_laws = (words_fit, short_answer, short_text, done_answer, done_text, rules)
