-- Laws of the writers of rows and reports, in the shapes in which the functions ask for them.
use Rattle.std.specs.Prelude.{Option, Some, None, Result, Ok, Err}
use Prim.Native.Nat.{ℕ, suc, ◌+◌, ◌-◌, ◌*◌, ◌^◌, ◌<◌, ◌≤◌}
use mathlib.Core.Path.{◌≡◌, refl, sym, ap, ◌∙◌}
use mathlib.Core.List.{List, [], ◌∷◌, ◌++◌}
use mathlib.Core.Bool.{Bool, true, false, not}
use native.Mathlib.Omega.{arith}
use native.Mathlib.Nat.{zero-add}
use native.Mathlib.Numerals.{add-one}
use borrow.Author.Rules.{rules}
use borrow.Author.Tests.{le-leb, lt-leb, leb-true, leb-false, lt-ltb, le-ltb}
use lib.Dec.{leb}
use lib.ListN.{length, get_or, take, drop, set, length-append, length-set, drop_of_length-le}
use lib.Seq.{sets, length-sets, length-take-le}
use mir.Val.{Fits}
use mir.Syntax.{w64}
use Rattle.text.proofs.AnswerLaws.{sets_over}
use Rattle.std.specs.Option.{ok_or}
use Rattle.text.specs.Bytes.{bytes}
use Rattle.text.specs.Answer.{ok, refused}
use Rattle.text.proofs.Laws.{drop_next, told_not_true, told_not_false}
use Rattle.text_write.specs.Digits.{decimal_text}
use Rattle.text_write.specs.Put.{put_count, put_into}
use Rattle.text_write.proofs.Laws.{sets_append, put_fits, put_over, put_row, length_put, count_told, fits_told, over_told, decimal_most}
use Rattle.program.specs.declared.WriteRefusal.{WriteRefusal}
use Rattle.program.specs.declared.WriteRefusal.TheVariants.{TextTooShort}
use Rattle.program_bytecode.specs.Left.{line_text, asks_number}
use Rattle.program_bytecode.proofs.Laws.{line_most}
use Rattle.encoder.specs.Printing.{two_fields, reported}
use Rattle.encoder_report.specs.Left.{row_text, rows_left}
use Rattle.encoder_report.specs.Printed.{printed_numbered, printed_count, printed_into, reported_words}
use Rattle.encoder_report.proofs.LeftLaws.{numbered_left}

-- ---- two fields: a, a space, b, a line feed
two_long : (a b : List ℕ) → length (two_fields a b) ≡ length a + length b + 2
two_long a b =
    let z = length-append a (32 ∷ []) in
    let y = length-append (a ++ (32 ∷ [])) b in
    let x = length-append ((a ++ (32 ∷ [])) ++ b) (10 ∷ []) in
    omega arith

-- two fields, a space between them and a line feed behind: d is the text, u what it holds when a is written, v when b is
module _ (d a b : List ℕ) (at : ℕ) (h : at + length a + length b + 2 ≤ length d) where
  pub first_within : at + length a ≤ length d
  first_within = omega arith

  module _ (u : List ℕ) (space : ℕ) (e : u ≡ sets d at a) (f : space ≡ at + length a) where
    kept_long : length u ≡ length d
    kept_long = ap length e ∙ length-sets d at a

    pub space_within : space < length u
    space_within = let z = kept_long in omega arith

    pub space_fits : length d * 1 < 2 ^ 63 → Fits w64 (space + 1)
    space_fits l = omega arith

    pub second_within : (space + 1) + length b ≤ length (set u space 32)
    second_within = let z = kept_long in simp length-set (omega arith)

    module _ (v : List ℕ) (feed : ℕ) (k : v ≡ sets (set u space 32) (space + 1) b) (l : feed ≡ (space + 1) + length b) where
      written_long : length v ≡ length d
      written_long = ap length k ∙ length-sets (set u space 32) (space + 1) b ∙ length-set u space 32 ∙ kept_long

      pub feed_within : feed < length v
      feed_within = let z = written_long in omega arith

      pub feed_fits : length d * 1 < 2 ^ 63 → Fits w64 (feed + 1)
      feed_fits m = omega arith

      pub fields_kept : length (set v feed 10) ≡ length d
      fields_kept = length-set v feed 10 ∙ written_long

      pub fields_end : feed + 1 ≡ at + length (two_fields a b)
      fields_end = let z = two_long a b in omega arith

      pub fields_stored : set v feed 10 ≡ sets d at (two_fields a b)
      fields_stored =
          let z : at + length (a ++ (32 ∷ [])) ≡ suc (at + length a) = omega (arith, length-append a (32 ∷ [])) in
          let y : at + length ((a ++ (32 ∷ [])) ++ b) ≡ suc (at + length a) + length b = omega (arith, length-append a (32 ∷ []), length-append (a ++ (32 ∷ [])) b) in
          rw (k, e, l, f, add-one (at + length a))
          (sym
          (sets_append ((a ++ (32 ∷ [])) ++ b) (10 ∷ []) d at
          ∙ ap (λ (x : List ℕ). set x (at + length ((a ++ (32 ∷ [])) ++ b)) 10) (sets_append (a ++ (32 ∷ [])) b d at ∙ ap (λ (x : List ℕ). sets x (at + length (a ++ (32 ∷ []))) b) (sets_append a (32 ∷ []) d at))
          ∙ rw (y, z) refl))

pub ruleset fields_laws = (first_within, space_within, space_fits, second_within, feed_within, feed_fits, fields_kept, fields_end, fields_stored, rules)

-- ---- row_length: a row has at most 40 bytes
pub row_within : (d : List ℕ) (k w : ℕ) (number : Bool) → k < 2 ^ 64 → w < 2 ^ 64 → length d ≡ 40 → 0 + length (decimal_text k) + length (line_text number w) + 2 ≤ length d
row_within d k w number h l m =
    let z = decimal_most k h in
    let y = line_most number w l in
    omega arith

pub ruleset row_laws = (row_within, rules)

-- ---- what is left from word i on: a row and what is left behind it, or nothing
module _ (s : List ℕ) (i : ℕ) (number : Bool) where
  rows_next : i < length s → rows_left i number (drop i s) ≡ row_text i number (get_or s i 0) ++ rows_left (i + 1) (asks_number number (get_or s i 0)) (drop (i + 1) s)
  unfolding rows_left
  rows_next h = rw (drop_next s i h, add-one i)

  rows_none : length s ≤ i → rows_left i number (drop i s) ≡ []
  unfolding rows_left
  rows_none h = rw (drop_of_length-le s h)

  next_long : i < length s → length (rows_left i number (drop i s)) ≡ length (row_text i number (get_or s i 0)) + length (rows_left (i + 1) (asks_number number (get_or s i 0)) (drop (i + 1) s))
  next_long h = ap length (rows_next h) ∙ length-append (row_text i number (get_or s i 0)) (rows_left (i + 1) (asks_number number (get_or s i 0)) (drop (i + 1) s))

  module _ (start at : ℕ) (e : start + length (rows_left 0 false s) ≡ at + length (rows_left i number (drop i s))) where
    -- all words passed: the rows end where was reached
    pub rows_end : length s ≤ i → at ≡ start + length (rows_left 0 false s)
    rows_end h = let z = ap length (rows_none h) in omega arith

    -- what is left behind word i, whose row ends at m
    pub rows_more : (m : ℕ) (b : Bool) → i < length s → m ≡ at + length (row_text i number (get_or s i 0)) → b ≡ asks_number number (get_or s i 0)
        → start + length (rows_left 0 false s) ≡ m + length (rows_left (i + 1) b (drop (i + 1) s))
    rows_more m b h f g = let z = next_long h in rw g (omega arith)

    -- the same where n is the length of word i's row
    pub rows_added : (n : ℕ) (b : Bool) → i < length s → n ≡ length (row_text i number (get_or s i 0)) → b ≡ asks_number number (get_or s i 0)
        → start + length (rows_left 0 false s) ≡ (at + n) + length (rows_left (i + 1) b (drop (i + 1) s))
    rows_added n b h f g = rows_more (at + n) b h (ap (λ (k : ℕ). at + k) f) g

    -- ---- rows_fit
    module _ (room : ℕ) (k : at ≤ room) where
      pub rows_all_fit : length s ≤ i → true ≡ leb (start + length (rows_left 0 false s)) room
      rows_all_fit h = sym (le-leb (start + length (rows_left 0 false s)) room (let z = rows_end h in omega arith))

      pub row_over : (n : ℕ) → i < length s → n ≡ length (row_text i number (get_or s i 0)) → room - at < n → false ≡ leb (start + length (rows_left 0 false s)) room
      row_over n h f l = let z = next_long h in sym (lt-leb (start + length (rows_left 0 false s)) room (omega arith))

    -- word i's row lies within a text that has room for all
    pub row_inside : (d t : List ℕ) → i < length s → start + length (rows_left 0 false s) ≤ length d → length t ≡ length d → at + length (decimal_text i) + length (line_text number (get_or s i 0)) + 2 ≤ length t
    row_inside d t h l m = let z = next_long h in let y = two_long (decimal_text i) (line_text number (get_or s i 0)) in omega arith

  -- ---- write_rows: t is the text d when the rows before word i's are written
  module _ (d t : List ℕ) (start at : ℕ) (e : sets d start (rows_left 0 false s) ≡ sets t at (rows_left i number (drop i s))) where
    pub rows_written : (u : List ℕ) (m : ℕ) (b : Bool) → i < length s → u ≡ sets t at (row_text i number (get_or s i 0)) → m ≡ at + length (row_text i number (get_or s i 0))
        → b ≡ asks_number number (get_or s i 0) → sets d start (rows_left 0 false s) ≡ sets u m (rows_left (i + 1) b (drop (i + 1) s))
    rows_written u m b h f g k =
        e
        ∙ ap (sets t at) (rows_next h)
        ∙ sets_append (row_text i number (get_or s i 0)) (rows_left (i + 1) (asks_number number (get_or s i 0)) (drop (i + 1) s)) t at
        ∙ sym (rw (f, g, k))

    pub rows_done : length s ≤ i → t ≡ sets d start (rows_left 0 false s)
    rows_done h = sym (e ∙ ap (sets t at) (rows_none h))

-- the rows do not fit where they start behind the room
pub start_over : (s : List ℕ) (start room : ℕ) → room < start → false ≡ leb (start + length (rows_left 0 false s)) room
start_over s start room h = sym (lt-leb (start + length (rows_left 0 false s)) room (omega arith))

pub ruleset fit_laws = (start_over, rows_added, rows_all_fit, row_over, rules)

pub ruleset rows_laws = (rows_more, rows_end, row_inside, rows_written, rows_done, rules)

-- ---- a report and a text: too short for it, or with room for it
module _ (d w : List ℕ) where
  short_count : length d < length w → refused 23 0 ≡ printed_count (length d) w
  unfolding printed_count
  short_count h = rw (lt-ltb (length d) (length w) h)

  short_kept : length d < length w → d ≡ printed_into w d
  unfolding printed_into
  short_kept h = rw (lt-ltb (length d) (length w) h)

  room_count : length w ≤ length d → ok (length w) ≡ printed_count (length d) w
  unfolding printed_count
  room_count h = rw (le-ltb (length d) (length w) h)

  room_stored : length w ≤ length d → sets d 0 w ≡ printed_into w d
  unfolding printed_into
  room_stored h = rw (le-ltb (length d) (length w) h) (sets_over w d h)

-- ---- a line of names and what stands behind it
module _ (d u head rest : List ℕ) (e : u ≡ put_into d 0 head) where
  head_kept : length u ≡ length d
  head_kept = ap length e ∙ length_put d 0 head

  head_stored : length (head ++ rest) ≤ length d → sets u (length head) rest ≡ sets d 0 (head ++ rest)
  head_stored h =
      let z = length-append head rest in
      ap (λ (x : List ℕ). sets x (length head) rest) (e ∙ put_fits d 0 head (omega arith))
      ∙ sym (sets_append head rest d 0 ∙ ap (λ (k : ℕ). sets (sets d 0 head) k rest) (zero-add (length head)))

-- ---- print_words
abbrev words_head : List ℕ
words_head = two_fields (bytes "address") (bytes "word")

reported_left : (s : List ℕ) → reported_words s ≡ words_head ++ rows_left 0 false s
reported_left s = ap (λ (r : List ℕ). words_head ++ r) (numbered_left s)

reported_long : (s : List ℕ) → length (reported_words s) ≡ 13 + length (rows_left 0 false s)
reported_long s = ap length (reported_left s) ∙ length-append words_head (rows_left 0 false s)

module _ (d s : List ℕ) (t : Bool) (e : t ≡ leb (13 + length (rows_left 0 false s)) (length d)) where
  words_over : not t ≡ true → length d < length (reported_words s)
  words_over h = let z = reported_long s in let y = leb-false (13 + length (rows_left 0 false s)) (length d) (told_not_true t _ e h) in omega arith

  words_fit : not t ≡ false → length (reported_words s) ≤ length d
  words_fit h = let z = reported_long s in let y = leb-true (13 + length (rows_left 0 false s)) (length d) (told_not_false t _ e h) in omega arith

  pub words_short : not t ≡ true → printed_numbered (Err TextTooShort) ≡ printed_count (length d) (reported_words s)
  words_short h = short_count d (reported_words s) (words_over h)

  pub words_kept : not t ≡ true → d ≡ printed_into (reported_words s) d
  words_kept h = short_kept d (reported_words s) (words_over h)

  pub words_counted : (n : ℕ) → not t ≡ false → n ≡ 13 + length (rows_left 0 false s) → printed_numbered (Ok n) ≡ printed_count (length d) (reported_words s)
  words_counted n h f = ap ok (f ∙ sym (reported_long s)) ∙ room_count d (reported_words s) (words_fit h)

  module _ (u : List ℕ) (f : u ≡ put_into d 0 (two_fields (bytes "address") (bytes "word"))) where
    pub words_inside : not t ≡ false → 13 + length (rows_left 0 false s) ≤ length u
    words_inside h = let z = reported_long s in let y = words_fit h in let x = head_kept d u words_head (rows_left 0 false s) f in omega arith

    pub words_stored : (b : List ℕ) → not t ≡ false → b ≡ sets u 13 (rows_left 0 false s) → b ≡ printed_into (reported_words s) d
    words_stored b h g =
        g
        ∙ head_stored d u words_head (rows_left 0 false s) f (let z = ap length (reported_left s) in let y = words_fit h in omega arith)
        ∙ ap (sets d 0) (sym (reported_left s))
        ∙ room_stored d (reported_words s) (words_fit h)

pub ruleset words_laws = (words_short, words_kept, words_counted, words_inside, words_stored, rules)

-- ---- write_refusal and print_refusal
abbrev refusal_head : List ℕ
refusal_head = two_fields (bytes "refusal") (bytes "detail")

refusal_long : (n m : ℕ) → length (reported (refused n m)) ≡ 15 + length (decimal_text n) + length (decimal_text m) + 2
refusal_long n m =
    let z = length-append refusal_head (two_fields (decimal_text n) (decimal_text m)) in
    let y = two_long (decimal_text n) (decimal_text m) in
    omega arith

module _ (d : List ℕ) (n m : ℕ) where
  module _ (u : List ℕ) (h : 15 + length (decimal_text n) + length (decimal_text m) + 2 ≤ length d) (f : u ≡ put_into d 0 (two_fields (bytes "refusal") (bytes "detail"))) where
    pub refusal_stored : (b : List ℕ) → b ≡ sets u 15 (two_fields (decimal_text n) (decimal_text m)) → b ≡ sets d 0 (reported (refused n m))
    refusal_stored b g = g ∙ head_stored d u refusal_head (two_fields (decimal_text n) (decimal_text m)) f (let z = refusal_long n m in omega arith)

pub ruleset refusal_laws = (refusal_stored, rules)

-- ---- print_refusal

-- a refusal's report has at most 57 bytes
pub refusal_within : (n m : ℕ) → n < 2 ^ 64 → m < 2 ^ 64 → 15 + length (decimal_text n) + length (decimal_text m) + 2 ≤ 57
refusal_within n m h k = omega (arith, decimal_most n h, decimal_most m k)

-- u is a local text of 57 bytes with the report at its start, of k bytes; d is the text that it is put into
module _ (n m k : ℕ) (u : List ℕ) (h : n < 2 ^ 64) (l : m < 2 ^ 64) (e : k ≡ length (reported (refused n m))) where
  pub refusal_inside : length u ≡ 57 → k ≤ length u
  refusal_inside f =
      let z = refusal_long n m in
      let y = refusal_within n m h l in
      omega arith

  pub taken_long : length u ≡ 57 → k ≡ length (take k u)
  taken_long f = sym (length-take-le k u (refusal_inside f))

  pub refusal_taken : (c : List ℕ) → length c ≡ 57 → u ≡ sets c 0 (reported (refused n m)) → take k u ≡ reported (refused n m)
  refusal_taken c f g =
      let z = refusal_long n m in
      let y = refusal_within n m h l in
      let w = put_fits c 0 (reported (refused n m)) (omega arith) in
      ap (λ (j : ℕ). take j u) (e ∙ sym (zero-add (length (reported (refused n m))))) ∙ put_row c 0 (reported (refused n m)) (omega arith) u (g ∙ sym w)

module _ (d w v : List ℕ) (e : v ≡ w) where
  put_answer : (r : Option ℕ) → r ≡ put_count d 0 v → printed_numbered (ok_or r TextTooShort) ≡ printed_count (length d) w
  put_answer (Some n) f = let k = fits_told d 0 v (Some n) f n refl in ap ok (count_told d 0 v (Some n) f n refl ∙ ap length e) ∙ room_count d w (let z = ap length e in omega arith)
  put_answer None f = let k = over_told d 0 v None f refl in short_count d w (let z = ap length e in omega arith)

  pub put_printed : (r : Option ℕ) → r ≡ put_count d 0 v → (q : Result ℕ WriteRefusal) → q ≡ ok_or r TextTooShort → printed_numbered q ≡ printed_count (length d) w
  put_printed r f q g = ap printed_numbered g ∙ put_answer r f

  pub put_stored : (r : Option ℕ) → r ≡ put_count d 0 v → (b : List ℕ) → b ≡ put_into d 0 v → b ≡ printed_into w d
  put_stored (Some n) f b g = let k = fits_told d 0 v (Some n) f n refl in g ∙ put_fits d 0 v k ∙ ap (sets d 0) e ∙ room_stored d w (let z = ap length e in omega arith)
  put_stored None f b g = let k = over_told d 0 v None f refl in g ∙ put_over d 0 v k ∙ short_kept d w (let z = ap length e in omega arith)

pub ruleset print_laws = (refusal_within, refusal_inside, refusal_taken, put_printed, put_stored, taken_long, rules)
