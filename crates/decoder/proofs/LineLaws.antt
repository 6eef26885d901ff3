-- The lines of a bytecode are those that were joined, and how long it is.
use Rattle.std.specs.Prelude.{Option, Some, None}
use Prim.Native.Nat.{ℕ, suc, ◌+◌, ◌-◌, ◌*◌, ◌^◌, ◌<◌, ◌≤◌}
use mathlib.Core.Path.{◌≡◌, refl, ap, ◌∙◌}
use mathlib.Core.List.{List, [], ◌∷◌, ◌++◌}
use mathlib.Core.Bool.{Bool, true, false, ◌||◌, and-eq-true_iff, cond}
use native.Mathlib.Omega.{arith}
use lib.Dec.{eqb}
use lib.ListN.{length, get_or, length-append}
use Rattle.text.specs.Bytes.{is_digit}
use Rattle.text.specs.Scan.{all, parts, is_empty}
use Rattle.text.specs.Lines.{is_feed, without_return, ended, lines}
use Rattle.text.specs.All.{All, none_left, one_more}
use Rattle.text.proofs.Laws.{other_byte}
use Rattle.text_read.specs.Numerals.{digit_value, is_digit_of}
use Rattle.text_write.specs.Digits.{digits_of, digit_count, prefixed_text, fewest_text, sixteen_text}
use Rattle.text_write.proofs.Laws.{length_sixteen, fewest_most}
use Rattle.vm_operands.proofs.DigitLaws.{digits_all}
use Rattle.program.specs.Groups.{grouped, has_second}
use Rattle.program.specs.Bytecode.{lines_of_groups, word_lines, joined, bytecode_of}

-- ---- joining and splitting undo each other for lines that are not empty and whose bytes pass a test that neither ending passes
module _ (p : ℕ → Bool) (feed : p 10 ≡ false) (return : p 13 ≡ false) where
  -- one line in front of a feed, and one alone
  front_part : (l rest : List ℕ) → all p l ≡ true → parts is_feed (l ++ 10 ∷ rest) ≡ l ∷ parts is_feed rest
  unfolding all parts
  front_part [] rest h = refl
  front_part (x ∷ l) rest h =
      let a = (and-eq-true_iff (p x) (all p l)).0 h in
      rw (other_byte p x 10 a.0 feed, front_part l rest a.1)

  lone_part : (l : List ℕ) → all p l ≡ true → parts is_feed l ≡ l ∷ []
  unfolding all parts
  lone_part [] h = refl
  lone_part (x ∷ l) h =
      let a = (and-eq-true_iff (p x) (all p l)).0 h in
      rw (other_byte p x 10 a.0 feed, lone_part l a.1)

  last_passes : (x : ℕ) (l : List ℕ) → all p (x ∷ l) ≡ true → p (get_or (x ∷ l) (length l) 0) ≡ true
  unfolding all
  last_passes x [] h = ((and-eq-true_iff (p x) true).0 h).0
  last_passes x (y ∷ l) h = last_passes y l ((and-eq-true_iff (p x) (all p (y ∷ l))).0 h).1

  return_none : (l : List ℕ) → all p l ≡ true → without_return l ≡ l
  return_none [] h = refl
  return_none (x ∷ l) h =
      let e : suc (length l) - 1 ≡ length l = omega arith in
      rw (e, other_byte p (get_or (x ∷ l) (length l) 0) 13 (last_passes x l h) return)

  abbrev Whole : List ℕ → Type 0
  Whole l = (is_empty l ≡ false) × (all p l ≡ true)

  parts_joined : (l : List ℕ) (ls : List (List ℕ)) → All Whole (l ∷ ls) → parts is_feed (joined (l ∷ ls)) ≡ l ∷ ls
  unfolding joined
  parts_joined l [] (one_more h c) = lone_part l h.1
  parts_joined l (m ∷ ls) (one_more h c) = front_part l (joined (m ∷ ls)) h.1 ∙ ap (λ ps. l ∷ ps) (parts_joined m ls c)

  ended_whole : (ls : List (List ℕ)) → All Whole ls → ended ls ≡ ls
  unfolding ended
  ended_whole [] c = refl
  ended_whole (l ∷ []) (one_more h c) = rw h.0
  ended_whole (l ∷ m ∷ ls) (one_more h c) = rw (return_none l h.1, ended_whole (m ∷ ls) c)

  -- so splitting gives the lines that were joined
  lines_joined : (ls : List (List ℕ)) → All Whole ls → lines (joined ls) ≡ ls
  unfolding lines joined parts ended
  lines_joined [] c = refl
  lines_joined (l ∷ ls) c = ap ended (parts_joined l ls c) ∙ ended_whole (l ∷ ls) c

-- ---- what holds of the lines of words
module _ (Q : ℕ → Type 0) (P : List ℕ → Type 0) (first : (w : ℕ) → Q w → P (sixteen_text w)) (second : (v : ℕ) → Q v → P (fewest_text v)) where
  -- of a first that waits for its second
  abbrev Waiting : Option ℕ → Type 0
  Waiting None = Unit {0}
  Waiting (Some a) = Q a

  lines_from : (o : Option ℕ) (ws : List ℕ) → Waiting o → All Q ws → All P (lines_of_groups (grouped has_second o ws))
  unfolding lines_of_groups grouped
  lines_from None [] q c = none_left
  lines_from (Some a) [] q c = one_more (first a q) none_left
  lines_from (Some a) (b ∷ bs) q (one_more r c) = one_more (first a q) (one_more (second b r) (lines_from None bs tt c))
  lines_from None (a ∷ as') q (one_more r c) = go (has_second a) (lines_from (Some a) as' r c) (lines_from None as' tt c)
    where
      go : (t : Bool) → All P (lines_of_groups (grouped has_second (Some a) as')) → All P (lines_of_groups (grouped has_second None as'))
          → All P (lines_of_groups (let rest = grouped has_second (cond t (Some a) None) as' in cond t rest (record { first = a; second = None } ∷ rest)))
      go true x y = x
      go false x y = one_more (first a r) y

  lines_hold : (ws : List ℕ) → All Q ws → All P (word_lines ws)
  lines_hold ws c = lines_from None ws tt c

-- what holds of any entry
any : {A : Type 0} (P : A → Type 0) → ((x : A) → P x) → (xs : List A) → All P xs
any P f [] = none_left
any P f (x ∷ xs) = one_more (f x) (any P f xs)

-- ---- a line of a word is `0x` and digits
abbrev is_code : ℕ → Bool
is_code b = is_digit_of 16 b || eqb b 120

digits_code : (l : List ℕ) → all (is_digit_of 16) l ≡ true → all is_code l ≡ true
unfolding all
digits_code [] h = refl
digits_code (x ∷ l) h = let a = (and-eq-true_iff (is_digit_of 16 x) (all (is_digit_of 16) l)).0 h in rw (a.0, digits_code l a.1)

prefixed_whole : (n v : ℕ) → (is_empty (prefixed_text n v) ≡ false) × (all is_code (prefixed_text n v) ≡ true)
unfolding all digit_value is_digit
prefixed_whole n v = (refl, digits_code (digits_of 16 n v) (digits_all 16 (omega arith) (omega arith) n v))

-- Splitting a bytecode into lines gives the lines of its words.
pub lines_bytecode : (ws : List ℕ) → lines (bytecode_of ws) ≡ word_lines ws
unfolding digit_value is_digit
lines_bytecode ws =
    lines_joined is_code refl refl (word_lines ws)
    (lines_hold (λ w. Unit {0}) (λ l. (is_empty l ≡ false) × (all is_code l ≡ true))
    (λ w u. prefixed_whole 16 w)
    (λ v u. prefixed_whole (digit_count 16 63 v) v)
    ws (any (λ w. Unit {0}) (λ w. tt) ws))

-- ---- how long it is

-- lines of at most 18 bytes, each but the last with a feed
joined_most : (ls : List (List ℕ)) → All (λ l. length l ≤ 18) ls → length (joined ls) ≤ 19 * length ls
unfolding joined
joined_most [] c = omega arith
joined_most (l ∷ []) (one_more h c) = omega arith
joined_most (l ∷ m ∷ ls) (one_more h c) =
    let r = joined_most (m ∷ ls) c in
    let e = length-append l (10 ∷ joined (m ∷ ls)) in
    omega arith

abbrev counted : Option ℕ → ℕ
counted None = 0
counted (Some a) = 1

lines_count_from : (o : Option ℕ) (ws : List ℕ) → length (lines_of_groups (grouped has_second o ws)) ≡ counted o + length ws
unfolding lines_of_groups grouped
lines_count_from None [] = refl
lines_count_from (Some a) [] = refl
lines_count_from (Some a) (b ∷ bs) = let h = lines_count_from None bs in omega arith
lines_count_from None (a ∷ as') = go (has_second a) (lines_count_from (Some a) as') (lines_count_from None as')
  where
    go : (t : Bool) → length (lines_of_groups (grouped has_second (Some a) as')) ≡ 1 + length as' → length (lines_of_groups (grouped has_second None as')) ≡ 0 + length as'
        → length (lines_of_groups (let rest = grouped has_second (cond t (Some a) None) as' in cond t rest (record { first = a; second = None } ∷ rest))) ≡ 0 + suc (length as')
    go true x y = omega arith
    go false x y = omega arith

-- as many lines as words
pub lines_count : (ws : List ℕ) → length (word_lines ws) ≡ length ws
lines_count ws = lines_count_from None ws ∙ omega arith

-- A bytecode has at most 19 bytes for a word.
pub bytecode_length : (ws : List ℕ) → All (λ w. w < 2 ^ 64) ws → length (bytecode_of ws) ≤ 19 * length ws
bytecode_length ws c =
    let h = joined_most (word_lines ws) (lines_hold (λ w. w < 2 ^ 64) (λ l. length l ≤ 18) (λ w b. rw (length_sixteen w) (omega arith)) fewest_most ws c) in
    let k = lines_count ws in
    omega arith
