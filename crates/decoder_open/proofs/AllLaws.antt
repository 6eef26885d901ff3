-- Every first word read and every instruction decoded, by what the instruction from an offset on is.
use Rattle.std.specs.Prelude.{Option, Some, None, Result, Ok, Err, ⊤}
use Prim.Native.Nat.{ℕ, suc, ◌+◌, ◌-◌, ◌^◌, ◌<◌, ◌≤◌}
use mathlib.Core.Path.{◌≡◌, refl, sym, ap, subst, ◌∙◌}
use mathlib.Core.List.{List, [], ◌∷◌}
use mathlib.Core.Bool.{true, false, true≢false, cond}
use native.Mathlib.Omega.{arith}
use borrow.Author.Rules.{rules}
use mir.Val.{Fits}
use mir.Syntax.{w64}
use lib.Dec.{eqb}
use lib.ListN.{length, take, drop}
use Rattle.text.specs.Lines.{lines}
use Rattle.text.specs.Answer.{Answer, ok, refused, ◌>>=◌, ◌>>◌, refuse_at}
use Rattle.program.specs.Groups.{Group}
use Rattle.program.specs.declared.BinaryInstruction.{BinaryInstruction}
use Rattle.decoder.specs.Lines.{line_groups, is_complete, complete_of, first_unreadable}
use Rattle.decoder.specs.Decode.{decoded, on_first, group_decoded}
use Rattle.decoder.specs.Open.{open_number, open_detail, all_decoded}
use Rattle.decoder.specs.Steps.{accepted_of, open_numbered, ReadAt}
use Rattle.decoder.specs.declared.OpenRefusal.{OpenRefusal}
use Rattle.decoder.specs.declared.OpenRefusal.TheVariants.{TextTooLong, FirstWordUnreadable, NoOperation, LineTooMany, SecondLineUnreadable, RegisterMissing}
use Rattle.decoder.specs.declared.NextRefusal.{NextRefusal}
use Rattle.decoder.specs.declared.NextRefusal.TheVariants.{Open, NoneLeft}
use Rattle.decoder.proofs.DecodeLaws.{Outcome, reads, refuses, group_outcome}
use Rattle.decoder_lines.specs.GroupAt.{group_at}
use Rattle.decoder_lines.specs.ReadFrom.{read_as, read_from, at_numbered}
use Rattle.decoder_lines.specs.declared.GroupAt.{GroupAt}
use Rattle.decoder_lines.specs.declared.GroupAt.TheVariants.{Nothing, Unreadable, Incomplete, Single, Pair}
use Rattle.decoder_lines.specs.declared.InstructionAt.{InstructionAt}
use Rattle.decoder_lines.proofs.GroupLaws.{line_at, groups_from, nothing_groups, unreadable_first, unreadable_groups, incomplete_first, incomplete_groups, single_first, single_alone, single_groups, single_more, single_within, pair_first, pair_two, pair_groups, pair_more, pair_within}
use Rattle.decoder_lines.proofs.ReadLaws.{reads_nothing, reads_unreadable, reads_incomplete, reads_single, reads_pair}
use Rattle.decoder_open.specs.Unreadable.{line_first}
use Rattle.decoder_open.proofs.LineLaws.{line_nothing, line_incomplete, line_single, line_pair}

-- ---- no refusal of decoding has the number 20

abbrev Known : {A : Type 0} → Answer A → Type 0
Known (ok a) = Unit {0}
Known (refused n d) = eqb n 20 ≡ false

outcome_known : (f : ℕ → Answer BinaryInstruction) → Outcome f → (k : ℕ) → Known (f k)
outcome_known f (reads i c o) k = tt
outcome_known f (refuses n h) k = h

-- ---- what is left, by the instruction that stands first

module _ (k : ℕ) (g : Group (List ℕ)) (gs : List (Group (List ℕ))) where
  -- a complete instruction stays
  complete_first : is_complete g ≡ true → complete_of (g ∷ gs) ≡ g ∷ complete_of gs
  unfolding complete_of
  complete_first f = rw f

  -- its refusal answers
  first_refused : (n d : ℕ) → group_decoded k g ≡ refused n d → accepted_of (all_decoded k (g ∷ gs)) ≡ refused n d
  unfolding all_decoded ◌>>=◌
  first_refused n d p = rw p

  -- where it is read, those after it decide
  first_read : (i : BinaryInstruction) → group_decoded k g ≡ ok i → accepted_of (all_decoded k (g ∷ gs)) ≡ accepted_of (all_decoded (k + 1) gs)
  unfolding all_decoded ◌>>=◌
  first_read i p =
      let m : suc k ≡ k + 1 = omega arith in
      rw p (go (all_decoded (suc k) gs) ∙ ap (λ (n : ℕ). accepted_of (all_decoded n gs)) m)
    where
      go : (a : Answer (List BinaryInstruction)) → accepted_of (a >>= λ is. ok (i ∷ is)) ≡ accepted_of a
      go (ok is) = refl
      go (refused n d) = refl

-- from an offset on, the first index and its line given
module _ (text : List ℕ) (k line at : ℕ) where
  abbrev left : Answer (Unit {0})
  left = accepted_of (all_decoded k (complete_of (groups_from text at)))

  abbrev unread : Option ℕ
  unread = first_unreadable line (groups_from text at)

  left_as : (gs : List (Group (List ℕ))) → groups_from text at ≡ gs → left ≡ accepted_of (all_decoded k (complete_of gs))
  left_as gs e = ap (λ (gs : List (Group (List ℕ))). accepted_of (all_decoded k (complete_of gs))) e

  -- what an answer says of what is left: an instruction, that no complete one is left, or the refusal
  abbrev Says : Answer ReadAt → Type 0
  Says (ok r) =
      (left ≡ accepted_of (all_decoded (k + 1) (complete_of (groups_from text r.offset))))
      × (unread ≡ first_unreadable (line + r.lines) (groups_from text r.offset))
      × (0 < r.lines) × (at + r.lines ≤ r.offset) × (r.offset ≤ length text)
  Says (refused n d) = (left ≡ cond (eqb n 20) (ok tt) (refused n d)) × (eqb n 20 ≡ true → None ≡ unread)

  -- a complete instruction
  module _ (g : Group (List ℕ)) (gs : List (Group (List ℕ))) (e : groups_from text at ≡ g ∷ gs) (f : is_complete g ≡ true) where
    left_first : left ≡ accepted_of (all_decoded k (g ∷ complete_of gs))
    left_first = left_as (g ∷ gs) e ∙ ap (λ (gs : List (Group (List ℕ))). accepted_of (all_decoded k gs)) (complete_first k g gs f)

    left_refused : (n d : ℕ) → group_decoded k g ≡ refused n d → left ≡ refused n d
    left_refused n d p = left_first ∙ first_refused k g (complete_of gs) n d p

    complete_says : (next n : ℕ) → gs ≡ groups_from text next → unread ≡ first_unreadable (line + n) (groups_from text next)
        → (0 < n) × (at + n ≤ next) × (next ≤ length text) → (a : Answer BinaryInstruction) → group_decoded k g ≡ a → Says (read_as a n next)
    unfolding read_as ◌>>=◌
    complete_says next n h u l (ok i) p =
        (left_first ∙ first_read k g (complete_of gs) i p ∙ ap (λ (gs : List (Group (List ℕ))). accepted_of (all_decoded (k + 1) (complete_of gs))) h, u, l.0, l.1, l.2)
    complete_says next n h u l (refused m d) p =
        let q = subst Known p (outcome_known _ (group_outcome g f) k) in
        (left_refused m d p ∙ rw q, λ t. absurd (true≢false (sym t ∙ q)))

  -- so does the instruction from the offset on
  says : Says (read_from k text at)
  unfolding complete_of all_decoded on_first ◌>>=◌
  says = go (group_at text at) refl
    where
      go : (g : GroupAt) → group_at text at ≡ g → Says (read_from k text at)
      go Nothing e =
          subst Says (reads_nothing k text at (group_at text at) refl e)
          (left_as [] (nothing_groups text at e), λ t. line_nothing text at line line at refl (group_at text at) refl e)
      go Unreadable e =
          let f = unreadable_first text at e in
          subst Says (reads_unreadable k text at (group_at text at) refl e)
          (left_refused (record { first = line_at text at; second = None }) _ (unreadable_groups text at e) (rw f) 15 k (rw f), λ t. absurd (true≢false (sym t)))
      go Incomplete e =
          let f = incomplete_first text at e in
          subst Says (reads_incomplete k text at (group_at text at) refl e)
          (left_as _ (incomplete_groups text at e) ∙ rw (f.1, f.2), λ t. line_incomplete text at line line at refl (group_at text at) refl e)
      go (Single w next) e =
          let f = single_first text at w next e in
          let h = single_alone text at w next e in
          let m = single_more text at w next e in
          subst Says (reads_single k text at (group_at text at) refl w next e (decoded k w None) refl (read_as (decoded k w None) 1 next) refl)
          (complete_says (record { first = line_at text at; second = None }) (groups_from text next) (single_groups text at w next e) (rw (f, h))
          next 1 refl (line_single text at line line at refl (group_at text at) refl w next e) (omega arith, omega arith, single_within text at w next e)
          (decoded k w None) (rw f))
      go (Pair w start n next) e =
          let f = pair_first text at w start n next e in
          let h = pair_two text at w start n next e in
          let m = pair_more text at w start n next e in
          let l : List ℕ = take n (drop start text) in
          let j : start + n - start ≡ n = omega arith in
          subst Says (reads_pair k text at (group_at text at) refl w start n next e (decoded k w (Some l)) (rw j) (read_as (decoded k w (Some l)) 2 next) refl)
          (complete_says (record { first = line_at text at; second = Some l }) (groups_from text next) (pair_groups text at w start n next e) (rw (f, h))
          next 2 refl (line_pair text at line line at refl (group_at text at) refl w start n next e) (omega arith, omega arith, pair_within text at w start n next e)
          (decoded k w (Some l)) (rw f))

-- what opening answers, 14 aside
abbrev pub whole : List ℕ → Answer (Unit {0})
whole text = line_first (first_unreadable 0 (line_groups (lines text))) (accepted_of (all_decoded 0 (complete_of (line_groups (lines text)))))

both_pass : (o : Option ℕ) (a : Answer (Unit {0})) → None ≡ o → ok tt ≡ a → ok tt ≡ line_first o a
unfolding ◌>>◌ refuse_at
both_pass o a e f = rw (← e) f

-- ---- at each way out
module _ (text : List ℕ) (k line at : ℕ)
    (left : accepted_of (all_decoded 0 (complete_of (line_groups (lines text)))) ≡ accepted_of (all_decoded k (complete_of (line_groups (lines (drop at text))))))
    (unread : first_unreadable 0 (line_groups (lines text)) ≡ first_unreadable line (line_groups (lines (drop at text)))) where
  module _ (r : Result InstructionAt NextRefusal) (e : at_numbered r ≡ read_from k text at) where
    -- none is left
    pub all_none : r ≡ Err NoneLeft → ok tt ≡ whole text
    all_none h =
        let s = subst (Says text k line at) (sym e ∙ ap at_numbered h) (says text k line at) in
        both_pass _ _ (s.1 refl ∙ sym unread) (sym (left ∙ s.0))

    -- the first refusal answers, unless a first word from there on is unreadable
    pub all_refused : (f : OpenRefusal) → r ≡ Err (Open f) → (a : Result ⊤ OpenRefusal)
        → open_numbered a ≡ line_first (first_unreadable line (line_groups (lines (drop at text)))) (refused (open_number f) (open_detail f)) → open_numbered a ≡ whole text
    all_refused f h a p =
        p
        ∙ ap (λ (x : Answer (Unit {0})). line_first (first_unreadable line (line_groups (lines (drop at text)))) x)
        (sym (left ∙ go f (subst (Says text k line at) (sym e ∙ ap at_numbered h) (says text k line at))))
        ∙ ap (λ (o : Option ℕ). line_first o (accepted_of (all_decoded 0 (complete_of (line_groups (lines text)))))) (sym unread)
      where
        go : (f : OpenRefusal) → Says text k line at (refused (open_number f) (open_detail f)) → accepted_of (all_decoded k (complete_of (line_groups (lines (drop at text))))) ≡ refused (open_number f) (open_detail f)
        go TextTooLong s = s.0
        go (FirstWordUnreadable line) s = s.0
        go (NoOperation index) s = s.0
        go (LineTooMany index) s = s.0
        go (SecondLineUnreadable index) s = s.0
        go (RegisterMissing index) s = s.0

    -- an instruction
    module _ (i : InstructionAt) (h : r ≡ Ok i) where
      told : Says text k line at (ok (record { instruction = i.instruction; lines = i.lines; offset = i.next }))
      told = subst (Says text k line at) (sym e ∙ ap at_numbered h) (says text k line at)

      pub all_next : accepted_of (all_decoded 0 (complete_of (line_groups (lines text)))) ≡ accepted_of (all_decoded (k + 1) (complete_of (line_groups (lines (drop i.next text)))))
      all_next = left ∙ told.0

      pub unread_next : first_unreadable 0 (line_groups (lines text)) ≡ first_unreadable (line + i.lines) (line_groups (lines (drop i.next text)))
      unread_next = unread ∙ told.1

      pub line_next_lem : line ≤ at → line + i.lines ≤ i.next
      line_next_lem p = let m = told.3 in omega arith

      pub line_fits : line ≤ at → length text < 2 ^ 64 → Fits w64 (line + i.lines)
      line_fits p q = let m = told.3 in let b = told.4 in omega arith

      pub index_fits : k ≤ line → line ≤ at → length text < 2 ^ 64 → Fits w64 (k + 1)
      index_fits p q f = let m = told.3 in let b = told.2 in let w = told.4 in omega arith

      pub count_next : k ≤ line → k + 1 ≤ line + i.lines
      count_next p = let m = told.2 in omega arith

      pub less_next : length text - i.next < length text - at
      less_next = let m = told.3 in let b = told.2 in let w = told.4 in omega arith

pub ruleset all_laws = (all_none, all_refused, all_next, unread_next, line_next_lem, line_fits, index_fits, count_next, less_next, rules)
