-- Any text that opens: the form of the instructions read from it, and that a run of calls reads them one after the other.
use Rattle.std.specs.Prelude.{Some, None}
use Prim.Native.Nat.{ℕ, zero, suc, ◌+◌, ◌-◌}
use mathlib.Core.Path.{◌≡◌, refl, sym, ap, subst, ◌∙◌}
use mathlib.Core.List.{List, [], ◌∷◌, ◌++◌, map}
use mathlib.Core.Bool.{Bool, true, false, cond}
use native.Mathlib.Nat.{zero-sub, sub-zero, suc-sub-suc}
use lib.Dec.{ltb}
use lib.ListN.{length, take, drop, replicate}
use lib.Seq.{drop-drop}
use Rattle.text.specs.Lines.{lines}
use Rattle.text.specs.Answer.{Answer, ok, refused, ◌>>=◌}
use Rattle.text.specs.All.{All, none_left, one_more}
use Rattle.text.proofs.AnswerLaws.{ok_same, ok_bind, if_passed, at_passed}
use Rattle.program.specs.Groups.{Group, grouped}
use Rattle.program.specs.declared.BinaryInstruction.{BinaryInstruction}
use Rattle.program.specs.CanonicalForm.{CanonicalForm, InOrder}
use Rattle.decoder.specs.Lines.{line_has_second, line_groups, is_complete, complete_of, lines_in}
use Rattle.decoder.specs.Decode.{group_decoded}
use Rattle.decoder.specs.AsRead.{as_canonical}
use Rattle.decoder.specs.Open.{max_bytecode_bytes, all_decoded, opened, Read, first_read, next, instruction_read, line_after, run}
use Rattle.decoder.proofs.GroupLaws.{grouped_one, grouped_two}
use Rattle.decoder.proofs.OffsetLaws.{short_next}
use Rattle.decoder.proofs.DecodeLaws.{group_outcome, WasRead, outcome_read}

-- ---- the instructions of a text that opens

-- groups, and the instruction read from each
data AllRead : List (Group (List ℕ)) → List BinaryInstruction → Type 0 where
  nothing_read : AllRead [] []
  one_read : {g : Group (List ℕ)} {i : BinaryInstruction} {gs : List (Group (List ℕ))} {is : List BinaryInstruction}
      → WasRead (λ k. group_decoded k g) i → AllRead gs is → AllRead (g ∷ gs) (i ∷ is)

-- what decoding every complete group answers, at any first index
all_read : (gs : List (Group (List ℕ))) (j : ℕ) (is : List BinaryInstruction) → all_decoded j (complete_of gs) ≡ ok is → AllRead (complete_of gs) is
unfolding all_decoded complete_of
all_read [] j is e = subst (AllRead []) (ok_same e) nothing_read
all_read (g ∷ gs) j is e = go (is_complete g) refl (all_read gs) e
  where
    go : (t : Bool) → is_complete g ≡ t → ((j : ℕ) (is : List BinaryInstruction) → all_decoded j (complete_of gs) ≡ ok is → AllRead (complete_of gs) is)
        → all_decoded j (cond t (g ∷ complete_of gs) (complete_of gs)) ≡ ok is → AllRead (cond t (g ∷ complete_of gs) (complete_of gs)) is
    go true c rest e =
        let a = ok_bind (group_decoded j g) _ is e in
        let b = ok_bind (all_decoded (suc j) (complete_of gs)) _ is a.2 in
        subst (AllRead (g ∷ complete_of gs)) (ok_same b.2) (one_read (outcome_read _ (group_outcome g c) j a.0 a.1) (rest (suc j) b.0 b.1))
    go false c rest e = rest j is e

-- what opening passed, and what it read
opened_read : (text : List ℕ) (is : List BinaryInstruction) → opened text ≡ ok is
    → (ltb max_bytecode_bytes (length text) ≡ false) × AllRead (complete_of (line_groups (lines text))) is
unfolding opened
opened_read text is e =
    let a = if_passed _ _ _ is e in
    let b = at_passed _ _ _ is a.1 in
    (a.0, all_read (line_groups (lines text)) 0 is b.1)

-- ---- their form

forms_read : (gs : List (Group (List ℕ))) (is : List BinaryInstruction) → AllRead gs is → All CanonicalForm (map as_canonical is) × All InOrder is
forms_read gs is nothing_read = (none_left, none_left)
forms_read gs is (one_read {gs = hs} {is = js} r rs) = let f = forms_read hs js rs in (one_more r.form f.0, one_more r.order f.1)

-- Every instruction read from a text that opens is, with mov's psp taken as empty, of canonical form, and its numbers are below p.
pub opened_form : (text : List ℕ) (is : List BinaryInstruction) → opened text ≡ ok is → All CanonicalForm (map as_canonical is) × All InOrder is
opened_form text is e = forms_read _ is (opened_read text is e).1

-- ---- a run of calls

-- what stands first among lines: no complete instruction, or one, and the groups behind it are those of the lines behind it
data Ahead (ls : List (List ℕ)) : Type 0 where
  none_complete : complete_of (line_groups ls) ≡ [] → ((line : ℕ) → first_read line (line_groups ls) ≡ refused 20 0) → Ahead ls
  one_complete : (g : Group (List ℕ)) → is_complete g ≡ true → line_groups ls ≡ g ∷ line_groups (drop (lines_in g) ls) → Ahead ls

ahead : (ls : List (List ℕ)) → Ahead ls
unfolding grouped complete_of first_read
ahead [] = none_complete refl (λ line. refl)
ahead (l ∷ ls) = go (line_has_second l) refl ls
  where
    go : (t : Bool) → line_has_second l ≡ t → (ms : List (List ℕ)) → Ahead (l ∷ ms)
    go false e ms = one_complete (record { first = l; second = None }) (rw e) (grouped_one line_has_second l ms e)
    go true e [] = none_complete (rw (e, e)) (λ line. rw (e, e))
    go true e (m ∷ ms) = one_complete (record { first = l; second = Some m }) (rw e) (grouped_two line_has_second l m ms e)

-- the answers of k calls where these instructions are left
abbrev answers : ℕ → List BinaryInstruction → List (Answer BinaryInstruction)
answers k is = map ok (take k is) ++ replicate (k - length is) (refused 20 0)

answers_none : (k : ℕ) → answers k [] ≡ replicate k (refused 20 0)
answers_none zero = refl
answers_none (suc k) = rw (sub-zero (suc k))

answers_some : (k : ℕ) (i : BinaryInstruction) (is : List BinaryInstruction) → answers (suc k) (i ∷ is) ≡ ok i ∷ answers k is
answers_some k i is = rw (suc-sub-suc k (length is))

-- one call, then the others
run_step : (k : ℕ) (text : List ℕ) (line : ℕ) (answer : Answer Read) → next text line ≡ answer
    → run (suc k) text line ≡ instruction_read answer ∷ run k text (line_after line answer)
unfolding run
run_step k text line answer e = rw e

module _ (text : List ℕ) (h : ltb max_bytecode_bytes (length text) ≡ false) where
  abbrev groups_left : ℕ → List (Group (List ℕ))
  groups_left line = line_groups (drop line (lines text))

  -- that k calls, from any line where the groups of some instructions are left, answer these
  abbrev RunsOn : ℕ → Type 0
  RunsOn k = (line : ℕ) (is : List BinaryInstruction) → AllRead (complete_of (groups_left line)) is → run k text line ≡ answers k is

  module _ (k : ℕ) (rest : RunsOn k) (line : ℕ) where
    -- where no complete instruction is left, this call and those after it say so
    stays : next text line ≡ refused 20 0 → (is : List BinaryInstruction) → AllRead (complete_of (groups_left line)) is → AllRead [] is
        → run (suc k) text line ≡ answers (suc k) is
    stays e is r nothing_read =
        run_step k text line (refused 20 0) e ∙ ap (λ as'. refused 20 0 ∷ as') (rest line [] r ∙ answers_none k) ∙ sym (answers_none (suc k))

    -- where one is, it is read, and those after it are left
    moves : (g : Group (List ℕ)) → ((i : BinaryInstruction) → group_decoded 0 g ≡ ok i → next text line ≡ ok (record { instruction = i; line = line + lines_in g }))
        → (is : List BinaryInstruction) → AllRead (g ∷ complete_of (line_groups (drop (lines_in g) (drop line (lines text))))) is
        → run (suc k) text line ≡ answers (suc k) is
    moves g e is (one_read {i = i} {is = js} d rs) =
        run_step k text line (ok (record { instruction = i; line = line + lines_in g })) (e i (d.any_index 0))
        ∙ ap (λ as'. ok i ∷ as') (rest (line + lines_in g) js (subst (λ ls. AllRead (complete_of (line_groups ls)) js) (drop-drop (lines_in g) line (lines text)) rs))
        ∙ sym (answers_some k i js)

    one_call : Ahead (drop line (lines text)) → (is : List BinaryInstruction) → AllRead (complete_of (groups_left line)) is
        → run (suc k) text line ≡ answers (suc k) is
    unfolding first_read complete_of ◌>>=◌
    one_call (none_complete c f) is r = stays (short_next text h line ∙ f line) is r (subst (λ gs. AllRead gs is) c r)
    one_call (one_complete g c f) is r =
        moves g (λ i d. short_next text h line ∙ ap (first_read line) f ∙ rw (c, d)) is
        (subst (λ gs. AllRead gs is) (ap complete_of f ∙ rw c) r)

  run_from : (k : ℕ) → RunsOn k
  unfolding run
  run_from zero line is r = rw (zero-sub (length is))
  run_from (suc k) line is r = one_call k (run_from k) line (ahead (drop line (lines text))) is r

-- The answers of k calls from the first line of a text that opens: its instructions in order, and then that none is left.
pub opened_run : (text : List ℕ) (is : List BinaryInstruction) → opened text ≡ ok is
    → (k : ℕ) → run k text 0 ≡ map ok (take k is) ++ replicate (k - length is) (refused 20 0)
opened_run text is e k = let r = opened_read text is e in run_from text r.0 k 0 is r.1
