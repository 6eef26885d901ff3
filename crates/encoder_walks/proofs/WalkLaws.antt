-- The walk of refusals 10 to 12 and 25: what is left at a line makes what the whole source makes.
use Rattle.std.specs.Prelude.{Option, Some, None, Result, Ok, Err, ⊤}
use Prim.Native.Nat.{ℕ, suc, ◌+◌, ◌<◌, ◌≤◌}
use mathlib.Core.Path.{◌≡◌, refl, sym, ap, ◌∙◌}
use mathlib.Core.List.{List, ◌∷◌}
use mathlib.Core.Bool.{Bool, true, false, cond}
use native.Mathlib.Numerals.{add-one}
use borrow.Author.Rules.{rules}
use lib.ListN.{length}
use Rattle.text.specs.Answer.{Answer, ok, refused, ◌>>=◌, refuse_at}
use Rattle.asm.specs.declared.OlaAsmInstruction.{OlaAsmInstruction}
use Rattle.asm.specs.declared.RowCount.{RowCount}
use Rattle.asm.specs.Survey.{or_place}
use Rattle.relocate.specs.Layout.{sorted_instructions}
use Rattle.relocate.specs.Columns.{LookUp}
use Rattle.program.specs.declared.BinaryInstruction.{BinaryInstruction}
use Rattle.encoder.specs.Canonical.{first_misplaced}
use Rattle.encoder.specs.declared.AssembleRefusal.TheVariants.{NameUnknown, MemoryOperand, BracketMisplaced}
use Rattle.encoder_canonical.specs.Held.{held_canonical, canonical_numbered, held_program}
use Rattle.encoder_lines.specs.Lines.{of_canonical, canonical_at}
use Rattle.encoder_lines.specs.declared.CanonicalAt.{CanonicalAt}
use Rattle.encoder_walks.specs.Walks.{resolution_numbered, held_passed, is_number_aside, aside_next}
use Rattle.encoder_walks.proofs.LineLaws.{rows_from, rows_start, rows_crossed, rows_outside, rows_end, line_skip, line_row, line_laws}
use Rattle.encoder.specs.declared.AssembleRefusal.{AssembleRefusal}
use Rattle.encoder_canonical.specs.declared.CanonicalRefusal.{CanonicalRefusal}
use Rattle.encoder_canonical.specs.declared.CanonicalRefusal.TheVariants.{Unknown, Misused, Bracketed}

-- ---- the walk

-- what a program passes, where k instructions stand ahead and the first number in op0 or dst among them is known
abbrev pub passed : Option ℕ → ℕ → Answer (List BinaryInstruction) → Answer (Unit {0})
passed first k answer = answer >>= λ bs. refuse_at (or_place first (first_misplaced k bs)) 12

-- with none ahead it is the whole
passed_from : (a : Answer (List BinaryInstruction)) → a >>= (λ bs. refuse_at (first_misplaced 0 bs) 12) ≡ passed None 0 a
unfolding ◌>>=◌
passed_from (ok bs) = refl
passed_from (refused n d) = refl

module _ (s : List ℕ) (look : LookUp) (first : Option ℕ) (k : ℕ) (i : OlaAsmInstruction) (is : List OlaAsmInstruction) where
  -- an instruction more
  passed_made : (b : BinaryInstruction) → held_canonical s look i ≡ Ok b → passed first k (held_program s look k (i ∷ is)) ≡ passed (aside_next first b k) (k + 1) (held_program s look (k + 1) is)
  unfolding held_program ◌>>=◌ first_misplaced
  passed_made b e = rw (e, add-one k) (go (held_program s look (suc k) is))
    where
      place : (f : Option ℕ) (t : Bool) (o : Option ℕ) → or_place f (cond t (Some k) o) ≡ or_place (or_place f (cond t (Some k) None)) o
      place (Some j) t o = refl
      place None true o = refl
      place None false o = refl

      go : (a : Answer (List BinaryInstruction)) → passed first k (a >>= λ bs. ok (b ∷ bs)) ≡ passed (aside_next first b k) (suc k) a
      go (ok bs) = ap (λ (p : Option ℕ). refuse_at p 12) (place first (is_number_aside b) (first_misplaced (suc k) bs))
      go (refused n d) = refl

  -- a row that is refused ends the walk
  passed_refused : (c : Result BinaryInstruction CanonicalRefusal) (n d : ℕ) → held_canonical s look i ≡ c → canonical_numbered k c ≡ refused n d → passed first k (held_program s look k (i ∷ is)) ≡ refused n d
  unfolding held_program ◌>>=◌
  passed_refused c n d e f = rw (e, f)

module _ (s : List ℕ) (look : LookUp) (start end : ℕ) where
  -- a scope that ends before it starts: nothing to look at
  pub passed_crossed : end < start → resolution_numbered (Ok tt) ≡ held_passed s look (sorted_instructions s start end)
  unfolding held_passed held_program first_misplaced ◌>>=◌ refuse_at
  passed_crossed h = rw (rows_crossed s start end h)

  -- a scope that ends past the source's end: nothing to look at
  pub passed_outside : start ≤ end → length s < end → resolution_numbered (Ok tt) ≡ held_passed s look (sorted_instructions s start end)
  unfolding held_passed held_program first_misplaced ◌>>=◌ refuse_at
  passed_outside a h = rw (rows_outside s start end a h)

  module _ (a : start ≤ end) (b : end ≤ length s) where
    -- at the start everything is left
    pub passed_start : held_passed s look (sorted_instructions s start end) ≡ passed None 0 (held_program s look 0 (rows_from s start end 0))
    unfolding held_passed
    passed_start = rw (rows_start s start end a b) (passed_from (held_program s look 0 (rows_from s start end 0)))

    module _ (first : Option ℕ) (k at : ℕ) (t : held_passed s look (sorted_instructions s start end) ≡ passed first k (held_program s look k (rows_from s start end at))) where
      -- the source's end
      pub passed_end : (r : Result ⊤ AssembleRefusal) → length s ≤ at → resolution_numbered r ≡ refuse_at first 12 → resolution_numbered r ≡ held_passed s look (sorted_instructions s start end)
      unfolding held_program first_misplaced ◌>>=◌
      passed_end r h g = g ∙ sym (t ∙ rw (rows_end s start end at a b h) (ap (λ (p : Option ℕ). refuse_at p 12) (none_left first)))
        where
          none_left : (p : Option ℕ) → or_place p None ≡ p
          none_left (Some j) = refl
          none_left None = refl

      module _ (r : CanonicalAt) (e : r ≡ canonical_at s look start end at) (h : at < length s) where
        -- a line that is no instruction row
        pub passed_skip : r.found ≡ Ok None → held_passed s look (sorted_instructions s start end) ≡ passed first k (held_program s look k (rows_from s start end r.next))
        passed_skip f = t ∙ ap (λ (is : List OlaAsmInstruction). passed first k (held_program s look k is)) (line_skip s look start end at r a b e h f)

        -- an instruction
        pub passed_more : (m : BinaryInstruction) (next : Option ℕ) → r.found ≡ Ok (Some m) → next ≡ aside_next first m k
            → held_passed s look (sorted_instructions s start end) ≡ passed next (k + 1) (held_program s look (k + 1) (rows_from s start end r.next))
        passed_more m next f g =
            let w = line_row s look start end at r a b e h (Ok m) f in
            t
            ∙ ap (λ (is : List OlaAsmInstruction). passed first k (held_program s look k is)) w.rest
            ∙ passed_made s look first k w.row (rows_from s start end r.next) m w.held
            ∙ ap (λ (p : Option ℕ). passed p (k + 1) (held_program s look (k + 1) (rows_from s start end r.next))) (sym g)

        -- a row that is refused
        passed_no : (c : Result BinaryInstruction CanonicalRefusal) (n d : ℕ) → canonical_numbered k c ≡ refused n d → r.found ≡ of_canonical c → refused n d ≡ held_passed s look (sorted_instructions s start end)
        passed_no c n d g f =
            let w = line_row s look start end at r a b e h c f in
            sym
            (t
            ∙ ap (λ (is : List OlaAsmInstruction). passed first k (held_program s look k is)) w.rest
            ∙ passed_refused s look first k w.row (rows_from s start end r.next) c n d w.held g)

        -- 10: a name that no row holds
        pub passed_unknown : (n : RowCount) → n ≡ record { 0 = k } → r.found ≡ Err Unknown → resolution_numbered (Err (NameUnknown n)) ≡ held_passed s look (sorted_instructions s start end)
        passed_unknown n g f = ap (λ (x : RowCount). refused 10 x.0) g ∙ passed_no (Err Unknown) 10 k refl f

        -- 11: a memory operand that is none
        pub passed_misused : (n : RowCount) → n ≡ record { 0 = k } → r.found ≡ Err Misused → resolution_numbered (Err (MemoryOperand n)) ≡ held_passed s look (sorted_instructions s start end)
        passed_misused n g f = ap (λ (x : RowCount). refused 11 x.0) g ∙ passed_no (Err Misused) 11 k refl f

        -- 25: brackets outside mload and mstore
        pub passed_bracketed : (n : RowCount) → n ≡ record { 0 = k } → r.found ≡ Err Bracketed → resolution_numbered (Err (BracketMisplaced n)) ≡ held_passed s look (sorted_instructions s start end)
        passed_bracketed n g f = ap (λ (x : RowCount). refused 25 x.0) g ∙ passed_no (Err Bracketed) 25 k refl f

pub ruleset passed_laws = (line_laws, passed_crossed, passed_outside, passed_start, passed_end, passed_skip, passed_more, passed_unknown, passed_misused, passed_bracketed, rules)
