-- What a line of the sorted source adds to its instruction rows, told by what `canonical_at` found there.
use Rattle.std.specs.Prelude.{Option, Some, None, Result, Ok, Err}
use Prim.Native.Nat.{ℕ, ◌+◌, ◌-◌, ◌<◌, ◌≤◌}
use mathlib.Core.Path.{◌≡◌, refl, sym, ap, subst, ◌∙◌}
use mathlib.Core.List.{List, [], ◌∷◌}
use native.Mathlib.Omega.{arith}
use borrow.Author.Tests.{le-leb, lt-leb}
use lib.ListN.{length}
use Rattle.asm.specs.Rows.{instructions}
use Rattle.asm.specs.declared.OlaAsmInstruction.{OlaAsmInstruction}
use Rattle.asm.specs.declared.AsmRow.TheVariants.{Instruction, LabelCall, LabelJmp, LabelProphet}
use Rattle.asm.specs.declared.LineRead.{LineRead}
use Rattle.asm.specs.declared.LineRead.TheVariants.{Blank, Row, Unreadable}
use Rattle.relocate.specs.Layout.{sorted_row_at, sorted_from, sorted_instructions}
use Rattle.relocate_laws.proofs.WalkLaws.{sorted_end, sorted_blank, sorted_row, sorted_unreadable, sorted_next_past, sorted_next_within, sorted_room}
use Rattle.relocate.specs.Columns.{LookUp}
use Rattle.encoder_canonical.specs.Held.{held_canonical}
use Rattle.encoder_lines.specs.Lines.{of_canonical, canonical_line, canonical_at}
use Rattle.encoder_lines.specs.declared.CanonicalAt.{CanonicalAt}
use Rattle.program.specs.declared.BinaryInstruction.{BinaryInstruction}
use Rattle.encoder_canonical.specs.declared.CanonicalRefusal.{CanonicalRefusal}
use Rattle.encoder_canonical.specs.declared.CanonicalRefusal.TheVariants.{Unknown, Misused, Bracketed}

-- the instruction rows of the sorted source from place v on
abbrev pub rows_from : List ℕ → ℕ → ℕ → ℕ → List OlaAsmInstruction
rows_from s start end v = instructions (sorted_from s start end v)

-- ---- where the walk begins and ends

-- main's scope lies within the source: the rows from the start on are all of them
pub rows_start : (s : List ℕ) (start end : ℕ) → start ≤ end → end ≤ length s → sorted_instructions s start end ≡ rows_from s start end 0
unfolding sorted_instructions
rows_start s start end a b = rw (le-leb start end a, le-leb end (length s) b)

-- a scope that ends before it starts has no row
pub rows_crossed : (s : List ℕ) (start end : ℕ) → end < start → sorted_instructions s start end ≡ []
unfolding sorted_instructions
rows_crossed s start end h = rw (lt-leb start end h)

-- nor has one that ends past the source's end
pub rows_outside : (s : List ℕ) (start end : ℕ) → start ≤ end → length s < end → sorted_instructions s start end ≡ []
unfolding sorted_instructions
rows_outside s start end a h = rw (le-leb start end a, lt-leb end (length s) h)

-- past the source's end no row is left
pub rows_end : (s : List ℕ) (start end v : ℕ) → start ≤ end → end ≤ length s → length s ≤ v → rows_from s start end v ≡ []
unfolding instructions
rows_end s start end v a b h = rw (sorted_end s start end v a b h)

-- ---- a line of it

-- what a line told, taken back
taken : Result (Option BinaryInstruction) CanonicalRefusal → Result BinaryInstruction CanonicalRefusal
taken (Ok None) = Err Unknown
taken (Ok (Some b)) = Ok b
taken (Err Unknown) = Err Unknown
taken (Err Misused) = Err Misused
taken (Err Bracketed) = Err Bracketed

-- that gives back what was told
taken_of : (c : Result BinaryInstruction CanonicalRefusal) → taken (of_canonical c) ≡ c
unfolding taken
taken_of (Ok b) = refl
taken_of (Err Unknown) = refl
taken_of (Err Misused) = refl
taken_of (Err Bracketed) = refl

-- what two rows were told as is the same only where they are
told_same : (c d : Result BinaryInstruction CanonicalRefusal) → of_canonical c ≡ of_canonical d → c ≡ d
told_same c d e = sym (taken_of c) ∙ ap taken e ∙ taken_of d

-- an instruction row is never skipped
told_not_skip : (c : Result BinaryInstruction CanonicalRefusal) → of_canonical c ≡ Ok None → ⊥
told_not_skip (Ok b) e = let z : ◌≡◌ {A = ℕ} 0 1 = cc in omega arith
told_not_skip (Err Unknown) e = let z : ◌≡◌ {A = ℕ} 0 1 = cc in omega arith
told_not_skip (Err Misused) e = let z : ◌≡◌ {A = ℕ} 0 1 = cc in omega arith
told_not_skip (Err Bracketed) e = let z : ◌≡◌ {A = ℕ} 0 1 = cc in omega arith

-- an instruction row that became c, and the rows behind it
pub record HeldRow (s : List ℕ) (look : LookUp) (start end v next : ℕ) (c : Result BinaryInstruction CanonicalRefusal) : Type 0 where
  pub row : OlaAsmInstruction
  pub held : held_canonical s look row ≡ c
  pub rest : rows_from s start end v ≡ row ∷ rows_from s start end next
  pub room : v + 3 ≤ next

-- what was found at a line: nothing, and it adds nothing, or what its instruction row became
data Found (s : List ℕ) (look : LookUp) (start end v next : ℕ) (found : Result (Option BinaryInstruction) CanonicalRefusal) : Type 0 where
  no_row : found ≡ Ok None → rows_from s start end v ≡ rows_from s start end next → Found s look start end v next found
  one_row : (c : Result BinaryInstruction CanonicalRefusal) → found ≡ of_canonical c → HeldRow s look start end v next c → Found s look start end v next found

module _ (s : List ℕ) (look : LookUp) (start end v : ℕ) (r : CanonicalAt) (a : start ≤ end) (b : end ≤ length s) (e : r ≡ canonical_at s look start end v) (h : v < length s) where
  -- the next line is that of the sorted source
  next_is : r.next ≡ (sorted_row_at s start end v).next
  next_is = ap (λ (x : CanonicalAt). x.next) e

  -- the next line starts further on
  pub line_past : v < r.next
  line_past = let w = sorted_next_past s start end v (sorted_row_at s start end v) a b refl h in let n = next_is in omega arith

  -- within the source
  pub line_within : r.next ≤ length s
  line_within = let w = sorted_next_within s start end v (sorted_row_at s start end v) a b refl h in let n = next_is in omega arith

  -- what was found is what the line's row, if it has one, became
  line_found : Found s look start end v r.next r.found
  unfolding instructions
  line_found = rw e (go (sorted_row_at s start end v).read refl)
    where
      go : (l : LineRead) → (sorted_row_at s start end v).read ≡ l → Found s look start end v (sorted_row_at s start end v).next (canonical_line s look l)
      go Blank k = no_row refl (ap instructions (sorted_blank s start end v (sorted_row_at s start end v) a b refl h k))
      go (Row (Instruction i)) k = one_row (held_canonical s look i) refl (record {
        row = i;
        held = refl;
        rest = ap instructions (sorted_row s start end v (sorted_row_at s start end v) a b refl (Instruction i) h k);
        room = sorted_room s start end v (sorted_row_at s start end v) a b refl i h k;
      })
      go (Row (LabelCall m n)) k = no_row refl (ap instructions (sorted_row s start end v (sorted_row_at s start end v) a b refl (LabelCall m n) h k))
      go (Row (LabelJmp m n)) k = no_row refl (ap instructions (sorted_row s start end v (sorted_row_at s start end v) a b refl (LabelJmp m n) h k))
      go (Row (LabelProphet m n)) k = no_row refl (ap instructions (sorted_row s start end v (sorted_row_at s start end v) a b refl (LabelProphet m n) h k))
      go Unreadable k = no_row refl (ap instructions (sorted_unreadable s start end v (sorted_row_at s start end v) a b refl h k))

  -- a line that is skipped adds no instruction row
  pub line_skip : r.found ≡ Ok None → rows_from s start end v ≡ rows_from s start end r.next
  line_skip k = go line_found
    where
      go : Found s look start end v r.next r.found → rows_from s start end v ≡ rows_from s start end r.next
      go (no_row f g) = g
      go (one_row c f g) = absurd (told_not_skip c (sym f ∙ k))

  -- any other is an instruction row that became what was found
  pub line_row : (c : Result BinaryInstruction CanonicalRefusal) → r.found ≡ of_canonical c → HeldRow s look start end v r.next c
  line_row c k = go line_found
    where
      go : Found s look start end v r.next r.found → HeldRow s look start end v r.next c
      go (no_row f g) = absurd (told_not_skip c (sym k ∙ f))
      go (one_row d f g) = subst (HeldRow s look start end v r.next) (told_same d c (sym f ∙ k)) g

  -- so each line brings the walk nearer to the end
  pub line_less : length s - r.next < length s - v
  line_less = let w = line_past in omega arith

  -- an index that the walk has not passed stays so
  pub index_kept : (k : ℕ) → k ≤ v → k ≤ r.next
  index_kept k i = let w = line_past in omega arith

  -- and so does the index after it
  pub index_more : (k : ℕ) → k ≤ v → k + 1 ≤ r.next
  index_more k i = let w = line_past in omega arith

pub ruleset line_laws = (line_past, line_within, line_less, index_kept, index_more)
