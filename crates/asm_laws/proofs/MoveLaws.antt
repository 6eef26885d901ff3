-- The survey of a text, a line feed and another text is the two surveys joined.
use Rattle.std.specs.Prelude.{Option, Some, None}
use Prim.Native.Nat.{ℕ, suc, ◌+◌, ◌-◌, ◌≤◌}
use mathlib.Core.Path.{◌≡◌, refl, ap, ◌∙◌}
use mathlib.Core.List.{List, [], ◌∷◌, ◌++◌, map}
use mathlib.Core.Bool.{Bool, true, false, cond, not}
use native.Mathlib.Omega.{arith}
use borrow.Author.Tests.{leb-true, leb-false, le-leb, lt-leb}
use lib.Dec.{eqb, leb}
use lib.ListN.{length, drop, length-append, length-drop}
use lib.Seq.{length-take-le, take-append-le, drop-append-le, drop-append-add}
use Rattle.text.specs.Bytes.{bytes, is_space, same}
use Rattle.text.specs.Lists.{total}
use Rattle.text.specs.Scan.{scan, parts, on_first, is_empty}
use Rattle.text.specs.Lines.{is_feed}
use Rattle.text.specs.Answer.{Answer, ok, refused, ◌>>=◌}
use Rattle.text.proofs.Laws.{scan_le}
use Rattle.text.proofs.PartLaws.{parts_some}
use Rattle.text.proofs.SumLaws.{spaced, parts_total}
use Rattle.text.specs.All.{All, none_left, one_more}
use Rattle.vm_mnemonics.specs.Mnemonics.{operation_of}
use Rattle.asm.specs.Parts.{Part, placed, filled_parts, without_comment, pieces_from, line_pieces, row_pieces, source_pieces, name_at}
use Rattle.asm.specs.Rows.{operands_of, arranged_if, is_call_row, is_pair_row, label_row, or_else_row, row_of, row_read, read_rows}
use Rattle.asm.specs.Survey.{is_main_row, count_rows, main_start, main_end, tally_of, survey_from, survey_of, joined_surveys, moved_survey}
use Rattle.asm.specs.declared.AsmRow.{AsmRow}
use Rattle.asm.specs.declared.AsmRow.TheVariants.{Instruction, LabelCall, LabelJmp, LabelProphet}
use Rattle.asm_laws.proofs.StepLaws.{survey_pieces, survey_append}
use Rattle.asm_laws.proofs.PlaceLaws.{moved_part, moved_row, moved_rows, arranged_if_related, placed_moved, rows_moved, read_moved, tally_moved}

-- ---- the pieces of two texts

-- the parts of two texts with a byte between them that parts
pub parts_joined : (p : ℕ → Bool) (a : List ℕ) (x : ℕ) (b : List ℕ) → p x ≡ true → parts p (a ++ x ∷ b) ≡ parts p a ++ parts p b
unfolding parts
parts_joined p [] x b e = rw e
parts_joined p (y ∷ a) x b e = rw (parts_joined p a x b e, q.2) (go (p y) q.0 q.1)
  where
    q : (l : List ℕ) × (ls : List (List ℕ)) × (parts p a ≡ l ∷ ls)
    q = parts_some p a

    go : (t : Bool) (l : List ℕ) (ls : List (List ℕ))
        → cond t ([] ∷ ((l ∷ ls) ++ parts p b)) (on_first y ((l ∷ ls) ++ parts p b)) ≡ cond t ([] ∷ l ∷ ls) (on_first y (l ∷ ls)) ++ parts p b
    go true l ls = refl
    go false l ls = refl

-- the second parts stand past the bytes of the first
placed_append : (i : ℕ) (ls ms : List (List ℕ)) → placed i (ls ++ ms) ≡ placed i ls ++ placed (i + total (map spaced ls)) ms
unfolding placed total
placed_append i [] ms = ap (λ (k : ℕ). placed k ms) (omega arith)
placed_append i (l ∷ ls) ms =
    ap (λ (qs : List Part). record { start = i; text = l } ∷ qs)
    (placed_append (i + (length l + 1)) ls ms ∙ ap (λ (k : ℕ). placed (i + (length l + 1)) ls ++ placed k ms) (omega arith))

-- the rows of the first lines and then of the second
rows_append : (qs rs : List Part) → row_pieces (qs ++ rs) ≡ row_pieces qs ++ row_pieces rs
unfolding row_pieces
rows_append [] rs = refl
rows_append (q ∷ qs) rs = rw (rows_append qs rs) (go (is_empty (line_pieces q)))
  where
    go : (t : Bool) → cond t (row_pieces qs ++ row_pieces rs) (line_pieces q ∷ (row_pieces qs ++ row_pieces rs))
        ≡ cond t (row_pieces qs) (line_pieces q ∷ row_pieces qs) ++ row_pieces rs
    go true = refl
    go false = refl

-- the pieces of the first, and then those of the second further on
pieces_joined : (a b : List ℕ) → source_pieces (a ++ 10 ∷ b) ≡ source_pieces a ++ map (map (moved_part (length a + 1))) (source_pieces b)
pieces_joined a b =
    let n : 0 + total (map spaced (parts is_feed a)) ≡ (length a + 1) + 0 = let h = parts_total is_feed a in omega arith in
    ap (λ (ls : List (List ℕ)). row_pieces (placed 0 ls)) (parts_joined is_feed a 10 b refl)
    ∙ ap row_pieces (placed_append 0 (parts is_feed a) (parts is_feed b))
    ∙ rows_append (placed 0 (parts is_feed a)) (placed (0 + total (map spaced (parts is_feed a))) (parts is_feed b))
    ∙ ap (λ (k : ℕ). source_pieces a ++ row_pieces (placed k (parts is_feed b))) n
    ∙ ap (λ (qs : List Part). source_pieces a ++ row_pieces qs) (placed_moved (length a + 1) 0 (parts is_feed b))
    ∙ ap (λ (pss : List (List Part)). source_pieces a ++ pss) (rows_moved (length a + 1) (placed 0 (parts is_feed b)))

-- ---- the names of two texts

-- a name of the first
name_first : (a c : List ℕ) (start n : ℕ) → start + n ≤ length a → name_at (a ++ c) start n ≡ name_at a start n
unfolding name_at
name_first a c start n h =
    let l = length-append a c in
    let d = length-drop start a in
    let k : n ≤ length (drop start a) = omega arith in
    rw (le-leb (start + n) (length (a ++ c)) (omega arith), le-leb (start + n) (length a) h, drop-append-le start a c (omega arith), take-append-le n (drop start a) c k)

-- a name of the second
name_second : (a b : List ℕ) (x start n : ℕ) → name_at (a ++ x ∷ b) (length a + 1 + start) n ≡ name_at b start n
unfolding name_at
name_second a b x start n = let e : length a + 1 + start ≡ length a + suc start = omega arith in rw e (go (leb (start + n) (length b)) refl)
  where
    go : (t : Bool) → leb (start + n) (length b) ≡ t → name_at (a ++ x ∷ b) (length a + suc start) n ≡ name_at b start n
    go true e = let l = length-append a (x ∷ b) in let h = leb-true (start + n) (length b) e in rw (le-leb (length a + suc start + n) (length (a ++ x ∷ b)) (omega arith), e, drop-append-add a (x ∷ b) (suc start))
    go false e = let l = length-append a (x ∷ b) in let h = leb-false (start + n) (length b) e in rw (lt-leb (length a + suc start + n) (length (a ++ x ∷ b)) (omega arith), e)

-- ---- the pieces of a text lie within it

-- a part that ends by place m
abbrev Inside : ℕ → Part → Type 0
Inside m q = q.start + length q.text ≤ m

-- a label row whose name ends by place m
abbrev RowInside : ℕ → AsmRow → Type 0
RowInside m (Instruction i) = Unit {0}
RowInside m (LabelCall start n) = start + n ≤ m
RowInside m (LabelJmp start n) = start + n ≤ m
RowInside m (LabelProphet start n) = start + n ≤ m

-- the same of what pieces were read as
abbrev ReadInside : ℕ → Option AsmRow → Type 0
ReadInside m (Some r) = RowInside m r
ReadInside m None = Unit {0}

-- of a label row, if it was one
abbrev LabelInside : ℕ → Option AsmRow → Type 0
LabelInside m (Some r) = RowInside m r
LabelInside m None = Unit {0}

-- and of all rows that were read
abbrev RowsInside : ℕ → Answer (List AsmRow) → Type 0
RowsInside m (ok rs) = All (RowInside m) rs
RowsInside m (refused n d) = Unit {0}

module _ (m : ℕ) where
  -- parts whose bytes end by m
  placed_inside : (i : ℕ) (ls : List (List ℕ)) → i + total (map spaced ls) ≤ m + 1 → All (Inside m) (placed i ls)
  unfolding placed total
  placed_inside i [] h = none_left
  placed_inside i (l ∷ ls) h = let e : i + length l ≤ m = omega arith in one_more e (placed_inside (i + (length l + 1)) ls (omega arith))

  -- those of them that hold a byte
  filled_inside : {qs : List Part} → All (Inside m) qs → All (Inside m) (filled_parts qs)
  unfolding filled_parts
  filled_inside none_left = none_left
  filled_inside (one_more {x = q} {xs = qs} e h) = go (is_empty q.text) (filled_inside h)
    where
      go : (t : Bool) → All (Inside m) (filled_parts qs) → All (Inside m) (cond t (filled_parts qs) (q ∷ filled_parts qs))
      go true k = k
      go false k = one_more e k

  -- a line's pieces
  line_inside : (q : Part) → Inside m q → All (Inside m) (line_pieces q)
  unfolding line_pieces pieces_from
  line_inside q h =
      let l : List ℕ = without_comment q.text in
      let a = parts_total is_space l in
      let b = scan_le (λ b. not (eqb b 59)) q.text in
      let c = length-take-le (scan (λ b. not (eqb b 59)) q.text) q.text b in
      filled_inside (placed_inside q.start (parts is_space l) (omega arith))

  -- the rows' pieces
  rows_inside : {qs : List Part} → All (Inside m) qs → All (All (Inside m)) (row_pieces qs)
  unfolding row_pieces
  rows_inside none_left = none_left
  rows_inside (one_more {x = q} {xs = qs} e h) = go (is_empty (line_pieces q)) (rows_inside h)
    where
      go : (t : Bool) → All (All (Inside m)) (row_pieces qs) → All (All (Inside m)) (cond t (row_pieces qs) (line_pieces q ∷ row_pieces qs))
      go true k = k
      go false k = one_more (line_inside q e) k

  -- a label row of one piece
  label_inside : (q : Part) → Inside m q → LabelInside m (label_row q)
  unfolding label_row
  label_inside q h = go (is_call_row q.text) (is_pair_row (bytes "LBL") q.text) (is_pair_row (bytes "PROPHET") q.text) q.start (length q.text - 1) (omega arith)
    where
      go : (a b c : Bool) (i k : ℕ) → i + k ≤ m → LabelInside m (cond a (Some (LabelCall i k)) (cond b (Some (LabelJmp i k)) (cond c (Some (LabelProphet i k)) None)))
      go true b c i k e = e
      go false true c i k e = e
      go false false true i k e = e
      go false false false i k e = tt

  -- a row from its pieces
  row_inside : {ps : List Part} → All (Inside m) ps → ReadInside m (row_of ps)
  unfolding row_of
  row_inside none_left = tt
  row_inside (one_more {x = q} e none_left) = go (label_row q) (label_inside q e)
    where
      other : Option AsmRow
      other = arranged_if (operation_of q.text) (Some [])

      go : (l : Option AsmRow) → LabelInside m l → ReadInside m (or_else_row l other)
      go (Some r) k = k
      go None k = arranged_if_related 0 (λ x y. ReadInside m x) tt (λ i. tt) (operation_of q.text) (Some [])
  row_inside (one_more {x = q} e (one_more {x = r} {xs = rs} f h)) =
      arranged_if_related 0 (λ x y. ReadInside m x) tt (λ i. tt) (operation_of q.text) (operands_of (r ∷ rs))

  -- all rows
  read_inside : (k : ℕ) {pss : List (List Part)} → All (All (Inside m)) pss → RowsInside m (read_rows k pss)
  unfolding read_rows ◌>>=◌
  read_inside k none_left = none_left
  read_inside k (one_more {x = ps} {xs = pss} e h) = go (row_of ps) (read_rows (suc k) pss) (row_inside e) (read_inside (suc k) h)
    where
      go : (r : Option AsmRow) (x : Answer (List AsmRow)) → ReadInside m r → RowsInside m x → RowsInside m (row_read k r >>= λ r. x >>= λ rs. ok (r ∷ rs))
      go None x a b = tt
      go (Some r) (refused n d) a b = tt
      go (Some r) (ok rs) a b = one_more a b

-- every label row of a text lies within it
source_inside : (s : List ℕ) → RowsInside (length s) (read_rows 0 (source_pieces s))
source_inside s =
    let h = parts_total is_feed s in
    read_inside (length s) 0 (rows_inside (length s) (placed_inside (length s) 0 (parts is_feed s) (omega arith)))

-- ---- the two surveys

module _ (a b : List ℕ) where
  -- the two texts with the line feed between them
  abbrev both : List ℕ
  both = a ++ 10 ∷ b

  -- a row of the first is main just if it was
  main_first_lem : (r : AsmRow) → RowInside (length a) r → is_main_row both r ≡ is_main_row a r
  main_first_lem (Instruction i) h = refl
  main_first_lem (LabelCall start n) h = ap (λ (x : List ℕ). same x (bytes "main")) (name_first a (10 ∷ b) start n h)
  main_first_lem (LabelJmp start n) h = refl
  main_first_lem (LabelProphet start n) h = refl

  -- and so is one of the second, further on
  main_second : (r : AsmRow) → is_main_row both (moved_row (length a + 1) r) ≡ is_main_row b r
  main_second (Instruction i) = refl
  main_second (LabelCall start n) = ap (λ (x : List ℕ). same x (bytes "main")) (name_second a b 10 start n)
  main_second (LabelJmp start n) = refl
  main_second (LabelProphet start n) = refl

  -- the first has as many call labels main
  mains_first : {rs : List AsmRow} → All (RowInside (length a)) rs → count_rows (is_main_row both) rs ≡ count_rows (is_main_row a) rs
  unfolding count_rows
  mains_first none_left = refl
  mains_first (one_more {x = r} {xs = rs} e h) = rw (main_first_lem r e, mains_first h)

  -- its main starts where it did
  start_first : {rs : List AsmRow} → All (RowInside (length a)) rs → main_start both rs ≡ main_start a rs
  unfolding main_start
  start_first none_left = refl
  start_first (one_more {x = r} {xs = rs} e h) = rw (main_first_lem r e, start_first h)

  -- and ends where it did
  end_first : {rs : List AsmRow} → All (RowInside (length a)) rs → main_end both rs ≡ main_end a rs
  unfolding main_end
  end_first none_left = refl
  end_first (one_more {x = r} {xs = rs} e h) = rw (main_first_lem r e, end_first h)

  -- the first's rows add up to what they did
  survey_first : survey_pieces both (source_pieces a) ≡ survey_pieces a (source_pieces a)
  unfolding ◌>>=◌
  survey_first = go (read_rows 0 (source_pieces a)) (source_inside a)
    where
      go : (x : Answer (List AsmRow)) → RowsInside (length a) x → (x >>= λ rs. ok (tally_of both rs)) ≡ (x >>= λ rs. ok (tally_of a rs))
      go (refused n d) h = refl
      go (ok rs) h = rw (mains_first h, start_first h, end_first h)

  -- the second's rows add up to what they did, moved
  survey_second : survey_pieces both (map (map (moved_part (length a + 1))) (source_pieces b)) ≡ moved_survey (length a + 1) (survey_pieces b (source_pieces b))
  unfolding ◌>>=◌
  survey_second = rw (read_moved (length a + 1) 0 (source_pieces b)) (go (read_rows 0 (source_pieces b)))
    where
      go : (x : Answer (List AsmRow)) → (moved_rows (length a + 1) x >>= λ rs. ok (tally_of both rs)) ≡ moved_survey (length a + 1) (x >>= λ rs. ok (tally_of b rs))
      go (refused n d) = refl
      go (ok rs) = ap ok (tally_moved (length a + 1) both b main_second rs)

  -- a text, a line feed and another text: the first's survey, and the second's further on
  pub survey_joined : survey_of (a ++ 10 ∷ b) ≡ joined_surveys (survey_of a) (moved_survey (length a + 1) (survey_of b))
  unfolding survey_from
  survey_joined =
      ap (survey_pieces both) (pieces_joined a b)
      ∙ survey_append both (source_pieces a) (map (map (moved_part (length a + 1))) (source_pieces b))
      ∙ rw (survey_first, survey_second)
