-- A row put together: a put behind it, some texts behind it, and that they are the row of an instruction.
use Rattle.std.specs.Prelude.{Option, Some, ◌^◌}
use Prim.Native.Nat.{ℕ, ◌+◌, ◌<◌, ◌≤◌}
use mathlib.Core.Path.{◌≡◌, refl, sym, ap, ap₂, ◌∙◌}
use mathlib.Core.List.{List, [], ◌∷◌, ◌++◌, append-nil, append_assoc}
use mathlib.Core.Bool.{Bool, true, false, cond}
use native.Mathlib.Omega.{arith}
use native.Mathlib.Nat.{add-zero}
use native.Mathlib.Numerals.{add-one}
use borrow.Author.Rules.{rules}
use borrow.Author.Tests.{leb-true, leb-false, le-leb, lt-leb}
use lib.Dec.{leb, lit≤}
use lib.ListN.{length, take, set, length-append}
use lib.Seq.{length-take-le, take-suc-set}
use mir.Val.{Fits}
use mir.Syntax.{w64}
use Rattle.std.specs.List.{concat}
use Rattle.std.specs.Option.{unwrap_or}
use Rattle.std.proofs.lemmas.List.Folds.{concat-append}
use Rattle.text.specs.Bytes.{bytes}
use Rattle.text_write.specs.Put.{put_count, put_into}
use Rattle.text_write.proofs.Laws.{put_row, put_over, count_over}
use Rattle.vm_opcodes.specs.Operations.{operations, row_places}
use Rattle.vm_opcodes.specs.declared.OlaOpcode.{OlaOpcode}
use Rattle.vm_opcodes.specs.declared.RowPlaces.{RowPlaces}
use Rattle.vm_opcodes.specs.declared.RowPlaces.TheVariants.{DstOp0Op1, DstOp1, DstMemory, MemoryDst, Op0Op1, Op1, Bare}
use Rattle.vm_opcodes.proofs.Laws.{agree}
use Rattle.vm_mnemonics.specs.Mnemonics.{mnemonic}
use Rattle.vm_hardware.specs.Registers.{register_text, special_text}
use Rattle.vm_hardware.specs.declared.OlaRegister.{OlaRegister}
use Rattle.vm_hardware.specs.declared.OlaSpecialRegister.{OlaSpecialRegister}
use Rattle.vm_hardware.specs.declared.OlaSpecialRegister.TheVariants.{PC, PSP}
use Rattle.vm_operands.specs.declared.OlaOperand.{OlaOperand}
use Rattle.program.specs.Instructions.{carried}
use Rattle.program.specs.declared.BinaryInstruction.{BinaryInstruction}
use Rattle.program_bytecode.proofs.Laws.{put_long}
use Rattle.program_listing.specs.Places.{row_with, row_with_all, Appends, short_text, place_text, whole_pieces, as_text, as_piece, spaced_by, bracketed_by, placed_by, row_by, row_pushed}

-- ---- a text behind a row: one that fits, and one that does not
module _ (row w : List ℕ) where
  pub with_fits : length row + length w ≤ 82 → row_with row w ≡ row ++ w
  unfolding row_with
  with_fits h = simp (le-leb _ _ h)

  with_over : 82 < length row + length w → row_with row w ≡ row
  unfolding row_with
  with_over h = simp (lt-leb _ _ h)

-- ---- a put behind the first `at` bytes of d, which are the row: u is its count, or 0
module _ (d : List ℕ) (at : ℕ) (w : List ℕ) (r : Option ℕ) (u : ℕ) (l : length d ≡ 82) (h : at ≤ 82) (e : r ≡ put_count d at w) (f : u ≡ unwrap_or r 0) where
  counted : at + length w ≤ length d → u ≡ length w
  counted k = put_long d at w r u e f k

  uncounted : length d < at + length w → u ≡ 0
  uncounted k = f ∙ ap (λ (o : Option ℕ). unwrap_or o 0) (e ∙ count_over d at w k)

  -- the row is still within 82 bytes
  pub put_within : at + u ≤ 82
  put_within = go (leb (at + length w) (length d)) refl
    where
      go : (t : Bool) → leb (at + length w) (length d) ≡ t → at + u ≤ 82
      go true q = let k = leb-true _ _ q in let z = counted k in omega arith
      go false q = let z = uncounted (leb-false _ _ q) in omega arith

  -- and has the text behind it where it fits
  pub put_pushed : (b row : List ℕ) → b ≡ put_into d at w → take at d ≡ row → take (at + u) b ≡ row_with row w
  put_pushed b row g k = go (leb (at + length w) (length d)) refl
    where
      long : length row ≡ at
      long = ap length (sym k) ∙ length-take-le at d (omega arith)

      go : (t : Bool) → leb (at + length w) (length d) ≡ t → take (at + u) b ≡ row_with row w
      go true q =
          let m = leb-true _ _ q in
          ap (λ (n : ℕ). take (at + n) b) (counted m) ∙ put_row d at w m b g ∙ ap (λ (x : List ℕ). x ++ w) k ∙ sym (with_fits row w (let z = long in omega arith))
      go false q =
          let m = leb-false _ _ q in
          ap (λ (n : ℕ). take n b) (ap (λ (n : ℕ). at + n) (uncounted m) ∙ add-zero at) ∙ ap (take at) (g ∙ put_over d at w m) ∙ k ∙ sym (with_over row w (let z = long in omega arith))

-- a byte stored behind the row, where there is one, and a row that is full
module _ (d : List ℕ) (at x : ℕ) (row : List ℕ) (l : length d ≡ 82) (h : at ≤ 82) (k : take at d ≡ row) where
  row_long : length row ≡ at
  row_long = ap length (sym k) ∙ length-take-le at d (omega arith)

  pub byte_pushed : at < 82 → take (at + 1) (set d at x) ≡ row_with row (x ∷ [])
  byte_pushed m = rw (add-one at) (take-suc-set d at x (omega arith)) ∙ ap (λ (y : List ℕ). y ++ (x ∷ [])) k ∙ sym (with_fits row (x ∷ []) (let z = row_long in omega arith))

  pub byte_over : 82 ≤ at → row ≡ row_with row (x ∷ [])
  byte_over m = sym (with_over row (x ∷ []) (let z = row_long in omega arith))

-- its end fits
pub end_fits : (n : ℕ) → n ≤ 82 → Fits w64 n
end_fits n h = omega arith

pub ruleset put_laws = (put_within, put_pushed, byte_pushed, byte_over, end_fits, rules)

-- ---- some texts behind a row

-- some, and others behind them
pub with_both : (row : List ℕ) (us vs : List (List ℕ)) → row_with_all row (us ++ vs) ≡ row_with_all (row_with_all row us) vs
with_both row [] vs = refl
with_both row (u ∷ us) vs = with_both (row_with row u) us vs

pub both_behind : (x y z : List ℕ) (us vs : List (List ℕ)) → y ≡ row_with_all x us → z ≡ row_with_all y vs → z ≡ row_with_all x (us ++ vs)
both_behind x y z us vs e f = f ∙ ap (λ (r : List ℕ). row_with_all r vs) e ∙ sym (with_both x us vs)

-- all of them, where they fit
pub all_fit : (row : List ℕ) (ws : List (List ℕ)) → length row + length (concat ws) ≤ 82 → row_with_all row ws ≡ row ++ concat ws
all_fit row [] h = sym (append-nil row)
all_fit row (w ∷ ws) h =
    let m = length-append w (concat ws) in
    let n = length-append row w in
    ap (λ (r : List ℕ). row_with_all r ws) (with_fits row w (omega arith)) ∙ all_fit (row ++ w) ws (omega arith) ∙ append_assoc row w (concat ws)

-- ---- one text behind another

-- a text pushed
pub pushed : {x y u : List ℕ} (k : ℕ) → y ≡ row_with x u → length u ≤ k → Appends k x u y
pushed {x} {y} {u} k e h = record { most = h; appended = λ l. e ∙ with_fits x u l }

-- no more bytes than more
pub at_most : {x y u : List ℕ} {j : ℕ} (k : ℕ) → Appends j x u y → j ≤ k → Appends k x u y
at_most k a h = record { most = omega (arith, a.most); appended = a.appended }

-- two texts
pub both : {x y z u v : List ℕ} {j k : ℕ} → Appends j x u y → Appends k y v z → Appends (j + k) x (u ++ v) z
both {x} {y} {z} {u} {v} a b =
    let n = length-append u v in
    record {
      most = omega (arith, a.most, b.most);
      appended = λ l. let e = a.appended (omega arith) in let m = ap length e ∙ length-append x u in b.appended (omega arith) ∙ ap (λ (s : List ℕ). s ++ v) e ∙ append_assoc x u v;
    }

-- ---- a place as one text

-- it has at most 23 bytes
pub short_most : (w : List ℕ) → length (short_text w) ≤ 23
unfolding short_text
short_most w = go (leb (length w) 23) refl
  where
    go : (t : Bool) → leb (length w) 23 ≡ t → length (cond t w []) ≤ 23
    go true e = leb-true _ _ e
    go false e = lit≤ tt

-- what is pushed of a place is behind the row if there is room
pub place_appends : (pieces : OlaOperand → List (List ℕ)) (o : OlaOperand) (x y : List ℕ) → y ≡ row_with x (place_text pieces o) → Appends 23 x (place_text pieces o) y
place_appends pieces o x y e = pushed 23 e (short_most _)

-- the pieces in an empty row, whose text w is the first n bytes of d
module _ (row w v d : List ℕ) (n : ℕ) (g : v ≡ w) (e : take n d ≡ v) (l : length d ≡ 82) (h : n ≤ 82) where
  alone_long : length w ≡ n
  alone_long = ap length (sym (e ∙ g)) ∙ length-take-le n d (omega arith)

  -- a short one is appended
  pub alone_pushed : (after : List ℕ) → n ≤ 23 → after ≡ row_with row (take n d) → after ≡ row_with row (short_text w)
  unfolding short_text
  alone_pushed after k f =
      let m = alone_long in
      f ∙ ap (row_with row) (e ∙ g ∙ sym (ap (λ (t : Bool). cond t w []) (le-leb (length w) 23 (omega arith))))

  -- any other is left out
  pub alone_left : 23 < n → row ≡ row_with row (short_text w)
  unfolding short_text row_with
  alone_left k =
      let m = alone_long in
      rw (lt-leb (length w) 23 (omega arith)) (go (leb (length row + 0) 82))
    where
      go : (t : Bool) → row ≡ cond t (row ++ []) row
      go true = sym (append-nil row)
      go false = refl

pub ruleset alone_laws = (alone_pushed, alone_left, rules)

-- ---- how long the parts of a row are

-- a register has two bytes
pub register_most : (r : OlaRegister) → length (register_text r) ≤ 2
register_most r = lit≤ tt

-- a special one at most three
pub special_most : (s : OlaSpecialRegister) → length (special_text s) ≤ 3
special_most PC = lit≤ tt
special_most PSP = lit≤ tt

-- a mnemonic at most eight
pub mnemonic_most : (o : OlaOpcode) → length (mnemonic o) ≤ 8
unfolding operations
mnemonic_most o = leb-true _ _ (agree (λ q. true) (λ q. leb (length (mnemonic q)) 8) true refl o)

-- ---- texts that make one

-- some texts, one behind the other, are w, which has at most k bytes
pub record Makes (k : ℕ) (ws : List (List ℕ)) (w : List ℕ) : Type 0 where
  pub joined : concat ws ≡ w
  pub most : length w ≤ k

-- the number, offset or factor that a content carries has 64 bits
abbrev pub NumberFits : OlaOperand → Type 0
NumberFits o = (n : ℕ) → carried o ≡ Some n → n < 2 ^ 64

-- and so have those of all three places
pub record NumbersFit (i : BinaryInstruction) : Type 0 where
  pub op0 : NumberFits i.op0
  pub op1 : NumberFits i.op1
  pub dst : NumberFits i.dst

-- a text by itself
pub one_makes : (k : ℕ) (w : List ℕ) → length w ≤ k → Makes k (w ∷ []) w
one_makes k w h = record { joined = append-nil w; most = h }

-- no more bytes than more
pub makes_most : {ws : List (List ℕ)} {w : List ℕ} {j : ℕ} (k : ℕ) → Makes j ws w → j ≤ k → Makes k ws w
makes_most k a h = record { joined = a.joined; most = omega (arith, a.most) }

-- two texts
pub both_make : {us vs : List (List ℕ)} {u v : List ℕ} {j k : ℕ} → Makes j us u → Makes k vs v → Makes (j + k) (us ++ vs) (u ++ v)
both_make {us} {vs} {u} {v} a b =
    let n = length-append u v in
    record {
      joined = concat-append us vs ∙ ap₂ (λ (x y : List ℕ). x ++ y) a.joined b.joined;
      most = omega (arith, a.most, b.most);
    }

-- ---- the row of an instruction

-- by its mnemonic and the text of its places
module _ (place : OlaOperand → List ℕ) (between : ℕ) (i : BinaryInstruction) (p : RowPlaces) (x y z : List ℕ) where
  pub row_made : x ≡ row_with [] (mnemonic i.opcode) → p ≡ row_places i.opcode → Appends 74 x (placed_by as_text place between p i) y → z ≡ y → z ≡ row_by place between i
  row_made e f a g =
      let b = both (pushed 8 e (mnemonic_most i.opcode)) a in
      let m = b.most in
      g ∙ b.appended (omega arith) ∙ ap (λ (q : RowPlaces). mnemonic i.opcode ++ placed_by as_text place between q i) f

-- as it is pushed
module _ (pieces : OlaOperand → List (List ℕ)) (between : ℕ) (i : BinaryInstruction) (p : RowPlaces) (x y z : List ℕ) where
  pub pushed_made : x ≡ row_with [] (mnemonic i.opcode) → p ≡ row_places i.opcode → y ≡ row_with_all x (placed_by as_piece pieces between p i) → z ≡ y → z ≡ row_pushed pieces between i
  pushed_made e f a g = g ∙ a ∙ ap₂ (λ (r : List ℕ) (q : RowPlaces). row_with_all r (placed_by as_piece pieces between q i)) e f

-- nothing of it is left out: the mnemonic and the texts of its places, which have room
module _ (place : OlaOperand → List ℕ) (pieces : OlaOperand → List (List ℕ)) (between : ℕ) (whole : (o : OlaOperand) → NumberFits o → Makes 23 (pieces o) (place o)) where
  spaced_makes : (o : OlaOperand) → NumberFits o → Makes 24 (spaced_by as_piece pieces o) (spaced_by as_text place o)
  spaced_makes o h = both_make (one_makes 1 (bytes " ") (lit≤ tt)) (whole o h)

  bracketed_makes : (a b : OlaOperand) → NumberFits a → NumberFits b → Makes 50 (bracketed_by as_piece pieces between a b) (bracketed_by as_text place between a b)
  bracketed_makes a b h k =
      both_make (one_makes 1 (bytes " ") (lit≤ tt))
      (both_make (one_makes 1 (bytes "[") (lit≤ tt))
      (both_make (whole a h)
      (both_make (one_makes 1 (between ∷ []) (lit≤ tt))
      (both_make (whole b k) (one_makes 1 (bytes "]") (lit≤ tt))))))

  module _ (i : BinaryInstruction) (fits : NumbersFit i) where
    placed_makes : (p : RowPlaces) → Makes 74 (placed_by as_piece pieces between p i) (placed_by as_text place between p i)
    placed_makes DstOp0Op1 = makes_most 74 (both_make (spaced_makes i.dst fits.dst) (both_make (spaced_makes i.op0 fits.op0) (spaced_makes i.op1 fits.op1))) (lit≤ tt)
    placed_makes DstOp1 = makes_most 74 (both_make (spaced_makes i.dst fits.dst) (spaced_makes i.op1 fits.op1)) (lit≤ tt)
    placed_makes DstMemory = both_make (spaced_makes i.dst fits.dst) (bracketed_makes i.op0 i.op1 fits.op0 fits.op1)
    placed_makes MemoryDst = both_make (bracketed_makes i.op0 i.op1 fits.op0 fits.op1) (spaced_makes i.dst fits.dst)
    placed_makes Op0Op1 = makes_most 74 (both_make (spaced_makes i.op0 fits.op0) (spaced_makes i.op1 fits.op1)) (lit≤ tt)
    placed_makes Op1 = makes_most 74 (spaced_makes i.op1 fits.op1) (lit≤ tt)
    placed_makes Bare = record { joined = refl; most = lit≤ tt }

    pub row_whole : row_pushed pieces between i ≡ row_by place between i
    row_whole =
        let m = both_make (one_makes 8 (mnemonic i.opcode) (mnemonic_most i.opcode)) (placed_makes (row_places i.opcode)) in
        let n = m.most in
        all_fit [] (mnemonic i.opcode ∷ placed_by as_piece pieces between (row_places i.opcode) i) (rw m.joined (omega arith)) ∙ m.joined

-- what stands in a place as one text is what its pieces make, where that has at most 23 bytes
pub place_kept : (pieces : OlaOperand → List (List ℕ)) (place : OlaOperand → List ℕ) (o : OlaOperand) → Makes 23 (pieces o) (place o) → place_text pieces o ≡ place o
unfolding short_text
place_kept pieces place o m =
    let h = m.most in
    ap short_text (all_fit [] (pieces o) (rw m.joined (omega arith)) ∙ m.joined) ∙ ap (λ (t : Bool). cond t (place o) []) (le-leb (length (place o)) 23 h)

-- nothing is left out of a row whose places go in as a whole
pub whole_is : (pieces : OlaOperand → List (List ℕ)) (between : ℕ) (i : BinaryInstruction) → NumbersFit i → row_pushed (whole_pieces pieces) between i ≡ row_by (place_text pieces) between i
whole_is pieces between i fits = row_whole (place_text pieces) (whole_pieces pieces) between (λ o h. one_makes 23 (place_text pieces o) (short_most _)) i fits

module _ (pieces : OlaOperand → List (List ℕ)) (between : ℕ) (i : BinaryInstruction) (fits : NumbersFit i) (d : List ℕ) (at : ℕ) where
  -- so its count is the whole row's
  pub whole_counted : (r : Option ℕ) → r ≡ put_count d at (row_pushed (whole_pieces pieces) between i) → r ≡ put_count d at (row_by (place_text pieces) between i)
  whole_counted r e = e ∙ ap (put_count d at) (whole_is pieces between i fits)

  -- and so is what it leaves
  pub whole_stored : (b : List ℕ) → b ≡ put_into d at (row_pushed (whole_pieces pieces) between i) → b ≡ put_into d at (row_by (place_text pieces) between i)
  whole_stored b e = e ∙ ap (put_into d at) (whole_is pieces between i fits)

pub ruleset whole_laws = (whole_counted, whole_stored, rules)
