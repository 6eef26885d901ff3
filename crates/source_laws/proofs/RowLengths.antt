-- How many bytes the source row of an instruction takes, against the lines that it was read from.
use Rattle.std.specs.Prelude.{Option, Some, None}
use Prim.Native.Nat.{ℕ, suc, ◌+◌, ◌*◌, ◌/◌, ◌%◌, ◌^◌, ◌<◌, ◌≤◌}
use mathlib.Core.Path.{◌≡◌, refl, sym, ap, subst}
use mathlib.Core.List.{List, [], ◌∷◌, ◌++◌, map}
use mathlib.Core.Bool.{Bool, true, false, not, ◌&&◌, ◌||◌, and-eq-true_iff, or-true, cond}
use native.Mathlib.Omega.{arith}
use native.Mathlib.Nat.{pow-suc, pow-le-pow_right, div-eq_of_lt}
use borrow.Author.Tests.{eqb-true, leb-true, leb-false, ltb-true, ltb-false}
use lib.Dec.{eqb, leb, ltb, lit<, lit≤}
use lib.ListN.{length, get_or, drop, length-append, length-drop}
use Rattle.text.specs.Bytes.{bytes}
use Rattle.text.specs.Lists.{total}
use Rattle.text.specs.Scan.{all, is_empty}
use Rattle.text.specs.Answer.{Answer, ok, refused}
use Rattle.text.proofs.AnswerLaws.{not_ok, ok_same}
use Rattle.text.proofs.SumLaws.{spaced}
use Rattle.text_read.specs.Numerals.{digit_value, is_digit_of, value_from, numeral, unprefixed, without_plus, hexadecimal}
use Rattle.text_read.proofs.Laws.{numeral_value}
use Rattle.text_write.specs.Digits.{decimal_text}
use Rattle.text_write.proofs.Laws.{decimal_most}
use Rattle.vm_opcodes.specs.Operations.{operations, operation_bit, bit, operation_in, row_places}
use Rattle.vm_opcodes.specs.declared.OlaOpcode.{OlaOpcode}
use Rattle.vm_opcodes.specs.declared.RowPlaces.{RowPlaces}
use Rattle.vm_opcodes.specs.declared.RowPlaces.TheVariants.{DstOp0Op1, DstOp1, DstMemory, MemoryDst, Op0Op1, Op1, Bare}
use Rattle.vm_opcodes.proofs.Laws.{bit_least, every_operation, first_holds}
use Rattle.vm_mnemonics.specs.Mnemonics.{mnemonic}
use Rattle.vm_hardware.specs.Registers.{register_in}
use Rattle.vm_hardware.specs.declared.OlaRegister.{OlaRegister}
use Rattle.vm_hardware.specs.declared.OlaSpecialRegister.TheVariants.{PC, PSP}
use Rattle.vm_hardware.specs.declared.Place.TheVariants.{Op0, Op1 as Op1Place, Dst}
use Rattle.vm_operands.specs.Numbers.{order}
use Rattle.vm_operands.specs.declared.OlaOperand.{OlaOperand}
use Rattle.vm_operands.specs.declared.OlaOperand.TheVariants.{Empty, ImmediateOperand, RegisterOperand, RegisterWithOffset, RegisterWithFactor, SpecialReg}
use Rattle.program.specs.Instructions.{is_mov, carried}
use Rattle.program.specs.Groups.{Group}
use Rattle.program.specs.CanonicalForm.{CanonicalForm, plain, numbered, offset, factored, or_empty, BelowOrder, below}
use Rattle.program.specs.declared.BinaryInstruction.{BinaryInstruction}
use Rattle.decoder.specs.Lines.{first_of_line, second_of_line, line_has_second, is_here, is_complete}
use Rattle.decoder.specs.Decode.{register_or, missing_op1, built_alone, on_number, two_due, on_operation, on_first, group_decoded}
use Rattle.decoder.specs.AsRead.{as_canonical}
use Rattle.decoder.proofs.DecodeLaws.{group_outcome, WasRead, outcome_read}
use Rattle.source.specs.SourceText.{place_source, places_source, spaced_all, source_row}

-- ---- a row

-- the bytes of a row's places without those of op1, where op0 and dst have three each
abbrev around : RowPlaces → ℕ
around DstOp0Op1 = 9
around DstOp1 = 5
around DstMemory = 11
around MemoryDst = 11
around Op0Op1 = 5
around Op1 = 1
around Bare = 0

-- and the mnemonic
abbrev besides : OlaOpcode → ℕ
besides o = length (mnemonic o) + around (row_places o)

besides_most : (o : OlaOpcode) → besides o ≤ 17
unfolding operations
besides_most o = leb-true (besides o) 17 (every_operation (λ q. leb (besides q) 17) refl o)

-- fewer for the operations of the bits below 8
besides_low : (o : OlaOpcode) → operation_bit o < 8 → besides o ≤ 13
unfolding operations
besides_low o h = go (leb 8 (operation_bit o)) refl (every_operation (λ q. leb 8 (operation_bit q) || leb (besides q) 13) refl o)
  where
    go : (t : Bool) → leb 8 (operation_bit o) ≡ t → (t || leb (besides o) 13) ≡ true → besides o ≤ 13
    go true e k = let b = leb-true 8 (operation_bit o) e in absurd (omega arith)
    go false e k = leb-true (besides o) 13 k

-- each place stands behind a space
spaced_long : (ps : List (List ℕ)) → length (spaced_all ps) ≡ total (map spaced ps)
unfolding spaced_all total
spaced_long [] = refl
spaced_long (p ∷ ps) = let a = length-append p (spaced_all ps) in let h = spaced_long ps in omega arith

memory_long : (a b : List ℕ) → length (bytes "[" ++ a ++ bytes "," ++ b ++ bytes "]") ≡ 3 + length a + length b
memory_long a b =
    let x = length-append a (bytes ",") in
    let y = length-append (a ++ bytes ",") b in
    let z = length-append (a ++ bytes "," ++ b) (bytes "]") in
    omega arith

module _ (i : BinaryInstruction) (h : length (place_source i.op0) ≤ 3) (k : length (place_source i.dst) ≤ 3) where
  places_most : (p : RowPlaces) → total (map spaced (places_source p i)) ≤ around p + length (place_source i.op1)
  unfolding total
  places_most DstOp0Op1 = omega arith
  places_most DstOp1 = omega arith
  places_most DstMemory = let m = memory_long (place_source i.op0) (place_source i.op1) in omega arith
  places_most MemoryDst = let m = memory_long (place_source i.op0) (place_source i.op1) in omega arith
  places_most Op0Op1 = omega arith
  places_most Op1 = omega arith
  places_most Bare = omega arith

  row_most : length (source_row i) ≤ besides i.opcode + length (place_source i.op1)
  row_most =
      let a = length-append (mnemonic i.opcode) (spaced_all (places_source (row_places i.opcode) i)) in
      let b = spaced_long (places_source (row_places i.opcode) i) in
      let c = places_most (row_places i.opcode) in
      omega arith

-- ---- its places

-- a register, or psp for an empty place
register_most : (r : Option OlaRegister) → length (place_source (or_empty r)) ≤ 3
register_most None = lit≤ tt
register_most (Some r) = lit≤ tt

form_most : (i : BinaryInstruction) → CanonicalForm i → (length (place_source i.op0) ≤ 3) × (length (place_source i.dst) ≤ 3)
form_most i (plain o a b d m) = (register_most a, register_most d)
form_most i (numbered o a d v m) = (register_most a, register_most d)
form_most i (offset o a d v m) = (lit≤ tt, lit≤ tt)
form_most i (factored o a b d v m) = (lit≤ tt, lit≤ tt)

decimal_below : (v : ℕ) → v < order → length (decimal_text v) ≤ 20
decimal_below v h = decimal_most v (omega arith)

-- a content whose number, if it has one, is below p
content_most : (p : OlaOperand) → BelowOrder (carried p) → length (place_source p) ≤ 23
content_most Empty h = lit≤ tt
content_most (ImmediateOperand v) (below h) = let d = decimal_below v.number h in omega arith
content_most (RegisterOperand r) h = lit≤ tt
content_most (RegisterWithOffset r v) (below h) = let d = decimal_below v.number h in omega arith
content_most (RegisterWithFactor r v) (below h) = let d = decimal_below v.number h in omega arith
content_most (SpecialReg PC) h = lit≤ tt
content_most (SpecialReg PSP) h = lit≤ tt

-- the row of any instruction read has at most 40 bytes
pub read_most : (f : ℕ → Answer BinaryInstruction) (i : BinaryInstruction) → WasRead f i → length (source_row i) ≤ 40
read_most f i r =
    let p = form_most (as_canonical i) r.form in
    let a = row_most i p.0 p.1 in
    let b = besides_most i.opcode in
    let c = content_most i.op1 r.order.op1 in
    omega arith

found_most : (f : Option OlaRegister) → length (place_source (register_or Empty f)) ≤ 3
found_most (Some r) = lit≤ tt
found_most None = lit≤ tt

op1_most : (o : OlaOpcode) (f : Option OlaRegister) → length (place_source (register_or (missing_op1 o) f)) ≤ 3
op1_most o (Some r) = lit≤ tt
op1_most o None = go (is_mov o)
  where
    go : (t : Bool) → length (place_source (cond t (SpecialReg PSP) Empty)) ≤ 3
    go true = lit≤ tt
    go false = lit≤ tt

-- the row of one read without a number
alone_most : (o : OlaOpcode) (w : ℕ) → length (source_row (built_alone o w)) ≤ besides o + 3
alone_most o w =
    let a = row_most (built_alone o w) (found_most (register_in Op0 w)) (found_most (register_in Dst w)) in
    let b = op1_most o (register_in Op1Place w) in
    omega arith

-- ---- the first word of a line

-- digits after digits of a value below 16 ^ m
value_below : (m v : ℕ) (s : List ℕ) → all (is_digit_of 16) s ≡ true → v < 16 ^ m → value_from 16 v s < 16 ^ (m + length s)
unfolding all value_from
value_below m v [] h b = let e : m ≡ m + 0 = omega arith in subst (λ (n : ℕ). v < 16 ^ n) e b
value_below m v (x ∷ s) h b =
    let a = (and-eq-true_iff (is_digit_of 16 x) (all (is_digit_of 16) s)).0 h in
    let d : digit_value x < 16 = ltb-true (digit_value x) 16 a.0 in
    let p = pow-suc 16 m in
    let c : v * 16 + digit_value x < 16 ^ suc m = omega arith in
    let e : suc m + length s ≡ m + suc (length s) = omega arith in
    subst (λ (n : ℕ). value_from 16 (v * 16 + digit_value x) s < 16 ^ n) e (value_below (suc m) (v * 16 + digit_value x) s a.1 c)

unprefixed_le : (s : List ℕ) → length (unprefixed s) ≤ length s
unfolding unprefixed
unprefixed_le [] = omega arith
unprefixed_le (x ∷ []) = omega arith
unprefixed_le (x ∷ y ∷ l) = go (eqb x 48 && eqb y 120) (unprefixed_le l)
  where
    go : (t : Bool) → length (unprefixed l) ≤ length l → length (cond t (unprefixed l) (x ∷ y ∷ l)) ≤ suc (suc (length l))
    go true h = omega arith
    go false h = omega arith

without_plus_le : (l : List ℕ) → length (without_plus l) ≤ length l
without_plus_le l = go (eqb (get_or l 0 0) 43)
  where
    go : (t : Bool) → length (cond t (drop 1 l) l) ≤ length l
    go true = let e = length-drop 1 l in omega arith
    go false = omega arith

numeral_digits : (bound v : ℕ) (s : List ℕ) → numeral 16 bound s ≡ Some v → all (is_digit_of 16) s ≡ true
unfolding numeral
numeral_digits bound v s e = go (is_empty s) (all (is_digit_of 16) s) (ltb (value_from 16 0 s) bound) e
  where
    go : (n t u : Bool) → cond (not n && t && u) (Some (value_from 16 0 s)) None ≡ Some v → t ≡ true
    go true t u e = let z : ◌≡◌ {A = ℕ} 0 1 = cc in absurd (omega arith)
    go false true u e = refl
    go false false u e = let z : ◌≡◌ {A = ℕ} 0 1 = cc in absurd (omega arith)

-- a line of n bytes has a word below 16 ^ n
word_below : (l : List ℕ) (w : ℕ) → first_of_line l ≡ Some w → w < 16 ^ length l
unfolding hexadecimal
word_below l w e =
    let s : List ℕ = without_plus (unprefixed l) in
    let v : w ≡ value_from 16 0 s = numeral_value 16 (2 ^ 64) w s e in
    let b : value_from 16 0 s < 16 ^ (0 + length s) = value_below 0 0 s (numeral_digits (2 ^ 64) w s e) (lit< tt) in
    let n : 0 + length s ≤ length l = let x = without_plus_le (unprefixed l) in let y = unprefixed_le l in omega arith in
    let p : 16 ^ (0 + length s) ≤ 16 ^ length l = pow-le-pow_right (lit< tt) n in
    omega arith

-- a word with bit k is at least 2 ^ k
bit_reaches : (k w : ℕ) → bit k w ≡ true → 2 ^ k ≤ w
bit_reaches k w h = go (ltb w (2 ^ k)) refl
  where
    go : (t : Bool) → ltb w (2 ^ k) ≡ t → 2 ^ k ≤ w
    go true e =
        let a : w / 2 ^ k % 2 ≡ 1 = eqb-true _ 1 h in
        let b : w / 2 ^ k ≡ 0 = div-eq_of_lt (ltb-true w (2 ^ k) e) in
        let c : 0 ≡ w / 2 ^ k % 2 = sym (ap (λ (q : ℕ). q % 2) b) in
        absurd (omega arith)
    go false e = ltb-false w (2 ^ k) e

module _ (w : ℕ) (o : OlaOpcode) (e : operation_in w ≡ Some o) where
  operation_reaches : 2 ^ operation_bit o ≤ w
  operation_reaches = bit_reaches (operation_bit o) w (first_holds (λ q. bit (operation_bit q) w) operations o e)

  -- larger where two lines are due
  two_reaches : two_due o w ≡ true → 2 ^ 21 ≤ w
  two_reaches t = go (bit 62 w) refl (operation_bit o) refl t
    where
      from : (m k : ℕ) → m ≤ k → 2 ^ k ≤ w → 2 ^ m ≤ w
      from m k h b = let p : 2 ^ m ≤ 2 ^ k = pow-le-pow_right (lit< tt) h in omega arith

      go : (t : Bool) → bit 62 w ≡ t → (k : ℕ) → operation_bit o ≡ k → (t || (eqb k 22 || eqb k 21)) ≡ true → 2 ^ 21 ≤ w
      go true f k q m = from 21 62 (lit≤ tt) (bit_reaches 62 w f)
      go false f k q m = at (eqb k 22) refl m
        where
          at : (t : Bool) → eqb k 22 ≡ t → (t || eqb k 21) ≡ true → 2 ^ 21 ≤ w
          at true g m = let x = eqb-true k 22 g in from 21 (operation_bit o) (omega arith) operation_reaches
          at false g m = let x = eqb-true k 21 m in from 21 (operation_bit o) (omega arith) operation_reaches

-- ---- the lines that it was read from

-- an instruction read from a first line of n bytes and, where it has one, a second
data ReadFrom (n : ℕ) : Option (List ℕ) → BinaryInstruction → Type 0 where
  from_one : {i : BinaryInstruction} → 2 ^ operation_bit i.opcode < 16 ^ n → length (source_row i) ≤ besides i.opcode + 3 → ReadFrom n None i
  from_two : {l : List ℕ} {i : BinaryInstruction} → 2 ^ 21 < 16 ^ n → length (source_row i) ≤ 40 → ReadFrom n (Some l) i

module _ (n w : ℕ) (b : w < 16 ^ n) (k : ℕ) (i : BinaryInstruction) where
  operation_from : (p : Option OlaOpcode) → operation_in w ≡ p → (second : Option (List ℕ)) → (is_here second ≡ true → length (source_row i) ≤ 40)
      → on_operation k w p second ≡ ok i → ReadFrom n second i
  unfolding on_operation
  operation_from None e second m r = absurd (not_ok r)
  operation_from (Some o) e None m r =
      let h = operation_reaches w o e in
      subst (ReadFrom n None) (ok_same r) (from_one {i = built_alone o w} (omega arith) (alone_most o w))
  operation_from (Some o) e (Some l) m r = go (two_due o w) refl r
    where
      go : (t : Bool) → two_due o w ≡ t → cond t (on_number k o w (second_of_line l)) (refused 17 k) ≡ ok i → ReadFrom n (Some l) i
      go true f r = let h = two_reaches w o e f in from_two (omega arith) (m refl)
      go false f r = absurd (not_ok r)

module _ (k : ℕ) (g : Group (List ℕ)) (i : BinaryInstruction) (e : group_decoded k g ≡ ok i) where
  second_most : is_here g.second ≡ true → length (source_row i) ≤ 40
  second_most h =
      let c : is_complete g ≡ true = rw h (or-true (not (line_has_second g.first))) in
      read_most (λ j. group_decoded j g) i (outcome_read (λ j. group_decoded j g) (group_outcome g c) k i e)

  group_from : ReadFrom (length g.first) g.second i
  unfolding on_first
  group_from = go (first_of_line g.first) refl e
    where
      go : (n : Option ℕ) → first_of_line g.first ≡ n → on_first k n g.second ≡ ok i → ReadFrom (length g.first) g.second i
      go None f r = absurd (not_ok r)
      go (Some w) f r = operation_from (length g.first) w (word_below g.first w f) k i (operation_in w) refl g.second second_most r

-- ---- its row against those lines

-- what a function says of each line of a group, added up
abbrev pub held : {A : Type 0} → (A → ℕ) → Option A → ℕ
held u None = 0
held u (Some a) = u a

abbrev pub weighed : {A : Type 0} → (A → ℕ) → Group A → ℕ
weighed u g = u g.first + held u g.second

-- a line of so large a word is longer than c bytes
line_longer : (c d k n : ℕ) → 16 ^ c ≤ 2 ^ d → d ≤ k → 2 ^ k < 16 ^ n → c < n
line_longer c d k n h m b = go (leb n c) refl
  where
    go : (t : Bool) → leb n c ≡ t → c < n
    go true e =
        let p : 16 ^ n ≤ 16 ^ c = pow-le-pow_right (lit< tt) (leb-true n c e) in
        let q : 2 ^ d ≤ 2 ^ k = pow-le-pow_right (lit< tt) m in
        absurd (omega arith)
    go false e = leb-false n c e

lines_hold : (n : ℕ) (second : Option (List ℕ)) (i : BinaryInstruction) → ReadFrom n second i → spaced (source_row i) ≤ 21 + held (λ (l : List ℕ). 21) second
lines_hold n second i (from_one b r) = let m = besides_most i.opcode in omega arith
lines_hold n second i (from_two b r) = omega arith

bytes_hold : (n : ℕ) (second : Option (List ℕ)) (i : BinaryInstruction) → ReadFrom n second i
    → 3 * spaced (source_row i) ≤ 17 * (n + 1) + held (λ (l : List ℕ). 17 * spaced l) second
bytes_hold n second i (from_one b r) =
    let m = line_longer 1 5 (operation_bit i.opcode) n (lit≤ tt) (bit_least i.opcode) b in
    go (leb 8 (operation_bit i.opcode)) refl m
  where
    go : (t : Bool) → leb 8 (operation_bit i.opcode) ≡ t → 1 < n → 3 * spaced (source_row i) ≤ 17 * (n + 1) + 0
    go true e m =
        let x = line_longer 2 8 (operation_bit i.opcode) n (lit≤ tt) (leb-true 8 (operation_bit i.opcode) e) b in
        let y = besides_most i.opcode in
        omega arith
    go false e m = let y = besides_low i.opcode (leb-false 8 (operation_bit i.opcode) e) in omega arith
bytes_hold n second i (from_two {l = l} b r) = let m = line_longer 5 21 21 n (lit≤ tt) (lit≤ tt) b in omega arith

module _ (k : ℕ) (g : Group (List ℕ)) (i : BinaryInstruction) (e : group_decoded k g ≡ ok i) where
  -- A row and its line feed take at most 21 bytes for each line that its instruction was read from.
  pub row_by_lines : spaced (source_row i) ≤ weighed (λ l. 21) g
  row_by_lines = lines_hold (length g.first) g.second i (group_from k g i e)

  -- Three times that is at most 17 times the bytes of those lines, a line feed counted for each.
  pub row_by_bytes : 3 * spaced (source_row i) ≤ weighed (λ l. 17 * spaced l) g
  row_by_bytes = bytes_hold (length g.first) g.second i (group_from k g i e)
