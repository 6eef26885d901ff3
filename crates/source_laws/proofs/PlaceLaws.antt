-- Each place of a written row reads as its operand: a register, psp, a number, `[rA,n]` and `[rA,rB,n]`.
use Rattle.std.specs.Prelude.{Some, None}
use Prim.Native.Nat.{ℕ, suc, ◌+◌, ◌-◌, ◌^◌, ◌<◌, ◌≤◌}
use mathlib.Core.Path.{◌≡◌, refl, ap, ap₂, ◌∙◌}
use mathlib.Core.List.{List, [], ◌∷◌, ◌++◌}
use mathlib.Core.Bool.{Bool, true, false, ◌&&◌, cond, and-eq-true_iff, true≢false}
use native.Mathlib.Omega.{arith}
use native.Mathlib.Nat.{lt_trans}
use borrow.Author.Tests.{le-leb, leb-true, ne_eqb}
use lib.Dec.{eqb, leb, lit<}
use lib.ListN.{length, get_or, length-append}
use lib.Seq.{take-append_seam}
use Rattle.text.specs.Bytes.{bytes, is_digit, same}
use Rattle.text.specs.Scan.{all, is_empty}
use Rattle.text.proofs.Laws.{other_byte}
use Rattle.text_write.specs.Digits.{decimal_text}
use Rattle.vm_hardware.specs.Registers.{registers, register_index, register_at, register_text, special_text, register_of, special_of}
use Rattle.vm_hardware.specs.declared.OlaRegister.{OlaRegister}
use Rattle.vm_hardware.specs.declared.OlaRegister.TheVariants.{R0}
use Rattle.vm_hardware.specs.declared.OlaSpecialRegister.TheVariants.{PSP}
use Rattle.vm_hardware.proofs.Laws.{index_lt, register_at_index, register_of_text}
use Rattle.vm_operands.specs.Numbers.{order}
use Rattle.vm_operands.specs.declared.ImmediateValue.{ImmediateValue}
use Rattle.asm.specs.Operands.{shapes, first_match, operand_of, is_source_number, source_number}
use Rattle.asm.specs.declared.OlaAsmOperand.{OlaAsmOperand}
use Rattle.asm.specs.declared.OlaAsmOperand.TheVariants.{ImmediateOperand, RegisterOperand, RegisterWithOffset, RegisterWithFactoredRegOffset, SpecialReg}
use Rattle.asm_laws.proofs.SpellingLaws.{all_digits, some_digit, written_number, printed_reads}
use Rattle.source_laws.proofs.PieceLaws.{is_plain, Piece, all_else, all_joined}

-- a piece that reads as an operand, wherever it starts
pub record Reads (t : List ℕ) (o : OlaAsmOperand) : Type 0 where
  pub piece : Piece t
  pub read : (i : ℕ) → operand_of (record { start = i; text = t }) ≡ Some o

-- ---- bytes

digit_plain : (b : ℕ) → is_digit b ≡ true → is_plain b ≡ true
unfolding is_digit
digit_plain b h =
    let t = (and-eq-true_iff (leb 48 b) (leb b 57)).0 h in
    let l : 48 ≤ b = leb-true 48 b t.0 in
    let m : b ≤ 57 = leb-true b 57 t.1 in
    rw (le-leb 33 b (omega arith), le-leb b 126 (omega arith), ne_eqb b 59 (λ z. omega arith))

-- the digit of a register
abbrev digit_of : OlaRegister → ℕ
digit_of r = 48 + register_index r

register_digit : (r : OlaRegister) → is_digit (digit_of r) ≡ true
unfolding is_digit
register_digit r = let l = index_lt r in rw (le-leb 48 (digit_of r) (omega arith), le-leb (digit_of r) 57 (omega arith))

register_back : (r : OlaRegister) → register_at (digit_of r - 48) ≡ r
register_back r = let e : digit_of r - 48 ≡ register_index r = omega arith in ap (λ (k : ℕ). get_or registers k R0) e ∙ register_at_index r

-- ---- registers, and psp for nothing

-- a register's text reads as the register
pub register_reads : (r : OlaRegister) → Reads (register_text r) (RegisterOperand r)
unfolding all shapes first_match
register_reads r = record {
  piece = record { some = refl; plain = rw (digit_plain (digit_of r) (register_digit r)) };
  read = λ i. rw (register_of_text r);
}

-- `psp` reads as psp
pub psp_reads : Reads (special_text PSP) (SpecialReg PSP)
unfolding all shapes first_match is_source_number register_of special_of is_digit same
psp_reads = record { piece = record { some = refl; plain = refl }; read = λ i. refl }

-- ---- numbers

-- a text that begins with a digit is no register
no_register : (x : ℕ) (s : List ℕ) → is_digit x ≡ true → register_of (x ∷ s) ≡ None
unfolding register_of is_digit
no_register x s d = rw (other_byte is_digit x 114 d refl) (go (eqb (length (x ∷ s)) 2))
  where
    go : (t : Bool) → cond (t && false && is_digit (get_or (x ∷ s) 1 0)) (Some (register_at (get_or (x ∷ s) 1 0 - 48))) None ≡ None
    go true = refl
    go false = refl

-- a text of digits that is the number v, as numbers in decimal are
record Spells (t : List ℕ) (v : ImmediateValue) : Type 0 where
  pub some : is_empty t ≡ false
  pub digits : all is_digit t ≡ true
  pub shaped : is_source_number t ≡ true
  pub value : source_number t ≡ Some v

decimal_read : (v : ImmediateValue) → v.number < order → Spells (decimal_text v.number) v
decimal_read v h =
    let n : ℕ = v.number in
    let w : n < 2 ^ 64 = lt_trans h (lit< tt) in
    record { some = some_digit n w; digits = all_digits n w; shaped = written_number n w; value = (printed_reads 16 n (omega arith) (omega arith) w h).1 }

first_digit : (x : ℕ) (s : List ℕ) → all is_digit (x ∷ s) ≡ true → is_digit x ≡ true
unfolding all
first_digit x s h = ((and-eq-true_iff (is_digit x) (all is_digit s)).0 h).0

number_read : (i : ℕ) (t : List ℕ) (v : ImmediateValue) → Spells t v → operand_of (record { start = i; text = t }) ≡ Some (ImmediateOperand v)
unfolding shapes first_match is_digit
number_read i [] v h = absurd (true≢false h.some)
number_read i (x ∷ s) v h = let d = first_digit x s h.digits in rw (other_byte is_digit x 91 d refl, no_register x s d, h.shaped, h.value)

-- a number in decimal reads as the number
pub number_reads : (v : ImmediateValue) → v.number < order → Reads (decimal_text v.number) (ImmediateOperand v)
number_reads v h = record {
  piece = record { some = (decimal_read v h).some; plain = all_else is_digit is_plain digit_plain (decimal_text v.number) (decimal_read v h).digits };
  read = λ i. number_read i (decimal_text v.number) v (decimal_read v h);
}

-- ---- brackets

last_byte : (l : List ℕ) (c : ℕ) → get_or (l ++ c ∷ []) (length l) 0 ≡ c
last_byte [] c = refl
last_byte (x ∷ l) c = last_byte l c

-- digits and the closing bracket
closed_plain : (t : List ℕ) → all is_digit t ≡ true → all is_plain (t ++ 93 ∷ []) ≡ true
unfolding all
closed_plain t h = all_joined is_plain t (93 ∷ []) (all_else is_digit is_plain digit_plain t h) refl

-- `[rA,n]` by its bytes
offset_read : (i d : ℕ) (t : List ℕ) (v : ImmediateValue) → is_digit d ≡ true → Spells t v
    → operand_of (record { start = i; text = 91 ∷ 114 ∷ d ∷ 44 ∷ (t ++ 93 ∷ []) }) ≡ Some (RegisterWithOffset (register_at (d - 48)) v)
unfolding shapes first_match is_digit
offset_read i d [] v e h = absurd (true≢false h.some)
offset_read i d (x ∷ s) v e h =
    let f = first_digit x s h.digits in
    let n : length (s ++ 93 ∷ []) ≡ length s + 1 = length-append s (93 ∷ []) in
    let m : length (91 ∷ 114 ∷ d ∷ 44 ∷ x ∷ (s ++ 93 ∷ [])) - 1 ≡ suc (suc (suc (suc (suc (length s))))) = omega arith in
    let b : eqb (length (91 ∷ 114 ∷ d ∷ 44 ∷ x ∷ (s ++ 93 ∷ []))) 4 ≡ false = ne_eqb (length (91 ∷ 114 ∷ d ∷ 44 ∷ x ∷ (s ++ 93 ∷ []))) 4 (λ q. omega (arith, q)) in
    rw (b, m, last_byte s 93, other_byte is_digit x 114 f refl, e, take-append_seam s (93 ∷ []), h.shaped, h.value)

-- `[rA,rB,n]` by its bytes
factored_read : (i d e : ℕ) (t : List ℕ) (v : ImmediateValue) → is_digit d ≡ true → is_digit e ≡ true → Spells t v
    → operand_of (record { start = i; text = 91 ∷ 114 ∷ d ∷ 44 ∷ 114 ∷ e ∷ 44 ∷ (t ++ 93 ∷ []) })
    ≡ Some (RegisterWithFactoredRegOffset (register_at (d - 48)) (register_at (e - 48)) v)
unfolding shapes first_match
factored_read i d e t v f g h =
    let n : length (t ++ 93 ∷ []) ≡ length t + 1 = length-append t (93 ∷ []) in
    let m : length (91 ∷ 114 ∷ d ∷ 44 ∷ 114 ∷ e ∷ 44 ∷ (t ++ 93 ∷ [])) - 1 ≡ suc (suc (suc (suc (suc (suc (suc (length t))))))) = omega arith in
    rw (m, last_byte t 93, f, g, take-append_seam t (93 ∷ []), h.shaped, h.value)

-- a register and a number in brackets read as the register with offset
pub offset_reads : (a : OlaRegister) (v : ImmediateValue) → v.number < order
    → Reads (bytes "[" ++ register_text a ++ bytes "," ++ decimal_text v.number ++ bytes "]") (RegisterWithOffset a v)
unfolding all
offset_reads a v h = record {
  piece = record { some = refl; plain = rw (digit_plain (digit_of a) (register_digit a)) (closed_plain (decimal_text v.number) (decimal_read v h).digits) };
  read = λ i. offset_read i (digit_of a) (decimal_text v.number) v (register_digit a) (decimal_read v h) ∙ ap (λ (r : OlaRegister). Some (RegisterWithOffset r v)) (register_back a);
}

-- two registers and a number in brackets read as the register with a factored one
pub factored_reads : (a b : OlaRegister) (v : ImmediateValue) → v.number < order
    → Reads (bytes "[" ++ register_text a ++ bytes "," ++ (register_text b ++ bytes "," ++ decimal_text v.number) ++ bytes "]") (RegisterWithFactoredRegOffset a b v)
unfolding all
factored_reads a b v h = record {
  piece = record {
    some = refl;
    plain = rw (digit_plain (digit_of a) (register_digit a), digit_plain (digit_of b) (register_digit b)) (closed_plain (decimal_text v.number) (decimal_read v h).digits);
  };
  read = λ i.
      factored_read i (digit_of a) (digit_of b) (decimal_text v.number) v (register_digit a) (register_digit b) (decimal_read v h)
      ∙ ap₂ (λ (r s : OlaRegister). Some (RegisterWithFactoredRegOffset r s v)) (register_back a) (register_back b);
}
