-- Laws of the survey: the sums with one row more, and the walk over the lines.
use Rattle.std.specs.Prelude.{Option, Some, None}
use Prim.Native.Nat.{ℕ, ◌+◌, ◌^◌, ◌<◌, ◌≤◌}
use mathlib.Core.Path.{◌≡◌, refl, sym, ap, ◌∙◌}
use mathlib.Core.List.{List, [], ◌∷◌}
use mathlib.Core.Bool.{Bool, true, false, ◌&&◌, ◌||◌, cond}
use native.Mathlib.Omega.{arith}
use borrow.Author.Rules.{rules}
use borrow.Author.Tests.{lt-leb, leb-true, leb-false, eq-eqb, ne_eqb, eqb-true, eqb-false}
use mir.Val.{Fits}
use mir.Syntax.{w64}
use lib.Dec.{eqb, leb}
use lib.Pointwise.{pointwise}
use lib.ListN.{length, take, drop, length-drop, length-take}
use lib.Seq.{length-take-le}
use Rattle.text.specs.Bytes.{bytes, same}
use Rattle.text.specs.Lists.{total}
use Rattle.text.proofs.Laws.{part_from}
use Rattle.std.specs.List.{slice_range}
use Rattle.text.proofs.SameLaws.{same_off}
use Rattle.asm.specs.Parts.{name_at, bytes_in}
use Rattle.asm.specs.Rows.{instructions, counted, counted_length}
use Rattle.vm_opcodes.specs.Operations.{row_places}
use Rattle.asm.specs.Survey.{is_memory_row, takes_word, word_count, count_rows, or_place, first_call, main_start, main_end, tally_of, joined, joined_end}
use Rattle.asm.specs.declared.OlaAsmOperand.{OlaAsmOperand}
use Rattle.asm.specs.declared.OlaAsmOperand.TheVariants.{Empty, ImmediateOperand, RegisterOperand, RegisterWithOffset, RegisterWithFactoredRegOffset, SpecialReg, Label, Identifier}
use Rattle.asm.specs.declared.OlaAsmInstruction.{OlaAsmInstruction}
use Rattle.asm.specs.declared.AsmRow.{AsmRow}
use Rattle.asm.specs.declared.AsmRow.TheVariants.{Instruction, LabelCall, LabelJmp, LabelProphet}
use Rattle.asm.specs.declared.Tally.{Tally}
use Rattle.asm_laws.proofs.JoinLaws.{or_nothing}
use Rattle.asm_survey.specs.Small.{Small, call_tally}

-- ---- main's name

name_off : (s : List ℕ) (start n : ℕ) → (n ≡ 4 → ⊥) → same (name_at s start n) (bytes "main") ≡ false
unfolding name_at
name_off s start n h = go (leb (start + n) (length s)) refl
  where
    go : (t : Bool) → leb (start + n) (length s) ≡ t → same (name_at s start n) (bytes "main") ≡ false
    go true e =
        let k : start + n ≤ length s = leb-true _ _ e in
        let d = length-drop start s in
        let l : length (take n (drop start s)) ≡ n = length-take-le n (drop start s) (omega arith) in
        rw e (same_off (take n (drop start s)) (bytes "main") (λ f. h (sym l ∙ f)))
    go false e = rw e (same_off [] (bytes "main") (λ f. omega (arith, f)))

-- a test of equality, the other way round
eqb_turned : (a b : ℕ) → eqb a b ≡ eqb b a
eqb_turned a b = go (eqb b a) refl
  where
    go : (t : Bool) → eqb b a ≡ t → eqb a b ≡ t
    go true e = eq-eqb a b (sym (eqb-true b a e))
    go false e = ne_eqb a b (λ q. eqb-false b a e (sym q))

-- the two tests of equal bytes, one of them the other way round
turned : (a b : List ℕ) → pointwise eqb a b ≡ same b a
unfolding same
turned [] [] = refl
turned [] (y ∷ ys) = refl
turned (x ∷ xs) [] = refl
turned (x ∷ xs) (y ∷ ys) = rw (eqb_turned x y) (ap (λ (t : Bool). eqb y x && t) (turned xs ys))

module _ (s : List ℕ) (start n : ℕ) where
  pub main_past : length s < start → false ≡ same (name_at s start n) (bytes "main")
  unfolding name_at same
  main_past h = rw (lt-leb (start + n) (length s) (omega arith))

  pub main_length : (n ≡ 4 → ⊥) → eqb n 4 ≡ same (name_at s start n) (bytes "main")
  main_length h = ne_eqb _ _ h ∙ sym (name_off s start n h)

  -- four bytes from the place on
  pub main_same : n ≡ 4 → (y : List ℕ) → y ≡ slice_range s start (length s) → (r : Bool) → r ≡ pointwise eqb (bytes "main") (take 4 y) → r ≡ same (name_at s start n) (bytes "main")
  unfolding name_at
  main_same e y f r g = g ∙ turned (bytes "main") (take 4 y) ∙ ap (λ (l : List ℕ). same (take 4 l) (bytes "main")) (f ∙ part_from start s) ∙ rw e (go (leb (start + 4) (length s)) refl)
    where
      go : (t : Bool) → leb (start + 4) (length s) ≡ t → same (take 4 (drop start s)) (bytes "main") ≡ same (bytes_in s (cond t (record { start = start; length = 4 }) (record { start = 0; length = 0 }))) (bytes "main")
      go true k = refl
      go false k =
          let l : length s < start + 4 = leb-false (start + 4) (length s) k in
          let d = length-drop start s in
          let m = length-take 4 (drop start s) in
          same_off (take 4 (drop start s)) (bytes "main") (λ q. omega arith) ∙ sym (same_off [] (bytes "main") (λ q. omega (arith, q)))

pub ruleset main_laws = (main_past, main_length, main_same, rules)

-- ---- the sums with one row more

module _ {a b c d e f a' b' c' d' e' f' : ℕ} {x y z x' y' z' : Option ℕ} where
  same_tally : a ≡ a' → b ≡ b' → c ≡ c' → d ≡ d' → e ≡ e' → f ≡ f' → x ≡ x' → y ≡ y' → z ≡ z'
      → ◌≡◌ {A = Tally}
      (record { rows = a; labels = b; instructions = c; mains = d; counted = e; words = f; call = x; main = y; end = z })
      (record { rows = a'; labels = b'; instructions = c'; mains = d'; counted = e'; words = f'; call = x'; main = y'; end = z' })
  same_tally p q r s t u v w o = cc

-- an operand counts at most one
pub counted_le : (o : OlaAsmOperand) → counted o ≤ 1
counted_le Empty = omega arith
counted_le (ImmediateOperand v) = omega arith
counted_le (RegisterOperand r) = omega arith
counted_le (RegisterWithOffset r v) = omega arith
counted_le (RegisterWithFactoredRegOffset r u v) = omega arith
counted_le (SpecialReg u) = omega arith
counted_le (Label a b) = omega arith
counted_le (Identifier a b) = omega arith

module _ (t : Tally) (n : ℕ) (w : Small t n) where
  -- an instruction more
  pub more_instruction : (i : OlaAsmInstruction) (c d : ℕ) → c ≡ counted_length i → d ≡ word_count i
      → record { rows = t.rows + 1; labels = t.labels; instructions = t.instructions + 1; mains = t.mains; counted = t.counted + c; words = t.words + d; call = t.call; main = t.main; end = t.end }
      ≡ joined t (tally_of [] (Instruction i ∷ []))
  unfolding count_rows instructions total first_call main_start main_end
  more_instruction i c d e f =
      same_tally refl (omega arith) refl (omega arith) (omega arith) (omega arith) (sym (or_nothing t.call)) (sym (or_nothing t.main)) (sym w.settled)

  -- a label more that is no call label
  pub more_label : record { rows = t.rows + 1; labels = t.labels + 1; instructions = t.instructions; mains = t.mains; counted = t.counted; words = t.words; call = t.call; main = t.main; end = t.end }
      ≡ joined t (tally_of [] (LabelJmp 0 0 ∷ []))
  unfolding count_rows instructions total first_call main_start main_end
  more_label =
      same_tally refl refl (omega arith) (omega arith) (omega arith) (omega arith) (sym (or_nothing t.call)) (sym (or_nothing t.main)) (sym w.settled)

  module _ (start : ℕ) (x y : Option ℕ) (e : x ≡ or_place t.call (Some start)) (f : y ≡ joined_end t.main t.end (Some start) None) where
    -- a call label more
    pub more_call : record { rows = t.rows + 1; labels = t.labels + 1; instructions = t.instructions; mains = t.mains; counted = t.counted; words = t.words; call = x; main = t.main; end = y }
        ≡ joined t (call_tally false start)
    more_call = same_tally refl refl (omega arith) (omega arith) (omega arith) (omega arith) e (sym (or_nothing t.main)) f

    -- a call label main more
    pub more_main : (z : Option ℕ) → z ≡ or_place t.main (Some start)
        → record { rows = t.rows + 1; labels = t.labels + 1; instructions = t.instructions; mains = t.mains + 1; counted = t.counted; words = t.words; call = x; main = z; end = y }
        ≡ joined t (call_tally true start)
    more_main z g = same_tally refl refl (omega arith) refl (omega arith) (omega arith) e g f

  module _ (i : OlaAsmInstruction) where
    pub counted_fit : (c : ℕ) → n < 2 ^ 63 → c ≡ counted_length i → Fits w64 (t.counted + c)
    counted_fit c h e = let k = w.counted in let a = counted_le i.op0 in let b = counted_le i.op1 in omega arith

    pub words_fit : (c : ℕ) → n < 2 ^ 63 → c ≡ word_count i → Fits w64 (t.words + c)
    words_fit c h e = go (is_memory_row (row_places i.opcode) || takes_word i.op1) e
      where
        go : (u : Bool) → c ≡ cond u 2 1 → Fits w64 (t.words + c)
        go true f = let k = w.words in omega arith
        go false f = let k = w.words in omega arith

pub ruleset more_laws = (more_instruction, more_label, more_call, more_main, counted_fit, words_fit, rules)

-- ---- the row that was read

module _ (t : Tally) (s : List ℕ) (row : AsmRow) (r : Tally) where
  pub row_instruction : (i : OlaAsmInstruction) → row ≡ Instruction i → r ≡ joined t (tally_of [] (Instruction i ∷ [])) → r ≡ joined t (tally_of s (row ∷ []))
  unfolding count_rows instructions total first_call main_start main_end
  row_instruction i e f = rw e f

  pub row_jmp : (start n : ℕ) → row ≡ LabelJmp start n → r ≡ joined t (tally_of [] (LabelJmp 0 0 ∷ [])) → r ≡ joined t (tally_of s (row ∷ []))
  unfolding count_rows instructions total first_call main_start main_end
  row_jmp start n e f = rw e f

  pub row_prophet : (start n : ℕ) → row ≡ LabelProphet start n → r ≡ joined t (tally_of [] (LabelJmp 0 0 ∷ [])) → r ≡ joined t (tally_of s (row ∷ []))
  unfolding count_rows instructions total first_call main_start main_end
  row_prophet start n e f = rw e f

  pub row_call : (start n : ℕ) → row ≡ LabelCall start n → (b : Bool) → b ≡ same (name_at s start n) (bytes "main") → r ≡ joined t (call_tally b start) → r ≡ joined t (tally_of s (row ∷ []))
  unfolding count_rows instructions total first_call main_start main_end
  row_call start n e b h f = go b refl f
    where
      go : (u : Bool) → b ≡ u → r ≡ joined t (call_tally b start) → r ≡ joined t (tally_of s (row ∷ []))
      go true k g = rw (e, sym h, k) (g ∙ rw k)
      go false k g = rw (e, sym h, k) (g ∙ rw k)

pub ruleset row_laws = (row_instruction, row_jmp, row_prophet, row_call, rules)
