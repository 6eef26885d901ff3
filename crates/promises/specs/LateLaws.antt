-- What the steps of a build after the label table refuse: 8 to 12 and 25, and 13 where something that is lent is short.
use Rattle.std.specs.Prelude.{ℕ, suc, ◌≤◌, ◌⊎◌, ◌≡◌, refl, List, [], ◌∷◌, Bool, true, false, cond, Option, Some, None}
use Rattle.std.proofs.Common.{inl, inr, sym, subst, arith}
use Rattle.text.specs.Bytes.{bytes, same}
use Rattle.text.specs.Answer.{Answer, ok, refused, ◌>>=◌, ◌>>◌, refuse_if, refuse_at}
use Rattle.text.proofs.AnswerLaws.{not_ok}
use Rattle.vm_opcodes.specs.Operations.{row_places}
use Rattle.vm_opcodes.specs.declared.OlaOpcode.{OlaOpcode}
use Rattle.vm_opcodes.specs.declared.RowPlaces.{RowPlaces}
use Rattle.vm_opcodes.specs.declared.RowPlaces.TheVariants.{DstOp0Op1, DstOp1, DstMemory, MemoryDst, Op0Op1, Op1, Bare}
use Rattle.vm_operands.specs.declared.OlaOperand.{OlaOperand}
use Rattle.asm.specs.Rows.{instructions}
use Rattle.asm.specs.declared.OlaAsmOperand.{OlaAsmOperand}
use Rattle.asm.specs.declared.OlaAsmOperand.TheVariants.{Empty, ImmediateOperand, RegisterOperand, RegisterWithOffset, RegisterWithFactoredRegOffset, SpecialReg, Label, Identifier}
use Rattle.asm.specs.declared.OlaAsmInstruction.{OlaAsmInstruction}
use Rattle.asm.specs.declared.AsmRow.{AsmRow}
use Rattle.relocate.specs.Labels.{LabelRow, call_kind, jmp_kind, prophet_kind, label_rows, holder}
use Rattle.relocate.specs.Prophets.{labels_after_head, host_found, hosts_from}
use Rattle.encoder.specs.Canonical.{Names, holder_of, looked_up, plain, has_bracket, general, value_of, anchored, memory, canonical_by, canonical_from}

-- one of 8 to 12, or 25
abbrev pub IsLate : ℕ → Type 0
IsLate n = ((8 ≤ n) × (n ≤ 12)) ⊎ (n ≡ 25)

-- every refusal is one of them
abbrev pub Late : {A : Type 0} → Answer A → Type 0
Late x = (n d : ℕ) → x ≡ refused n d → IsLate n

pub ok_late : {A : Type 0} (a : A) → Late (ok a)
ok_late a n d e = absurd (not_ok (sym e))

pub no_late : {A : Type 0} (n d : ℕ) → IsLate n → Late {A = A} (refused n d)
no_late n d k m c e = let q : n ≡ m = cc in subst IsLate q k

pub bind_late : {A B : Type 0} (x : Answer A) (f : A → Answer B) → Late x → ((a : A) → Late (f a)) → Late (x >>= f)
unfolding ◌>>=◌
bind_late (ok a) f h k = k a
bind_late (refused n d) f h k = no_late n d (h n d refl)

pub if_late : {A : Type 0} (t : Bool) (n : ℕ) (x : Answer A) → IsLate n → Late x → Late (refuse_if t n >> x)
unfolding ◌>>◌ refuse_if
if_late true n x k h = no_late n 0 k
if_late false n x k h = h

pub at_late : {A : Type 0} (o : Option ℕ) (n : ℕ) (x : Answer A) → IsLate n → Late x → Late (refuse_at o n >> x)
unfolding ◌>>◌ refuse_at
at_late (Some d) n x k h = no_late n d k
at_late None n x k h = h

-- 8
pub head_late : (ls : List (List ℕ)) → Late (labels_after_head ls)
unfolding labels_after_head
head_late [] = ok_late []
head_late (l ∷ ls) = go (same l (bytes "label"))
  where
    go : (t : Bool) → Late (cond t (ok ls) (refused 8 0))
    go true = ok_late ls
    go false = no_late 8 0 (inl (omega arith, omega arith))

-- 9
host_late : (is : List OlaAsmInstruction) (k : ℕ) (o : Option LabelRow) → Late (host_found is k o)
host_late is k None = no_late 9 k (inl (omega arith, omega arith))
host_late is k (Some l) = ok_late _

pub hosts_late : (s : List ℕ) (rows : List AsmRow) (k : ℕ) (labels : List (List ℕ)) → Late (hosts_from s rows k labels)
unfolding hosts_from
hosts_late s rows k [] = ok_late []
hosts_late s rows k (x ∷ xs) =
    bind_late _ _ (host_late (instructions rows) k (holder s prophet_kind x (label_rows 0 rows)))
    λ h. bind_late _ _ (hosts_late s rows (suc k) xs) λ hs. ok_late (h ∷ hs)

-- 10 and 25
found_late : (names : Names) (k : ℕ) (o : Option LabelRow) → Late (looked_up names k o)
found_late names k None = no_late 10 k (inl (omega arith, omega arith))
found_late names k (Some l) = ok_late _

plain_late : (names : Names) (k : ℕ) (x : OlaAsmOperand) → Late (plain names k x)
plain_late names k Empty = ok_late _
plain_late names k (ImmediateOperand v) = ok_late _
plain_late names k (RegisterOperand r) = ok_late _
plain_late names k (RegisterWithOffset r v) = ok_late _
plain_late names k (RegisterWithFactoredRegOffset r t v) = ok_late _
plain_late names k (SpecialReg t) = ok_late _
plain_late names k (Label start n) = found_late names k (holder_of names jmp_kind start n)
plain_late names k (Identifier start n) = found_late names k (holder_of names call_kind start n)

general_late : (names : Names) (k : ℕ) (i : OlaAsmInstruction) → Late (general names k i)
unfolding general
general_late names k i =
    at_late (cond (has_bracket i) (Some k) None) 25 _ (inr refl)
    (bind_late _ _ (plain_late names k i.op0) λ a. bind_late _ _ (plain_late names k i.op1) λ b. bind_late _ _ (plain_late names k i.dst) λ c. ok_late _)

-- 11
eleven : {A : Type 0} (k : ℕ) → Late {A = A} (refused 11 k)
eleven k = no_late 11 k (inl (omega arith, omega arith))

value_late : (k : ℕ) (x : OlaAsmOperand) → Late (value_of k x)
value_late k Empty = eleven k
value_late k (ImmediateOperand v) = eleven k
value_late k (RegisterOperand r) = ok_late _
value_late k (RegisterWithOffset r v) = eleven k
value_late k (RegisterWithFactoredRegOffset r t v) = eleven k
value_late k (SpecialReg t) = eleven k
value_late k (Label start n) = eleven k
value_late k (Identifier start n) = eleven k

anchored_late : (k : ℕ) (o : OlaOpcode) (x : OlaAsmOperand) (v : OlaOperand) → Late (anchored k o x v)
anchored_late k o Empty v = eleven k
anchored_late k o (ImmediateOperand n) v = eleven k
anchored_late k o (RegisterOperand r) v = eleven k
anchored_late k o (RegisterWithOffset r n) v = ok_late _
anchored_late k o (RegisterWithFactoredRegOffset r t n) v = ok_late _
anchored_late k o (SpecialReg t) v = eleven k
anchored_late k o (Label start n) v = eleven k
anchored_late k o (Identifier start n) v = eleven k

memory_late : (k : ℕ) (o : OlaOpcode) (x y : OlaAsmOperand) → Late (memory k o x y)
unfolding memory
memory_late k o x y = bind_late _ _ (value_late k y) λ v. anchored_late k o x v

by_late : (p : RowPlaces) (names : Names) (k : ℕ) (i : OlaAsmInstruction) → Late (canonical_by p names k i)
unfolding canonical_by
by_late DstOp0Op1 names k i = general_late names k i
by_late DstOp1 names k i = general_late names k i
by_late DstMemory names k i = memory_late k i.opcode i.op1 i.dst
by_late MemoryDst names k i = memory_late k i.opcode i.op0 i.op1
by_late Op0Op1 names k i = general_late names k i
by_late Op1 names k i = general_late names k i
by_late Bare names k i = general_late names k i

pub program_late : (names : Names) (k : ℕ) (is : List OlaAsmInstruction) → Late (canonical_from names k is)
unfolding canonical_from
program_late names k [] = ok_late []
program_late names k (i ∷ is) =
    bind_late _ _ (by_late (row_places i.opcode) names k i) λ b. bind_late _ _ (program_late names (suc k) is) λ bs. ok_late (b ∷ bs)
