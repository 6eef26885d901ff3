-- "Label table": the instruction that each label row marks, addresses, and the row that holds a name.
use Rattle.std.specs.Prelude.{ℕ, zero, suc, List, [], ◌∷◌, map, Bool, not, ◌&&◌, cond, eqb, take, Option, Some, None}
use Rattle.text.specs.Bytes.{same}
use Rattle.text.specs.Lists.{total}
use Rattle.text.specs.Scan.{is_empty}
use Rattle.asm.specs.Parts.{name_at}
use Rattle.asm.specs.Rows.{instructions, counted_length}
use Rattle.asm.specs.declared.OlaAsmInstruction.{OlaAsmInstruction}
use Rattle.asm.specs.declared.AsmRow.{AsmRow}
use Rattle.asm.specs.declared.AsmRow.TheVariants.{Instruction, LabelCall, LabelJmp, LabelProphet}
use Rattle.relocate.specs.declared.WordAddress.{WordAddress}
use Rattle.relocate.specs.declared.LabelEntry.{LabelEntry}

-- an address as `WordAddress` holds it
abbrev pub word_address : ℕ → WordAddress
word_address n = record { 0 = n }

-- "kind (0 call, 1 `.LBL`, 2 prophet)"
abbrev pub call_kind : ℕ
call_kind = 0

abbrev pub jmp_kind : ℕ
jmp_kind = 1

abbrev pub prophet_kind : ℕ
prophet_kind = 2

-- a label row: its kind, its name's place in the source, and the index of the instruction that it marks
pub record LabelRow : Type 0 where
  pub kind : ℕ
  pub start : ℕ
  pub length : ℕ
  pub marks : ℕ
  pub mapped : Bool

-- "A label row marks the next instruction in the sorted rows, across scopes; without one it is unmapped";
-- n instructions stand ahead of the rows
unfoldable pub label_rows : ℕ → List AsmRow → List LabelRow
label_rows n [] = []
label_rows n (Instruction i ∷ rs) = label_rows (suc n) rs
label_rows n (LabelCall start k ∷ rs) =
    record { kind = call_kind; start = start; length = k; marks = n; mapped = not (is_empty (instructions rs)) } ∷ label_rows n rs
label_rows n (LabelJmp start k ∷ rs) =
    record { kind = jmp_kind; start = start; length = k; marks = n; mapped = not (is_empty (instructions rs)) } ∷ label_rows n rs
label_rows n (LabelProphet start k ∷ rs) =
    record { kind = prophet_kind; start = start; length = k; marks = n; mapped = not (is_empty (instructions rs)) } ∷ label_rows n rs

-- "An instruction's address is the sum of the counted lengths ahead of it in sorted order"
abbrev pub address_of : List OlaAsmInstruction → ℕ → ℕ
address_of is n = total (take n (map counted_length is))

-- "A prophet's host is the address of the instruction before its label, 0 if none"
abbrev pub host_of : List OlaAsmInstruction → ℕ → ℕ
host_of is zero = 0
host_of is (suc n) = address_of is n

-- "the address that this row marks (a prophet label's host) or unmapped"; an unmapped entry has address 0
abbrev pub marked_address : List OlaAsmInstruction → LabelRow → ℕ
marked_address is l = cond l.mapped (cond (eqb l.kind prophet_kind) (host_of is l.marks) (address_of is l.marks)) 0

abbrev pub entry_of : List OlaAsmInstruction → LabelRow → LabelEntry
entry_of is l = record { kind = l.kind; mapped = l.mapped; start = l.start; length = l.length; address = record { 0 = marked_address is l } }

-- "one entry for each label row in sorted order"
abbrev pub table_of : List AsmRow → List LabelEntry
table_of rs = map (entry_of (instructions rs)) (label_rows 0 rs)

abbrev pub names : List ℕ → ℕ → List ℕ → LabelRow → Bool
names s kind x l = l.mapped && eqb l.kind kind && same (name_at s l.start l.length) x

abbrev pub later_or : Option LabelRow → Option LabelRow → Option LabelRow
later_or (Some l) other = Some l
later_or None other = other

-- "Of equal names of one kind the last mapped row in sorted order holds"
unfoldable pub holder : List ℕ → ℕ → List ℕ → List LabelRow → Option LabelRow
holder s kind x [] = None
holder s kind x (l ∷ ls) = later_or (holder s kind x ls) (cond (names s kind x l) (Some l) None)
