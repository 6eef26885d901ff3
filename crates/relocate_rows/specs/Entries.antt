-- The label table row by row: the entry of each label row by how far the walk has come.
use Rattle.std.specs.Prelude.{ℕ, ◌+◌, List, [], ◌∷◌, ◌++◌, Bool, cond, ltb, Option, Some, None}
use Rattle.asm.specs.Rows.{counted_length}
use Rattle.asm.specs.declared.AsmRow.{AsmRow}
use Rattle.asm.specs.declared.AsmRow.TheVariants.{Instruction, LabelCall, LabelJmp, LabelProphet}
use Rattle.relocate.specs.Labels.{call_kind, jmp_kind, prophet_kind}
use Rattle.relocate.specs.declared.LabelEntry.{LabelEntry}
use Rattle.relocate_rows.specs.declared.Progress.{Progress}

-- an unmapped entry has address 0
abbrev pub label_entry : ℕ → Bool → ℕ → ℕ → ℕ → LabelEntry
label_entry kind mapped start n address = record { kind = kind; mapped = mapped; start = start; length = n; address = record { 0 = cond mapped address 0 } }

-- the entry of a row, where t instructions stand in all rows: a label is mapped where an instruction is still to come
abbrev pub entry_of_row : ℕ → Progress → AsmRow → Option LabelEntry
entry_of_row t p (Instruction i) = None
entry_of_row t p (LabelCall start n) = Some (label_entry call_kind (ltb p.seen t) start n p.address)
entry_of_row t p (LabelJmp start n) = Some (label_entry jmp_kind (ltb p.seen t) start n p.address)
entry_of_row t p (LabelProphet start n) = Some (label_entry prophet_kind (ltb p.seen t) start n p.host)

-- how far the walk has come after a row
abbrev pub after : Progress → AsmRow → Progress
after p (Instruction i) = record { seen = p.seen + 1; address = p.address + counted_length i; host = p.address }
after p (LabelCall start n) = p
after p (LabelJmp start n) = p
after p (LabelProphet start n) = p

-- the largest count that a row is still added to, 2^63 - 1: no source has more bytes
abbrev pub largest_count : ℕ
largest_count = 9223372036854775807

-- a walk with neither count above the largest comes as far as `after` says; any other is beyond
abbrev pub advanced : Progress → AsmRow → Option Progress
advanced p row = cond (ltb largest_count p.seen) None (cond (ltb largest_count p.address) None (Some (after p row)))

-- the entries that a row has: one or none
abbrev pub entry_list : Option LabelEntry → List LabelEntry
entry_list (Some e) = e ∷ []
entry_list None = []

-- the entries of the rows that are left
unfoldable pub entries_after : ℕ → Progress → List AsmRow → List LabelEntry
entries_after t p [] = []
entries_after t p (r ∷ rs) = entry_list (entry_of_row t p r) ++ entries_after t (after p r) rs
