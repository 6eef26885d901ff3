-- The entries row by row are the label table.
use Prim.Native.Nat.{ℕ, suc, ◌+◌}
use mathlib.Core.Path.{◌≡◌, refl, sym, ap, ◌∙◌}
use mathlib.Core.List.{List, [], ◌∷◌, ◌++◌, map}
use mathlib.Core.Bool.{Bool, not}
use native.Mathlib.Omega.{arith}
use native.Mathlib.Numerals.{add-one}
use borrow.Author.Tests.{lt-ltb, le-ltb}
use lib.Dec.{ltb}
use lib.ListN.{length, length-append}
use lib.Seq.{append_snoc}
use Rattle.text.specs.Lists.{total}
use Rattle.text.specs.Scan.{is_empty}
use Rattle.asm.specs.Rows.{instructions, counted_length}
use Rattle.asm.specs.declared.OlaAsmInstruction.{OlaAsmInstruction}
use Rattle.asm.specs.declared.AsmRow.{AsmRow}
use Rattle.asm.specs.declared.AsmRow.TheVariants.{Instruction, LabelCall, LabelJmp, LabelProphet}
use Rattle.relocate.specs.Labels.{label_rows, address_of, host_of, entry_of, table_of}
use Rattle.relocate.specs.declared.LabelEntry.{LabelEntry}
use Rattle.relocate_rows.specs.declared.Progress.{Progress}
use Rattle.relocate_rows.specs.Entries.{label_entry, entries_after}

-- how far the walk has come ahead of instruction n
abbrev progress_at : List OlaAsmInstruction → ℕ → Progress
progress_at is n = record { seen = n; address = address_of is n; host = host_of is n }

-- the next address is further by the instruction's counted length
address_next : (front : List OlaAsmInstruction) (i : OlaAsmInstruction) (rest : List OlaAsmInstruction)
    → address_of (front ++ i ∷ rest) (length front) + counted_length i ≡ address_of (front ++ i ∷ rest) (suc (length front))
unfolding total
address_next [] i rest = omega arith
address_next (x ∷ front) i rest = let h = address_next front i rest in omega arith

-- an instruction is still to come exactly where fewer were met than there are
still_to_come : (front rest : List OlaAsmInstruction) → ltb (length front) (length (front ++ rest)) ≡ not (is_empty rest)
still_to_come front [] = let l = length-append front [] in le-ltb (length front) (length (front ++ [])) (omega arith)
still_to_come front (i ∷ rest) = let l = length-append front (i ∷ rest) in lt-ltb (length front) (length (front ++ i ∷ rest)) (omega arith)

-- so where the instructions of rows are what is left
come : (rs : List AsmRow) (is front : List OlaAsmInstruction) (n : ℕ) → is ≡ front ++ instructions rs → n ≡ length front → ltb n (length is) ≡ not (is_empty (instructions rs))
come rs is front n e f = rw (e, f) (still_to_come front (instructions rs))

-- one entry before others
entry_first : (kind start k a : ℕ) {b c : Bool} {es fs : List LabelEntry} → b ≡ c → es ≡ fs → label_entry kind b start k a ∷ es ≡ label_entry kind c start k a ∷ fs
entry_first kind start k a e h = rw (e, h)

-- two that agree in all three numbers
same_progress : {a b c d e f : ℕ} → a ≡ d → b ≡ e → c ≡ f → ◌≡◌ {A = Progress} (record { seen = a; address = b; host = c }) (record { seen = d; address = e; host = f })
same_progress p q r = cc

-- the entries of the rows that are left, where the instructions of front were met
entries_left : (rs : List AsmRow) (is front : List OlaAsmInstruction) (n : ℕ) → is ≡ front ++ instructions rs → n ≡ length front
    → entries_after (length is) (progress_at is n) rs ≡ map (entry_of is) (label_rows n rs)
unfolding entries_after label_rows instructions
entries_left [] is front n e f = refl
entries_left (Instruction i ∷ rs) is front n e f =
    ap (λ (p : Progress). entries_after (length is) p rs) (same_progress (add-one n) step refl)
    ∙ entries_left rs is (front ++ (i ∷ [])) (suc n) (e ∙ sym (append_snoc front i (instructions rs))) more
  where
    step : address_of is n + counted_length i ≡ address_of is (suc n)
    step = rw (e, f) (address_next front i (instructions rs))

    more : suc n ≡ length (front ++ (i ∷ []))
    more = let l = length-append front (i ∷ []) in omega arith
entries_left (LabelCall start k ∷ rs) is front n e f = entry_first 0 start k (address_of is n) (come rs is front n e f) (entries_left rs is front n e f)
entries_left (LabelJmp start k ∷ rs) is front n e f = entry_first 1 start k (address_of is n) (come rs is front n e f) (entries_left rs is front n e f)
entries_left (LabelProphet start k ∷ rs) is front n e f = entry_first 2 start k (host_of is n) (come rs is front n e f) (entries_left rs is front n e f)

-- the entries of all rows are the label table
pub table_entries : (rows : List AsmRow) → entries_after (length (instructions rows)) (record { seen = 0; address = 0; host = 0 }) rows ≡ table_of rows
unfolding total
table_entries rows = entries_left rows (instructions rows) [] 0 refl refl
