-- "Scopes": "A scope runs from one call label to the next; rows before the first have the empty label."
use Rattle.std.specs.Prelude.{ℕ, List, [], ◌∷◌, ◌++◌, Bool, not, cond, length}
use Rattle.text.specs.Bytes.{bytes, same}
use Rattle.text.specs.Scan.{is_empty}
use Rattle.asm.specs.Parts.{name_at}
use Rattle.asm.specs.declared.AsmRow.{AsmRow}
use Rattle.asm.specs.declared.AsmRow.TheVariants.{Instruction, LabelCall, LabelJmp, LabelProphet}

pub record Scope : Type 0 where
  pub label : List ℕ
  pub rows : List AsmRow

-- the rows ahead of the first call label, and the scopes from there on
pub record Cut : Type 0 where
  pub ahead : List AsmRow
  pub scopes : List Scope

-- a call label begins a scope with the rows up to the next
abbrev pub in_front : List ℕ → AsmRow → Cut → Cut
in_front s (Instruction i) c = record { ahead = Instruction i ∷ c.ahead; scopes = c.scopes }
in_front s (LabelCall start n) c =
    record { ahead = []; scopes = record { label = name_at s start n; rows = LabelCall start n ∷ c.ahead } ∷ c.scopes }
in_front s (LabelJmp start n) c = record { ahead = LabelJmp start n ∷ c.ahead; scopes = c.scopes }
in_front s (LabelProphet start n) c = record { ahead = LabelProphet start n ∷ c.ahead; scopes = c.scopes }

unfoldable pub cut_at_calls : List ℕ → List AsmRow → Cut
cut_at_calls s [] = record { ahead = []; scopes = [] }
cut_at_calls s (r ∷ rs) = in_front s r (cut_at_calls s rs)

-- the scopes of a source's rows, those before the first call label with the empty label
abbrev pub scopes_of : Cut → List Scope
scopes_of c = cond (is_empty c.ahead) c.scopes (record { label = []; rows = c.ahead } ∷ c.scopes)

-- "The main scope is the call label `main` exactly"
abbrev pub is_main : Scope → Bool
is_main c = same c.label (bytes "main")

abbrev pub is_other : Scope → Bool
is_other c = not (is_main c)

unfoldable pub scopes_that : (Scope → Bool) → List Scope → List Scope
scopes_that f [] = []
scopes_that f (c ∷ cs) = cond (f c) (c ∷ scopes_that f cs) (scopes_that f cs)

-- "Scope main goes first, the others keep their order"
abbrev pub main_first : List Scope → List Scope
main_first cs = scopes_that is_main cs ++ scopes_that is_other cs

unfoldable pub rows_of_scopes : List Scope → List AsmRow
rows_of_scopes [] = []
rows_of_scopes (c ∷ cs) = c.rows ++ rows_of_scopes cs

-- the rows in sorted order
abbrev pub sorted_rows : List ℕ → List AsmRow → List AsmRow
sorted_rows s rs = rows_of_scopes (main_first (scopes_of (cut_at_calls s rs)))

-- how many scopes are main
abbrev pub main_count : List ℕ → List AsmRow → ℕ
main_count s rs = length (scopes_that is_main (scopes_of (cut_at_calls s rs)))
