-- Words, or the lines of a bytecode, parted into instructions.
use Rattle.std.specs.Prelude.{ℕ, List, [], ◌∷◌, Bool, ◌||◌, cond, Option, Some, None}
use Rattle.vm_opcodes.specs.Operations.{bit}

-- one instruction's words or lines
pub record Group (A : Type 0) : Type 0 where
  pub first : A
  pub second : Option A

abbrev pub waiting : {A : Type 0} → (A → Bool) → A → Option A
waiting two a = cond (two a) (Some a) None

-- an instruction is a first, and a second after a first of which the test says so; what comes after a second is a first again;
-- a last first may lack its second. The option is the first that waits for its second
unfoldable pub grouped : {A : Type 0} → (A → Bool) → Option A → List A → List (Group A)
grouped two None [] = []
grouped two (Some a) [] = record { first = a; second = None } ∷ []
grouped two (Some a) (b ∷ bs) = record { first = a; second = Some b } ∷ grouped two None bs
grouped two None (a ∷ as') =
    let rest = grouped two (waiting two a) as' in
    cond (two a) rest (record { first = a; second = None } ∷ rest)

-- "takes a word after one with bit 62, 22 or 21 as a number"
abbrev pub has_second : ℕ → Bool
has_second w = bit 62 w || bit 22 w || bit 21 w

-- the instructions of words
abbrev pub word_groups : List ℕ → List (Group ℕ)
word_groups ws = grouped has_second None ws
