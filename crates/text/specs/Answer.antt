-- What an operation answers: a value, or one of document 01's refusals by its number and detail; and the order in which refusals are asked.
use Rattle.std.specs.Prelude.{ℕ, Bool, true, false, List, ◌++◌, length, drop, Option, Some, None}

pub data Answer (A : Type 0) : Type 0 where
  ok : A → Answer A
  refused : ℕ → ℕ → Answer A

infixl 15 ◌>>=◌
infixl 15 ◌>>◌
-- an earlier refusal stands; otherwise the next step is taken
unfoldable pub ◌>>=◌ : {A B : Type 0} → Answer A → (A → Answer B) → Answer B
◌>>=◌ (ok a) f = f a
◌>>=◌ (refused n d) f = refused n d

unfoldable pub ◌>>◌ : {A : Type 0} → Answer (Unit {0}) → Answer A → Answer A
◌>>◌ (ok u) b = b
◌>>◌ (refused n d) b = refused n d

-- refusal n, "A refusal with no detail named has detail 0", where the test passes
unfoldable pub refuse_if : Bool → ℕ → Answer (Unit {0})
refuse_if true n = refused n 0
refuse_if false n = ok tt

-- refusal n with what was found as its detail
unfoldable pub refuse_at : Option ℕ → ℕ → Answer (Unit {0})
refuse_at (Some d) n = refused n d
refuse_at None n = ok tt

-- ---- what stands in a lent buffer afterwards

-- new entries from the start on; "what stands past them is untouched"
abbrev pub over : {A : Type 0} → List A → List A → List A
over new old = new ++ drop (length new) old

-- what an accepted value makes of a buffer; a refusal leaves it as it was
unfoldable pub on_ok : {A B : Type 0} → Answer A → (A → B) → B → B
on_ok (ok a) f b = f a
on_ok (refused n d) f b = b
