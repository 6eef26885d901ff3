-- What an accepted answer says of the steps that it was made by.
use Rattle.std.specs.Prelude.{Option, Some, None}
use Prim.Native.Nat.{ℕ, ◌≤◌}
use mathlib.Core.Path.{◌≡◌, refl, ap, ◌∙◌}
use mathlib.Core.List.{List, ◌++◌}
use mathlib.Core.Bool.{Bool, true, false}
use native.Mathlib.Omega.{arith}
use native.Mathlib.Nat.{zero-add}
use lib.ListN.{length, drop}
use lib.Seq.{sets, sets-eq}
use Rattle.text.specs.Answer.{Answer, ok, refused, ◌>>=◌, ◌>>◌, refuse_if, refuse_at, over}

-- a refusal accepts nothing
pub not_ok : {A : Type 0} {n d : ℕ} {b : A} → refused n d ≡ ok b → ⊥
not_ok e = let z : ◌≡◌ {A = ℕ} 0 1 = cc in omega arith

-- an accepted value is one value
pub ok_same : {A : Type 0} {a b : A} → ok a ≡ ok b → a ≡ b
ok_same e = cc

-- both steps accept
pub ok_bind : {A B : Type 0} (m : Answer A) (f : A → Answer B) (b : B) → m >>= f ≡ ok b → (a : A) × (m ≡ ok a) × (f a ≡ ok b)
unfolding ◌>>=◌
ok_bind (ok a) f b e = (a, refl, e)
ok_bind (refused n d) f b e = absurd (not_ok e)

-- the first step passes, and the next accepts
pub ok_then : {B : Type 0} (m : Answer (Unit {0})) (n : Answer B) (b : B) → m >> n ≡ ok b → (m ≡ ok tt) × (n ≡ ok b)
unfolding ◌>>◌
ok_then (ok u) n b e = (refl, e)
ok_then (refused k d) n b e = absurd (not_ok e)

-- a test that did not refuse was false
pub if_passed : {B : Type 0} (t : Bool) (n : ℕ) (m : Answer B) (b : B) → refuse_if t n >> m ≡ ok b → (t ≡ false) × (m ≡ ok b)
unfolding ◌>>◌ refuse_if
if_passed true n m b e = absurd (not_ok e)
if_passed false n m b e = (refl, e)

-- where nothing was refused, nothing was found
pub at_passed : {B : Type 0} (o : Option ℕ) (n : ℕ) (m : Answer B) (b : B) → refuse_at o n >> m ≡ ok b → (o ≡ None) × (m ≡ ok b)
unfolding ◌>>◌ refuse_at
at_passed None n m b e = (refl, e)
at_passed (Some d) n m b e = absurd (not_ok e)

-- entries stored from the start on lie over what stood there
pub sets_over : {A : Type 0} (new old : List A) → length new ≤ length old → sets old 0 new ≡ over new old
sets_over new old h = let e = zero-add (length new) in sets-eq new old 0 (omega arith) ∙ ap (λ (k : ℕ). new ++ drop k old) e
