-- Which operation a piece spells: it is sought among those alone whose spelling has the piece's length.
use Rattle.std.specs.Prelude.{Option, Some, None, find, option_map}
use Rattle.std.specs.Str.{bytes_eq}
use Prim.Native.Nat.{ℕ, ◌<◌}
use mathlib.Core.Path.{◌≡◌, refl, sym, ap, ◌∙◌, subst}
use mathlib.Core.List.{List, [], ◌∷◌, map}
use mathlib.Core.Bool.{Bool, true, false, cond, ◌&&◌, ◌||◌}
use lib.Dec.{eqb}
use lib.ListN.{length, get_or, drop}
use lib.Seq.{drop-cons}
use borrow.Author.Tests.{eqb-false, ne_eqb}
use Rattle.text.specs.Bytes.{same}
use Rattle.text.proofs.SameLaws.{same_off}
use Rattle.vm_opcodes.specs.declared.OlaOpcode.{OlaOpcode}
use Rattle.vm_opcodes.specs.Operations.{operations, first_operation}
use Rattle.vm_opcodes.proofs.Laws.{agree}
use Rattle.vm_mnemonics.specs.Mnemonics.{mnemonic, operation_of}

-- every operation's spelling is read as that operation
pub all_read_back : map (λ o. operation_of (mnemonic o)) operations ≡ map Some operations
unfolding operations first_operation same
all_read_back = refl

pub read_back : (o : OlaOpcode) → operation_of (mnemonic o) ≡ Some o
read_back = agree Some (λ o. operation_of (mnemonic o)) None all_read_back

-- `==` of two byte strings is the same test
same_as : (a b : List ℕ) → bytes_eq a b ≡ same a b
unfolding same
same_as [] [] = refl
same_as [] (y ∷ ys) = refl
same_as (x ∷ xs) [] = refl
same_as (x ∷ xs) (y ∷ ys) = ap (λ (t : Bool). eqb x y && t) (same_as xs ys)

-- the operations of a list whose spelling has n bytes
unfoldable pub of_length : ℕ → List OlaOpcode → List OlaOpcode
of_length n [] = []
of_length n (o ∷ os) = cond (eqb (length (mnemonic o)) n) (o ∷ of_length n os) (of_length n os)

-- an operation with its spelling, as the tables have it
abbrev pub entry : OlaOpcode → List ℕ × OlaOpcode
entry o = (mnemonic o, o)

-- the operation of the first entry that a piece is
abbrev read : List ℕ → List (List ℕ × OlaOpcode) → Option OlaOpcode
read s ms = option_map (λ m. m.1) (find (λ m. bytes_eq s m.0) ms)

-- the entry m, at place i, is what the piece is
pub read_here : (s w : List ℕ) (ms : List (List ℕ × OlaOpcode)) (i : ℕ) (m : List ℕ × OlaOpcode) → w ≡ s → i < length ms → m ≡ get_or ms i m → find (λ k. bytes_eq w k.0) ms ≡ find (λ k. bytes_eq w k.0) (drop i ms) → true ≡ bytes_eq w m.0 → Some m.1 ≡ read s ms
read_here s w ms i m e h q v b =
    let f : find (λ k. bytes_eq w k.0) (drop i ms) ≡ Some m = rw (drop-cons ms i m h, ← q, ← b) in
    sym (ap (λ (u : List ℕ). read u ms) (sym e) ∙ ap (option_map (λ k. k.1)) (v ∙ f))

-- a spelling of another length than the piece's needs no look
module _ (s : List ℕ) where
  sought : (os : List OlaOpcode) → read s (map entry (of_length (length s) os)) ≡ first_operation (λ o. same s (mnemonic o)) os
  unfolding first_operation of_length
  sought [] = refl
  sought (o ∷ os) = go (eqb (length (mnemonic o)) (length s)) refl (sought os)
    where
      here : (t : Bool) (x : Option (List ℕ × OlaOpcode)) (y : Option OlaOpcode) → option_map (λ m. m.1) x ≡ y → option_map (λ m. m.1) (cond t (Some (entry o)) x) ≡ cond t (Some o) y
      here true x y h = refl
      here false x y h = h

      go : (t : Bool) → eqb (length (mnemonic o)) (length s) ≡ t → read s (map entry (of_length (length s) os)) ≡ first_operation (λ p. same s (mnemonic p)) os
          → read s (map entry (cond t (o ∷ of_length (length s) os) (of_length (length s) os))) ≡ cond (same s (mnemonic o)) (Some o) (first_operation (λ p. same s (mnemonic p)) os)
      go true e h = rw (same_as s (mnemonic o)) (here (same s (mnemonic o)) _ _ h)
      go false e h = rw (same_off s (mnemonic o) (λ r. eqb-false _ _ e (sym r))) h

  pub spelled : (n : ℕ) → length s ≡ n → read s (map entry (of_length n operations)) ≡ operation_of s
  spelled n l = subst (λ (k : ℕ). read s (map entry (of_length k operations)) ≡ operation_of s) l (sought operations)

-- the lengths that spellings have
abbrev counted : ℕ → Bool
counted n = eqb n 2 || eqb n 3 || eqb n 4 || eqb n 5 || eqb n 6 || eqb n 8

all_counted : map (λ o. counted (length (mnemonic o))) operations ≡ map (λ o. true) operations
unfolding operations
all_counted = refl

pub uncounted : (s : List ℕ) → (length s ≡ 2 → ⊥) → (length s ≡ 3 → ⊥) → (length s ≡ 4 → ⊥) → (length s ≡ 5 → ⊥) → (length s ≡ 6 → ⊥) → (length s ≡ 8 → ⊥) → None ≡ operation_of s
unfolding first_operation
uncounted s a b c d e f = sym (none operations)
  where
    off : (o : OlaOpcode) → length s ≡ length (mnemonic o) → ⊥
    off o q = let h : counted (length s) ≡ true = ap counted q ∙ agree (λ p. true) (λ p. counted (length (mnemonic p))) true all_counted o in let k : counted (length s) ≡ false = simp (ne_eqb _ _ a, ne_eqb _ _ b, ne_eqb _ _ c, ne_eqb _ _ d, ne_eqb _ _ e, ne_eqb _ _ f) in cc

    none : (os : List OlaOpcode) → first_operation (λ o. same s (mnemonic o)) os ≡ None
    none [] = refl
    none (o ∷ os) = rw (same_off s (mnemonic o) (off o)) (none os)
