-- The pieces of a written row: its mnemonic and its places, with a space before each place.
use Prim.Native.Nat.{ℕ, ◌+◌, ◌≤◌}
use mathlib.Core.Path.{◌≡◌, refl, ap, ap₂, ◌∙◌}
use mathlib.Core.List.{List, [], ◌∷◌, ◌++◌, append-nil}
use mathlib.Core.Bool.{Bool, true, false, not, ◌&&◌, and-false, and-eq-true_iff}
use native.Mathlib.Omega.{arith}
use borrow.Author.Tests.{le-leb, lt-leb, leb-true, ne_eqb, not-true}
use lib.Dec.{eqb, leb}
use lib.ListN.{length, take}
use lib.Seq.{take-length}
use Rattle.text.specs.Bytes.{is_space, within}
use Rattle.text.specs.Scan.{all, parts, is_empty}
use Rattle.text.specs.All.{All, one_more}
use Rattle.text.proofs.Laws.{scan_all}
use Rattle.text.proofs.PartLaws.{parts_whole}
use Rattle.asm.specs.Parts.{placed, filled_parts, without_comment, pieces_from, line_pieces}
use Rattle.asm_laws.proofs.MoveLaws.{parts_joined}
use Rattle.source.specs.SourceText.{spaced_all}
use Rattle.source_laws.proofs.ReadsAs.{is_row_byte}

-- a byte that parts no pieces, ends no line and begins no comment, and is none above 127
abbrev pub is_plain : ℕ → Bool
is_plain b = within 33 126 b && not (eqb b 59)

-- a text of such bytes, at least one
pub record Piece (l : List ℕ) : Type 0 where
  pub some : is_empty l ≡ false
  pub plain : all is_plain l ≡ true

-- ---- bytes

-- bytes that pass a test pass one that follows from it
pub all_else : (p q : ℕ → Bool) → ((b : ℕ) → p b ≡ true → q b ≡ true) → (l : List ℕ) → all p l ≡ true → all q l ≡ true
unfolding all
all_else p q f [] h = refl
all_else p q f (x ∷ l) h = let a = (and-eq-true_iff (p x) (all p l)).0 h in rw (f x a.0) (all_else p q f l a.1)

-- where the bytes of two texts pass a test, those of the two joined do
pub all_joined : (p : ℕ → Bool) (a b : List ℕ) → all p a ≡ true → all p b ≡ true → all p (a ++ b) ≡ true
unfolding all
all_joined p [] b h k = k
all_joined p (x ∷ a) b h k = let t = (and-eq-true_iff (p x) (all p a)).0 h in rw t.0 (all_joined p a b t.1 k)

plain_told : (b : ℕ) → is_plain b ≡ true → (33 ≤ b) × (b ≤ 126) × (eqb b 59 ≡ false)
plain_told b h =
    let t = (and-eq-true_iff (within 33 126 b) (not (eqb b 59))).0 h in
    let u = (and-eq-true_iff (leb 33 b) (leb b 126)).0 t.0 in
    (leb-true 33 b u.0, leb-true b 126 u.1, not-true (eqb b 59) t.1)

plain_no_space : (b : ℕ) → is_plain b ≡ true → not (is_space b) ≡ true
unfolding is_space
plain_no_space b h =
    let t = plain_told b h in
    let l : 33 ≤ b = t.0 in
    rw (ne_eqb b 32 (λ z. omega arith), lt-leb b 13 (omega arith), and-false (leb 9 b))

plain_no_comment : (b : ℕ) → is_plain b ≡ true → not (eqb b 59) ≡ true
plain_no_comment b h = rw (plain_told b h).2

plain_row_byte : (b : ℕ) → is_plain b ≡ true → is_row_byte b ≡ true
plain_row_byte b h =
    let t = plain_told b h in
    let l : 33 ≤ b = t.0 in
    rw (le-leb 32 b (omega arith), le-leb b 126 t.1)

-- a test that a space and every byte of a piece pass, over a row
row_all : (q : ℕ → Bool) → q 32 ≡ true → ((b : ℕ) → is_plain b ≡ true → q b ≡ true) → (m : List ℕ) (ps : List (List ℕ)) → Piece m → All Piece ps
    → all q (m ++ spaced_all ps) ≡ true
unfolding all spaced_all
row_all q s f m [] h c = all_joined q m [] (all_else is_plain q f m h.plain) refl
row_all q s f m (p ∷ ps) h (one_more k c) = all_joined q m (32 ∷ (p ++ spaced_all ps)) (all_else is_plain q f m h.plain) (rw s (row_all q s f p ps k c))

-- a written row's bytes are those from a space to `~`
pub row_bytes_lem : (m : List ℕ) (ps : List (List ℕ)) → Piece m → All Piece ps → all is_row_byte (m ++ spaced_all ps) ≡ true
row_bytes_lem = row_all is_row_byte refl plain_row_byte

-- ---- pieces

-- a text none of whose bytes passes the test is one part
pub part_alone : (p : ℕ → Bool) (l : List ℕ) → all (λ b. not (p b)) l ≡ true → parts p l ≡ l ∷ []
part_alone p l h = let e = scan_all (λ b. not (p b)) l h in parts_whole p l (omega arith)

no_space : (l : List ℕ) → Piece l → all (λ b. not (is_space b)) l ≡ true
no_space l h = all_else is_plain (λ b. not (is_space b)) plain_no_space l h.plain

row_parts : (m : List ℕ) (ps : List (List ℕ)) → Piece m → All Piece ps → parts is_space (m ++ spaced_all ps) ≡ m ∷ ps
unfolding spaced_all is_space
row_parts m [] h c = ap (parts is_space) (append-nil m) ∙ part_alone is_space m (no_space m h)
row_parts m (p ∷ ps) h (one_more k c) =
    parts_joined is_space m 32 (p ++ spaced_all ps) refl ∙ ap₂ ◌++◌ (part_alone is_space m (no_space m h)) (row_parts p ps k c)

filled_all : (i : ℕ) (ls : List (List ℕ)) → All Piece ls → filled_parts (placed i ls) ≡ placed i ls
unfolding filled_parts placed
filled_all i [] c = refl
filled_all i (l ∷ ls) (one_more h c) = rw (h.some, filled_all (i + (length l + 1)) ls c)

uncommented : (l : List ℕ) → all (λ b. not (eqb b 59)) l ≡ true → without_comment l ≡ l
uncommented l h = ap (λ (n : ℕ). take n l) (scan_all (λ b. not (eqb b 59)) l h) ∙ take-length l

-- a written row's pieces are its mnemonic and its places
pub row_pieces_lem : (i : ℕ) (m : List ℕ) (ps : List (List ℕ)) → Piece m → All Piece ps
    → line_pieces (record { start = i; text = m ++ spaced_all ps }) ≡ placed i (m ∷ ps)
unfolding line_pieces pieces_from
row_pieces_lem i m ps h c =
    ap (pieces_from i) (uncommented (m ++ spaced_all ps) (row_all (λ b. not (eqb b 59)) refl plain_no_comment m ps h c))
    ∙ ap (λ (ls : List (List ℕ)). filled_parts (placed i ls)) (row_parts m ps h c)
    ∙ filled_all i (m ∷ ps) (one_more h c)
