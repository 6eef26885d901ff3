-- From the definitions that the promises speak of to what the functions leave and answer.
use Rattle.std.specs.Prelude.{ℕ, zero, suc, ◌-◌, ◌≤◌, ◌≡◌, refl, List, [], ◌∷◌, ◌++◌, map, ltb, length, take, drop, get_or, replicate}
use Rattle.std.proofs.Common.{ap, ◌∙◌, arith, le-ltb}
use Rattle.std.proofs.Math.Nat.{sub-zero, suc-sub-suc}
use Rattle.std.proofs.lemmas.List.{get_or-replicate}
use Rattle.text.specs.Lines.{lines}
use Rattle.text.specs.Answer.{Answer, ok, ◌>>◌, refuse_if, refuse_at, over, on_ok}
use Rattle.asm.specs.Parts.{Part, text_of, placed_lines}
use Rattle.asm.specs.Rows.{read_rows}
use Rattle.asm_laws.proofs.LineLaws.{source_lines}
use Rattle.relocate.specs.Relocate.{first_above127, rows_read}
use Rattle.program.specs.Bytecode.{bytecode_of, within, bytecode_written, text_left}
use Rattle.promises.specs.Terms.{rows_by_lines}

-- what lies over old entries is at the start
pub over_front : {A : Type 0} (new old : List A) → take (length new) (over new old) ≡ new
over_front new old = go new (drop (length new) old)
  where
    go : {A : Type 0} (xs ys : List A) → take (length xs) (xs ++ ys) ≡ xs
    go [] ys = refl
    go (x ∷ xs) ys = ap (λ zs. x ∷ zs) (go xs ys)

-- what an accepted answer leaves in a buffer is at its start
pub left_front : {A B : Type 0} (answer : Answer A) (entries : A → List B) (old : List B) (a : A) → answer ≡ ok a
    → take (length (entries a)) (on_ok answer (λ x. over (entries x) old) old) ≡ entries a
unfolding on_ok
left_front answer entries old a h = rw h (over_front (entries a) old)

-- bytecode that fits is written
fits : (ws text : List ℕ) → length (bytecode_of ws) ≤ length text → bytecode_written ws (length text) ≡ ok (bytecode_of ws)
unfolding within ◌>>◌ refuse_if
fits ws text k = rw (le-ltb (length text) (length (bytecode_of ws)) k)

pub bytecode_fits : (ws text : List ℕ) → length (bytecode_of ws) ≤ length text
    → take (length (bytecode_of ws)) (text_left (bytecode_written ws (length text)) text) ≡ bytecode_of ws
bytecode_fits ws text h = left_front (bytecode_written ws (length text)) (λ written. written) text (bytecode_of ws) (fits ws text h)

-- of the first answers of a run and the refusals after them, the k-th
pub nth_answer : {A : Type 0} (d : Answer A) (k : ℕ) (xs : List A)
    → get_or (map ok (take (suc k) xs) ++ replicate (suc k - length xs) d) k d ≡ get_or (map ok xs) k d
nth_answer d k [] = ap (λ n. get_or (replicate n d) k d) (sub-zero (suc k)) ∙ get_or-replicate (suc k) k d d (omega arith)
nth_answer d zero (x ∷ xs) = refl
nth_answer d (suc k) (x ∷ xs) =
    ap (λ n. get_or (map ok (take (suc k) xs) ++ replicate n d) k d) (suc-sub-suc (suc k) (length xs)) ∙ nth_answer d k xs

-- the rows of a source are those by its lines
pub lines_read : (s : List ℕ) → (rows_read s ≡ rows_by_lines s) × (map text_of (placed_lines s) ≡ lines s)
unfolding rows_read
lines_read s =
    let x = source_lines s in
    (ap (λ (ps : List (List Part)). refuse_if (ltb 65536 (length s)) 1 >> (refuse_at (first_above127 0 s) 2 >> read_rows 0 ps)) x.0, x.1)
