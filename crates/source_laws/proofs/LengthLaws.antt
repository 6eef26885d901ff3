-- How long a written source can be: 5 bytes, and 21 for each line of the bytecode; and 2,970,976 for any bytecode that opens.
use Rattle.std.specs.Prelude.{Option, Some, None}
use Prim.Native.Nat.{ℕ, suc, ◌+◌, ◌*◌, ◌≤◌}
use mathlib.Core.Path.{◌≡◌, refl, subst}
use mathlib.Core.List.{List, [], ◌∷◌, map}
use mathlib.Core.Bool.{Bool, true, false, cond}
use native.Mathlib.Omega.{arith}
use native.Mathlib.Nat.{mul-add}
use borrow.Author.Tests.{ltb-false}
use lib.ListN.{length, length-append}
use Rattle.text.specs.Bytes.{bytes}
use Rattle.text.specs.Lists.{total}
use Rattle.text.specs.Scan.{parts, is_empty}
use Rattle.text.specs.Lines.{is_feed, ended, lines}
use Rattle.text.specs.Answer.{ok}
use Rattle.text.proofs.AnswerLaws.{ok_same, ok_bind, if_passed, at_passed}
use Rattle.text.proofs.PartLaws.{without_return_le}
use Rattle.text.proofs.SumLaws.{total_most, spaced, parts_total}
use Rattle.program.specs.Groups.{Group, grouped}
use Rattle.program.specs.Bytecode.{joined}
use Rattle.program.specs.declared.BinaryInstruction.{BinaryInstruction}
use Rattle.decoder.specs.Lines.{line_has_second, line_groups, is_complete, complete_of}
use Rattle.decoder.specs.Decode.{group_decoded}
use Rattle.decoder.specs.Open.{max_bytecode_bytes, all_decoded, opened}
use Rattle.source.specs.SourceText.{source_row, source_text}
use Rattle.source_laws.proofs.RowLengths.{held, weighed, row_by_lines, row_by_bytes}

-- ---- sums

total_times : {A : Type 0} (c : ℕ) (f : A → ℕ) (xs : List A) → total (map (λ x. c * f x) xs) ≡ c * total (map f xs)
unfolding total
total_times c f [] = omega arith
total_times c f (x ∷ xs) = let h = total_times c f xs in let d = mul-add c (f x) (total (map f xs)) in omega arith

ended_total : (ls : List (List ℕ)) → total (map spaced (ended ls)) ≤ total (map spaced ls)
unfolding ended total
ended_total [] = omega arith
ended_total (l ∷ []) = go (is_empty l)
  where
    go : (t : Bool) → total (map spaced (cond t [] (l ∷ []))) ≤ total (map spaced (l ∷ []))
    go true = omega arith
    go false = omega arith
ended_total (l ∷ m ∷ ls) = let a = without_return_le l in let h = ended_total (m ∷ ls) in omega arith

-- the lines of a text, each with one byte for its end, take no more than the text and one byte
lines_total : (s : List ℕ) → total (map spaced (lines s)) ≤ length s + 1
unfolding lines
lines_total s = let a = ended_total (parts is_feed s) in let b = parts_total is_feed s in omega arith

-- each row of a source stands behind a line feed
joined_long : (l : List ℕ) (is : List BinaryInstruction) → length (joined (l ∷ map source_row is)) ≡ length l + total (map (λ i. spaced (source_row i)) is)
unfolding joined total
joined_long l [] = omega arith
joined_long l (i ∷ is) =
    let a = length-append l (10 ∷ joined (source_row i ∷ map source_row is)) in
    let h = joined_long (source_row i) is in
    omega arith

-- ---- what holds of each instruction and its lines, of all of them: u is what a line counts, cost what an instruction does
module _ (cost : BinaryInstruction → ℕ) (u : List ℕ → ℕ) where
  complete_most : (gs : List (Group (List ℕ))) → total (map (weighed u) (complete_of gs)) ≤ total (map (weighed u) gs)
  unfolding complete_of total
  complete_most [] = omega arith
  complete_most (g ∷ gs) = go (is_complete g) (complete_most gs)
    where
      go : (t : Bool) → total (map (weighed u) (complete_of gs)) ≤ total (map (weighed u) gs)
          → total (map (weighed u) (cond t (g ∷ complete_of gs) (complete_of gs))) ≤ total (map (weighed u) (g ∷ gs))
      go true h = omega arith
      go false h = omega arith

  grouped_total : (o : Option (List ℕ)) (ls : List (List ℕ)) → total (map (weighed u) (grouped line_has_second o ls)) ≡ held u o + total (map u ls)
  unfolding grouped total
  grouped_total None [] = refl
  grouped_total (Some a) [] = omega arith
  grouped_total (Some a) (b ∷ bs) = let h = grouped_total None bs in omega arith
  grouped_total None (a ∷ as') = go (line_has_second a) (grouped_total (Some a) as') (grouped_total None as')
    where
      go : (t : Bool) → total (map (weighed u) (grouped line_has_second (Some a) as')) ≡ u a + total (map u as')
          → total (map (weighed u) (grouped line_has_second None as')) ≡ 0 + total (map u as')
          → total (map (weighed u) (let rest = grouped line_has_second (cond t (Some a) None) as' in cond t rest (record { first = a; second = None } ∷ rest)))
          ≡ 0 + total (map u (a ∷ as'))
      go true x y = omega arith
      go false x y = omega arith

  module _ (h : (k : ℕ) (g : Group (List ℕ)) (i : BinaryInstruction) → group_decoded k g ≡ ok i → cost i ≤ weighed u g) where
    decoded_most : (k : ℕ) (gs : List (Group (List ℕ))) (is : List BinaryInstruction) → all_decoded k gs ≡ ok is → total (map cost is) ≤ total (map (weighed u) gs)
    unfolding all_decoded total
    decoded_most k [] is e = subst (λ (is : List BinaryInstruction). total (map cost is) ≤ 0) (ok_same e) (omega arith)
    decoded_most k (g ∷ gs) is e =
        let a = ok_bind (group_decoded k g) _ is e in
        let b = ok_bind (all_decoded (suc k) gs) _ is a.2 in
        let c = h k g a.0 a.1 in
        let d = decoded_most (suc k) gs b.0 b.1 in
        subst (λ (is : List BinaryInstruction). total (map cost is) ≤ total (map (weighed u) (g ∷ gs))) (ok_same b.2) (omega arith)

    -- a text that opens has at most 524,288 bytes, and its instructions cost at most what its lines count
    pub opened_most : (text : List ℕ) (is : List BinaryInstruction) → opened text ≡ ok is
        → (length text ≤ max_bytecode_bytes) × (total (map cost is) ≤ total (map u (lines text)))
    unfolding opened
    opened_most text is e =
        let a = if_passed _ _ _ is e in
        let b = at_passed _ _ _ is a.1 in
        let c = decoded_most 0 (complete_of (line_groups (lines text))) is b.1 in
        let d = complete_most (line_groups (lines text)) in
        let g = grouped_total None (lines text) in
        (ltb-false max_bytecode_bytes (length text) a.0, omega arith)

-- ---- the length of a source

module _ (text : List ℕ) (is : List BinaryInstruction) (h : opened text ≡ ok is) where
  source_long : length (source_text is) ≡ 5 + total (map (λ i. spaced (source_row i)) is)
  source_long = joined_long (bytes "main:") is

  -- The source of a text that opens has at most 5 bytes and 21 for each line of the text.
  pub source_within : length (source_text is) ≤ 5 + 21 * length (lines text)
  source_within =
      let s = source_long in
      let a = (opened_most (λ i. spaced (source_row i)) (λ l. 21) row_by_lines text is h).1 in
      let b = total_most (λ (l : List ℕ). 21) 21 (λ l. omega arith) (lines text) in
      omega arith

  -- The source of any text that opens has at most 2,970,976 bytes.
  pub source_most : length (source_text is) ≤ 2970976
  source_most =
      let s = source_long in
      let a = opened_most (λ i. 3 * spaced (source_row i)) (λ l. 17 * spaced l) row_by_bytes text is h in
      let b = total_times 3 (λ (i : BinaryInstruction). spaced (source_row i)) is in
      let c = total_times 17 spaced (lines text) in
      let d = lines_total text in
      omega arith
