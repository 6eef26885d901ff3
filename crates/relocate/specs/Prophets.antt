-- The prophet list: its lines, each prophet's host, and the prophets kept.
use Rattle.std.specs.Prelude.{ℕ, suc, List, [], ◌∷◌, Bool, false, ◌||◌, cond, eqb, ltb, length, Option, Some, None}
use Rattle.text.specs.Bytes.{bytes, same}
use Rattle.text.specs.Scan.{parts, is_empty}
use Rattle.text.specs.Lines.{is_feed}
use Rattle.text.specs.Answer.{Answer, ok, refused, ◌>>=◌, ◌>>◌, refuse_if}
use Rattle.asm.specs.Rows.{instructions}
use Rattle.asm.specs.declared.OlaAsmInstruction.{OlaAsmInstruction}
use Rattle.asm.specs.declared.AsmRow.{AsmRow}
use Rattle.relocate.specs.Labels.{LabelRow, prophet_kind, label_rows, host_of, holder}

-- "parted by line feeds, untrimmed, the final line feed optional"
unfoldable pub without_last_empty : List (List ℕ) → List (List ℕ)
without_last_empty [] = []
without_last_empty (l ∷ []) = cond (is_empty l) [] (l ∷ [])
without_last_empty (l ∷ m ∷ ls) = l ∷ without_last_empty (m ∷ ls)

-- "The prophet list is empty, or a line `label` and then one label a line"; refusal 8 where it has "another first line"
unfoldable pub labels_after_head : List (List ℕ) → Answer (List (List ℕ))
labels_after_head [] = ok []
labels_after_head (l ∷ ls) = cond (same l (bytes "label")) (ok ls) (refused 8 0)

-- the labels that a list names: 8 "prophet list above 16,384 bytes or with another first line"
unfoldable pub listed_labels : List ℕ → Answer (List (List ℕ))
listed_labels list = refuse_if (ltb 16384 (length list)) 8 >> labels_after_head (without_last_empty (parts is_feed list))

-- 9 "a prophet that no mapped prophet row names (its index from 0)"
abbrev pub host_found : List OlaAsmInstruction → ℕ → Option LabelRow → Answer ℕ
host_found is k None = refused 9 k
host_found is k (Some l) = ok (host_of is l.marks)

-- each prophet's host, in list order, counted from k
unfoldable pub hosts_from : List ℕ → List AsmRow → ℕ → List (List ℕ) → Answer (List ℕ)
hosts_from s rs k [] = ok []
hosts_from s rs k (x ∷ xs) =
    host_found (instructions rs) k (holder s prophet_kind x (label_rows 0 rs)) >>= λ h. hosts_from s rs (suc k) xs >>= λ hs. ok (h ∷ hs)

unfoldable pub is_in : ℕ → List ℕ → Bool
is_in x [] = false
is_in x (y ∷ ys) = eqb x y || is_in x ys

-- a prophet kept: its host, and its place in the list
pub record Kept : Type 0 where
  pub host : ℕ
  pub place : ℕ

-- the place of one that is kept
abbrev pub place_of : Kept → ℕ
place_of q = q.place

-- "Of two prophets on one host the later in the list is kept"
unfoldable pub kept_from : ℕ → List ℕ → List Kept
kept_from k [] = []
kept_from k (h ∷ hs) = let later = kept_from (suc k) hs in cond (is_in h hs) later (record { host = h; place = k } ∷ later)

-- "the count kept"
abbrev pub kept_count : List ℕ → ℕ
kept_count hs = length (kept_from 0 hs)
