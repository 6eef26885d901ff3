-- Assembling: what it answers, refusals 1 to 13 and 25 in their order, and what it leaves in every lent buffer.
use Rattle.std.specs.Prelude.{ℕ, List, ◌||◌, ltb, length, Result, Ok, Err}
use Rattle.text.specs.Answer.{Answer, ok, refused, ◌>>=◌, ◌>>◌, refuse_if, refuse_at, over, on_ok}
use Rattle.asm.specs.declared.AsmRow.{AsmRow}
use Rattle.relocate.specs.Labels.{label_rows}
use Rattle.relocate.specs.Prophets.{kept_count}
use Rattle.relocate.specs.Relocate.{tabled, hosts_of, relocate_number, relocate_detail}
use Rattle.program.specs.Words.{program_words}
use Rattle.program.specs.declared.BinaryInstruction.{BinaryInstruction}
use Rattle.encoder.specs.Canonical.{canonical_program, first_misplaced}
use Rattle.encoder.specs.declared.AssembleRefusal.{AssembleRefusal}
use Rattle.encoder.specs.declared.AssembleRefusal.TheVariants.{Relocate, NameUnknown, MemoryOperand, NumberMisplaced, RoomTooShort, BracketMisplaced}
use Rattle.encoder.specs.declared.Totals.{Totals}

-- the number of a refusal: 01's, and 02's for 25
abbrev pub assemble_number : AssembleRefusal → ℕ
assemble_number (Relocate refusal) = relocate_number refusal
assemble_number (NameUnknown index) = 10
assemble_number (MemoryOperand index) = 11
assemble_number (NumberMisplaced index) = 12
assemble_number RoomTooShort = 13
assemble_number (BracketMisplaced index) = 25

-- and its detail
abbrev pub assemble_detail : AssembleRefusal → ℕ
assemble_detail (Relocate refusal) = relocate_detail refusal
assemble_detail (NameUnknown index) = index.0
assemble_detail (MemoryOperand index) = index.0
assemble_detail (NumberMisplaced index) = index.0
assemble_detail RoomTooShort = 0
assemble_detail (BracketMisplaced index) = index.0

-- an answer by its number, detail and counts
abbrev pub numbered : Result Totals AssembleRefusal → Answer Totals
numbered (Err refusal) = refused (assemble_number refusal) (assemble_detail refusal)
numbered (Ok totals) = ok totals

-- how many entries of each kind the caller lends
pub record Room : Type 0 where
  pub entries : ℕ
  pub words : ℕ
  pub hosts : ℕ

-- an accepted source: how many label rows it has, its canonical program, its words, and its prophets' hosts in list order
pub record Accepted : Type 0 where
  pub labels : ℕ
  pub program : List BinaryInstruction
  pub words : List ℕ
  pub hosts : List ℕ

-- refusals 8 to 13 and 25, which leave the table filled: 13 "fewer word entries than emitted words, or fewer host entries than listed prophets"
unfoldable pub encoded_rows : List ℕ → List AsmRow → List ℕ → Room → Answer Accepted
encoded_rows s rows prophets room = do
  hosts ← hosts_of s rows prophets
  program ← canonical_program s rows
  refuse_at (first_misplaced 0 program) 12
  refuse_if (ltb room.words (length (program_words program)) || ltb room.hosts (length hosts)) 13
  ok (record { labels = length (label_rows 0 rows); program = program; words = program_words program; hosts = hosts })

-- assembling a source with a prophet list and the room that the caller lends
unfoldable pub assembled : List ℕ → List ℕ → Room → Answer Accepted
assembled s prophets room = tabled s room.entries >>= λ rows. encoded_rows s rows prophets room

-- "On acceptance the counts of words, hosts ... written are returned", "the count kept", and that of the table's entries
abbrev pub totals_of : Accepted → Totals
totals_of a = record { labels = a.labels; words = length a.words; hosts = length a.hosts; kept = kept_count a.hosts }

unfoldable pub assembled_totals : List ℕ → List ℕ → Room → Answer Totals
assembled_totals s prophets room = assembled s prophets room >>= λ a. ok (totals_of a)

-- ---- what stands in the lent buffers afterwards

-- "A refusal leaves the word, host ... buffers unchanged"
abbrev pub words_left : Answer Accepted → List ℕ → List ℕ
words_left answer words = on_ok answer (λ a. over a.words words) words

abbrev pub hosts_left : Answer Accepted → List ℕ → List ℕ
hosts_left answer hosts = on_ok answer (λ a. over a.hosts hosts) hosts
