-- The source of a bytecode: it assembles back to the program read from it, that of an accepted source to its words, and what a caller holds of it.
use Rattle.std.specs.Prelude.{ℕ, ◌≤◌, ◌≡◌, refl, List, [], map, false, length, take, drop, None}
use Rattle.std.proofs.Common.{sym, ap, subst, ◌∙◌, arith}
use Rattle.std.proofs.Math.Seq.{drop-append_seam}
use Rattle.text.specs.Scan.{parts}
use Rattle.text.specs.Answer.{ok, refused, ◌>>◌, refuse_if, on_ok}
use Rattle.text.specs.All.{All, none_left, one_more}
use Rattle.text.proofs.AnswerLaws.{ok_same}
use Rattle.relocate.specs.Prophets.{without_last_empty, labels_after_head, listed_labels}
use Rattle.program.specs.Words.{program_words}
use Rattle.program.specs.Bytecode.{bytecode_of, within, text_left}
use Rattle.program.specs.declared.BinaryInstruction.{BinaryInstruction}
use Rattle.program.specs.CanonicalForm.{CanonicalForm, InOrder}
use Rattle.encoder.specs.Assemble.{Room, Accepted, assembled}
use Rattle.decoder.specs.AsRead.{as_read, as_canonical}
use Rattle.decoder.specs.Open.{opened}
use Rattle.decoder.proofs.BytecodeLaws.{opens}
use Rattle.decoder.proofs.OpenedLaws.{opened_form}
use Rattle.source.specs.SourceText.{source_text, is_off_row, first_off_row, source_written}
use Rattle.source_laws.proofs.ReadsAs.{ReadsAs}
use Rattle.source_laws.proofs.RowLaws.{reads_as}
use Rattle.source_laws.proofs.AssembledLaws.{source_text_assembles}
use Rattle.source_laws.proofs.AgainLaws.{read_again}
use Rattle.source_laws.proofs.CanonicalLaws.{text_as_canonical, all_order_as_canonical, all_on_as_canonical, text_as_read, all_on_as_read}
use Rattle.source_laws.proofs.OffRowLaws.{none_off_row, on_rows_written, written_source, no_row_reads_so}
use Rattle.promises.proofs.TieLaws.{left_front}
use Rattle.promises.specs.AcceptedLaws.{accepted_form, accepted_order, accepted_words, accepted_readable, accepted_short}

-- rows of instructions of canonical form, with numbers below p and nothing off their rows, read back
all_reads_as : (is : List BinaryInstruction) → All CanonicalForm is → All InOrder is → All (λ i. is_off_row i ≡ false) is → All ReadsAs is
all_reads_as is none_left none_left none_left = none_left
all_reads_as is (one_more {x = i} {xs = js} c cs) (one_more o os) (one_more f fs) = one_more (reads_as i c o f) (all_reads_as js cs os fs)

-- a text written stands at the start of the lent one, and past it what stood there
pub left_written : (bytecode lent t : List ℕ) → source_written bytecode (length lent) ≡ ok t
    → (take (length t) (text_left (source_written bytecode (length lent)) lent) ≡ t)
    × (drop (length t) (text_left (source_written bytecode (length lent)) lent) ≡ drop (length t) lent)
unfolding on_ok
left_written bytecode lent t e = (left_front (source_written bytecode (length lent)) (λ written. written) lent t e, rw e (drop-append_seam t (drop (length t) lent)))

-- a refusal leaves it as it was
pub left_refused : (bytecode lent : List ℕ) (n d : ℕ) → source_written bytecode (length lent) ≡ refused n d
    → text_left (source_written bytecode (length lent)) lent ≡ lent
unfolding on_ok
left_refused bytecode lent n d e = rw e

-- what was written of a text that opens assembles to its instructions as canonical
pub written_assembles : (text : List ℕ) (is : List BinaryInstruction) → opened text ≡ ok is → (space : ℕ) (t : List ℕ) → source_written text space ≡ ok t
    → length t ≤ 65536 → (prophets : List ℕ) → listed_labels prophets ≡ ok []
    → (room : Room) → 1 ≤ room.entries → length (program_words (map as_canonical is)) ≤ room.words
    → assembled t prophets room ≡ ok (record { labels = 1; program = map as_canonical is; words = program_words (map as_canonical is); hosts = [] })
written_assembles text is h space t e short prophets listed room entries words =
    let w = written_source text space t e in
    let same : w.0 ≡ is = ok_same (sym w.1 ∙ h) in
    let on : All (λ i. is_off_row i ≡ false) is = (none_off_row is).0 (subst (λ (js : List BinaryInstruction). first_off_row 0 js ≡ None) same w.2) in
    let f = opened_form text is h in
    let rows = all_reads_as (map as_canonical is) f.0 (all_order_as_canonical is f.1) (all_on_as_canonical is on) in
    let z : t ≡ source_text (map as_canonical is) = w.3 ∙ ap (λ (js : List BinaryInstruction). source_text js) same ∙ sym (text_as_canonical is) in
    ap (λ (x : List ℕ). assembled x prophets room) z
    ∙ source_text_assembles (map as_canonical is) rows (subst (λ (x : List ℕ). length x ≤ 65536) z short) prophets listed room entries words

-- an empty list names no prophet
pub no_prophets : listed_labels [] ≡ ok []
unfolding parts ◌>>◌ refuse_if without_last_empty labels_after_head listed_labels
no_prophets = refl

-- and the bytecode of what was assembled opens to the instructions that were read
pub written_again : (text : List ℕ) (is : List BinaryInstruction) → opened text ≡ ok is → (space : ℕ) (t : List ℕ) → source_written text space ≡ ok t
    → length t ≤ 65536 → opened (bytecode_of (program_words (map as_canonical is))) ≡ ok is
written_again text is h space t e short =
    let ws : List ℕ = program_words (map as_canonical is) in
    let room : Room = record { entries = 1; words = length ws; hosts = 0 } in
    let a : Accepted = record { labels = 1; program = map as_canonical is; words = ws; hosts = [] } in
    let k : assembled t [] room ≡ ok a = written_assembles text is h space t e short [] no_prophets room (omega arith) (omega arith) in
    opens (map as_canonical is) (accepted_readable t [] room a k) (accepted_short t [] room a k) ∙ ap ok (read_again text is h)

module _ (s prophets : List ℕ) (room : Room) (a : Accepted) (h : assembled s prophets room ≡ ok a) where
  -- only 23 can come where the bytecode is an accepted source's, and what is written is the text of its program
  pub accepted_written : opened (bytecode_of a.words) ≡ ok (map as_read a.program)
      → (space : ℕ) → source_written (bytecode_of a.words) space ≡ within space (source_text a.program)
  accepted_written e space =
      on_rows_written (bytecode_of a.words) (map as_read a.program) e space
      ((none_off_row (map as_read a.program)).1 (all_on_as_read a.program (no_row_reads_so s prophets room a h)))
      ∙ ap (λ (t : List ℕ). within space t) (text_as_read a.program)

  -- and that text assembles to the same program and words
  pub written_same : length (source_text a.program) ≤ 65536 → (others : List ℕ) → listed_labels others ≡ ok []
      → (space : Room) → 1 ≤ space.entries → length a.words ≤ space.words
      → assembled (source_text a.program) others space ≡ ok (record { labels = 1; program = a.program; words = a.words; hosts = [] })
  written_same short others listed space entries words =
      let e = accepted_words s prophets room a h in
      let rows = all_reads_as a.program (accepted_form s prophets room a h) (accepted_order s prophets room a h) (no_row_reads_so s prophets room a h) in
      source_text_assembles a.program rows short others listed space entries (subst (λ (ws : List ℕ). length ws ≤ space.words) e words)
      ∙ ap (λ (ws : List ℕ). ok (record { labels = 1; program = a.program; words = ws; hosts = [] })) (sym e)
