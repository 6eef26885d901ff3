-- Laws of printing what assembling answered, and of printing a source, in the shapes in which the functions ask for them.
use Rattle.std.specs.Prelude.{Result, Ok, Err}
use Prim.Native.Nat.{ℕ, ◌<◌, ◌≤◌}
use mathlib.Core.Path.{◌≡◌, refl, sym, ap, ◌∙◌}
use mathlib.Core.List.{List, [], ◌++◌}
use mathlib.Core.Bool.{Bool, true, false, cond}
use native.Mathlib.Omega.{arith}
use borrow.Author.Rules.{rules}
use borrow.Author.Tests.{lt-ltb, le-ltb, ltb-false}
use lib.Dec.{ltb}
use lib.ListN.{length, take, drop, length-append}
use lib.Seq.{take_at, length-take-le}
use Rattle.text.specs.Answer.{Answer, ok, refused, ◌>>=◌, on_ok}
use Rattle.text.proofs.AnswerLaws.{not_ok, ok_same}
use Rattle.relocate_names.specs.Shortest.{shortest_of}
use Rattle.encoder.specs.Assemble.{Room, Accepted, assemble_number, assemble_detail, numbered, totals_of, assembled, assembled_totals, words_left}
use Rattle.encoder.specs.Printing.{reported, printing, printing_room}
use Rattle.encoder.specs.declared.AssembleRefusal.{AssembleRefusal}
use Rattle.encoder.specs.declared.Totals.{Totals}
use Rattle.encoder_report.specs.Printed.{printed_numbered, printed_count, printed_into, reported_words}
use Rattle.program.specs.declared.WriteRefusal.{WriteRefusal}
use Rattle.encoder_print.specs.Reported.{word_count, reported_assembly}

-- ---- print_assembly: d is the text
module _ (found : Result Totals AssembleRefusal) (words d : List ℕ) where
  module _ (refusal : AssembleRefusal) (e : found ≡ Err refusal) (n m : ℕ) (f : n ≡ assemble_number refusal) (g : m ≡ assemble_detail refusal) where
    -- a refusal's report is by its number and detail
    refused_report_lem : reported (refused n m) ≡ reported_assembly found words
    refused_report_lem = rw (e, f, g)

    pub refused_counted : (r : Result ℕ WriteRefusal) → printed_numbered r ≡ printed_count (length d) (reported (refused n m)) → printed_numbered r ≡ printed_count (length d) (reported_assembly found words)
    refused_counted r h = h ∙ ap (printed_count (length d)) refused_report_lem

    pub refused_printed : (b : List ℕ) → b ≡ printed_into (reported (refused n m)) d → b ≡ printed_into (reported_assembly found words) d
    refused_printed b h = h ∙ ap (λ (w : List ℕ). printed_into w d) refused_report_lem

  module _ (totals : Totals) (e : found ≡ Ok totals) where
    accepted_report : reported_words (take totals.words words) ≡ reported_assembly found words
    accepted_report = rw e

    pub accepted_part : word_count found ≤ length words → totals.words ≡ length (take totals.words words)
    accepted_part h = sym (length-take-le totals.words words (rw e at h))

    pub accepted_counted : (r : Result ℕ WriteRefusal) → printed_numbered r ≡ printed_count (length d) (reported_words (take totals.words words)) → printed_numbered r ≡ printed_count (length d) (reported_assembly found words)
    accepted_counted r h = h ∙ ap (printed_count (length d)) accepted_report

    pub accepted_printed : (b : List ℕ) → b ≡ printed_into (reported_words (take totals.words words)) d → b ≡ printed_into (reported_assembly found words) d
    accepted_printed b h = h ∙ ap (λ (w : List ℕ). printed_into w d) accepted_report

pub ruleset assembly_laws = (refused_counted, refused_printed, accepted_part, accepted_counted, accepted_printed, rules)

-- ---- print_source

-- the report of a refusal, by its number and detail
abbrev refused_report : Answer Totals → List ℕ
refused_report (ok totals) = []
refused_report (refused n m) = reported (refused n m)

-- an answer and the words left tell the report of what was assembled
report_same : (found : Result Totals AssembleRefusal) (a : Answer Accepted) (words : List ℕ) → numbered found ≡ (a >>= λ x. ok (totals_of x)) → reported_assembly found (words_left a words) ≡ reported a
unfolding ◌>>=◌ on_ok
report_same (Err refusal) (refused n m) words e = ap refused_report e
report_same (Err refusal) (ok x) words e = absurd (not_ok e)
report_same (Ok totals) (refused n m) words e = absurd (not_ok (sym e))
report_same (Ok totals) (ok x) words e =
    ap (λ (t : Totals). reported_words (take t.words (x.words ++ drop (length x.words) words))) (ok_same e)
    ∙ ap reported_words (take_at x.words (drop (length x.words) words) (length x.words) refl)

-- and no more words are counted than are left
count_within : (found : Result Totals AssembleRefusal) (a : Answer Accepted) (words : List ℕ) → numbered found ≡ (a >>= λ x. ok (totals_of x)) → word_count found ≤ length (words_left a words)
unfolding ◌>>=◌ on_ok
count_within (Err refusal) a words e = omega arith
count_within (Ok totals) (refused n m) words e = absurd (not_ok (sym e))
count_within (Ok totals) (ok x) words e =
    let z = ap (λ (t : Totals). t.words) (ok_same e) in
    let y = length-append x.words (drop (length x.words) words) in
    omega arith

-- columns and words of 4,096 entries and no hosts are the room that the printing program lends
pub room_is : {k m s l a w h : ℕ} → 4096 ≡ k → 4096 ≡ m → 4096 ≡ s → 4096 ≡ l → 4096 ≡ a → 4096 ≡ w → 0 ≡ h → record { entries = shortest_of k m s l a; words = w; hosts = h } ≡ printing_room
room_is e f g i j n o = rw (sym e, sym f, sym g, sym i, sym j, sym n, sym o)

module _ (s d : List ℕ) where
  module _ (h : 4096 < length s) where
    -- a longer source is refusal 1
    long_report : printing s ≡ reported (refused 1 0)
    unfolding printing
    long_report = rw (lt-ltb 4096 (length s) h)

    pub long_counted : (r : Result ℕ WriteRefusal) → printed_numbered r ≡ printed_count (length d) (reported (refused 1 0)) → printed_numbered r ≡ printed_count (length d) (printing s)
    long_counted r e = e ∙ ap (printed_count (length d)) (sym long_report)

    pub long_printed : (b : List ℕ) → b ≡ printed_into (reported (refused 1 0)) d → b ≡ printed_into (printing s) d
    long_printed b e = e ∙ ap (λ (w : List ℕ). printed_into w d) (sym long_report)

module _ (s : List ℕ) (room : Room) (found : Result Totals AssembleRefusal) (words left : List ℕ) (e : numbered found ≡ assembled_totals s [] room) (k : left ≡ words_left (assembled s [] room) words) where
  -- the words that are counted lie within those that are left
  pub left_within : word_count found ≤ length left
  unfolding assembled_totals
  left_within = rw k (count_within found (assembled s [] room) words e)

  module _ (d : List ℕ) (g : room ≡ printing_room) (h : length s ≤ 4096) where
    -- what is reported of the answer and of what is left is what is printed of the source
    source_report : reported_assembly found left ≡ printing s
    unfolding assembled_totals printing
    source_report = ap (reported_assembly found) k ∙ report_same found (assembled s [] room) words e ∙ ap (λ (r : Room). reported (assembled s [] r)) g ∙ sym (rw (le-ltb 4096 (length s) h))

    -- so what is printed of the answer and of what is left is printed of the source
    pub source_printed : (r : Result ℕ WriteRefusal) (b : List ℕ)
        → (printed_numbered r ≡ printed_count (length d) (reported_assembly found left)) × (b ≡ printed_into (reported_assembly found left) d)
        → (printed_numbered r ≡ printed_count (length d) (printing s)) × (b ≡ printed_into (printing s) d)
    source_printed r b f = (f.0 ∙ ap (printed_count (length d)) source_report, f.1 ∙ ap (λ (w : List ℕ). printed_into w d) source_report)

pub ruleset long_laws = (long_counted, long_printed, rules)

-- for a caller: what was printed lies within the room for it
pub printed_within : (room : ℕ) (w : List ℕ) (r : Result ℕ WriteRefusal) (n : ℕ) → printed_numbered r ≡ printed_count room w → r ≡ Ok n → n ≤ room
unfolding printed_count
printed_within room w r n e f = go (ltb room (length w)) refl (ap printed_numbered (sym f) ∙ e)
  where
    go : (t : Bool) → ltb room (length w) ≡ t → ok n ≡ cond t (refused 23 0) (ok (length w)) → n ≤ room
    go true h k = absurd (not_ok (sym k))
    go false h k = let z = ok_same k in let y = ltb-false room (length w) h in omega arith
