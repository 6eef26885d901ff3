-- The promises: demand 3, and what else a reviewer relies on, as theorems about the definitions that the contracts cite. Each is proved in the file
-- that it names, and names the public functions of whose contracts it speaks: those of Rattle, and the exports of ola_c, whose contracts cite the same
-- definitions. Of ola_label_name, ola_encode, ola_listing_row and ola_version no theorem speaks: their contracts are their whole outcome.
-- What is said of encoder_assemble::assemble_parts and ola_assemble_parts is said of meter_builds::build_parts and ola_meter_build too: these cite the same
-- definitions for their answers and for what they leave.
-- A source is accepted where assembling it, with some prophets and some room, answers ok a: a.program is then its canonical program, made
-- from its rows, a.words its words, and bytecode_of a.words its bytecode.
use Rattle.std.specs.Prelude.{ℕ, suc, ◌+◌, ◌-◌, ◌*◌, ◌≤◌, ◌<◌, ◌↔◌, ◌⊎◌, ◌≡◌, refl, List, [], ◌++◌, map, true, false, length, take, drop, get_or, replicate, Some, None, slice_get}
use Rattle.std.proofs.Common.{sym, ap, ◌∙◌}
use Rattle.std.proofs.lemmas.List.{length-map}
use Rattle.text.specs.Lines.{lines}
use Rattle.text.specs.Lists.{total}
use Rattle.text.specs.Answer.{Answer, ok, refused, ◌>>=◌}
use Rattle.text.specs.All.{All, Ascending}
use Rattle.vm_hardware.specs.declared.Place.{Place}
use Rattle.asm.specs.Parts.{source_pieces, text_of, placed_lines}
use Rattle.asm.specs.Rows.{counted_length, instructions}
use Rattle.asm.specs.declared.OlaAsmOperand.TheVariants.{Label, Identifier}
use Rattle.asm.specs.declared.OlaAsmInstruction.{OlaAsmInstruction}
use Rattle.asm.specs.declared.AsmRow.{AsmRow}
use Rattle.asm_laws.proofs.LineLaws.{text_rows, lines_texts}
use Rattle.relocate.specs.Labels.{LabelRow, call_kind, jmp_kind, prophet_kind, label_rows, address_of, table_of}
use Rattle.relocate.specs.Prophets.{listed_labels, place_of, kept_from}
use Rattle.relocate.specs.Columns.{table_left, column_left}
use Rattle.relocate.specs.Relocate.{rows_read, sorted_of, tabled}
use Rattle.relocate.specs.Room.{room_of}
use Rattle.relocate.specs.declared.LabelEntry.{LabelEntry}
use Rattle.relocate.specs.declared.RoomFigures.{RoomFigures}
use Rattle.relocate_laws.proofs.KeptLaws.{places_ascend, later_kept as last-is-kept}
use Rattle.program.specs.Words.{program_words, emitted_length, words_before}
use Rattle.program.specs.Bytecode.{bytecode_of, within, bytecode_written, text_left}
use Rattle.program.specs.declared.BinaryInstruction.{BinaryInstruction}
use Rattle.program.specs.CanonicalForm.{CanonicalForm, InOrder}
use Rattle.program.proofs.FormLaws.{words_before_lem}
use Rattle.encoder.specs.Canonical.{names_of, canonical_program}
use Rattle.encoder.specs.Assemble.{Room, Accepted, assembled, totals_of, assembled_totals, words_left}
use Rattle.meter.specs.Meter.{Build, built_of, added, stopped, total_of, at_start, meter_after, played}
use Rattle.meter.specs.declared.Meter.{Meter}
use Rattle.meter.proofs.Laws.{played_counts, played_from, refused_keeps}
use Rattle.decoder.specs.AsRead.{as_read, as_canonical}
use Rattle.decoder.specs.Open.{opened, run}
use Rattle.decoder.specs.Steps.{run_at, nth_call}
use Rattle.decoder.proofs.BytecodeLaws.{opens}
use Rattle.decoder.proofs.OffsetLaws.{run_by_offsets as offsets_run}
use Rattle.decoder.proofs.OpenedLaws.{opened_run as run-opened, opened_form as form-opened}
use Rattle.source.specs.SourceText.{source_text, is_off_row, first_off_row, source_written}
use Rattle.source_laws.proofs.OffRowLaws.{first_off_row_lem as first_off, none_off_row as none-off, source_refused as refused-off, source_written_lem as written-on-rows, no_row_reads_so as on-rows}
use Rattle.source_laws.proofs.LengthLaws.{source_within, source_most}
use Rattle.source_laws.proofs.AgainLaws.{words_by_lines}
use Rattle.promises.specs.Terms.{SameProgram, operand_at, content_at, Stands, IsPosition, IsPositionBefore, HoldsPosition, IsKept, rows_by_lines}
use Rattle.promises.proofs.TieLaws.{left_front, bytecode_fits, nth_answer, lines_read}
use Rattle.promises.proofs.SameLaws.{words_same, bytecode_same, program_alone}
use Rattle.promises.specs.AcceptedLaws.{accepted_words, accepted_readable, accepted_short, accepted_form}
use Rattle.promises.proofs.NamePromise.{rows_there, stands, lengths_one, address_words, names_counted, entries_left, column_left_lem, table_positions}
use Rattle.promises.proofs.RoomLaws.{room_built, counted_words, refused_so, room_enough, room_late}
use Rattle.promises.proofs.SourcePromise.{left_written, left_refused, written_assembles, written_again, accepted_written, written_same}

-- What a caller holds after an accepted call.
module _ (s prophets : List ℕ) (room : Room) (a : Accepted) (h : assembled s prophets room ≡ ok a) where
  -- encoder_assemble::assemble_parts and encoder_entries::assemble, ola_assemble_parts and ola_assemble, answer the counts of this program,
  pub counts_answered : assembled_totals s prophets room ≡ ok (totals_of a)
  unfolding assembled_totals ◌>>=◌
  counts_answered = rw h

  -- and leave its words from the start of the lent slice on.
  pub words_left_lem : (lent : List ℕ) → take (length a.words) (words_left (assembled s prophets room) lent) ≡ a.words
  words_left_lem lent = left_front (assembled s prophets room) (λ (x : Accepted). x.words) lent a h

  -- Where the table is lent as entries (encoder_entries::assemble, ola_assemble), that of its sorted rows stands in it from its start on,
  pub table_left_lem : (rows : List AsmRow) → sorted_of s ≡ ok rows → (lent : List LabelEntry) → length lent ≡ room.entries
      → take a.labels (table_left s lent) ≡ table_of rows
  table_left_lem = entries_left s prophets room a h

  -- and where it is lent as columns (encoder_assemble::assemble_parts, ola_assemble_parts), each column of it in the slice lent for it.
  pub columns_left_lem : (rows : List AsmRow) → sorted_of s ≡ ok rows → {A : Type 0} (field : LabelEntry → A) (lent : List A)
      → take a.labels (column_left (tabled s room.entries) field lent) ≡ map field (table_of rows)
  columns_left_lem = column_left_lem s prophets room a h

  -- program_bytecode::write_bytecode and ola_write_bytecode, given these words and 524,288 bytes or as many as it takes, leave their bytecode.
  pub bytecode_left : (text : List ℕ) → length (bytecode_of a.words) ≤ length text
      → take (length (bytecode_of a.words)) (text_left (bytecode_written a.words (length text)) text) ≡ bytecode_of a.words
  bytecode_left text k = bytecode_fits a.words text k

  -- relocate_measure::room_of and ola_room_of tell of this source the label rows, instructions and words that the build produced, and the address
  -- after its last instruction.
  -- A caller that asks before it builds lends just what the build fills.
  pub room_is_built : (rows : List AsmRow) → sorted_of s ≡ ok rows
      → room_of s ≡ ok (record { labels = a.labels; instructions = length a.program; counted = address_of (instructions rows) (length a.program); words = length a.words })
  room_is_built = room_built s prophets room a h

  -- Of an accepted source they tell one number as its counted length and its words. (Of one that is refused after 6 they may tell two.)
  -- Who sets aside a word for each address has set aside just enough.
  pub counted_is_words : (f : RoomFigures) → room_of s ≡ ok f → f.counted ≡ f.words
  counted_is_words = counted_words s prophets room a h

-- Any source, prophets and room.
module _ (s prophets : List ℕ) (room : Room) where
  -- What room_of and ola_room_of refuse, assembling refuses with the same number and detail, whatever is lent.
  -- Of relocate_measure::room_of and ola_room_of; encoder_assemble::assemble_parts, encoder_entries::assemble, ola_assemble_parts and ola_assemble.
  -- A caller that was refused room need not try to build.
  pub room_refused : (n d : ℕ) → room_of s ≡ refused n d → assembled s prophets room ≡ refused n d
  room_refused = refused_so s prophets room

  -- Whoever lends as many table entries and words as they tell, or more, gets the outcome of lending just so many: lending more changes nothing, so
  -- lending just so much is enough.
  -- Of the same functions. Hosts, one for each listed prophet, are not the source's to tell, and stay as they are lent.
  pub room_suffices : (f : RoomFigures) → room_of s ≡ ok f → f.labels ≤ room.entries → f.words ≤ room.words
      → assembled s prophets room ≡ assembled s prophets (record { entries = f.labels; words = f.words; hosts = room.hosts })
  room_suffices = room_enough s prophets room

  -- With a host for each listed prophet besides, what is refused is one of 8 to 12 or 25: neither 7 nor 13.
  -- Of the same functions.
  -- A caller that lends what it was told, and hosts by its list, is never told that it lent too little.
  pub room_never_short : (f : RoomFigures) → room_of s ≡ ok f → f.labels ≤ room.entries → f.words ≤ room.words
      → ((labels : List (List ℕ)) → listed_labels prophets ≡ ok labels → length labels ≤ room.hosts)
      → (n d : ℕ) → assembled s prophets room ≡ refused n d → ((8 ≤ n) × (n ≤ 12)) ⊎ (n ≡ 25)
  room_never_short = room_late s prophets room

-- Two accepted sources, each with prophets and room of its own.
module _ (s t prophets others : List ℕ) (room space : Room) (a b : Accepted) (h : assembled s prophets room ≡ ok a) (k : assembled t others space ≡ ok b) where
  -- The same words exactly when the same canonical programs.
  -- Of encoder_assemble::assemble_parts, encoder_entries::assemble, ola_assemble_parts and ola_assemble, and the words that they leave.
  -- A reviewer may conclude from equal words that the two sources mean one program, and from different words that they do not.
  pub same_words : (a.words ≡ b.words) ↔ SameProgram a.program b.program
  same_words = words_same s t prophets others room space a b h k

  -- The same for their bytecode.
  -- Of the same functions, and the text that program_bytecode::write_bytecode and ola_write_bytecode leave, given their words.
  -- Comparing the published texts is as good as comparing the words.
  pub same_bytecode : (bytecode_of a.words ≡ bytecode_of b.words) ↔ SameProgram a.program b.program
  same_bytecode = bytecode_same s t prophets others room space a b h k

-- One source accepted twice, with prophets and room of their own: one canonical program and the same words.
-- Of encoder_assemble::assemble_parts, encoder_entries::assemble, ola_assemble_parts and ola_assemble.
-- A reviewer may speak of the canonical program and the words of a source: neither a prophet list nor a longer buffer changes them.
pub one_program : (s prophets others : List ℕ) (room space : Room) (a b : Accepted) → assembled s prophets room ≡ ok a → assembled s others space ≡ ok b
    → (a.program ≡ b.program) × (a.words ≡ b.words)
one_program = program_alone

-- Any text, from its first byte: the run by offsets gives what the run by lines gives.
-- Of decoder_next::next_at and ola_next_at on the one side, decoder_runs::next_line, decoder_bytecode::next and ola_next on the other.
-- A whole run may be made by offsets, which takes time linear in the text.
pub run_by_offsets : (k : ℕ) (text : List ℕ) → run_at k text 0 ≡ run k text 0
run_by_offsets k text = offsets_run k text

-- Any text that opens, whoever wrote it.
module _ (text : List ℕ) (is : List BinaryInstruction) (h : opened text ≡ ok is) where
  -- Of k calls of next from the first line, each on the reader that the last returned, the first answers are the instructions that opening read, in
  -- order, and every call left over is refused with 20.
  -- Of decoder_open::open_text, decoder_bytecode::open and ola_open, given that text; then decoder_bytecode::next, decoder_runs::next_line and ola_next,
  -- called k times, decoder_next::next_at and ola_next_at by run_by_offsets, and decoder_runs::nth, whose answer is one of this run.
  -- A bytecode that opens is read to its end without a refusal in between, and what is read is what was judged when it opened.
  pub opened_run : (k : ℕ) → run k text 0 ≡ map ok (take k is) ++ replicate (k - length is) (refused 20 0)
  opened_run k = run-opened text is h k

  -- Every instruction read has, with mov's psp taken as empty, one of the forms that instructions of accepted sources have, and its numbers are below p.
  -- Of the same functions: these are the instructions that they answer.
  -- In a stranger's bytecode a reviewer meets registers or nothing in op0 and dst, and in op1 besides these a number below p, a register with a factor
  -- below p in mload and mstore alone, and psp in mov alone.
  pub opened_form : All CanonicalForm (map as_canonical is) × All InOrder is
  opened_form = form-opened text is h

-- One accepted source.
module _ (s prophets : List ℕ) (room : Room) (a : Accepted) (h : assembled s prophets room ≡ ok a) where
  -- Its bytecode opens: none of 14 to 19 comes.
  -- Of decoder_open::open_text, decoder_bytecode::open and ola_open, given that text.
  -- A reader of published words is never turned away.
  pub bytecode_opens : opened (bytecode_of a.words) ≡ ok (map as_read a.program)
  bytecode_opens =
      ap (λ (ws : List ℕ). opened (bytecode_of ws)) (accepted_words s prophets room a h)
      ∙ opens a.program (accepted_readable s prophets room a h) (accepted_short s prophets room a h)

  -- Of k calls of next from the opened bytecode, each on the reader that the last returned, the first answers are the instructions of the
  -- canonical program in order, with mov's empty source place read as psp, and every call left over is refused with 20.
  -- Of decoder_bytecode::next, decoder_runs::next_line and ola_next, called k times.
  -- What a reviewer reads back from published words is the program, whole and in order, and nothing else.
  pub run_reads : (k : ℕ) → run k (bytecode_of a.words) 0 ≡ map ok (take k (map as_read a.program)) ++ replicate (k - length a.program) (refused 20 0)
  run_reads k =
      opened_run (bytecode_of a.words) (map as_read a.program) bytecode_opens k
      ∙ ap (λ (n : ℕ). map ok (take k (map as_read a.program)) ++ replicate (k - n) (refused 20 0)) (length-map a.program as_read)

  -- The k-th of these calls, from 0, answers the k-th instruction, and 20 where there is none.
  -- Of decoder_runs::nth, which makes the calls.
  -- Asking for one instruction by its number is as good as reading up to it.
  pub nth_reads : (k : ℕ) → nth_call (bytecode_of a.words) k ≡ get_or (map ok (map as_read a.program)) k (refused 20 0)
  nth_reads k =
      ap (λ (answers : List (Answer BinaryInstruction)). get_or answers k (refused 20 0))
      (opened_run (bytecode_of a.words) (map as_read a.program) bytecode_opens (suc k))
      ∙ nth_answer (refused 20 0) k (map as_read a.program)

  -- The words before an instruction are the words of the instructions ahead of it.
  -- Of the words that the same functions leave.
  -- So an address that counts the words before an instruction is the place of its first word.
  pub words_ahead : (n : ℕ) → length (program_words (take n a.program)) ≡ words_before a.program n
  words_ahead n = words_before_lem a.program (accepted_form s prophets room a h) n

  -- It has rows, its program is the canonical program of these rows in sorted order, and there are as many instructions as instruction rows.
  -- Of encoder_assemble::assemble_parts, encoder_entries::assemble, ola_assemble_parts and ola_assemble: their words are this program's.
  -- A reviewer may count on it that no row is left out, none is added, and each became its instruction.
  pub accepted_has_rows : (rows : List AsmRow) × (sorted_of s ≡ ok rows) × (canonical_program s rows ≡ ok a.program) × (length (instructions rows) ≡ length a.program)
  accepted_has_rows = rows_there s prophets room a h

  -- The counted length of each of its rows is the count of words of that row's instruction.
  -- Of the same functions.
  -- A reviewer need not tell the two lengths apart: rows in which they differ are turned away, by 10, 11, 12 or 25.
  pub lengths_are_one : (rows : List AsmRow) → sorted_of s ≡ ok rows → map counted_length (instructions rows) ≡ map emitted_length a.program
  lengths_are_one = lengths_one s prophets room a h

  -- The address of instruction n, a sum of counted lengths, is how many words the instructions ahead of it have.
  -- Of the same functions.
  -- An address is a place among the words.
  pub addresses_are_positions : (rows : List AsmRow) → sorted_of s ≡ ok rows → (n : ℕ) → address_of (instructions rows) n ≡ length (program_words (take n a.program))
  addresses_are_positions rows e n = address_words s prophets room a h rows e n ∙ sym (words_ahead n)

  -- Every instruction stands there: its first word is the word at that place.
  -- Of the same functions.
  -- With the last theorem: what a reader of the words finds at an instruction's address is that instruction.
  pub instructions_stand : (n : ℕ) → n < length a.program → Stands a n
  instructions_stand = stands s prophets room a h

  -- The k-th instruction row has its k-th instruction, and each name in a place of the row is, in that place of the instruction, the count of words
  -- before the instruction that is marked by the row that holds the name; that instruction is there, and its first word stands at that count. Each
  -- label likewise.
  -- Of the same functions.
  -- A jump or a call goes where its name stands, in every accepted source.
  pub names_are_word_counts : (rows : List AsmRow) → sorted_of s ≡ ok rows → (k : ℕ) (i : OlaAsmInstruction) → slice_get (instructions rows) k ≡ Some i
      → (b : BinaryInstruction) × (slice_get a.program k ≡ Some b) × ((place : Place) (start n : ℕ)
      → (operand_at place i ≡ Identifier start n → HoldsPosition (names_of s rows) a call_kind start n (content_at place b))
      × (operand_at place i ≡ Label start n → HoldsPosition (names_of s rows) a jmp_kind start n (content_at place b)))
  names_are_word_counts = names_counted s prophets room a h

  -- Every entry of the label table that is mapped, a call's or a `.LBL` row's, has the position of the instruction that its row marks; a prophet's that
  -- of the instruction before its row, 0 where there is none.
  -- Of encoder_assemble::assemble_parts and encoder_entries::assemble, ola_assemble_parts and ola_assemble, which fill this table.
  -- Who looks a name up in the table finds the place of its instruction among the words.
  pub table_is_positions : (rows : List AsmRow) → sorted_of s ≡ ok rows → (k : ℕ) (t : LabelEntry) → slice_get (table_of rows) k ≡ Some t → t.mapped ≡ true
      → (l : LabelRow) × (slice_get (label_rows 0 rows) k ≡ Some l)
      × (t.kind ≡ call_kind → IsPosition a l.marks t.address.0)
      × (t.kind ≡ jmp_kind → IsPosition a l.marks t.address.0)
      × (t.kind ≡ prophet_kind → IsPositionBefore a l.marks t.address.0)
  table_is_positions = table_positions s prophets room a h

  -- Of the prophets on one host the last in the list is kept, and no other.
  -- Of the count kept that the same functions answer, and the hosts that they leave, in list order.
  -- A caller finds the prophets kept in the hosts left: of equal hosts the last.
  pub later_kept : (k host : ℕ)
      → IsKept a.hosts k host ↔ ((slice_get a.hosts k ≡ Some host) × ((j : ℕ) → k < j → slice_get a.hosts j ≡ Some host → ⊥))
  later_kept = last-is-kept a.hosts

  -- The count answered is how many are kept, in the order of the list and each once.
  -- Of the same functions.
  -- With the last theorem: the count kept is the count of different hosts.
  pub kept_counted : ((totals_of a).kept ≡ length (kept_from 0 a.hosts)) × Ascending (map place_of (kept_from 0 a.hosts))
  kept_counted = (refl, places_ascend 0 a.hosts)

-- Any bytecode, and any text lent for its source.
module _ (bytecode lent : List ℕ) where
  -- An accepted call leaves the source in the text's first bytes, as many as it answers, and past them what stood there; a refused call leaves the whole
  -- text as it was.
  -- Of source_write::write_source and ola_write_source.
  -- A caller may take the bytes up to the count answered for the source, and lend the same text again after a refusal.
  pub source_left : ((t : List ℕ) → source_written bytecode (length lent) ≡ ok t
      → (take (length t) (text_left (source_written bytecode (length lent)) lent) ≡ t)
      × (drop (length t) (text_left (source_written bytecode (length lent)) lent) ≡ drop (length t) lent))
      × ((n d : ℕ) → source_written bytecode (length lent) ≡ refused n d → text_left (source_written bytecode (length lent)) lent ≡ lent)
  source_left = (left_written bytecode lent, left_refused bytecode lent)

-- The source of any text that opens, whoever wrote it.
module _ (text : List ℕ) (is : List BinaryInstruction) (h : opened text ≡ ok is) where
  -- Writing it is refused with 26 and k exactly where k is the index of the first instruction off its row, whatever is lent.
  -- Of source_write::write_source and ola_write_source, given that text; of source_rows::is_off_row, which says of an instruction whether it is.
  -- Who is told 26 knows that no longer text helps, and which instruction to look at.
  pub source_refused : (room k : ℕ) → (source_written text room ≡ refused 26 k) ↔ (first_off_row 0 is ≡ Some k)
  source_refused = refused-off text is h

  -- That index is the one whose instruction is off its row, has contents in a place that its operation's row does not have, while none before it is; and
  -- there is no such index exactly where no instruction is.
  -- Of the same functions.
  -- With the last theorem: 26 comes for such an instruction, always and for nothing else.
  pub first_off_row_lem : ((k : ℕ) → (first_off_row 0 is ≡ Some k)
      ↔ ((i : BinaryInstruction) × (slice_get is k ≡ Some i) × (is_off_row i ≡ true)
      × ((j : ℕ) → j < k → (b : BinaryInstruction) → slice_get is j ≡ Some b → is_off_row b ≡ false)))
      × ((first_off_row 0 is ≡ None) ↔ All (λ i. is_off_row i ≡ false) is)
  first_off_row_lem = (first_off is, none-off is)

  -- Where there is none and the text lent is long enough, `main:` and a row for each instruction are written.
  -- Of source_write::write_source and ola_write_source, given that text; of source_rows::put_source_row, which writes one of these rows.
  -- Besides 26 only too short a text keeps a bytecode that opens from having its source.
  pub source_written_lem : (room : ℕ) → first_off_row 0 is ≡ None → length (source_text is) ≤ room → source_written text room ≡ ok (source_text is)
  source_written_lem = written-on-rows text is h

  -- 5 bytes and 21 for each line of the bytecode are long enough, and 2,970,976 for any bytecode.
  -- Of source_write::write_source and ola_write_source.
  -- A caller knows before the call how much to lend.
  pub source_fits : (length (source_text is) ≤ 5 + 21 * length (lines text)) × (length (source_text is) ≤ 2970976)
  source_fits = (source_within text is h, source_most text is h)

  -- What was written, if it has at most 65,536 bytes, assembles to the instructions that were read, with mov's psp taken as empty: to them and no others, in
  -- their order, with their words. Asked for are a list that names no prophet, one entry of the table and as many words as these.
  -- Of source_write::write_source and ola_write_source, then, given what was written, of encoder_assemble::assemble_parts, encoder_entries::assemble,
  -- ola_assemble_parts and ola_assemble.
  -- A reviewer who holds nothing but a bytecode may read its source and build it, and has the program back. Its words need not be those of the bytecode:
  -- bits that no instruction is read from are gone.
  pub source_assembles : (space : ℕ) (t : List ℕ) → source_written text space ≡ ok t → length t ≤ 65536 → (prophets : List ℕ) → listed_labels prophets ≡ ok []
      → (room : Room) → 1 ≤ room.entries → length (program_words (map as_canonical is)) ≤ room.words → assembled t prophets room
      ≡ ok (record { labels = 1; program = map as_canonical is; words = program_words (map as_canonical is); hosts = [] })
  source_assembles = written_assembles text is h

  -- The words that it asks room for are at most as many as the lines of the bytecode.
  -- Of the same functions.
  -- A caller knows before the call how many words to lend: one for each line is enough.
  pub source_words_fit : length (program_words (map as_canonical is)) ≤ length (lines text)
  source_words_fit = words_by_lines text is h

  -- The bytecode of these words, where what was written has at most 65,536 bytes, opens to the same instructions that were read, mov's psp again as psp.
  -- Of the same functions, and the text that program_bytecode::write_bytecode and ola_write_bytecode leave, given their words; then of
  -- decoder_open::open_text, decoder_bytecode::open and ola_open, given that text.
  -- Who opens what was built of the source reads, one by one, what was read from the bytecode that it was written of.
  pub source_reads_again : (space : ℕ) (t : List ℕ) → source_written text space ≡ ok t → length t ≤ 65536
      → opened (bytecode_of (program_words (map as_canonical is))) ≡ ok is
  source_reads_again = written_again text is h

-- The source of one accepted source's bytecode.
module _ (s prophets : List ℕ) (room : Room) (a : Accepted) (h : assembled s prophets room ≡ ok a) where
  -- No instruction of its program is off its row.
  -- Of encoder_assemble::assemble_parts, encoder_entries::assemble, ola_assemble_parts and ola_assemble, whose words are this program's; of
  -- source_rows::is_off_row.
  -- 26 turns nothing away that a source can say.
  pub no_row_reads_so : All (λ i. is_off_row i ≡ false) a.program
  no_row_reads_so = on-rows s prophets room a h

  -- Writing the source of its bytecode answers the text of its program, and 23 where that is longer than the text lent.
  -- Of source_write::write_source and ola_write_source, given its bytecode.
  -- Of what was published from a source, a source is to be had again.
  pub source_of_accepted : (space : ℕ) → source_written (bytecode_of a.words) space ≡ within space (source_text a.program)
  source_of_accepted = accepted_written s prophets room a h (bytecode_opens s prophets room a h)

  -- That text, if it has at most 65,536 bytes, assembles to the same program and the same words, with a list that names no prophet, one entry of the table
  -- and room for the words.
  -- Of encoder_assemble::assemble_parts, encoder_entries::assemble, ola_assemble_parts and ola_assemble, given that text.
  -- A reviewer who builds what was written of published words may compare the words: they are the same.
  pub source_same_words : length (source_text a.program) ≤ 65536 → (others : List ℕ) → listed_labels others ≡ ok []
      → (space : Room) → 1 ≤ space.entries → length a.words ≤ space.words
      → assembled (source_text a.program) others space ≡ ok (record { labels = 1; program = a.program; words = a.words; hosts = [] })
  source_same_words = written_same s prophets room a h

-- Any source: its rows are made of its lines as Rust's `lines` gives them, each from the place where it starts.
-- Of encoder_assemble::assemble_parts, encoder_entries::assemble, ola_assemble_parts and ola_assemble, which read these rows.
-- A reviewer may conclude that `\r\n` ends a line as `\n` does, that the last line's ending changes nothing, and where each line starts.
pub rows_by_lines_lem : (s : List ℕ) → (rows_read s ≡ rows_by_lines s) × (map text_of (placed_lines s) ≡ lines s)
rows_by_lines_lem s = lines_read s

-- Two sources with the same lines have rows of the same pieces, but for the places of the pieces.
-- Of the same functions.
-- A reviewer may change the line endings of a source and find the same pieces in the same rows, as long as the source does not pass 65,536 bytes by it.
pub same_lines : (s t : List ℕ) → lines s ≡ lines t → map (map text_of) (source_pieces s) ≡ map (map text_of) (source_pieces t)
same_lines s t e = lines_texts s ∙ ap text_rows e ∙ sym (lines_texts t)

-- Any builds, one after another on one meter: the first on a meter at its start, each other on the meter that the one before it returned. The meter then
-- holds the total of their history: the words of the accepted ones, 2^64 - 1 where they are more.
-- Of meter::Meter::open and meter_builds::build_parts, ola_meter_open and ola_meter_build; of meter::Meter::after, whose meter by the counts answered is
-- this one (told_after of meter/proofs/Laws.antt).
-- The front desk may read the total off the meter, whatever was built on it and refused.
pub meter_counts : (bs : List Build) → (played at_start bs).total ≡ total_of (map built_of bs)
meter_counts = played_counts

-- The same from any meter that a caller can hold: its total, and what the builds added to it.
-- Of meter_builds::build_parts, meter::Meter::after and ola_meter_build.
-- A total that was written down may be given back later, and the counting goes on from there.
pub meter_from : (m : Meter) (bs : List Build) → m.total ≤ 18446744073709551615 → (played m bs).total ≡ stopped (m.total + total (map added (map built_of bs)))
meter_from = played_from

-- A refused build returns the meter that it was given.
-- Of the same functions.
-- Who tries a source until it is accepted counts it once.
pub meter_kept : (m : Meter) (b : Build) (n d : ℕ) → built_of b ≡ refused n d → meter_after m (built_of b) ≡ m
meter_kept m b = refused_keeps m (built_of b)
