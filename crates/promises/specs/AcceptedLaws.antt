-- What holds of every accepted source: the form of its canonical program, numbers below p, and bytecode that can be opened.
use Rattle.std.specs.Prelude.{ℕ, ◌≤◌, ◌≡◌, List, length}
use Rattle.std.proofs.Common.{arith}
use Rattle.text.specs.Answer.{ok}
use Rattle.text.specs.All.{All}
use Rattle.asm.specs.Rows.{instructions}
use Rattle.asm.specs.declared.AsmRow.{AsmRow}
use Rattle.asm_laws.proofs.NumberLaws.{OperandsBelow, numbers_below}
use Rattle.asm_laws.proofs.ShapeLaws.{MemoryShaped, memory_shaped}
use Rattle.relocate.specs.Relocate.{sorted_of}
use Rattle.relocate_laws.proofs.LengthLaws.{address_below, sorted_instructions_lem}
use Rattle.program.specs.Words.{program_words}
use Rattle.program.specs.Bytecode.{bytecode_of}
use Rattle.program.specs.CanonicalForm.{CanonicalForm, InOrder}
use Rattle.program.proofs.FormLaws.{total_emitted, words_below}
use Rattle.encoder.specs.Assemble.{Room, Accepted, assembled}
use Rattle.encoder.proofs.AcceptedLaws.{accepted_rows, canonical_form, in_order}
use Rattle.decoder.specs.Open.{max_bytecode_bytes}
use Rattle.decoder.proofs.LineLaws.{bytecode_length}
use Rattle.decoder.proofs.GroupLaws.{Readable}
use Rattle.promises.specs.LengthLaws.{words_fit}
use Rattle.promises.specs.ReadingLaws.{all_readable}

module _ (s prophets : List ℕ) (room : Room) (a : Accepted) (h : assembled s prophets room ≡ ok a) where
  pub accepted_form : All CanonicalForm a.program
  accepted_form = let r = accepted_rows s prophets room a h in canonical_form s r.rows a.program r.canonical r.placed

  pub accepted_order : All InOrder a.program
  accepted_order =
      let r = accepted_rows s prophets room a h in
      in_order s r.rows a.program r.canonical
      (sorted_instructions_lem OperandsBelow numbers_below s r.rows r.sorted)
      (address_below s r.rows r.sorted)

  pub accepted_words : a.words ≡ program_words a.program
  accepted_words = (accepted_rows s prophets room a h).words

  pub accepted_readable : All Readable a.program
  accepted_readable = all_readable a.program accepted_form accepted_order

  -- the bytecode of an accepted source is never refused by 14
  pub accepted_short : length (bytecode_of (program_words a.program)) ≤ max_bytecode_bytes
  accepted_short =
      let b = bytecode_length (program_words a.program) (words_below a.program accepted_form accepted_order) in
      let t = total_emitted a.program accepted_form in
      let w = words_fit s prophets room a h in
      omega arith

  -- its rows are those of its sorted source, with the shapes of mload and mstore
  pub accepted_shaped : (rows : List AsmRow) → sorted_of s ≡ ok rows → All MemoryShaped (instructions rows)
  accepted_shaped rows e = sorted_instructions_lem MemoryShaped memory_shaped s rows e
