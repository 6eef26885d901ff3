-- The bytecode of a program opens to the program as it reads back.
use Rattle.std.specs.Prelude.{None}
use Prim.Native.Nat.{ℕ, suc, ◌+◌, ◌≤◌}
use mathlib.Core.Path.{◌≡◌, refl, ap, ◌∙◌}
use mathlib.Core.List.{List, [], ◌∷◌, map}
use borrow.Author.Tests.{le-ltb}
use lib.ListN.{length}
use Rattle.text.specs.Lines.{lines}
use Rattle.text.specs.Answer.{ok, ◌>>=◌, ◌>>◌, refuse_if, refuse_at}
use Rattle.text.specs.All.{All, one_more}
use Rattle.program.specs.Words.{program_words}
use Rattle.program.specs.Groups.{Group}
use Rattle.program.specs.Bytecode.{bytecode_of}
use Rattle.program.specs.declared.BinaryInstruction.{BinaryInstruction}
use Rattle.decoder.specs.Lines.{line_groups, complete_of, lines_in, first_unreadable}
use Rattle.decoder.specs.AsRead.{as_read}
use Rattle.decoder.specs.Open.{max_bytecode_bytes, all_decoded, opened}
use Rattle.decoder.proofs.LineLaws.{lines_bytecode}
use Rattle.decoder.proofs.GroupLaws.{line_group_of, Readable, groups_lines, group_complete, group_readable, group_decoded_lem}

-- no refusal 15
none_unreadable : (k : ℕ) (is : List BinaryInstruction) → All Readable is → first_unreadable k (map line_group_of is) ≡ None
unfolding first_unreadable
none_unreadable k [] c = refl
none_unreadable k (i ∷ is) (one_more r c) = rw (group_readable i r) (none_unreadable (k + lines_in (line_group_of i)) is c)

-- nothing is dropped
all_complete : (is : List BinaryInstruction) → All Readable is → complete_of (map line_group_of is) ≡ map line_group_of is
unfolding complete_of
all_complete [] c = refl
all_complete (i ∷ is) (one_more r c) = rw (group_complete i r, all_complete is c)

-- and every instruction is read
all_decoded_lem : (k : ℕ) (is : List BinaryInstruction) → All Readable is → all_decoded k (map line_group_of is) ≡ ok (map as_read is)
unfolding all_decoded ◌>>=◌
all_decoded_lem k [] c = refl
all_decoded_lem k (i ∷ is) (one_more r c) = rw (group_decoded_lem i r k, all_decoded_lem (suc k) is c)

opened_groups : (text : List ℕ) (gs : List (Group (List ℕ))) → length text ≤ max_bytecode_bytes → line_groups (lines text) ≡ gs → first_unreadable 0 gs ≡ None
    → complete_of gs ≡ gs → opened text ≡ all_decoded 0 gs
unfolding opened ◌>>◌ refuse_if refuse_at
opened_groups text gs h e u d = rw (le-ltb max_bytecode_bytes (length text) h, e, u, d)

module _ (is : List BinaryInstruction) (c : All Readable is) (h : length (bytecode_of (program_words is)) ≤ max_bytecode_bytes) where
  -- Opening the bytecode of a program reads the program.
  pub opens : opened (bytecode_of (program_words is)) ≡ ok (map as_read is)
  opens =
      opened_groups (bytecode_of (program_words is)) (map line_group_of is) h (ap line_groups (lines_bytecode (program_words is)) ∙ groups_lines is c)
      (none_unreadable 0 is c) (all_complete is c)
      ∙ all_decoded_lem 0 is c
