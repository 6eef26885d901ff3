-- The words of a source's instruction rows, names looked up in the label table.
use Rattle.std.specs.Prelude.{ℕ, List, [], ◌∷◌, ◌++◌, Result, Ok, Err}
use Rattle.asm.specs.declared.OlaAsmInstruction.{OlaAsmInstruction}
use Rattle.program.specs.Words.{words_of}
use Rattle.relocate.specs.Columns.{LookUp}
use Rattle.encoder_canonical.specs.Held.{held_canonical}
use Rattle.program.specs.declared.BinaryInstruction.{BinaryInstruction}
use Rattle.encoder_canonical.specs.declared.CanonicalRefusal.{CanonicalRefusal}
use Rattle.encoder_canonical.specs.declared.CanonicalRefusal.TheVariants.{Unknown, Misused, Bracketed}

abbrev pub words_if : Result BinaryInstruction CanonicalRefusal → List ℕ
words_if (Ok b) = words_of b
words_if (Err Unknown) = []
words_if (Err Misused) = []
words_if (Err Bracketed) = []

-- the words of the rows, in order
unfoldable pub held_words : List ℕ → LookUp → List OlaAsmInstruction → List ℕ
held_words s look [] = []
held_words s look (i ∷ is) = words_if (held_canonical s look i) ++ held_words s look is
