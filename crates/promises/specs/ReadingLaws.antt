-- An instruction of canonical form whose numbers are below p is read back from its own words.
use Rattle.std.specs.Prelude.{ℕ, ◌≡◌, refl, List, [], ◌∷◌, Option, Some, None}
use Rattle.std.proofs.Common.{sym}
use Rattle.text.specs.Answer.{ok}
use Rattle.text.specs.All.{All, none_left, one_more}
use Rattle.text_write.specs.Digits.{fewest_text}
use Rattle.program.specs.Words.{first_word, second_word}
use Rattle.program.specs.declared.BinaryInstruction.{BinaryInstruction}
use Rattle.program.specs.CanonicalForm.{CanonicalForm, InOrder, BelowOrder, below}
use Rattle.program.proofs.WordLaws.{first_lt}
use Rattle.program.proofs.FormLaws.{second_in, second_below}
use Rattle.decoder.specs.Decode.{decoded}
use Rattle.decoder.specs.AsRead.{as_read}
use Rattle.decoder.proofs.TextLaws.{second_read}
use Rattle.decoder.proofs.RoundTrip.{decodes_alone, decodes_with}
use Rattle.decoder.proofs.GroupLaws.{Readable, line_of}

module _ (i : BinaryInstruction) (c : CanonicalForm i) (k : ℕ) where
  read_back : (v : Option ℕ) → second_word i ≡ v → BelowOrder v → decoded k (first_word i) (line_of v) ≡ ok (as_read i)
  read_back None e b = decodes_alone k None i c e refl
  read_back (Some v) e (below h) = decodes_with k (Some (fewest_text v)) i c v e (fewest_text v) refl (second_read v h)

pub readable : (i : BinaryInstruction) → CanonicalForm i → InOrder i → Readable i
readable i c o = record {
  first_below = first_lt i;
  second_shows = sym (second_in i c);
  decodes = λ k. read_back i c k (second_word i) refl (second_below i c o);
}

pub all_readable : (is : List BinaryInstruction) → All CanonicalForm is → All InOrder is → All Readable is
all_readable [] c o = none_left
all_readable (i ∷ is) (one_more c cs) (one_more o os) = one_more (readable i c o) (all_readable is cs os)
