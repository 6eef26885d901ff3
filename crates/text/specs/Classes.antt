-- The byte classes that the code scans by.
use Rattle.std.specs.Prelude.{ℕ, Bool, not, eqb, leb}
use Rattle.text.specs.Bytes.{is_space, is_digit, is_letter, is_word}
use Rattle.text.specs.declared.ByteClass.{ByteClass}
use Rattle.text.specs.declared.ByteClass.TheVariants.{Space, NotSpace, Digit, Letter, Word, Ascii, Is, IsNot}

-- the test that a class stands for
abbrev pub holds : ByteClass → ℕ → Bool
holds Space b = is_space b
holds NotSpace b = not (is_space b)
holds Digit b = is_digit b
holds Letter b = is_letter b
holds Word b = is_word b
holds Ascii b = leb b 127
holds (Is x) b = eqb b x
holds (IsNot x) b = not (eqb b x)
