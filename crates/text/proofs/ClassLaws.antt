-- Laws of the byte classes.
use Prim.Native.Nat.{ℕ, ◌<◌}
use mathlib.Core.Path.{◌≡◌}
use mathlib.Core.Bool.{true, false}
use native.Mathlib.Omega.{arith}
use borrow.Author.Tests.{lt-leb}
use Rattle.text.specs.Bytes.{is_letter, is_word}

module _ (b : ℕ) where
  pub letter_low : b < 65 → false ≡ is_letter b
  unfolding is_letter
  letter_low h = simp (lt-leb 65 b h, lt-leb 97 b (omega arith))

  pub word_letter : is_letter b ≡ true → true ≡ is_word b
  unfolding is_word
  word_letter h = rw h
