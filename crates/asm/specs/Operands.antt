-- "Operand shapes, first match wins".
use Rattle.std.specs.Prelude.{ℕ, ◌+◌, ◌-◌, ◌^◌, List, [], ◌∷◌, Bool, true, false, not, ◌&&◌, ◌||◌, cond, eqb, ltb, length, drop, get_or, Option, Some, None}
use Rattle.std.proofs.Math.Seq.{slice}
use Rattle.text.specs.Bytes.{bytes, is_digit, is_letter, is_word, same}
use Rattle.text.specs.Scan.{scan, all, is_empty}
use Rattle.text_read.specs.Numerals.{numeral}
use Rattle.vm_hardware.specs.Registers.{register_of, register_at, special_of}
use Rattle.vm_hardware.specs.declared.OlaRegister.{OlaRegister}
use Rattle.vm_operands.specs.Numbers.{immediate, signed, number_of, unsigned}
use Rattle.vm_operands.specs.declared.ImmediateValue.{ImmediateValue}
use Rattle.asm.specs.Parts.{Part}
use Rattle.asm.specs.declared.OlaAsmOperand.{OlaAsmOperand}
use Rattle.asm.specs.declared.OlaAsmOperand.TheVariants.{ImmediateOperand, RegisterOperand, RegisterWithOffset, RegisterWithFactoredRegOffset, SpecialReg, Label, Identifier}
use Rattle.vm_hardware.specs.declared.OlaSpecialRegister.{OlaSpecialRegister}

-- ---- what the shapes are made of

-- byte c at place k; 0 past the end, which no shape asks for
abbrev pub byte_is : List ℕ → ℕ → ℕ → Bool
byte_is x k c = eqb (get_or x k 0) c

-- "Wherever a shape says digits, one or more are meant"
abbrev pub is_digits : List ℕ → Bool
is_digits x = not (is_empty x) && all is_digit x

-- 02, Point 4: "`0x` and one to sixteen hexadecimal digits of either case, without sign"; sixteen digits pass no 64 bits
abbrev pub hex_numeral : List ℕ → Option ℕ
hex_numeral x = cond (byte_is x 0 48 && byte_is x 1 120 && ltb (length x) 19) (numeral 16 (2 ^ 64) (drop 2 x)) None

abbrev pub is_numeral : Option ℕ → Bool
is_numeral (Some v) = true
is_numeral None = false

-- n: "an optional sign and decimal digits", or those
unfoldable pub is_source_number : List ℕ → Bool
is_source_number x = is_digits (unsigned x) || is_numeral (hex_numeral x)

-- what n is; none where it is out of range: "below p"
unfoldable pub source_number : List ℕ → Option ImmediateValue
source_number x = cond (is_numeral (hex_numeral x)) (signed false (hex_numeral x)) (number_of x)

-- rA at place k
abbrev pub is_register_at : List ℕ → ℕ → Bool
is_register_at x k = byte_is x k 114 && is_digit (get_or x (k + 1) 0)

abbrev pub register_of_place : List ℕ → ℕ → OlaRegister
register_of_place x k = register_at (get_or x (k + 1) 0 - 48)

-- what stands from place k up to the closing bracket
abbrev pub inner : List ℕ → ℕ → List ℕ
inner x k = slice k (length x - 1) x

abbrev pub is_bracketed : List ℕ → Bool
is_bracketed x = byte_is x 0 91 && byte_is x (length x - 1) 93

-- digits `_` digits
abbrev pub is_pair : List ℕ → Bool
is_pair x = let k = scan is_digit x in ltb 0 k && byte_is x k 95 && is_digits (drop (k + 1) x)

-- an operand made of a number, where the number is in range
abbrev pub with_number : (ImmediateValue → OlaAsmOperand) → Option ImmediateValue → Option OlaAsmOperand
with_number f (Some v) = Some (f v)
with_number f None = None

-- ---- the shapes

-- a shape: which texts have it, and what such a piece is
pub record Shape : Type 0 where
  pub fits : List ℕ → Bool
  pub means : Part → Option OlaAsmOperand

-- `[rA,rB,n]`
abbrev pub factored : Shape
factored = record {
  fits = λ x. is_bracketed x && is_register_at x 1 && byte_is x 3 44 && is_register_at x 4 && byte_is x 6 44 && is_source_number (inner x 7);
  means = λ q. with_number (λ v. RegisterWithFactoredRegOffset (register_of_place q.text 1) (register_of_place q.text 4) v) (source_number (inner q.text 7));
}

-- `[rA,rB]` (factor 1)
abbrev pub paired : Shape
paired = record {
  fits = λ x. is_bracketed x && is_register_at x 1 && byte_is x 3 44 && is_register_at x 4 && eqb (length x) 7;
  means = λ q. Some (RegisterWithFactoredRegOffset (register_of_place q.text 1) (register_of_place q.text 4) (immediate 1));
}

-- `[rA]` (offset 0)
abbrev pub bare : Shape
bare = record {
  fits = λ x. is_bracketed x && is_register_at x 1 && eqb (length x) 4;
  means = λ q. Some (RegisterWithOffset (register_of_place q.text 1) (immediate 0));
}

-- `[rA,n]`
abbrev pub offset : Shape
offset = record {
  fits = λ x. is_bracketed x && is_register_at x 1 && byte_is x 3 44 && is_source_number (inner x 4);
  means = λ q. with_number (λ v. RegisterWithOffset (register_of_place q.text 1) v) (source_number (inner q.text 4));
}

abbrev pub of_register : Option OlaRegister → Option OlaAsmOperand
of_register (Some r) = Some (RegisterOperand r)
of_register None = None

abbrev pub found_register : Option OlaRegister → Bool
found_register (Some r) = true
found_register None = false

-- `rA`
abbrev pub register : Shape
register = record { fits = λ x. found_register (register_of x); means = λ q. of_register (register_of q.text) }

-- n
abbrev pub number : Shape
number = record { fits = is_source_number; means = λ q. with_number ImmediateOperand (source_number q.text) }

-- a dot, "then `LBL` digits `_` digits (a label)"; 02, Point 2: "A label operand now needs a dot as its first character"
abbrev pub label : Shape
label = record { fits = λ x. byte_is x 0 46 && same (slice 1 4 x) (bytes "LBL") && is_pair (drop 4 x); means = λ q. Some (Label q.start (length q.text)) }

abbrev pub of_special : Option OlaSpecialRegister → Option OlaAsmOperand
of_special (Some s) = Some (SpecialReg s)
of_special None = None

abbrev pub found_special : Option OlaSpecialRegister → Bool
found_special (Some s) = true
found_special None = false

-- "`pc` or `psp`"
abbrev pub special : Shape
special = record { fits = λ x. found_special (special_of x); means = λ q. of_special (special_of q.text) }

-- "a name (any underscores or none, at least one letter, then any letters, digits, underscores or none)"
abbrev pub is_name : List ℕ → Bool
is_name x = let k = scan (λ b. eqb b 95) x in is_letter (get_or x k 0) && all is_word (drop k x)

abbrev pub name : Shape
name = record { fits = is_name; means = λ q. Some (Identifier q.start (length q.text)) }

-- in 01's order
unfoldable pub shapes : List Shape
shapes = factored ∷ paired ∷ bare ∷ offset ∷ register ∷ number ∷ label ∷ special ∷ name ∷ []

-- "first match wins"
unfoldable pub first_match : List Shape → Part → Option OlaAsmOperand
first_match [] q = None
first_match (s ∷ ss) q = cond (s.fits q.text) (s.means q) (first_match ss q)

-- what a piece is as an operand
abbrev pub operand_of : Part → Option OlaAsmOperand
operand_of q = first_match shapes q
