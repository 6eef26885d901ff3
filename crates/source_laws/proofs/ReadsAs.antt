-- What assembling asks of the source row of an instruction.
use Rattle.std.specs.Prelude.{Some}
use Prim.Native.Nat.{ℕ}
use mathlib.Core.Path.{◌≡◌}
use mathlib.Core.Bool.{Bool, true, false, ◌||◌}
use Rattle.text.specs.Bytes.{within}
use Rattle.text.specs.Scan.{all}
use Rattle.text.specs.Answer.{ok}
use Rattle.asm.specs.Parts.{line_pieces}
use Rattle.asm.specs.Rows.{row_of}
use Rattle.asm.specs.declared.OlaAsmInstruction.{OlaAsmInstruction}
use Rattle.asm.specs.declared.AsmRow.TheVariants.{Instruction}
use Rattle.program.specs.Instructions.{is_number}
use Rattle.program.specs.declared.BinaryInstruction.{BinaryInstruction}
use Rattle.encoder.specs.Canonical.{Names, canonical_of}
use Rattle.source.specs.SourceText.{source_row}

-- from a space to `~`: no line feed, and none above 127
abbrev pub is_row_byte : ℕ → Bool
is_row_byte b = within 32 126 b

pub record ReadsAs (i : BinaryInstruction) : Type 0 where
  -- the instruction row that it is read as, wherever it starts
  pub row : OlaAsmInstruction
  pub read : (start : ℕ) → row_of (line_pieces (record { start = start; text = source_row i })) ≡ Some (Instruction row)
  -- its bytes
  pub bytes : all is_row_byte (source_row i) ≡ true
  -- its canonical instruction, whatever names there are
  pub canonical : (names : Names) (k : ℕ) → canonical_of names k row ≡ ok i
  -- which has no number in op0 or dst
  pub aside : (is_number i.op0 || is_number i.dst) ≡ false
