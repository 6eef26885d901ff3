-- Where a line ends, the next piece of a row from a place on, and the row that a first piece, its operation and what follows make.
use Rattle.std.specs.Prelude.{ℕ, ◌+◌, List, [], ◌∷◌, Bool, not, ◌&&◌, eqb, length, drop, Option, Some, None}
use Rattle.text.specs.Scan.{scan}
use Rattle.text.specs.Lines.{not_feed}
use Rattle.text.specs.Pieces.{piece_start, piece_length}
use Rattle.text.specs.declared.Piece.{Piece}
use Rattle.vm_opcodes.specs.declared.OlaOpcode.{OlaOpcode}
use Rattle.asm.specs.Parts.{Part, line_at}
use Rattle.asm.specs.Operands.{operand_of}
use Rattle.asm.specs.Rows.{arranged_if, operands_of, label_row, or_else_row}
use Rattle.asm.specs.declared.OlaAsmOperand.{OlaAsmOperand}
use Rattle.asm_rows.specs.declared.LineEnds.{LineEnds}
use Rattle.asm.specs.declared.AsmRow.{AsmRow}

-- a byte that is not the one
abbrev pub is_not : ℕ → ℕ → Bool
is_not m b = not (eqb b m)

-- a byte that passes both tests
abbrev pub both : (ℕ → Bool) → (ℕ → Bool) → ℕ → Bool
both p q b = p b && q b

-- where a line stops from place i on: at the first byte m, at its line feed, or at the text's end
unfoldable pub stop_at : List ℕ → ℕ → ℕ → ℕ
stop_at s i m = i + scan (both (is_not m) not_feed) (drop i s)

-- where the line that starts at place i ends: without "everything from its first `;`", and at its line feed or the text's end
unfoldable pub line_ends : List ℕ → ℕ → LineEnds
line_ends s i = record { end = i + scan (is_not 59) (line_at s i).text; feed = i + scan not_feed (drop i s) }

-- the first piece from place i on
unfoldable pub piece_at : List ℕ → ℕ → Piece
piece_at l i = record { start = i + piece_start (drop i l); length = piece_length (drop i l) }

-- an operand and where what follows it starts; none where the piece is no operand
abbrev pub as_operand : Option OlaAsmOperand → ℕ → Option (Option (OlaAsmOperand × ℕ))
as_operand (Some o) next = Some (Some (o, next))
as_operand None next = None

-- the operand that the first of the pieces is, and where what follows it starts; `Some None` where there is no piece
abbrev pub next_operand : List Part → Option (Option (OlaAsmOperand × ℕ))
next_operand [] = Some None
next_operand (q ∷ qs) = as_operand (operand_of q) (q.start + length q.text)

-- a row from the operation of its first piece, that piece and those after it
abbrev pub row_given : Option OlaOpcode → Part → List Part → Option AsmRow
row_given f q [] = or_else_row (label_row q) (arranged_if f (Some []))
row_given f q (p ∷ ps) = arranged_if f (operands_of (p ∷ ps))
