-- A row as it is put together: the texts behind it, and the places of an instruction. `place` says what stands in a place, `between` what stands
-- between the two places of an address.
use Rattle.std.specs.Prelude.{◌≡◌, ℕ, ◌+◌, ◌≤◌, List, [], ◌∷◌, ◌++◌, cond, leb, length}
use Rattle.text.specs.Bytes.{bytes}
use Rattle.vm_opcodes.specs.Operations.{row_places}
use Rattle.vm_opcodes.specs.declared.RowPlaces.{RowPlaces}
use Rattle.vm_opcodes.specs.declared.RowPlaces.TheVariants.{DstOp0Op1, DstOp1, DstMemory, MemoryDst, Op0Op1, Op1, Bare}
use Rattle.vm_mnemonics.specs.Mnemonics.{mnemonic}
use Rattle.vm_operands.specs.declared.OlaOperand.{OlaOperand}
use Rattle.program.specs.declared.BinaryInstruction.{BinaryInstruction}

-- the row with a text behind it where it has room for all of it; otherwise the row as it is
unfoldable pub row_with : List ℕ → List ℕ → List ℕ
row_with row w = cond (leb (length row + length w) 82) (row ++ w) row

-- the row with some texts behind it, one by one, each where it has room for all of it
abbrev pub row_with_all : List ℕ → List (List ℕ) → List ℕ
row_with_all row [] = row
row_with_all row (w ∷ ws) = row_with_all (row_with row w) ws

-- the text has at most k bytes, and the row has it behind it if there is room
pub record Appends (k : ℕ) (row w after : List ℕ) : Type 0 where
  pub most : length w ≤ k
  pub appended : length row + length w ≤ 82 → after ≡ row ++ w

-- places are told as one text, or as the texts that are pushed for them, its pieces: what a text is there
abbrev pub as_text : List ℕ → List ℕ
as_text w = w

abbrev pub as_piece : List ℕ → List (List ℕ)
as_piece w = w ∷ []

-- a text of at most 23 bytes; of one that has more nothing
unfoldable pub short_text : List ℕ → List ℕ
short_text w = cond (leb (length w) 23) w []

-- what stands in a place as one text, where pieces are pushed for it: what they are in an empty row
abbrev pub place_text : (OlaOperand → List (List ℕ)) → OlaOperand → List ℕ
place_text pieces o = short_text (row_with_all [] (pieces o))

-- and that text as the one piece of the place
abbrev pub whole_pieces : (OlaOperand → List (List ℕ)) → OlaOperand → List (List ℕ)
whole_pieces pieces o = as_piece (place_text pieces o)

module _ {A : Type 0} (told : List ℕ → List A) (place : OlaOperand → List A) where
  -- "after one space each"
  abbrev pub spaced_by : OlaOperand → List A
  spaced_by o = told (bytes " ") ++ place o

  module _ (between : ℕ) where
    -- an address, after one space
    abbrev pub bracketed_by : OlaOperand → OlaOperand → List A
    bracketed_by op0 op1 = told (bytes " ") ++ (told (bytes "[") ++ (place op0 ++ (told (between ∷ []) ++ (place op1 ++ told (bytes "]")))))

    -- the places of a row, in its order
    abbrev pub placed_by : RowPlaces → BinaryInstruction → List A
    placed_by DstOp0Op1 i = spaced_by i.dst ++ (spaced_by i.op0 ++ spaced_by i.op1)
    placed_by DstOp1 i = spaced_by i.dst ++ spaced_by i.op1
    placed_by DstMemory i = spaced_by i.dst ++ bracketed_by i.op0 i.op1
    placed_by MemoryDst i = bracketed_by i.op0 i.op1 ++ spaced_by i.dst
    placed_by Op0Op1 i = spaced_by i.op0 ++ spaced_by i.op1
    placed_by Op1 i = spaced_by i.op1
    placed_by Bare i = []

-- the row of an instruction: its mnemonic and its places
abbrev pub row_by : (OlaOperand → List ℕ) → ℕ → BinaryInstruction → List ℕ
row_by place between i = mnemonic i.opcode ++ placed_by as_text place between (row_places i.opcode) i

-- the same as it is pushed, its mnemonic and the pieces of its places, each where the row has room for all of it
abbrev pub row_pushed : (OlaOperand → List (List ℕ)) → ℕ → BinaryInstruction → List ℕ
row_pushed pieces between i = row_with_all [] (mnemonic i.opcode ∷ placed_by as_piece pieces between (row_places i.opcode) i)
