-- Laws of the row written, in the shapes in which the functions ask for them.
use Rattle.std.specs.Prelude.{Option, Some, None, Result, Err}
use Prim.Native.Nat.{ℕ}
use mathlib.Core.Path.{◌≡◌, refl, sym, ap, ◌∙◌}
use mathlib.Core.List.{List}
use mathlib.Core.Bool.{Bool, true, false}
use native.Mathlib.Omega.{arith}
use borrow.Author.Rules.{rules}
use lib.ListN.{length}
use Rattle.std.specs.Option.{ok_or}
use Rattle.text.specs.Answer.{Answer, ok, refused, ◌>>=◌, on_ok}
use Rattle.text_write.specs.Put.{put_count, put_into}
use Rattle.text_write.proofs.Laws.{put_fits, put_over, count_told, fits_told, over_told}
use Rattle.vm_opcodes.specs.Operations.{row_places}
use Rattle.vm_opcodes.specs.declared.RowPlaces.{RowPlaces}
use Rattle.program.specs.Instructions.{has_too_large}
use Rattle.program.specs.Bytecode.{within, text_left}
use Rattle.program.specs.Listing.{row_text, row_written}
use Rattle.program.specs.declared.BinaryInstruction.{BinaryInstruction}
use Rattle.program.specs.declared.RowRefusal.TheVariants.{NumberTooLarge, PlaceEmpty, TextTooShort}
use Rattle.program.specs.declared.RowRefusal.{RowRefusal}
use Rattle.program_bytecode.specs.Written.{count_of}
use Rattle.program_bytecode.proofs.Laws.{stored_left, kept_left, count_left, short_left}
use Rattle.program_listing.specs.Places.{row_by, row_pushed}
use Rattle.program_listing.specs.Row.{row_numbered, lacks_place, content_text, content_pieces}
use Rattle.program_listing.proofs.Places.{NumbersFit, row_whole}
use Rattle.program_listing.proofs.Pieces.{content_whole}
use Rattle.program_listing.proofs.RowLaws.{row_large, row_lacks, row_made}

-- ---- a text put from the start on, against the room for it
module _ (d w : List ℕ) where
  -- its count, or 23
  put_answer : (r : Option ℕ) → r ≡ put_count d 0 w → row_numbered (ok_or r TextTooShort) ≡ count_of (within (length d) w)
  put_answer (Some n) e = let k = fits_told d 0 w (Some n) e n refl in ap ok (count_told d 0 w (Some n) e n refl) ∙ count_left d w (omega arith)
  put_answer None e = let k = over_told d 0 w None e refl in short_left d w (omega arith)

  -- what it leaves
  put_text : (r : Option ℕ) → r ≡ put_count d 0 w → put_into d 0 w ≡ text_left (within (length d) w) d
  put_text (Some n) e = let k = fits_told d 0 w (Some n) e n refl in put_fits d 0 w k ∙ stored_left d w (omega arith)
  put_text None e = let k = over_told d 0 w None e refl in put_over d 0 w k ∙ kept_left d w (omega arith)

-- ---- get_asm_form_code: 21, then 24, then 23, then the row
module _ (i : BinaryInstruction) (d : List ℕ) where
  -- a refused row: the answer
  refused_count : (n : ℕ) → row_text i ≡ refused n 0 → refused n 0 ≡ count_of (row_written i (length d))
  unfolding row_written ◌>>=◌
  refused_count n e = sym (rw e)

  -- and the text
  refused_text : (n : ℕ) → row_text i ≡ refused n 0 → d ≡ text_left (row_written i (length d)) d
  unfolding row_written ◌>>=◌ on_ok
  refused_text n e = sym (rw e)

  -- a row with its text
  made : (w : List ℕ) → row_text i ≡ ok w → row_written i (length d) ≡ within (length d) w
  unfolding row_written ◌>>=◌
  made w e = rw e

  module _ (t : Bool) (e : t ≡ has_too_large i) where
    -- 21
    pub large_count : t ≡ true → row_numbered (Err NumberTooLarge) ≡ count_of (row_written i (length d))
    large_count h = refused_count 21 (row_large i (sym e ∙ h))

    -- and the text left as it was
    pub large_text : t ≡ true → d ≡ text_left (row_written i (length d)) d
    large_text h = refused_text 21 (row_large i (sym e ∙ h))

    module _ (h : t ≡ false) (p : RowPlaces) (f : p ≡ row_places i.opcode) (u : Bool) (g : u ≡ lacks_place p i) where
      -- whether the row of the operation lacks a place
      lacks : (v : Bool) → u ≡ v → lacks_place (row_places i.opcode) i ≡ v
      lacks v k = sym (ap (λ (q : RowPlaces). lacks_place q i) f) ∙ sym g ∙ k

      -- 24
      pub lacking_count : u ≡ true → row_numbered (Err PlaceEmpty) ≡ count_of (row_written i (length d))
      lacking_count k = refused_count 24 (row_lacks i (sym e ∙ h) (lacks true k))

      -- and the text left as it was
      pub lacking_text : u ≡ true → d ≡ text_left (row_written i (length d)) d
      lacking_text k = refused_text 24 (row_lacks i (sym e ∙ h) (lacks true k))

      module _ (k : u ≡ false) (r : Option ℕ) (s : r ≡ put_count d 0 (row_by content_text 43 i)) where
        -- neither: the row
        row_is : row_written i (length d) ≡ within (length d) (row_by content_text 43 i)
        row_is = made _ (row_made i (sym e ∙ h) (lacks false k))

        -- its count is answered, or 23
        pub row_answer : (q : Result ℕ RowRefusal) → q ≡ ok_or r TextTooShort → row_numbered q ≡ count_of (row_written i (length d))
        row_answer q j = ap row_numbered j ∙ put_answer d _ r s ∙ sym (ap count_of row_is)

        -- it is written, or the text left as it was
        pub row_left : (b : List ℕ) → b ≡ put_into d 0 (row_by content_text 43 i) → b ≡ text_left (row_written i (length d)) d
        row_left b j = j ∙ put_text d _ r s ∙ sym (ap (λ (a : Answer (List ℕ)). text_left a d) row_is)

      -- the same of the row as it is pushed, of which nothing is left out
      module _ (k : u ≡ false) (r : Option ℕ) (s : r ≡ put_count d 0 (row_pushed content_pieces 43 i)) (fits : NumbersFit i) where
        whole : row_pushed content_pieces 43 i ≡ row_by content_text 43 i
        whole = row_whole content_text content_pieces 43 content_whole i fits

        pub pushed_answer : (q : Result ℕ RowRefusal) → q ≡ ok_or r TextTooShort → row_numbered q ≡ count_of (row_written i (length d))
        pushed_answer q j = row_answer k r (s ∙ ap (put_count d 0) whole) q j

        pub pushed_left : (b : List ℕ) → b ≡ put_into d 0 (row_pushed content_pieces 43 i) → b ≡ text_left (row_written i (length d)) d
        pushed_left b j = row_left k r (s ∙ ap (put_count d 0) whole) b (j ∙ ap (put_into d 0) whole)

pub ruleset row_laws = (large_count, large_text, lacking_count, lacking_text, row_answer, row_left, pushed_answer, pushed_left, rules)
