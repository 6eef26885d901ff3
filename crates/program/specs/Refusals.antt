-- The number and detail of each refusal of this crate's operations.
use Rattle.std.specs.Prelude.{ℕ}
use Rattle.vm_hardware.specs.Registers.{place_index}
use Rattle.program.specs.declared.EncodeRefusal.{EncodeRefusal}
use Rattle.program.specs.declared.EncodeRefusal.TheVariants.{NumberTooLarge, Rejected}
use Rattle.program.specs.declared.WriteRefusal.{WriteRefusal}
use Rattle.program.specs.declared.WriteRefusal.TheVariants.{TextTooShort}
use Rattle.program.specs.declared.RowRefusal.{RowRefusal}
use Rattle.program.specs.declared.RowRefusal.TheVariants.{NumberTooLarge as RowNumberTooLarge, PlaceEmpty, TextTooShort as RowTextTooShort}

abbrev pub encode_number : EncodeRefusal → ℕ
encode_number NumberTooLarge = 21
encode_number (Rejected place) = 22

abbrev pub encode_detail : EncodeRefusal → ℕ
encode_detail NumberTooLarge = 0
encode_detail (Rejected place) = place_index place

abbrev pub write_number : WriteRefusal → ℕ
write_number TextTooShort = 23

abbrev pub write_detail : WriteRefusal → ℕ
write_detail TextTooShort = 0

abbrev pub row_number : RowRefusal → ℕ
row_number RowNumberTooLarge = 21
row_number PlaceEmpty = 24
row_number RowTextTooShort = 23

abbrev pub row_detail : RowRefusal → ℕ
row_detail RowNumberTooLarge = 0
row_detail PlaceEmpty = 0
row_detail RowTextTooShort = 0
