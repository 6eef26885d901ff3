-- What encoding one instruction answers, by its refusals' numbers and details.
use Rattle.std.specs.Prelude.{Result, Ok, Err}
use Rattle.text.specs.Answer.{Answer, ok, refused}
use Rattle.program.specs.Refusals.{encode_number, encode_detail}
use Rattle.program.specs.declared.InstructionWords.{InstructionWords}
use Rattle.program.specs.declared.EncodeRefusal.{EncodeRefusal}

abbrev pub encoding_numbered : Result InstructionWords EncodeRefusal → Answer InstructionWords
encoding_numbered (Ok w) = ok w
encoding_numbered (Err f) = refused (encode_number f) (encode_detail f)
