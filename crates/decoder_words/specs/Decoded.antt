-- What decoding one instruction answers, by its refusal's number and detail.
use Rattle.std.specs.Prelude.{Result, Ok, Err}
use Rattle.text.specs.Answer.{Answer, ok, refused}
use Rattle.program.specs.declared.BinaryInstruction.{BinaryInstruction}
use Rattle.decoder.specs.Open.{open_number, open_detail}
use Rattle.decoder.specs.declared.OpenRefusal.{OpenRefusal}

abbrev pub decoded_numbered : Result BinaryInstruction OpenRefusal → Answer BinaryInstruction
decoded_numbered (Ok i) = ok i
decoded_numbered (Err refusal) = refused (open_number refusal) (open_detail refusal)
