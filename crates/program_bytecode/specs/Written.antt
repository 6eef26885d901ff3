-- What writing bytecode answers, by its refusal's number and detail.
use Rattle.std.specs.Prelude.{ℕ, List, length, Result, Ok, Err}
use Rattle.text.specs.Answer.{Answer, ok, refused, ◌>>=◌}
use Rattle.program.specs.Refusals.{write_number, write_detail}
use Rattle.program.specs.declared.WriteRefusal.{WriteRefusal}

-- "On acceptance the counts of words, hosts and text bytes written are returned"
abbrev pub count_of : Answer (List ℕ) → Answer ℕ
count_of answer = answer >>= λ written. ok (length written)

abbrev pub written_numbered : Result ℕ WriteRefusal → Answer ℕ
written_numbered (Ok n) = ok n
written_numbered (Err f) = refused (write_number f) (write_detail f)
