-- Refusals 8 to 13 and 25 by the label table, in their order.
use Rattle.std.specs.Prelude.{ℕ, List, ◌||◌, ltb, Result, Ok, Err}
use Rattle.text.specs.Answer.{Answer, ok, refused, ◌>>=◌, ◌>>◌, refuse_if}
use Rattle.relocate.specs.Layout.{sorted_instructions}
use Rattle.relocate.specs.Columns.{LookUp, held_hosts, host_count}
use Rattle.relocate.specs.declared.Layout.{Layout}
use Rattle.encoder.specs.Assemble.{assemble_number, assemble_detail}
use Rattle.encoder_walks.specs.Walks.{held_passed}
use Rattle.encoder.specs.declared.AssembleRefusal.{AssembleRefusal}

abbrev pub checked_numbered : Result ℕ AssembleRefusal → Answer ℕ
checked_numbered (Ok n) = ok n
checked_numbered (Err f) = refused (assemble_number f) (assemble_detail f)

-- 10, 11 and 25, then 12, then 13, where so many prophets are listed
unfoldable pub rows_checked : List ℕ → LookUp → Layout → ℕ → ℕ → ℕ → Answer ℕ
rows_checked s look l wordroom hostroom hosts = do
  held_passed s look (sorted_instructions s l.start l.end)
  refuse_if (ltb wordroom l.words || ltb hostroom hosts) 13
  ok hosts

-- 8 and 9 before them, or how many prophets are listed
unfoldable pub checked_of : List ℕ → List ℕ → LookUp → Layout → ℕ → ℕ → Answer ℕ
checked_of s list look l wordroom hostroom = host_count (held_hosts look list) >>= rows_checked s look l wordroom hostroom
