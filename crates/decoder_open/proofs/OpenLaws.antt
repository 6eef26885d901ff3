-- Opening: 14, then 15 over the whole text, then 16 to 19.
use Rattle.std.specs.Prelude.{Option, Some, None}
use Prim.Native.Nat.{ℕ, ◌<◌, ◌≤◌}
use mathlib.Core.Path.{◌≡◌, refl, sym, ◌∙◌}
use mathlib.Core.List.{List}
use borrow.Author.Rules.{rules}
use borrow.Author.Tests.{lt-ltb, le-ltb}
use lib.ListN.{length, drop}
use Rattle.text.specs.Lines.{lines}
use Rattle.text.specs.Answer.{Answer, refused, ◌>>◌, refuse_if, refuse_at}
use Rattle.program.specs.declared.BinaryInstruction.{BinaryInstruction}
use Rattle.decoder.specs.Lines.{line_groups, complete_of, first_unreadable}
use Rattle.decoder.specs.Open.{max_bytecode_bytes, open_number, open_detail, all_decoded, opened}
use Rattle.decoder.specs.Steps.{accepted_of}
use Rattle.decoder.specs.declared.OpenRefusal.{OpenRefusal}
use Rattle.decoder_open.specs.Unreadable.{line_first}
use Rattle.decoder_open.proofs.AllLaws.{whole}

-- ---- a refusal that waits
module _ (text : List ℕ) (offset line : ℕ) (f : OpenRefusal) (u : Option ℕ) (e : u ≡ first_unreadable line (line_groups (lines (drop offset text)))) where
  -- an unreadable first word goes before it
  pub from_unreadable : (found : ℕ) → u ≡ Some found
      → refused 15 found ≡ line_first (first_unreadable line (line_groups (lines (drop offset text)))) (refused (open_number f) (open_detail f))
  unfolding ◌>>◌ refuse_at
  from_unreadable found h = rw (← e, h)

  -- where there is none it answers
  pub from_pending : u ≡ None
      → refused (open_number f) (open_detail f) ≡ line_first (first_unreadable line (line_groups (lines (drop offset text)))) (refused (open_number f) (open_detail f))
  unfolding ◌>>◌ refuse_at
  from_pending h = rw (← e, h)

pub ruleset from_laws = (from_unreadable, from_pending, rules)

-- ---- the whole text
module _ (text : List ℕ) where
  -- 14
  pub open_long : max_bytecode_bytes < length text → refused 14 0 ≡ accepted_of (opened text)
  unfolding opened ◌>>◌ refuse_if
  open_long h = rw (lt-ltb max_bytecode_bytes (length text) h)

  -- the others
  pub open_short : length text ≤ max_bytecode_bytes → (a : Answer (Unit {0})) → a ≡ whole text → a ≡ accepted_of (opened text)
  unfolding opened ◌>>◌ refuse_if refuse_at
  open_short h a p = p ∙ sym (rw (le-ltb max_bytecode_bytes (length text) h) (go (first_unreadable 0 (line_groups (lines text))) (all_decoded 0 (complete_of (line_groups (lines text))))))
    where
      go : (o : Option ℕ) (d : Answer (List BinaryInstruction)) → accepted_of (refuse_at o 15 >> d) ≡ line_first o (accepted_of d)
      go (Some k) d = refl
      go None d = refl

pub ruleset open_laws = (open_long, open_short, rules)
