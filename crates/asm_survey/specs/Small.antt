-- Sums that are at most n, and of one call label.
use Rattle.std.specs.Prelude.{ℕ, ◌≤◌, ◌≡◌, Bool, cond, Some, None}
use Rattle.asm.specs.Survey.{joined_end}
use Rattle.asm.specs.declared.Tally.{Tally}

-- each sum is at most n, and main has an end only where it has a beginning
pub record Small (t : Tally) (n : ℕ) : Type 0 where
  pub rows : t.rows ≤ n
  pub labels : t.labels ≤ n
  pub instructions : t.instructions ≤ n
  pub mains : t.mains ≤ n
  pub counted : t.counted ≤ n
  pub words : t.words ≤ n
  pub settled : joined_end t.main t.end None None ≡ t.end

-- the sums of one call label
abbrev pub call_tally : Bool → ℕ → Tally
call_tally is_main start = record {
  rows = 1;
  labels = 1;
  instructions = 0;
  mains = cond is_main 1 0;
  counted = 0;
  words = 0;
  call = Some start;
  main = cond is_main (Some start) None;
  end = None;
}
