-- What is lent to a build over parallel slices, by names: the columns of the label table, the room, and what all of it holds afterwards.
use Rattle.std.specs.Prelude.{ℕ, List, Bool, length}
use Rattle.std.specs.Borrow.{MutBor}
use Rattle.relocate.specs.Relocate.{tabled}
use Rattle.relocate.specs.Columns.{column_left, kind_of, mapped_of, start_of, length_of, address_in}
use Rattle.relocate_names.specs.Shortest.{shortest_of}
use Rattle.encoder.specs.Assemble.{Room, assembled, words_left, hosts_left}

-- the five columns of a label table
pub record Columns : Type 0 where
  pub kinds : List ℕ
  pub mapped : List Bool
  pub starts : List ℕ
  pub lengths : List ℕ
  pub addresses : List ℕ

-- a table's columns, words and hosts
pub record Lent : Type 0 where
  pub table : Columns
  pub words : List ℕ
  pub hosts : List ℕ

-- what the slices hold
abbrev pub lent_in : MutBor (List ℕ) → MutBor (List Bool) → MutBor (List ℕ) → MutBor (List ℕ) → MutBor (List ℕ) → MutBor (List ℕ) → MutBor (List ℕ) → Lent
lent_in kinds mapped starts lengths addresses words hosts = record {
  table = record { kinds = kinds.now; mapped = mapped.now; starts = starts.now; lengths = lengths.now; addresses = addresses.now };
  words = words.now;
  hosts = hosts.now;
}

-- a table has as many entries as the shortest of its columns
abbrev pub entries_in : Columns → ℕ
entries_in t = shortest_of (length t.kinds) (length t.mapped) (length t.starts) (length t.lengths) (length t.addresses)

-- the room that is lent
abbrev pub room_in : Lent → Room
room_in l = record { entries = entries_in l.table; words = length l.words; hosts = length l.hosts }

-- what stands in the columns after assembling a source: "Refusals up to 7 in this order leave the table untouched, those after 7 leave it filled"
abbrev pub columns_left : List ℕ → Columns → Columns
columns_left s t = record {
  kinds = column_left (tabled s (entries_in t)) kind_of t.kinds;
  mapped = column_left (tabled s (entries_in t)) mapped_of t.mapped;
  starts = column_left (tabled s (entries_in t)) start_of t.starts;
  lengths = column_left (tabled s (entries_in t)) length_of t.lengths;
  addresses = column_left (tabled s (entries_in t)) address_in t.addresses;
}

-- and in everything lent, with a prophet list
abbrev pub lent_left : List ℕ → List ℕ → Lent → Lent
lent_left s prophets l = record {
  table = columns_left s l.table;
  words = words_left (assembled s prophets (room_in l)) l.words;
  hosts = hosts_left (assembled s prophets (room_in l)) l.hosts;
}
