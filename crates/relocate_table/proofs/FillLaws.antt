-- The walk that fills the columns: what is left of the table after each line, and that the counts stay small.
use Rattle.std.specs.Prelude.{Option, Some, None}
use Prim.Native.Nat.{ℕ, suc, ◌+◌, ◌-◌, ◌<◌, ◌≤◌}
use mathlib.Core.Path.{◌≡◌, refl, sym, ap, subst, ◌∙◌}
use mathlib.Core.List.{List, [], ◌∷◌, ◌++◌, map}
use native.Mathlib.Omega.{arith}
use native.Mathlib.Nat.{le_refl, zero-add, add-zero}
use lib.ListN.{length, set, length-append, length-map}
use lib.Seq.{sets, length-sets}
use Rattle.text.specs.Answer.{Answer, ok, on_ok}
use Rattle.text.proofs.AnswerLaws.{sets_over}
use Rattle.asm.specs.declared.AsmRow.{AsmRow}
use Rattle.asm.specs.declared.AsmRow.TheVariants.{Instruction, LabelCall, LabelJmp, LabelProphet}
use Rattle.asm.specs.declared.LineRead.{LineRead}
use Rattle.asm.specs.declared.LineRead.TheVariants.{Blank, Row, Unreadable}
use Rattle.asm.specs.declared.RowAt.{RowAt}
use Rattle.relocate.specs.Labels.{table_of}
use Rattle.relocate.specs.Relocate.{tabled}
use Rattle.relocate.specs.Layout.{measured, sorted_row_at, sorted_from}
use Rattle.relocate.specs.Columns.{column_left, kind_of, mapped_of, start_of, length_of, address_in}
use Rattle.relocate.specs.declared.LabelEntry.{LabelEntry}
use Rattle.relocate.specs.declared.Layout.{Layout}
use Rattle.relocate_laws.proofs.WalkLaws.{sorted_end, sorted_blank, sorted_row, sorted_unreadable, sorted_next_past, sorted_next_within, sorted_room}
use Rattle.relocate_rows.specs.declared.Progress.{Progress}
use Rattle.relocate_rows.specs.Entries.{entry_of_row, after, entry_list, entries_after}
use Rattle.relocate_rows.proofs.Laws.{counted_length_le}
use Rattle.relocate_rows.proofs.LaidLaws.{entries_from, all_entries, laid}
use Rattle.relocate_table.specs.declared.ColumnsMut.{ColumnsMut}
use Rattle.relocate_table.specs.Filled.{Holds, SameSlices, Puts, Left}

-- ---- one column

module _ {A : Type 0} (field : LabelEntry → A) where
  -- entries put after others
  put_more : (es fs : List LabelEntry) (d : List A) (n : ℕ) → sets d n (map field (es ++ fs)) ≡ sets (sets d n (map field es)) (n + length es) (map field fs)
  put_more [] fs d n = ap (λ (k : ℕ). sets d k (map field fs)) (sym (add-zero n))
  put_more (e ∷ es) fs d n =
      put_more es fs (set d n (field e)) (suc n) ∙ ap (λ (k : ℕ). sets (sets (set d n (field e)) (suc n) (map field es)) k (map field fs)) (omega arith)

-- what a column is to become is what it has become with the entries that are left put from place n on
pub record Column {A : Type 0} (field : LabelEntry → A) (d₀ : List A) (all : List LabelEntry) (d : List A) (n : ℕ) (left : List LabelEntry) : Type 0 where
  pub put : sets d₀ 0 (map field all) ≡ sets d n (map field left)

module _ {A : Type 0} {field : LabelEntry → A} {d₀ : List A} {all : List LabelEntry} {d : List A} {n : ℕ} {left : List LabelEntry} (c : Column field d₀ all d n left) where
  -- it is as long as it was
  column_length : length d ≡ length d₀
  column_length = sym (length-sets d n (map field left)) ∙ ap length (sym c.put) ∙ length-sets d₀ 0 (map field all)

  -- where the same entries are left
  column_same : (rest : List LabelEntry) → left ≡ rest → Column field d₀ all d n rest
  column_same rest e = subst (Column field d₀ all d n) e c

  -- the first of the entries that are left are put
  column_more : {x : List A} {m : ℕ} {rest : List LabelEntry} (es : List LabelEntry) → left ≡ es ++ rest → m ≡ n + length es → x ≡ sets d n (map field es) → Column field d₀ all x m rest
  column_more {rest = rest} es e f g = record { put = c.put ∙ ap (λ (z : List LabelEntry). sets d n (map field z)) e ∙ put_more field es rest d n ∙ rw (f, g) }

-- ---- all columns

-- n entries stand in the columns c, which were c₀ before, and the rest is left at place at; how far the walk has come is no more than the place
pub record Filling (s : List ℕ) (room : ℕ) (l : Layout) (c₀ : ColumnsMut) (p : Progress) (n at : ℕ) (c : ColumnsMut) : Type 0 where
  pub ordered : l.start ≤ l.end
  pub ended : l.end ≤ length s
  pub enough : length (all_entries s l) ≤ room
  pub within : at ≤ length s
  pub seen : p.seen ≤ at
  pub address : p.address ≤ at
  pub count : n + length (entries_from s l p at) ≡ length (all_entries s l)
  pub slices : SameSlices c₀ c
  pub kinds : Column kind_of c₀.kinds.now (all_entries s l) c.kinds.now n (entries_from s l p at)
  pub mapped : Column mapped_of c₀.mapped.now (all_entries s l) c.mapped.now n (entries_from s l p at)
  pub starts : Column start_of c₀.starts.now (all_entries s l) c.starts.now n (entries_from s l p at)
  pub lengths : Column length_of c₀.lengths.now (all_entries s l) c.lengths.now n (entries_from s l p at)
  pub addresses : Column address_in c₀.addresses.now (all_entries s l) c.addresses.now n (entries_from s l p at)

-- nothing stands in the columns at the start
pub filling_begin : (s : List ℕ) (room : ℕ) (l : Layout) (c : ColumnsMut) → measured s room ≡ ok l → Filling s room l c (record { seen = 0; address = 0; host = 0 }) 0 0 c
filling_begin s room l c h =
    let w = laid s room l h in
    record {
      ordered = w.ordered;
      ended = w.ended;
      enough = w.enough;
      within = omega arith;
      seen = le_refl 0;
      address = le_refl 0;
      count = zero-add _;
      slices = record { kinds = refl; mapped = refl; starts = refl; lengths = refl; addresses = refl };
      kinds = record { put = refl };
      mapped = record { put = refl };
      starts = record { put = refl };
      lengths = record { put = refl };
      addresses = record { put = refl };
    }

module _ {s : List ℕ} {room : ℕ} {l : Layout} {c₀ : ColumnsMut} {p : Progress} {n at : ℕ} {c : ColumnsMut} (w : Filling s room l c₀ p n at c) where
  module _ (line : RowAt) (e : line ≡ sorted_row_at s l.start l.end at) (h : at < length s) where
    -- the next line starts further on
    further_on : at < line.next
    further_on = sorted_next_past s l.start l.end at line w.ordered w.ended e h

    -- within the source
    inside : line.next ≤ length s
    inside = sorted_next_within s l.start l.end at line w.ordered w.ended e h

    -- what is left shrinks
    pub filling_less : length s - line.next < length s - at
    filling_less = let a = further_on in let b = inside in omega arith

    -- a line that adds no row leaves the same entries
    skip : sorted_from s l.start l.end at ≡ sorted_from s l.start l.end line.next → Filling s room l c₀ p n line.next c
    skip f =
        let a = further_on in
        let b = w.seen in
        let c = w.address in
        let g : entries_from s l p at ≡ entries_from s l p line.next = ap (entries_after l.instructions p) f in
        record {
          ordered = w.ordered;
          ended = w.ended;
          enough = w.enough;
          within = inside;
          seen = omega arith;
          address = omega arith;
          count = rw (sym g) w.count;
          slices = w.slices;
          kinds = column_same w.kinds _ g;
          mapped = column_same w.mapped _ g;
          starts = column_same w.starts _ g;
          lengths = column_same w.lengths _ g;
          addresses = column_same w.addresses _ g;
        }

    -- a line that is no row adds none
    pub filling_other : ((r : AsmRow) → line.read ≡ Row r → ⊥) → Filling s room l c₀ p n line.next c
    filling_other k = go line.read refl
      where
        go : (x : LineRead) → line.read ≡ x → Filling s room l c₀ p n line.next c
        go Blank f = skip (sorted_blank s l.start l.end at line w.ordered w.ended e h f)
        go Unreadable f = skip (sorted_unreadable s l.start l.end at line w.ordered w.ended e h f)
        go (Row r) f = absurd (k r f)

    module _ (row : AsmRow) (f : line.read ≡ Row row) where
      -- how far the walk has come after a row is no more than the next place
      after_small : (r : AsmRow) → line.read ≡ Row r → ((after p r).seen ≤ line.next) × ((after p r).address ≤ line.next)
      after_small (Instruction i) g =
          let a = further_on in
          let b = w.seen in
          let c = w.address in
          let d = sorted_room s l.start l.end at line w.ordered w.ended e i h g in
          let k = counted_length_le i in
          (omega arith, omega arith)
      after_small (LabelCall start k) g = let a = further_on in let b = w.seen in let c = w.address in (omega arith, omega arith)
      after_small (LabelJmp start k) g = let a = further_on in let b = w.seen in let c = w.address in (omega arith, omega arith)
      after_small (LabelProphet start k) g = let a = further_on in let b = w.seen in let c = w.address in (omega arith, omega arith)

      module _ (entry : Option LabelEntry) (g : entry ≡ entry_of_row l.instructions p row) where
        -- the row's entry comes first
        left_is : entries_from s l p at ≡ entry_list entry ++ entries_from s l (after p row) line.next
        unfolding entries_after
        left_is =
            ap (entries_after l.instructions p) (sorted_row s l.start l.end at line w.ordered w.ended e row h f)
            ∙ ap (λ (x : Option LabelEntry). entry_list x ++ entries_from s l (after p row) line.next) (sym g)

        -- and is counted
        left_long : length (entries_from s l p at) ≡ length (entry_list entry) + length (entries_from s l (after p row) line.next)
        left_long = ap length left_is ∙ length-append (entry_list entry) (entries_from s l (after p row) line.next)

        -- the columns have a place for it
        pub filling_room : (x : LabelEntry) → entry ≡ Some x → Holds c₀ room → Holds c (n + 1)
        filling_room x i r =
            let a = ap (λ (o : Option LabelEntry). length (entry_list o)) i in
            let b = left_long in
            let d = w.count in
            let j = w.enough in
            let room_in : (k m : ℕ) → k ≡ m → room ≤ m → n + 1 ≤ k = λ k m u v. omega arith in
            record {
              kinds = room_in _ _ (column_length w.kinds) r.kinds;
              mapped = room_in _ _ (column_length w.mapped) r.mapped;
              starts = room_in _ _ (column_length w.starts) r.starts;
              lengths = room_in _ _ (column_length w.lengths) r.lengths;
              addresses = room_in _ _ (column_length w.addresses) r.addresses;
            }

        -- the row's entries were put
        more : (d : ColumnsMut) (m : ℕ) → m ≡ n + length (entry_list entry) → SameSlices c₀ d → Puts c d n (entry_list entry) → Filling s room l c₀ (after p row) m line.next d
        more d m b t x =
            let u = after_small row f in
            let k = left_long in
            let j = w.count in
            record {
              ordered = w.ordered;
              ended = w.ended;
              enough = w.enough;
              within = inside;
              seen = u.0;
              address = u.1;
              count = omega arith;
              slices = t;
              kinds = column_more w.kinds (entry_list entry) left_is b x.kinds;
              mapped = column_more w.mapped (entry_list entry) left_is b x.mapped;
              starts = column_more w.starts (entry_list entry) left_is b x.starts;
              lengths = column_more w.lengths (entry_list entry) left_is b x.lengths;
              addresses = column_more w.addresses (entry_list entry) left_is b x.addresses;
            }

        -- a row with no entry
        pub filling_none : (q : Progress) → q ≡ after p row → entry ≡ None → Filling s room l c₀ q n line.next c
        filling_none q a i =
            rw a
            (more c n (rw i (omega arith)) w.slices (record { kinds = rw i; mapped = rw i; starts = rw i; lengths = rw i; addresses = rw i }))

        -- an entry was put
        pub filling_put : (q : Progress) (d : ColumnsMut) (x : LabelEntry) → q ≡ after p row → entry ≡ Some x → SameSlices c d → Puts c d n (x ∷ []) → Filling s room l c₀ q (n + 1) line.next d
        filling_put q d x a i t y =
            rw a
            (more d (n + 1) (rw i)
            (record {
              kinds = t.kinds ∙ w.slices.kinds;
              mapped = t.mapped ∙ w.slices.mapped;
              starts = t.starts ∙ w.slices.starts;
              lengths = t.lengths ∙ w.slices.lengths;
              addresses = t.addresses ∙ w.slices.addresses;
            })
            (rw i y))

-- ---- the whole table

-- what stands in a column after the walk: the table's entries over what it held
column_done : {A : Type 0} {field : LabelEntry → A} {d₀ : List A} {all : List LabelEntry} {d : List A} {n : ℕ} {left : List LabelEntry} → Column field d₀ all d n left
    → (answer : Answer (List AsmRow)) (rows : List AsmRow) → answer ≡ ok rows → all ≡ table_of rows → left ≡ [] → length all ≤ length d₀ → d ≡ column_left answer field d₀
unfolding on_ok
column_done {field = field} {d₀ = d₀} {all = all} {d = d} {n = n} c answer rows e f g h =
    let k : length (map field all) ≤ length d₀ = rw (length-map all field) h in
    sym (c.put ∙ ap (λ (z : List LabelEntry). sets d n (map field z)) g)
    ∙ sets_over (map field all) d₀ k
    ∙ rw (e, sym f)

-- at the source's end the columns hold the table
pub filling_done : {s : List ℕ} {room : ℕ} {l : Layout} {c₀ : ColumnsMut} {p : Progress} {n at : ℕ} {c : ColumnsMut} → Filling s room l c₀ p n at c
    → length s ≤ at → measured s room ≡ ok l → Holds c₀ room → Left c₀ c (tabled s room)
unfolding entries_after
filling_done {s = s} {room = room} {l = l} {p = p} {at = at} w h m r =
    let v = laid s room l m in
    let k = v.enough in
    let none : entries_from s l p at ≡ [] = rw (sorted_end s l.start l.end at w.ordered w.ended h) in
    let kinds = r.kinds in
    let mapped = r.mapped in
    let starts = r.starts in
    let lengths = r.lengths in
    let addresses = r.addresses in
    record {
      kinds = column_done w.kinds (tabled s room) v.rows v.table v.entries none (omega arith);
      mapped = column_done w.mapped (tabled s room) v.rows v.table v.entries none (omega arith);
      starts = column_done w.starts (tabled s room) v.rows v.table v.entries none (omega arith);
      lengths = column_done w.lengths (tabled s room) v.rows v.table v.entries none (omega arith);
      addresses = column_done w.addresses (tabled s room) v.rows v.table v.entries none (omega arith);
    }
