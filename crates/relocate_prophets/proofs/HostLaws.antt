-- The hosts of a list's labels: counted one after another, and written one after another.
use Rattle.std.specs.Prelude.{Option, Some, None, Result, Ok, Err}
use Prim.Native.Nat.{ℕ, suc, ◌+◌, ◌-◌, ◌^◌, ◌<◌, ◌≤◌}
use mathlib.Core.Path.{◌≡◌, refl, sym, ap, ◌∙◌}
use mathlib.Core.List.{List, [], ◌∷◌}
use mathlib.Core.Bool.{Bool, true, false, not, true≢false}
use Rattle.std.specs.Option.{is_some}
use native.Mathlib.Omega.{arith}
use native.Mathlib.Nat.{zero-add, add-zero}
use native.Mathlib.Numerals.{add-one}
use borrow.Author.Rules.{rules}
use borrow.Author.Tests.{lt-ltb, le-ltb, leb-true, leb-false}
use mir.Val.{Fits}
use mir.Syntax.{w64}
use lib.Dec.{leb}
use lib.ListN.{length, take, drop, set, length-set, length-map, length-drop}
use lib.Seq.{sets}
use Rattle.text.specs.Scan.{scan}
use Rattle.text.specs.Lines.{not_feed}
use Rattle.text.specs.Answer.{Answer, ok, refused, ◌>>=◌, on_ok}
use Rattle.text.specs.declared.Line.{Line}
use Rattle.text.proofs.Laws.{scan_le}
use Rattle.text.proofs.AnswerLaws.{not_ok, ok_same, ok_bind, sets_over}
use Rattle.asm.specs.Parts.{next_line}
use Rattle.asm_laws.proofs.StepLaws.{next_further}
use Rattle.relocate.specs.Labels.{prophet_kind}
use Rattle.relocate.specs.Prophets.{listed_labels}
use Rattle.relocate.specs.Columns.{LookUp, held_host, held_hosts_from, held_hosts, host_count, listed_numbered, hosts_put}
use Rattle.relocate.specs.declared.WordAddress.{WordAddress}
use Rattle.relocate.specs.declared.RelocateRefusal.TheVariants.{ProphetListMalformed, ProphetUnknown}
use Rattle.relocate_prophets.specs.Walk.{lines_from, line_from, labels_start, host_in, hosts_in, fits_in}
use Rattle.relocate_prophets.proofs.LineLaws.{lines_end, lines_next, labels_found, listed_found}
use Rattle.relocate.specs.declared.RelocateRefusal.{RelocateRefusal}

-- ---- a line of the list

module _ (list : List ℕ) (at : ℕ) (line : Line) (e : line ≡ line_from list at) where
  -- the line's two fields
  line_length_lem : line.length ≡ scan not_feed (drop at list)
  line_length_lem = ap (λ (x : Line). x.length) e

  line_next_lem : line.next ≡ next_line list at
  line_next_lem = ap (λ (x : Line). x.next) e

  -- a line ends within the list
  pub label_within : at < length list → at + line.length ≤ length list
  label_within h =
      let a = line_length_lem in
      let b = scan_le not_feed (drop at list) in
      let c = length-drop at list in
      omega arith

  -- so its end fits a usize
  pub label_fits : at < length list → length list < 2 ^ 64 → Fits w64 (at + line.length)
  label_fits h f = let w = label_within h in omega arith

  -- the next one starts further on
  label_next : at < length list → at < line.next
  label_next h = let a = (next_further list at h).0 in let b = line_next_lem in omega arith

  -- so that as many places as lines were passed
  pub label_index : (k : ℕ) → at < length list → k ≤ at → k + 1 ≤ line.next
  label_index k h i = let a = label_next h in omega arith

  -- and less is left to walk
  pub label_less : at < length list → length list - line.next < length list - at
  label_less h = let a = label_next h in omega arith

  -- and then what is left are the lines from there
  label_first : at < length list → lines_from list at ≡ take (at + line.length - at) (drop at list) ∷ lines_from list line.next
  label_first h =
      let n : at + line.length - at ≡ scan not_feed (drop at list) = let a = line_length_lem in omega arith in
      lines_next list at h ∙ rw (n, line_next_lem)

pub ruleset label_laws = (label_within, label_fits, label_index, label_less)

-- ---- the hosts counted

-- the count with n ahead
abbrev pub counted : ℕ → Answer (List ℕ) → Answer ℕ
counted n answer = answer >>= λ hs. ok (n + length hs)

-- none stand ahead of the first
count_from : (a : Answer (List ℕ)) → host_count a ≡ counted 0 a
unfolding ◌>>=◌
count_from (ok hs) = ap ok (sym (zero-add (length hs)))
count_from (refused n d) = refl

module _ (look : LookUp) (k : ℕ) (x : List ℕ) (xs : List (List ℕ)) where
  -- a label found counts one
  count_found : (w : WordAddress) → look prophet_kind x ≡ Some w → counted k (held_hosts_from look k (x ∷ xs)) ≡ counted (k + 1) (held_hosts_from look (k + 1) xs)
  unfolding held_hosts_from ◌>>=◌
  count_found w e = rw (e, add-one k) (go (held_hosts_from look (suc k) xs))
    where
      go : (a : Answer (List ℕ)) → counted k (a >>= λ hs. ok (w.0 ∷ hs)) ≡ counted (suc k) a
      go (ok hs) = ap ok (omega arith)
      go (refused n d) = refl

  -- one that is not found is the answer
  count_unknown : look prophet_kind x ≡ None → counted k (held_hosts_from look k (x ∷ xs)) ≡ refused 9 k
  unfolding held_hosts_from ◌>>=◌
  count_unknown e = rw e

module _ (look : LookUp) (list : List ℕ) (start : ℕ) where
  -- where the walk begins
  pub count_start : host_count (held_hosts_from look 0 (lines_from list start)) ≡ counted 0 (held_hosts_from look 0 (lines_from list start))
  count_start = count_from (held_hosts_from look 0 (lines_from list start))

  module _ (k at : ℕ) (i : host_count (held_hosts_from look 0 (lines_from list start)) ≡ counted k (held_hosts_from look k (lines_from list at))) where
    module _ (line : Line) (e : line ≡ line_from list at) (h : at < length list) (found : Option WordAddress) (f : found ≡ look 2 (take (at + line.length - at) (drop at list))) where
      -- a label that the table holds
      pub count_more : (r : Bool) → is_some found ≡ not r → r ≡ false → host_count (held_hosts_from look 0 (lines_from list start)) ≡ counted (k + 1) (held_hosts_from look (k + 1) (lines_from list line.next))
      count_more r n z = go found refl (n ∙ ap not z)
        where
          go : (a : Option WordAddress) → found ≡ a → is_some a ≡ true → host_count (held_hosts_from look 0 (lines_from list start)) ≡ counted (k + 1) (held_hosts_from look (k + 1) (lines_from list line.next))
          go (Some w) g t =
              i
              ∙ ap (λ (xs : List (List ℕ)). counted k (held_hosts_from look k xs)) (label_first list at line e h)
              ∙ count_found look k (take (at + line.length - at) (drop at list)) (lines_from list line.next) w (sym f ∙ g)
          go None g t = absurd (true≢false (sym t))

      -- one that it does not hold
      pub count_none : (r : Bool) → is_some found ≡ not r → r ≡ true → listed_numbered (Err (ProphetUnknown k)) ≡ host_count (held_hosts_from look 0 (lines_from list start))
      count_none r n z = go found refl (n ∙ ap not z)
        where
          go : (a : Option WordAddress) → found ≡ a → is_some a ≡ false → listed_numbered (Err (ProphetUnknown k)) ≡ host_count (held_hosts_from look 0 (lines_from list start))
          go (Some w) g t = absurd (true≢false t)
          go None g t =
              sym
              (i
              ∙ ap (λ (xs : List (List ℕ)). counted k (held_hosts_from look k xs)) (label_first list at line e h)
              ∙ count_unknown look k (take (at + line.length - at) (drop at list)) (lines_from list line.next) (sym f ∙ g))

    -- the list's end
    pub count_end : length list ≤ at → listed_numbered (Ok k) ≡ host_count (held_hosts_from look 0 (lines_from list start))
    unfolding held_hosts_from ◌>>=◌
    count_end h = sym (i ∙ rw (lines_end list at h) (ap ok (add-zero k)))

pub ruleset count_laws = (label_laws, count_start, count_more, count_none, count_end, rules)

-- ---- the list's head

module _ (look : LookUp) (list : List ℕ) (p : Option ℕ) (e : p ≡ labels_start list) where
  -- the labels by where they start
  listed_told : listed_labels list ≡ labels_found list p
  listed_told = listed_found list ∙ ap (labels_found list) (sym e)

  -- their hosts, and refusal 8
  hosts_at : (i : ℕ) → p ≡ Some i → held_hosts look list ≡ held_hosts_from look 0 (lines_from list i)
  unfolding held_hosts ◌>>=◌
  hosts_at i f = rw (listed_told, f)

  hosts_nowhere : p ≡ None → held_hosts look list ≡ refused 8 0
  unfolding held_hosts ◌>>=◌
  hosts_nowhere f = rw (listed_told, f)

  -- a list that is turned away
  pub head_other : p ≡ None → listed_numbered (Err ProphetListMalformed) ≡ host_count (held_hosts look list)
  unfolding ◌>>=◌
  head_other f = sym (ap host_count (hosts_nowhere f))

  -- the labels behind its head
  pub head_label : (i : ℕ) (r : Result ℕ RelocateRefusal) → p ≡ Some i → listed_numbered r ≡ host_count (held_hosts_from look 0 (lines_from list i)) → listed_numbered r ≡ host_count (held_hosts look list)
  head_label i r f g = g ∙ sym (ap host_count (hosts_at i f))

pub ruleset head_laws = (head_other, head_label, rules)

-- ---- the hosts written

module _ (list : List ℕ) (index at : ℕ) (line : Line) (e : line ≡ line_from list at) (h : at < length list) where
  -- a line less is left
  lines_count : length (lines_from list at) ≡ suc (length (lines_from list line.next))
  lines_count = ap length (label_first list at line e h)

  -- there is room for the next host
  pub put_room : (new : List ℕ) → index + length (lines_from list at) ≤ length new → index < length new
  put_room new k = let n = lines_count in omega arith

  -- and for those that are left
  pub put_rest : (new : List ℕ) (host : ℕ) → index + length (lines_from list at) ≤ length new → index + 1 + length (lines_from list line.next) ≤ length (set new index host)
  put_rest new host k = let n = lines_count in let l = length-set new index host in omega arith

  -- a host more
  pub put_more : (look : LookUp) (start : ℕ) (old new : List ℕ) (host : ℕ)
      → host ≡ host_in (look 2 (take (at + line.length - at) (drop at list)))
      → sets old 0 (hosts_in look (lines_from list start)) ≡ sets new index (hosts_in look (lines_from list at))
      → sets old 0 (hosts_in look (lines_from list start)) ≡ sets (set new index host) (index + 1) (hosts_in look (lines_from list line.next))
  put_more look start old new host f i =
      i
      ∙ ap (λ (xs : List (List ℕ)). sets new index (hosts_in look xs)) (label_first list at line e h)
      ∙ rw (f, add-one index)

-- the list's end
pub put_end : (look : LookUp) (list : List ℕ) (start index at : ℕ) (old new : List ℕ) → length list ≤ at
    → sets old 0 (hosts_in look (lines_from list start)) ≡ sets new index (hosts_in look (lines_from list at)) → new ≡ sets old 0 (hosts_in look (lines_from list start))
put_end look list start index at old new h i = sym (i ∙ rw (lines_end list at h))

pub ruleset put_laws = (label_laws, put_room, put_rest, put_more, put_end, rules)

-- ---- what is written of an answer

-- an accepted count is compared with the room
pub fit_count : (r : Result ℕ RelocateRefusal) (n room : ℕ) → r ≡ Ok n → leb n room ≡ fits_in room (listed_numbered r)
fit_count r n room e = rw e

pub ruleset fit_laws = (fit_count, rules)

-- an accepted host is the one found
host_is : (k : ℕ) (a : Option WordAddress) (h : ℕ) → held_host k a ≡ ok h → h ≡ host_in a
host_is k (Some w) h e = sym (ok_same e)
host_is k None h e = absurd (not_ok e)

-- lists with the same head and the same rest
cons_same : {x y : ℕ} {xs ys : List ℕ} → x ≡ y → xs ≡ ys → x ∷ xs ≡ y ∷ ys
cons_same p q = cc

-- accepted hosts are those in the table
hosts_are : (look : LookUp) (k : ℕ) (xs : List (List ℕ)) (hs : List ℕ) → held_hosts_from look k xs ≡ ok hs → hs ≡ hosts_in look xs
unfolding held_hosts_from
hosts_are look k [] hs e = sym (ok_same e)
hosts_are look k (x ∷ xs) hs e =
    let a = ok_bind (held_host k (look prophet_kind x)) _ hs e in
    let b = ok_bind (held_hosts_from look (suc k) xs) _ hs a.2 in
    let p : a.0 ≡ host_in (look prophet_kind x) = host_is k (look prophet_kind x) a.0 a.1 in
    let q : b.0 ≡ hosts_in look xs = hosts_are look (suc k) xs b.0 b.1 in
    sym (ok_same b.2) ∙ cons_same p q

module _ (look : LookUp) (list old : List ℕ) (r : Result ℕ RelocateRefusal) (e : listed_numbered r ≡ host_count (held_hosts look list)) (b : Bool) (t : b ≡ fits_in (length old) (listed_numbered r)) where
  -- the test is about the count of all hosts
  fitted : b ≡ fits_in (length old) (host_count (held_hosts look list))
  fitted = t ∙ ap (fits_in (length old)) e

  -- a list that is refused or has too little room leaves the hosts as they were
  pub write_off : b ≡ false → old ≡ hosts_put (held_hosts look list) old
  unfolding ◌>>=◌ on_ok
  write_off f = go (held_hosts look list) (sym fitted ∙ f)
    where
      go : (a : Answer (List ℕ)) → fits_in (length old) (host_count a) ≡ false → old ≡ hosts_put a old
      go (ok hs) g = rw (lt-ltb (length old) (length hs) (leb-false _ _ g))
      go (refused n d) g = refl

  module _ (f : b ≡ true) (p : Option ℕ) (q : p ≡ labels_start list) where
    -- a list that passes it is accepted, and has room
    told : (hs : List ℕ) × (held_hosts look list ≡ ok hs) × (length hs ≤ length old)
    unfolding ◌>>=◌
    told = go (held_hosts look list) refl (sym fitted ∙ f)
      where
        go : (a : Answer (List ℕ)) → held_hosts look list ≡ a → fits_in (length old) (host_count a) ≡ true → (hs : List ℕ) × (held_hosts look list ≡ ok hs) × (length hs ≤ length old)
        go (ok hs) k g = (hs, k, leb-true _ _ g)
        go (refused n d) k g = let z : ◌≡◌ {A = ℕ} 0 1 = cc in absurd (omega arith)

    module _ (i : ℕ) (g : p ≡ Some i) where
      -- its hosts are those of its labels
      accepted : held_hosts look list ≡ ok (hosts_in look (lines_from list i))
      accepted = told.1 ∙ ap ok (hosts_are look 0 (lines_from list i) told.0 (sym (hosts_at look list p q i g) ∙ told.1))

      -- which fit
      fit : length (hosts_in look (lines_from list i)) ≤ length old
      fit = let w = told in let k = ap length (ok_same (sym w.1 ∙ accepted)) in omega arith

      -- an accepted list has room for each of its labels
      pub write_room : length (lines_from list i) ≤ length old
      write_room = let k = length-map (lines_from list i) (λ x. host_in (look prophet_kind x)) in let l = fit in omega arith

      -- and their hosts stand there afterwards
      pub write_done : (new : List ℕ) → new ≡ sets old 0 (hosts_in look (lines_from list i)) → new ≡ hosts_put (held_hosts look list) old
      unfolding on_ok
      write_done new k =
          k
          ∙ sets_over (hosts_in look (lines_from list i)) old fit
          ∙ rw (accepted, le-ltb (length old) (length (hosts_in look (lines_from list i))) fit)

    -- where the labels start nowhere the list was refused
    pub write_nowhere : p ≡ None → old ≡ hosts_put (held_hosts look list) old
    unfolding on_ok
    write_nowhere g = rw (hosts_nowhere look list p q g)

pub ruleset write_laws = (write_off, write_room, write_done, write_nowhere, rules)
