-- Laws of a build on a meter: the meter after the counts answered is the meter after the build, and what is left is left part by part.
use Rattle.std.specs.Prelude.{Result}
use Prim.Native.Nat.{ℕ}
use mathlib.Core.Path.{◌≡◌, ap, ◌∙◌}
use mathlib.Core.List.{List}
use mathlib.Core.Bool.{Bool}
use borrow.Author.Rules.{rules}
use Rattle.encoder.specs.Assemble.{Room, numbered, assembled, assembled_totals}
use Rattle.meter.specs.Meter.{meter_after, meter_told}
use Rattle.meter.specs.declared.Meter.{Meter}
use Rattle.meter.proofs.Laws.{told_after}
use Rattle.meter_builds.specs.Lent.{Lent}
use Rattle.encoder.specs.declared.AssembleRefusal.{AssembleRefusal}
use Rattle.encoder.specs.declared.Totals.{Totals}

pub build_counted : (m r : Meter) (a : Result Totals AssembleRefusal) (s list : List ℕ) (room : Room) → numbered a ≡ assembled_totals s list room → r ≡ meter_told m (numbered a)
    → r ≡ meter_after m (assembled s list room)
unfolding assembled_totals
build_counted m r a s list room e f = f ∙ ap (meter_told m) e ∙ told_after m (assembled s list room)

pub lent_left_lem : {k k' : List ℕ} {m m' : List Bool} {p p' q q' a a' w w' h h' : List ℕ}
    → k ≡ k' → m ≡ m' → p ≡ p' → q ≡ q' → a ≡ a' → w ≡ w' → h ≡ h'
    → ◌≡◌ {A = Lent}
    (record { table = record { kinds = k; mapped = m; starts = p; lengths = q; addresses = a }; words = w; hosts = h })
    (record { table = record { kinds = k'; mapped = m'; starts = p'; lengths = q'; addresses = a' }; words = w'; hosts = h' })
lent_left_lem e f g i j k l = cc

pub ruleset build_laws = (build_counted, lent_left_lem, rules)
