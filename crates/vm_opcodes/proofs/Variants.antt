-- An enum whose variants hold nothing: two functions that agree on the list of all variants, one equation that antt computes, agree at each value.
use mathlib.Core.Path.{◌≡◌, sym, ap, ◌∙◌}
use mathlib.Core.List.{List, [], ◌∷◌}
use mathlib.Core.Logic.{inl, inr}
use lib.ListN.{get_or, drop}
use denote.Struct.Field.{Field}
use denote.Enum.Declared.{Record, Choice}

-- no variant has a field
abbrev pub Bare : List (List Field) → Type 0
Bare [] = Unit {0}
Bare ([] ∷ Fss) = Bare Fss
Bare ((F ∷ Fs) ∷ Fss) = ⊥

module _ {Y : Type 0} where
  -- what a function answers at each variant, in their order
  abbrev pub answers : (Fss : List (List Field)) → Bare Fss → (Choice Fss → Y) → List Y
  answers [] b f = []
  answers ([] ∷ Fss) b f = f (inl tt) ∷ answers Fss b (λ c. f (inr c))
  answers ((F ∷ Fs) ∷ Fss) b f = absurd b

  agreed : (Fss : List (List Field)) (b : Bare Fss) (f g : Choice Fss → Y) → answers Fss b f ≡ answers Fss b g → (c : Choice Fss) → f c ≡ g c
  agreed [] b f g e c = absurd c
  agreed ([] ∷ Fss) b f g e (inl u) = ap (λ (l : List Y). get_or l 0 (f (inl tt))) e
  agreed ([] ∷ Fss) b f g e (inr c) = agreed Fss b (λ x. f (inr x)) (λ x. g (inr x)) (ap (drop 1) e) c
  agreed ((F ∷ Fs) ∷ Fss) b f g e c = absurd b

  -- N is the enum's declaration
  pub each : (N : Record) (b : Bare N.parts) (f g : N.D → Y) → answers N.parts b (λ c. f (N.make c)) ≡ answers N.parts b (λ c. g (N.make c)) → (d : N.D) → f d ≡ g d
  each N b f g e d =
      sym (ap f (N.eta d)) ∙ agreed N.parts b (λ c. f (N.make c)) (λ c. g (N.make c)) e (N.as_values d) ∙ ap g (N.eta d)
