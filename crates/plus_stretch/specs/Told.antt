-- What a call along a running set tells, over the tests that it asks: all pass and this is so, or the first that fails.
use Rattle.std.specs.Prelude.{ℕ, List, Result, MatchResult}
use Rattle.plus_fraction.specs.Fraction.{Fraction}
use Rattle.plus_model.specs.Breach as model
use Rattle.plus_stretch.specs.declared.halt.Halt.{Halt}
use Rattle.plus_stretch.specs.declared.halt.Halt.TheVariants.{NoFirstMoment, Limit, Memory}
use Rattle.plus_stretch.specs.Tests.{Test, breach, AllPass, FirstFailing, of_limit}

-- the first test that fails is the one that the halt names, and this is what the breach means; want of memory may come at
-- any time
abbrev pub HaltTold : {Q : Type 0} → (Q → Fraction) → (Fraction → Type 0) → List Test → (ℕ → Fraction → Type 0) → Halt Q → Type 0
HaltTold value fits tests Means (NoFirstMoment e t) = FirstFailing fits tests (breach (model.NoFirstMoment e.0 (value t))) × Means e.0 (value t)
HaltTold value fits tests Means (Limit l) = FirstFailing fits tests (of_limit value l)
HaltTold value fits tests Means Memory = Unit {0}

abbrev pub Told : {Q A : Type 0} → (Q → Fraction) → (Fraction → Type 0) → List Test → (A → Type 0) → (ℕ → Fraction → Type 0) → Result A (Halt Q) → Type 0
Told value fits tests Does Means answer = MatchResult answer (λ x. AllPass fits tests × Does x) (HaltTold value fits tests Means)

-- no breach comes
abbrev pub Never : ℕ → Fraction → Type 0
Never e t = ⊥
