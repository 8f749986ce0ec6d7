-- What trimming answers.
use Rattle.std.specs.Prelude.{ℕ, ◌<◌, List, length, All}
use Rattle.plus_fraction.specs.Fraction.{Fraction}
use Rattle.plus_model.specs.Terms.{Problem}
use Rattle.plus_model.specs.Running.{IsRising}
use Rattle.plus_search.specs.Lists.{Number}
use Rattle.plus_timeline.specs.declared.stop.Stop.{Stop}
use Rattle.plus_timeline.specs.declared.stop.Stop.TheVariants as stops
use Rattle.plus_trim.specs.declared.trimming.Trimmed.{Trimmed}
use Rattle.plus_trim.specs.declared.trimming.Trimmed.TheVariants.{Kept, Invalid, Beyond, Memory}
use Rattle.plus_trim.specs.Acts.{Act, plan_of, chosen}
use Rattle.plus_trim.specs.Judging.{IsInside, HaltsBy, IsIdleFree, LimitsWithout}

-- the acts at these places are kept, in their order: their plan is valid inside the limits, no single one of them can go, and
-- in exactly so many cases it is a limit that stands without it
pub record IsKept (fits : Fraction → Type 0) (P : Problem) (most : ℕ) (xs : List Act) (last : Fraction) (places : List ℕ) (beyond : ℕ) : Type 0 where
  pub rising : IsRising 0 places
  pub inside : All (λ p. p < length xs) places
  pub valid : IsInside fits P most (plan_of (chosen xs places) last)
  pub idle_free : IsIdleFree fits P most (chosen xs places) last
  pub number : Number (LimitsWithout fits P most (chosen xs places) last) beyond

abbrev pub Answers : {Q : Type 0} → (Q → Fraction) → (Fraction → Type 0) → Problem → ℕ → List Act → Fraction → Trimmed Q → Type 0
Answers v fits P most xs last (Kept places beyond) = IsKept fits P most xs last places.items beyond
Answers v fits P most xs last (Invalid b) = HaltsBy v fits P most (plan_of xs last) (stops.Breach b)
Answers v fits P most xs last (Beyond l) = HaltsBy v fits P most (plan_of xs last) (stops.Limit l)
Answers v fits P most xs last Memory = Unit {0}

-- nothing stands on the whole list
abbrev pub IsKeptOrMemory : {Q : Type 0} → Trimmed Q → Type 0
IsKeptOrMemory (Kept places beyond) = Unit {0}
IsKeptOrMemory (Invalid b) = ⊥
IsKeptOrMemory (Beyond l) = ⊥
IsKeptOrMemory Memory = Unit {0}

-- what a refusal of the whole list comes to
abbrev pub trimmed_by : {Q : Type 0} → Stop Q → Trimmed Q
trimmed_by (stops.Breach b) = Invalid b
trimmed_by (stops.Limit l) = Beyond l
trimmed_by stops.Ended = Memory
trimmed_by stops.Memory = Memory
