-- What a call of a timeline tells, over the list of tests that it asks: all pass and this is what it does, or the first that
-- fails, by its name. Want of memory is the one free answer.
use Rattle.std.specs.Prelude.{◌≡◌, ℕ, Bool, true, false, List, IsSomeAnd, Result, Ok, Err}
use Rattle.plus_fraction.specs.Fraction.{Fraction}
use Rattle.plus_state.specs.declared.outcome.Breach.{Breach as Broken}
use Rattle.plus_state.specs.declared.outcome.Limit.{Limit as Limited}
use Rattle.plus_timeline.specs.declared.stop.Stop.{Stop}
use Rattle.plus_timeline.specs.declared.stop.Stop.TheVariants.{Breach, Limit, Ended, Memory}
use Rattle.plus_stretch.specs.Tests.{Test, breach, AllPass, FirstFailing, of_limit, breach_of}

-- all tests pass, and this is done
pub record Passed (fits : Fraction → Type 0) (ended : Bool) (tests : List Test) (Does : Type 0) : Type 0 where
  pub going : ended ≡ false
  pub pass : AllPass fits tests
  pub does : Does

-- the first test that fails is this breach, and this is what it means; so many actions are done before
pub record Broke {Q : Type 0} (value : Q → Fraction) (fits : Fraction → Type 0) (acted : ℕ) (ended : Bool) (tests : List Test) (b : Broken Q) (Means : Type 0) : Type 0 where
  pub going : ended ≡ false
  pub first : IsSomeAnd (breach_of value acted b) (λ c. FirstFailing fits tests (breach c))
  pub means : Means

-- the first test that fails is this limit
pub record Reached {Q : Type 0} (value : Q → Fraction) (fits : Fraction → Type 0) (ended : Bool) (tests : List Test) (l : Limited Q) : Type 0 where
  pub going : ended ≡ false
  pub first : FirstFailing fits tests (of_limit value l)

-- the answer of a call that asks these tests, where so many actions are done and the timeline has ended before or not:
-- `Ended` comes exactly where it has
abbrev pub Told : {Q A : Type 0} → (Q → Fraction) → (Fraction → Type 0) → ℕ → Bool → List Test → (A → Type 0) → (Broken Q → Type 0) → Result A (Stop Q) → Type 0
Told value fits acted ended tests Does Means (Ok x) = Passed fits ended tests (Does x)
Told value fits acted ended tests Does Means (Err (Breach b)) = Broke value fits acted ended tests b (Means b)
Told value fits acted ended tests Does Means (Err (Limit l)) = Reached value fits ended tests l
Told value fits acted ended tests Does Means (Err Ended) = ended ≡ true
Told value fits acted ended tests Does Means (Err Memory) = ended ≡ false
