-- What stands on a plan: it is valid inside the limits, or a breach or a limit stands.
use Rattle.std.specs.Prelude.{◌≡◌, ℕ, suc, ◌<◌, List, length, Some}
use Rattle.plus_fraction.specs.Fraction.{Fraction}
use Rattle.plus_model.specs.Terms.{Problem}
use Rattle.plus_model.specs.Breach as model
use Rattle.plus_model.specs.Plan.{Plan}
use Rattle.plus_model.specs.History.{Part}
use Rattle.plus_model.specs.Trajectory.{Trajectory, view_of}
use Rattle.plus_state.specs.declared.outcome.Breach as outcome
use Rattle.plus_state.specs.declared.outcome.Breach.TheVariants.{Precondition}
use Rattle.plus_stretch.specs.Tests.{Test, breach, AllPass, IsLimit, of_limit, breach_of}
use Rattle.plus_timeline.specs.declared.stop.Stop.{Stop}
use Rattle.plus_timeline.specs.declared.stop.Stop.TheVariants.{Breach, Limit, Ended, Memory}
use Rattle.plus_planner.specs.Grid.{asked_in, IsClearIn}
use Rattle.plus_planner.specs.Standing.{FailsAt}
use Rattle.plus_trim.specs.Acts.{Act, plan_of, without}

-- the plan has a trajectory, and all that is asked passes
pub record IsInside (fits : Fraction → Type 0) (P : Problem) (most : ℕ) (L : Plan) : Type 0 where
  pub history : List Part
  pub happens : Trajectory P L history
  pub clear : IsClearIn fits P L most history
  pub passes : AllPass fits (asked_in P L most history)

-- the first test that fails stands on the plan, and is of this kind
pub record Fails (fits : Fraction → Type 0) (P : Problem) (most : ℕ) (L : Plan) (Kind : Test → Type 0) : Type 0 where
  pub history : List Part
  pub fails : FailsAt fits P L most Kind history

-- a breach by an action names the act by its position, from 1, where so many acts are done
abbrev pub IsPlaced : {Q : Type 0} → ℕ → outcome.Breach Q → Type 0
IsPlaced acted (Precondition line label) = line ≡ suc acted
IsPlaced acted _ = Unit {0}

-- the test that a breach of the code names, where so many acts are done
pub record NamesBreach {Q : Type 0} (v : Q → Fraction) (acted : ℕ) (b : outcome.Breach Q) (test : Test) : Type 0 where
  pub means : model.Breach
  pub means_is : breach_of v acted b ≡ Some means
  pub test_is : test ≡ breach means
  pub placed : IsPlaced acted b

-- the test that a stop names
abbrev pub Named : {Q : Type 0} → (Q → Fraction) → ℕ → Stop Q → Test → Type 0
Named v acted (Breach b) test = NamesBreach v acted b test
Named v acted (Limit l) test = test ≡ of_limit v l
Named v acted Ended test = ⊥
Named v acted Memory test = ⊥

-- the stop is the first test that fails on the plan
pub record HaltsBy {Q : Type 0} (v : Q → Fraction) (fits : Fraction → Type 0) (P : Problem) (most : ℕ) (L : Plan) (stop : Stop Q) : Type 0 where
  pub history : List Part
  pub fails : FailsAt fits P L most (Named v (view_of P history).acted stop) history

-- the same, where want of memory says nothing
abbrev pub Halts : {Q : Type 0} → (Q → Fraction) → (Fraction → Type 0) → Problem → ℕ → Plan → Stop Q → Type 0
Halts v fits P most L (Breach b) = HaltsBy v fits P most L (Breach b)
Halts v fits P most L (Limit l) = HaltsBy v fits P most L (Limit l)
Halts v fits P most L Ended = ⊥
Halts v fits P most L Memory = Unit {0}

-- where any one act is left out, a breach or a limit stands
abbrev pub IsIdleFree : (Fraction → Type 0) → Problem → ℕ → List Act → Fraction → Type 0
IsIdleFree fits P most xs last =
    (i : ℕ) → i < length xs → Fails fits P most (plan_of (without i xs) last) (λ t. Unit {0})

-- where act i is left out a limit stands
pub record LimitsWithout (fits : Fraction → Type 0) (P : Problem) (most : ℕ) (xs : List Act) (last : Fraction) (i : ℕ) : Type 0 where
  pub place : i < length xs
  pub fails : Fails fits P most (plan_of (without i xs) last) IsLimit
