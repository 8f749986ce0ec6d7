-- What the steps of a run do. Each is said for every plan whose next line has the time that is aimed at.
use Rattle.std.specs.Prelude.{◌≡◌, ℕ, ◌<◌, Bool, true, false, List, None}
use Rattle.plus_fraction.specs.Fraction.{Fraction}
use Rattle.plus_model.specs.Terms.{Problem}
use Rattle.plus_model.specs.Plan.{Plan}
use Rattle.plus_model.specs.History.{Part}
use Rattle.plus_model.specs.Trajectory.{HasBegun}
use Rattle.plus_number.specs.Frac.{IsFrac64}
use Rattle.plus_stretch.specs.Tests.{Test}
use Rattle.plus_timeline.specs.Finish.{IsPaused}
use Rattle.plus_timeline.specs.Played as played
use Rattle.plus_timeline.specs.StepsLeft.{steps_left}
use Rattle.plus_validator.specs.Account.{Progress}
use Rattle.plus_validator.specs.Standing.{IsTold, CanGoOn, CanReach, IsReached}
use Rattle.plus_validator.specs.Told.{Telling}

-- the run is on its way to the time u, by a history of the plan
abbrev pub IsOnWay : {V : Type 0} (P : Problem) → Telling P V → Plan → (ℕ → List Test) → Fraction → ℕ → List Part → Progress V → Type 0
IsOnWay P T L instance u acted h run = played.IsOnWay IsFrac64 P L instance (IsTold P T L run.account) u acted h run.timeline.line

-- one more step, after which the run is on its way still
pub record StepsOn {V : Type 0} (P : Problem) (T : Telling P V) (u : Fraction) (old new : Progress V) : Type 0 where
  pub can : CanReach P u new.timeline
  pub less : steps_left new.timeline.line < steps_left old.timeline.line
  pub most : new.timeline.line.most ≡ old.timeline.line.most
  pub ended : new.ended ≡ old.ended
  pub on_way :
      (L : Plan) (instance : ℕ → List Test) (acted : ℕ) (h : List Part) → HasBegun L → IsOnWay P T L instance u acted h old
      → (h' : List Part) × IsOnWay P T L instance u acted h' new

-- the time is reached, and nothing is due there
pub record Reaches {V : Type 0} (P : Problem) (T : Telling P V) (u : Fraction) (old new : Progress V) : Type 0 where
  pub can : CanGoOn P new.timeline
  pub paused : IsPaused new.timeline.line
  pub moment : new.timeline.line.now.running ≡ None
  pub most : new.timeline.line.most ≡ old.timeline.line.most
  pub ended : new.ended ≡ old.ended
  pub reached :
      (L : Plan) (instance : ℕ → List Test) (acted : ℕ) (h : List Part) → HasBegun L → IsOnWay P T L instance u acted h old
      → (h' : List Part) × IsReached P T L instance acted u h' new.timeline.line new.account

abbrev pub Steps : {V : Type 0} (P : Problem) → Telling P V → Fraction → Progress V → Progress V → Bool → Type 0
Steps P T u old new true = Reaches P T u old new
Steps P T u old new false = StepsOn P T u old new
