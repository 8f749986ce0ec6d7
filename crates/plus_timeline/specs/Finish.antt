-- What `finish` finds out, and why it is refused.
use Rattle.std.specs.Prelude.{◌≡◌, true, false, Some, Result, Err}
use Rattle.plus_fraction.specs.Fraction.{Fraction}
use Rattle.plus_model.specs.Terms.{State, Problem}
use Rattle.plus_model.specs.Value.{holds}
use Rattle.plus_state.specs.declared.outcome.Breach.{Breach}
use Rattle.plus_state.specs.declared.outcome.Breach.TheVariants.{Goal}
use Rattle.plus_timeline.specs.declared.next.Next.TheVariants.{There}
use Rattle.plus_timeline.specs.declared.stop.Stop.{Stop}
use Rattle.plus_timeline.specs.declared.stop.Stop.TheVariants.{Memory}
use Rattle.plus_timeline.specs.Timeline.{TimelineView}
use Rattle.plus_timeline.specs.Asked.{goal_tests}
use Rattle.plus_timeline.specs.Told.{Told}

-- the last `advance` answered `There`, and no accepted action came after it
pub record IsPaused (v : TimelineView) : Type 0 where
  pub there : v.answer ≡ Some There
  pub fresh : v.acted ≡ false

-- the goal does not hold
abbrev pub BreaksFinish : {Q : Type 0} → Problem → State → Breach Q → Type 0
BreaksFinish P s Goal = holds P.goal s ≡ false
BreaksFinish P s _ = ⊥

-- what `finish` tells
abbrev pub FinishTold : {Q A : Type 0} → (Q → Fraction) → (Fraction → Type 0) → Problem → TimelineView → Result A (Stop Q) → Type 0
FinishTold value fits P old result =
    Told value fits old.now.acted old.ended (goal_tests P old.now.state) (λ _. holds P.goal old.now.state ≡ true) (BreaksFinish P old.now.state) result

-- memory is not wanting, since none is taken
abbrev pub TakesNoMemory : {Q A : Type 0} → Result A (Stop Q) → Type 0
TakesNoMemory (Err Memory) = ⊥
TakesNoMemory _ = Unit {0}
