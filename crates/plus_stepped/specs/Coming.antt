-- The literals that come with a step.
use Rattle.std.specs.Prelude.{◌≡◌, ℕ, ◌-◌, List, take, drop}
use Rattle.plus_fraction.specs.Fraction.{Fraction}
use Rattle.plus_model.specs.Terms.{Timed}
use Rattle.plus_model.specs.Trajectory.{literal_changes}
use Rattle.plus_steps.specs.Stepped.{time_of_step}
use Rattle.plus_stepped.specs.declared.literals.Upcoming.{Upcoming}
use Rattle.plus_stepped.specs.Grid.{IsAt, changes_of}

-- The literals from one place up to the next are those of step n, and there stands what comes after them.
pub record ComesNext (timed : List Timed) (q : Fraction) (n place : ℕ) (next : Upcoming) : Type 0 where
  pub at : IsAt timed q n next.place next.ticks
  pub due : literal_changes (time_of_step q n) timed ≡ changes_of (take (next.place - place) (drop place timed))
