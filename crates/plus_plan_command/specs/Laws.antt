-- What a reader of replies may rely on, over the definitions alone. Which of several plans is found is not said, so there is
-- not one reply.
use Rattle.std.specs.Prelude.{ℕ, Bool, List}
use Rattle.plus_fraction.specs.Fraction.{Fraction}
use Rattle.plus_report.specs.declared.status.Status.TheVariants.{Valid, Invalid}
use Rattle.plus_plan_command.specs.Plan.{Plans}

-- The same two texts never have a plan, and none by as many decisions on the same grid, however many tries either search has, and
-- whether with the cut or without.
abbrev pub PlanOrNone : Type 0
PlanOrNone =
    (q : Fraction) (k tries tries' : ℕ) (cut cut' : Bool) (domain problem written written' : List ℕ)
    → Plans q k tries cut domain problem Valid written → Plans q k tries' cut' domain problem Invalid written' → ⊥
