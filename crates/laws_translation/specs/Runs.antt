-- What a player of a plan in steps did, call by call, and the stepped plan that it is.
use Rattle.std.specs.Prelude.{◌≡◌, ℕ, suc, true, List, [], ◌∷◌}
use Rattle.plus_fraction.specs.Fraction.{Fraction}
use Rattle.plus_model.specs.Terms as terms
use Rattle.plus_model.specs.Terms.{Action}
use Rattle.plus_model.specs.Value.{holds}
use Rattle.plus_model.specs.Plan.{Called, Instance}
use Rattle.plus_state.specs.Fits.{AreInOrder}
use Rattle.plus_tree.specs.declared.trees.Domain.{Domain}
use Rattle.plus_tree.specs.declared.trees.Problem.{Problem}
use Rattle.plus_expansion.specs.Expansion.{expanded}
use Rattle.plus_steps.specs.Stepped.{Move, Act, Tick, SteppedPlan}
use Rattle.plus_stepped.specs.Grid.{InTime}
use Rattle.plus_stepped.specs.Steps.{SteppedView, Begins, Ticks, Acts}

-- the moves were made one after the other, from a view after n steps, and led to this view
abbrev pub MovesLead : {C : Type 0} → terms.Problem → (C → Called) → ℕ → SteppedView → List (Move C) → SteppedView → Type 0
MovesLead P meant n v [] last = last ≡ v
MovesLead P meant n v (Act call ∷ moves) last =
    (action : Action) × (next : SteppedView) × (meant call ≡ Instance action) × Acts P action v next × MovesLead P meant n next moves last
MovesLead P meant n v (Tick ∷ moves) last = (next : SteppedView) × Ticks P n v next × MovesLead P meant (suc n) next moves last

-- so where the goal holds there, they are a stepped plan
abbrev pub RunsAreStepped : Type 0 → Type 0
RunsAreStepped C =
    (P : terms.Problem) (q : Fraction) (meant : C → Called) (moves : List (Move C)) (first last : SteppedView)
    → Begins P q first → MovesLead P meant 0 first moves last → holds P.goal last.state ≡ true → SteppedPlan P q meant moves

-- the order of the literals of a ground form is the one that the player asks for
abbrev pub OrderedIsInTime : Type 0
OrderedIsInTime = (from : Fraction) (timed : List terms.Timed) → AreInOrder from timed → InTime timed

abbrev pub ExpandedIsInTime : Type 0
ExpandedIsInTime = (d : Domain) (p : Problem) → InTime (expanded d p).timed
