-- What is told of constraints on a history, as far as it is looked at.
use Rattle.std.specs.Prelude.{◌≡◌, ℕ, suc, List, ◌∷◌, ◌++◌, Some}
use Rattle.plus_fraction.specs.Fraction.{Fraction, ◌-ℚ◌}
use Rattle.plus_model.specs.Terms.{State, Problem}
use Rattle.plus_model.specs.History.{Part, Enter, View, view_from}
use Rattle.plus_model.specs.Trajectory.{first_view}
use Rattle.plus_number.specs.declared.frac.Frac64.{Frac64}
use Rattle.plus_number.specs.Frac.{fraction_of, IsFrac64}
use Rattle.plus_state.specs.Tested as tested
use Rattle.plus_crossing.specs.declared.node.CondStop.{CondStop}
use Rattle.plus_crossing.specs.Asked.{cond_stop_of}
use Rattle.plus_constraints.specs.Constraint.{Constraint}
use Rattle.plus_watch.specs.Asked.{Passes, AllPass, rules_ask}

-- the view behind a history
abbrev pub behind : Problem → List Part → View
behind P h = view_from (first_view P) h

-- each stretch that the history goes through has a length that is a value of the type of numbers
abbrev pub LengthsFit : Problem → List Part → Type 0
LengthsFit P h =
    (before more : List Part) (t : Fraction) (arrival s : State) (running : List ℕ)
    → h ≡ before ++ Enter t arrival s ∷ more → (behind P before).running ≡ Some running → IsFrac64 (t -ℚ (behind P before).time)

-- all that the constraints ask at each part of the history passes
abbrev pub AreWatched : Problem → List Constraint → List Part → Type 0
AreWatched P cs h = (before more : List Part) (part : Part) → h ≡ before ++ part ∷ more → AllPass IsFrac64 (rules_ask P 1 cs before part)

-- at a part of the history a limit of the constraint at this place in the list is the first test of constraints that fails
pub record IsLimited (P : Problem) (cs : List Constraint) (h : List Part) (index : ℕ) (stop : CondStop Frac64) : Type 0 where
  pub before : List Part
  pub part : Part
  pub more : List Part
  pub is : h ≡ before ++ part ∷ more
  pub passed : AreWatched P cs before
  pub first : tested.FirstFailing (Passes IsFrac64) (rules_ask P 1 cs before part) (suc index, cond_stop_of fraction_of stop)
