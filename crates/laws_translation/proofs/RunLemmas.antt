-- Moves that were made are a stepped plan.
use Rattle.std.proofs.Common.{◌≡◌, ℕ, suc, true, List, [], ◌∷◌, ap, subst, ◌∙◌, pos}
use Rattle.plus_fraction.specs.Fraction.{Fraction, whole}
use Rattle.plus_model.specs.Terms as terms
use Rattle.plus_model.specs.Terms.{State, Timed}
use Rattle.plus_model.specs.Value.{holds}
use Rattle.plus_model.specs.Plan.{Called}
use Rattle.plus_types.specs.Faults.{problem_context}
use Rattle.plus_expansion.proofs.Timed.{timed-ordered}
use Rattle.plus_steps.specs.Stepped.{Move, Act, Tick, Ticked, StepsOn}
use Rattle.plus_stepped.specs.Steps.{SteppedView}
use Rattle.laws_translation.specs.Runs.{MovesLead, RunsAreStepped, OrderedIsInTime, ExpandedIsInTime}

module _ {C : Type 0} (P : terms.Problem) (q : Fraction) (meant : C → Called) where
  steps_on : (n : ℕ) (v last : SteppedView) (moves : List (Move C)) → v.interval ≡ q → MovesLead P meant n v moves last → holds P.goal last.state ≡ true → StepsOn P q meant n v.state moves
  steps_on n v last [] e m g = subst (λ (x : SteppedView). holds P.goal x.state ≡ true) m g
  steps_on n v last (Act call ∷ moves) e m g =
      let a = m.3 in
      let same : m.1.interval ≡ q = ap (λ (x : SteppedView). x.interval) a.rest ∙ e in (
        m.1.state,
        record { action = m.0; called = m.2; now = a.acts.now; does = a.acts.does; rests = a.acts.rests },
        steps_on n m.1 last moves same m.4 g,
      )
  steps_on n v last (Tick ∷ moves) e m g =
      let t = m.1 in (
        m.0.state,
        subst (λ (x : Fraction). Ticked P x (suc n) v.state m.0.state) e t.ticked,
        steps_on (suc n) m.0 last moves (t.interval ∙ e) m.2 g,
      )

pub runs_are_stepped : (C : Type 0) → RunsAreStepped C
runs_are_stepped C P q meant moves first last b m g = record {
  first = first.state;
  rests = b.rests;
  on = steps_on P q meant 0 first last moves b.interval m g;
}

pub ordered_is_in_time : OrderedIsInTime
ordered_is_in_time from [] o = tt
ordered_is_in_time from (l ∷ []) o = tt
ordered_is_in_time from (l ∷ next ∷ timed) o = (o.1.0, ordered_is_in_time l.time (next ∷ timed) o.1)

pub expanded_is_in_time : ExpandedIsInTime
expanded_is_in_time d p = ordered_is_in_time (whole (pos 0)) _ (timed-ordered (problem_context d p) p.init)
