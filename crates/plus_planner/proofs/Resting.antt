-- Where decisions end nothing that a round asks fails.
use Rattle.std.proofs.Common.{◌≡◌, ℕ, List, [], ap, sym, subst, ◌∙◌}
use Rattle.std.specs.Prelude.{Option, None, Result, Ok, Err, IfOk}
use Rattle.plus_fraction.specs.Fraction.{Fraction}
use Rattle.plus_model.specs.Terms.{Problem}
use Rattle.plus_model.specs.Plan.{Plan}
use Rattle.plus_model.specs.History.{View}
use Rattle.plus_model.specs.Trajectory.{until, view_of}
use Rattle.plus_search.specs.declared.spaces.Fate.{Fate}
use Rattle.plus_state.proofs.Testing.{pass_left}
use Rattle.plus_stretch.specs.Tests.{Passes, AllPass}
use Rattle.plus_timeline.specs.Timeline.{TimelineView}
use Rattle.plus_timeline.specs.Forked.{forked}
use Rattle.plus_timeline.specs.Finish.{IsPaused}
use Rattle.plus_timeline.specs.Asked.{asked, advance_by, advance_tests, round_tests}
use Rattle.plus_timeline.specs.Played.{entries_of}
use Rattle.plus_planner.specs.Grid.{Task, timed}
use Rattle.plus_planner.specs.Standing.{CanReach, Carried, Steps}
use Rattle.plus_planner.specs.Places.{StandsAt}
use Rattle.plus_planner.proofs.Carries.{along_start, along_step, along_done}

round_part : (fits : Fraction → Type 0) (P : Problem) (most entries : ℕ) (u : Fraction) (v : View) (o : Option (List ℕ)) → o ≡ None → AllPass fits (advance_by P most entries u v o) → AllPass fits (round_tests P v.fired v.state)
round_part fits P most entries u v o m a =
    pass_left (Passes fits) (round_tests P v.fired v.state) _ (subst (λ (x : Option (List ℕ)). AllPass fits (advance_by P most entries u v x)) m a)

advance_part : (fits : Fraction → Type 0) (P : Problem) (L : Plan) (most entries : ℕ) (v : View) → AllPass fits (asked P L most (λ i. []) entries v) → AllPass fits (advance_by P most entries (until P L v) v v.running)
unfolding asked advance_tests
advance_part fits P L most entries v a = pass_left (Passes fits) (advance_by P most entries (until P L v) v v.running) _ a

pub rest_passed : (fits : Fraction → Type 0) (task : Task) (ds : List ℕ) (t : TimelineView) → StandsAt fits task ds t → AllPass fits (round_tests task.problem t.now.fired t.now.state)
rest_passed fits task ds t s =
    let v = view_of task.problem s.history in
    subst (λ (x : View). AllPass fits (round_tests task.problem x.fired x.state)) (sym s.now)
    (round_part fits task.problem task.most (entries_of s.history) (until task.problem (timed task ds) v) v v.running (sym (ap (λ (x : View). x.running) s.now) ∙ s.moment)
    (advance_part fits task.problem (timed task ds) task.most (entries_of s.history) v s.plays.passes))

-- a fork of a timeline at which nothing is due
pub fork_paused : (t : TimelineView) → IsPaused t → IsPaused (forked t)
fork_paused t p = record { there = p.there; fresh = p.fresh }

-- a first step, and what comes after it
pub steps_reach : (fits : Fraction → Type 0) (P : Problem) (u : Fraction) (old mid : TimelineView) (o : Option Fate) → o ≡ None → Steps fits P u old mid o → CanReach P u mid
steps_reach fits P u old mid o e s = (subst (Steps fits P u old mid) e s).can

pub steps_then : {E : Type 0} (fits : Fraction → Type 0) (P : Problem) (u : Fraction) (old mid new : TimelineView) (o : Option Fate) (r : Result Fate E) → o ≡ None → CanReach P u old → Steps fits P u old mid o → IfOk r (Carried fits P u mid new) → IfOk r (Carried fits P u old new)
steps_then fits P u old mid new o (Err e) k c s h = tt
steps_then fits P u old mid new o (Ok fate) k c s h =
    along_done fits P u old mid new fate (along_step fits P u old old mid (along_start fits P u old c) (subst (Steps fits P u old mid) k s)) h
