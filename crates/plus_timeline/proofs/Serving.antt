-- A problem that a timeline is played with may be handed in again after each accepted call.
use Rattle.std.proofs.Common.{◌≡◌, ℕ, true, false, List, [], refl, ap, sym, subst, ◌∙◌}
use Rattle.std.specs.Prelude.{Option, Some, None, unwrap_or}
use Rattle.plus_fraction.specs.Fraction.{Fraction, ◌<ℚ◌, ◌≤ℚ◌}
use Rattle.plus_model.specs.Terms.{Action, Problem}
use Rattle.plus_model.specs.Firing.{firing}
use Rattle.plus_model.specs.Running.{Settled}
use Rattle.plus_model.specs.Trajectory.{least}
use Rattle.plus_model.proofs.Moments.{<ℚ-≤ℚ}
use Rattle.plus_state.specs.Fits.{ActionFits}
use Rattle.plus_timeline.specs.declared.next.Next.{Next}
use Rattle.plus_timeline.specs.declared.next.Next.TheVariants.{Round, Run, Entry, There}
use Rattle.plus_timeline.specs.Timeline.{TimelineView, begun}
use Rattle.plus_timeline.specs.Serving.{Serves}
use Rattle.plus_timeline.specs.Advance.{Advances, FiresRound, ClosesEntry, BeginsEntry, IsThere, IsAhead}
use Rattle.plus_timeline.specs.Act.{DoesAct}
use Rattle.plus_timeline.specs.Finish.{IsPaused}

none_some : (R : List ℕ) → None ≡ Some R → ⊥
none_some R e = cc

never_there : (o : Option (Next Fraction)) → o ≡ None → o ≡ Some There → ⊥
never_there o e f = cc

another : (o : Option (Next Fraction)) (n m : Next Fraction) → o ≡ Some n → o ≡ Some m → n ≡ m
another o n m e f = ap (λ (x : Option (Next Fraction)). unwrap_or x n) (sym e ∙ f)

not_round : (n m : Next Fraction) → n ≡ Round → m ≡ There → n ≡ m → ⊥
not_round n m a b e = cc

not_run : (n m : Next Fraction) → n ≡ Run → m ≡ There → n ≡ m → ⊥
not_run n m a b e = cc

not_entry : (n m : Next Fraction) (t : Fraction) → n ≡ Entry t → m ≡ There → n ≡ m → ⊥
not_entry n m t a b e = cc

round_there : (o : Option (Next Fraction)) → o ≡ Some Round → o ≡ Some There → ⊥
round_there o e f = not_round Round There refl refl (another o Round There e f)

run_there : (o : Option (Next Fraction)) → o ≡ Some Run → o ≡ Some There → ⊥
run_there o e f = not_run Run There refl refl (another o Run There e f)

entry_there : (o : Option (Next Fraction)) (t : Fraction) → o ≡ Some (Entry t) → o ≡ Some There → ⊥
entry_there o t e f = not_entry (Entry t) There t refl refl (another o (Entry t) There e f)

true_false : true ≡ false → ⊥
true_false e = cc

pub begun_serves : (P : Problem) (most : ℕ) → Serves P (begun P most)
begun_serves P most = record { atoms = refl; fluents = refl; events = refl; runs = λ R e. absurd (none_some R e); still = λ e a. absurd (never_there None refl e) }

-- where no set runs and the answer is not `There`, nothing else is to be known
rests : (P : Problem) (old new : TimelineView) → new.atoms ≡ old.atoms → new.fluents ≡ old.fluents → new.event_count ≡ old.event_count → new.now.running ≡ None → (new.answer ≡ Some There → new.acted ≡ false → firing P new.now.state ≡ []) → Serves P old → Serves P new
rests P old new a f n r t s = record {
  atoms = a ∙ s.atoms;
  fluents = f ∙ s.fluents;
  events = n ∙ s.events;
  runs = λ R e. absurd (none_some R (sym r ∙ e));
  still = t;
}

module _ (P : Problem) (u : Fraction) (old new : TimelineView) (s : Serves P old) where
  round_serves : FiresRound P old new → Serves P new
  round_serves r = rests P old new (ap (λ v. v.atoms) r.is) (ap (λ v. v.fluents) r.is) (ap (λ v. v.event_count) r.is) (ap (λ v. v.now.running) r.is)
      (λ e a. absurd (round_there new.answer (ap (λ v. v.answer) r.is) e)) s

  run_serves : ClosesEntry P u old new → Serves P new
  run_serves r = record {
    atoms = ap (λ v. v.atoms) r.is ∙ s.atoms;
    fluents = ap (λ v. v.fluents) r.is ∙ s.fluents;
    events = ap (λ v. v.event_count) r.is ∙ s.events;
    runs = subst (λ (v : TimelineView). (R : List ℕ) → v.now.running ≡ Some R → Settled P v.now.state R v.rates) (sym r.is)
        (λ R e. subst (λ (X : List ℕ). Settled P old.now.state X r.may.rate) (ap (λ (o : Option (List ℕ)). unwrap_or o []) e) r.may.settled);
    still = λ e a. absurd (run_there new.answer (ap (λ v. v.answer) r.is) e);
  }

  entry_serves : (t : Fraction) → BeginsEntry P u t old new → Serves P new
  entry_serves t r = rests P old new (ap (λ v. v.atoms) r.is) (ap (λ v. v.fluents) r.is) (ap (λ v. v.event_count) r.is) (ap (λ v. v.now.running) r.is)
      (λ e a. absurd (entry_there new.answer t (ap (λ v. v.answer) r.is) e)) s

  there_serves : IsThere P u old new → Serves P new
  there_serves r = rests P old new (ap (λ v. v.atoms) r.is) (ap (λ v. v.fluents) r.is) (ap (λ v. v.event_count) r.is) (ap (λ v. v.now.running) r.is ∙ r.moment)
      (λ e a. ap (λ (v : TimelineView). firing P v.now.state) r.is ∙ r.still) s

pub advance_serves : {Q : Type 0} (value : Q → Fraction) (P : Problem) (u : Fraction) (old new : TimelineView) (answer : Next Q) → Advances value P u old new answer → Serves P old → Serves P new
advance_serves value P u old new Round r s = round_serves P u old new s r
advance_serves value P u old new Run r s = run_serves P (least old.now.time u P.timed) old new s r
advance_serves value P u old new (Entry t) r s = entry_serves P (least old.now.time u P.timed) old new s (value t) r
advance_serves value P u old new There r s = there_serves P u old new s r

pub act_serves : (P : Problem) (action : Action) (old new : TimelineView) → DoesAct P action old new → Serves P old → Serves P new
act_serves P action old new r s = rests P old new (ap (λ v. v.atoms) r.is) (ap (λ v. v.fluents) r.is) (ap (λ v. v.event_count) r.is) (ap (λ v. v.now.running) r.is)
    (λ e a. absurd (true_false (sym (ap (λ v. v.acted) r.is) ∙ a))) s

-- an accepted call leaves the timeline going
pub advance_goes : {Q : Type 0} (value : Q → Fraction) (P : Problem) (u : Fraction) (old new : TimelineView) (answer : Next Q) → Advances value P u old new answer → old.ended ≡ false → new.ended ≡ false
advance_goes value P u old new Round r s = ap (λ v. v.ended) r.is ∙ s
advance_goes value P u old new Run r s = ap (λ v. v.ended) r.is ∙ s
advance_goes value P u old new (Entry t) r s = ap (λ v. v.ended) r.is ∙ s
advance_goes value P u old new There r s = ap (λ v. v.ended) r.is ∙ s

pub act_goes : (fits : Fraction → Type 0) (P : Problem) (action : Action) (old new : TimelineView) → DoesAct P action old new → old.ended ≡ false → new.ended ≡ false
act_goes fits P action old new r s = ap (λ v. v.ended) r.is ∙ s

-- after `There` an action, or the test of the goal, is in place
pub there_pauses : (P : Problem) (u : Fraction) (old new : TimelineView) → IsThere P u old new → IsPaused new
there_pauses P u old new r = record { there = ap (λ v. v.answer) r.is; fresh = ap (λ v. v.acted) r.is }

pub there_rests : (P : Problem) (u : Fraction) (old new : TimelineView) → IsThere P u old new → new.now.running ≡ None
there_rests P u old new r = ap (λ v. v.now.running) r.is ∙ r.moment

pub act_rests : (fits : Fraction → Type 0) (P : Problem) (action : Action) (old new : TimelineView) → DoesAct P action old new → new.now.running ≡ None
act_rests fits P action old new r = ap (λ v. v.now.running) r.is

-- an action that fits the problem may be handed in
pub action_serves : (P : Problem) (v : TimelineView) (action : Action) → Serves P v → ActionFits P.atoms P.fluents action → ActionFits v.atoms v.fluents action
action_serves P v action s f = subst (λ n. ActionFits n v.fluents action) (sym s.atoms) (subst (λ n. ActionFits P.atoms n action) (sym s.fluents) f)

-- the time asked for is not below the present one
pub by_serves : (o : Option (List ℕ)) (time u : Fraction) → o ≡ None → time ≤ℚ u → IsAhead o time u
by_serves None time u e l = l
by_serves (Some R) time u e l = cc

pub before_serves : (o : Option (List ℕ)) (time u : Fraction) → time <ℚ u → IsAhead o time u
before_serves None time u l = <ℚ-≤ℚ time u l
before_serves (Some R) time u l = l

pub ruleset serving = (begun_serves, advance_serves, act_serves, advance_goes, act_goes, there_pauses, there_rests, act_rests, action_serves, by_serves, before_serves)
