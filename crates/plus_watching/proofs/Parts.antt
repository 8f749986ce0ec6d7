-- What one who watches tells of each kind of part.
use Rattle.std.proofs.Common.{◌≡◌, ℕ, List, [], ◌∷◌, pos, refl, ap, sym, subst, ◌∙◌}
use Rattle.std.specs.Prelude.{length, Some, Ok}
use Rattle.std.proofs.lemmas.List.{length-map}
use Rattle.plus_fraction.specs.Fraction.{Fraction, whole, ◌-ℚ◌}
use Rattle.plus_model.specs.Terms.{Action, State, Problem}
use Rattle.plus_model.specs.Running.{rates}
use Rattle.plus_model.specs.History as history
use Rattle.plus_model.specs.History.{Part, Enter, Act, View, view_after}
use Rattle.plus_model.specs.Trajectory.{first_part, first_view}
use Rattle.plus_number.specs.declared.frac.Frac64.{Frac64}
use Rattle.plus_number.specs.Frac.{fraction_of, IsFrac64}
use Rattle.plus_state.specs.Fits.{StateFits}
use Rattle.plus_state.specs.View.{Labels}
use Rattle.plus_constraints.specs.Constraint.{Constraint}
use Rattle.plus_watch.specs.Looks.{part_looks, moment_looks}
use Rattle.plus_watch.specs.Watched.{constraint_of, both_looks, ending_looks}
use Rattle.plus_watch.proofs.Calls.{calls_tell}
use Rattle.plus_timeline.specs.declared.next.Next.TheVariants.{Round, Run, Entry}
use Rattle.plus_timeline.specs.Timeline.{TimelineView, begun}
use Rattle.plus_timeline.specs.Advance.{BeginsEntry}
use Rattle.plus_timeline.specs.Serving.{Serves}
use Rattle.plus_timeline.proofs.Members.{rates_size}
use Rattle.plus_validator.specs.Standing.{CanShow, IsBegun, IsStep, TellsPart, TellsStep, TellsAct}
use Rattle.plus_watcher.specs.declared.watcher.Watcher.{Watcher}
use Rattle.plus_watcher.specs.Told.{behind}
use Rattle.plus_watcher.specs.Stands.{constraints_in, AreOver, HasSeen, StandsBy, TellsOf, IsFirst}
use Rattle.plus_watching.specs.Watching.{watching}
use Rattle.plus_watcher.specs.Looked.{IsReady, state_looks, LooksAfter, LooksFirst, IsEntered, LooksEntering}
use Rattle.plus_watcher.proofs.Histories.{behind_is, watched_none}
use Rattle.plus_watcher.proofs.Growing.{grown, grown_still}

-- ---- it is ready

-- there is a place for each constraint
each_place : (P : Problem) (h : List Part) (w : Watcher) → HasSeen P h w → length w.firsts.items ≡ length w.rules.watched.now
each_place P h w was =
    sym (length-map w.firsts.items _) ∙ ap length was.firsts
    ∙ length-map (constraints_in w.rules) _ ∙ length-map w.rules.watched.now (constraint_of fraction_of)

ready_for : (P : Problem) (h : List Part) (w : Watcher) (t : TimelineView) (s : State) → CanShow P t → StateFits t.atoms t.fluents s → AreOver P w.rules → HasSeen P h w → IsReady w s
ready_for P h w t s can fits over was = record {
  atoms = fits.atoms_fit ∙ can.atoms ∙ sym over.atoms;
  fluents = fits.fluents_fit ∙ can.fluents ∙ sym over.fluents;
  each = each_place P h w was;
}

-- ---- a part in one state, at the time of the last moment

module _ (N : Labels) (P : Problem) (sent : List ℕ) (w w' : Watcher) (t : TimelineView) (can : CanShow P t) where
  pub after_tells :
      (part : Part) (s : State) → ((v : View) (c : Constraint) → part_looks P c v part ≡ moment_looks c.when c.condition v.time s) → ((v : View) → (view_after v part).time ≡ v.time)
      → StateFits t.atoms t.fluents s → LooksAfter s w w' → (old : TimelineView) → TellsPart P (watching N P) old part (sent, w) (sent, w')
  after_tells part s looks time fits l old = λ L h p n k. (
    k.0,
    grown P h part (IsReady w s) (fraction_of w.since) (state_looks w s) w w'
        (λ was c. looks (behind P h) c ∙ ap (λ x. moment_looks c.when c.condition x s) (sym was.since))
        (λ was. was.since ∙ sym (time (behind P h)))
        (λ over fit was. ready_for P h w t s can fits over was)
        k.1 l,
  )

  -- ---- a moment that ends a stretch

  pub enter_tells :
      (old : TimelineView) (u time : Fraction) → StateFits t.atoms t.fluents t.now.state → Serves P old → BeginsEntry P u time old t → LooksEntering t w w'
      → TellsPart P (watching N P) old (Enter t.now.time t.arrival t.now.state) (sent, w) (sent, w')
  enter_tells old u time fits serves a l = λ L h p n k.
      let part : Part = Enter t.now.time t.arrival t.now.state in
      let v = behind P h in
      let view : v ≡ old.now = behind_is P L h p ∙ sym n in
      let runs : v.running ≡ Some a.members = ap (λ (x : View). x.running) view ∙ a.runs in
      let rates_are : t.rates ≡ old.rates = ap (λ x. x.rates) a.is in
      let before_is : t.before ≡ old.now.state = ap (λ x. x.before) a.is in
      let own : rates P v.state a.members ≡ Ok t.rates =
      ap (λ (x : View). rates P x.state a.members) view ∙ (serves.runs a.members a.runs).own_is ∙ ap (λ rs. Ok rs) (sym rates_are) in (
        k.0,
        grown P h part (IsEntered w t) t.now.time (λ c. ending_looks (fraction_of w.since) t.before t.rates t.now.time t.arrival t.now.state c) w w'
            (λ was c. calls_tell.ending P c v t.now.time t.arrival t.now.state a.members t.rates runs own
            ∙ ap (λ x. ending_looks x v.state t.rates t.now.time t.arrival t.now.state c) (sym was.since)
            ∙ ap (λ (x : State). ending_looks (fraction_of w.since) x t.rates t.now.time t.arrival t.now.state c) (ap (λ (x : View). x.state) view ∙ sym before_is))
            (λ was. refl)
            (λ over fit was. record {
              ready = ready_for P h w t t.now.state can fits over was;
              passed = subst (λ x. IsFrac64 (t.now.time -ℚ x)) (sym was.since) (fit h [] t.now.time t.arrival t.now.state a.members refl runs);
            })
            k.1 l,
      )

  -- ---- the first moment

  pub first_tells : IsBegun P t → IsFirst w → StateFits t.atoms t.fluents t.now.state → LooksFirst t w w' → TellsOf P (first_part P ∷ []) w'
  first_tells b first fits l =
      let e : t ≡ begun P b.0 = b.1 in
      grown P [] (first_part P) (IsReady w t.now.state) t.now.time (λ c. both_looks t.now.time t.arrival t.now.state c) w w'
      (λ was c. calls_tell.first P c (first_view P) (whole (pos 0)) P.initial (first_view P).state refl ∙ ap (λ (x : TimelineView). both_looks x.now.time x.arrival x.now.state c) (sym e))
      (λ was. ap (λ (x : TimelineView). x.now.time) e)
      (λ over fit was. ready_for P [] w t t.now.state can fits over was)
      (λ over fit. subst (StandsBy P [] w) (sym first.going) (record {
        since = first.since;
        firsts = first.none;
        passed = watched_none P (constraints_in w.rules);
      }))
      l

-- ---- a running set

pub run_tells : (N : Labels) (P : Problem) (sent : List ℕ) (w : Watcher) (running : List ℕ) (old : TimelineView) → TellsPart P (watching N P) old (history.Run running) (sent, w) (sent, w)
run_tells N P sent w running old = λ L h p n k. (k.0, grown_still P h (history.Run running) w (λ c. refl) refl k.1)

-- ---- steps and actions

module _ (N : Labels) (P : Problem) (sent : List ℕ) (w w' : Watcher) (t : TimelineView) (can : CanShow P t) where
  abbrev now_tells : (part : Part) → TimelineView → Type 0
  now_tells part old = TellsPart P (watching N P) old part (sent, w) (sent, w')

  -- in the present state
  present_tells :
      (part : Part) (s : State) → s ≡ t.now.state → ((v : View) (c : Constraint) → part_looks P c v part ≡ moment_looks c.when c.condition v.time t.now.state)
      → ((v : View) → (view_after v part).time ≡ v.time) → StateFits t.atoms t.fluents s → LooksAfter s w w' → (old : TimelineView) → now_tells part old
  present_tells part s e looks time fits l old =
      after_tells N P sent w w' t can part t.now.state looks time (subst (StateFits t.atoms t.fluents) e fits) (subst (λ (z : State). LooksAfter z w w') e l) old

  pub round_steps : (s : State) → s ≡ t.now.state → StateFits t.atoms t.fluents s → LooksAfter s w w' → TellsStep P (watching N P) t Round (sent, w) (sent, w')
  round_steps s e fits l = λ old u serves a. present_tells (history.Round t.events t.now.state) s e (λ v c. refl) (λ v. refl) fits l old

  pub act_steps :
      (action : Action) (old : TimelineView) (s : State) → s ≡ t.now.state → StateFits t.atoms t.fluents s → LooksAfter s w w' → TellsAct P (watching N P) action old t (sent, w) (sent, w')
  act_steps action old s e fits l = λ L h p n due k. present_tells (Act old.now.acted t.now.state) s e (λ v c. refl) (λ v. refl) fits l old L h p n k

  pub entry_steps : (time : Frac64) → StateFits t.atoms t.fluents t.now.state → LooksEntering t w w' → TellsStep P (watching N P) t (Entry time) (sent, w) (sent, w')
  entry_steps time fits l = λ old u serves a. enter_tells N P sent w w' t can old _ (fraction_of time) fits serves a l

pub run_steps : (N : Labels) (P : Problem) (sent : List ℕ) (w : Watcher) (t : TimelineView) → TellsStep P (watching N P) t Run (sent, w) (sent, w)
run_steps N P sent w t = λ old u serves a. run_tells N P sent w t.running old

-- ---- the rates of a stretch that ended

pub rates_fit : (P : Problem) (t : TimelineView) (time : Frac64) → IsStep P t (Entry time) → length t.rates ≡ length t.before.fluents
rates_fit P t time s =
    let a = s.does in
    ap (λ (x : TimelineView). length x.rates) a.is
    ∙ rates_size P s.old.now.state a.members s.old.rates (s.serves.runs a.members a.runs).own_is
    ∙ ap (λ (x : State). length x.fluents) (sym (ap (λ (x : TimelineView). x.before) a.is))
