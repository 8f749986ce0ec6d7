-- A run that halts in a line, or at the end of the text.
use Rattle.std.proofs.Common.{◌≡◌, ℕ, suc, ◌≤◌, true, false, List, [], ◌∷◌, ◌++◌, refl, ap, sym, subst, ◌∙◌, inl, inr}
use Rattle.std.specs.Prelude.{Result, Ok, Err, IfErr, length}
use Rattle.plus_fraction.specs.Fraction.{Fraction}
use Rattle.plus_model.specs.Terms.{Problem}
use Rattle.plus_model.specs.Plan as model
use Rattle.plus_model.specs.Plan.{ActLine, Plan}
use Rattle.plus_model.specs.History.{Part}
use Rattle.plus_model.specs.Trajectory.{HasBegun, IsWorked}
use Rattle.plus_number.specs.declared.frac.Frac64.{Frac64}
use Rattle.plus_number.specs.Frac.{fraction_of, IsFrac64}
use Rattle.plus_state.specs.declared.outcome.Breach.{Breach}
use Rattle.plus_state.specs.declared.outcome.Breach.TheVariants as breaches
use Rattle.plus_tree.specs.declared.trees.Call.{Call}
use Rattle.plus_plan.specs.declared.forms.Time.{Time}
use Rattle.plus_plan.specs.declared.forms.Line.{Line}
use Rattle.plus_plan.specs.declared.forms.Line.TheVariants as lines
use Rattle.plus_plan.specs.TimeValue.{value_of}
use Rattle.plus_expansion.specs.Calls.{called_of}
use Rattle.plus_model.specs.Breach as model_breach
use Rattle.plus_timeline.specs.Finish.{FinishTold}
use Rattle.plus_stretch.specs.Tests.{Test, breach, of_limit, FirstFailing}
use Rattle.plus_timeline.specs.Timeline.{TimelineView}
use Rattle.plus_timeline.specs.declared.stop.Stop.{Stop}
use Rattle.plus_timeline.specs.declared.stop.Stop.TheVariants as stops
use Rattle.plus_timeline.proofs.Follows.{finish_breaks}
use Rattle.plus_report.specs.declared.verdicts.Verdict.{Verdict}
use Rattle.plus_report.specs.declared.verdicts.Verdict.TheVariants.{Valid, Invalid, Beyond, Other}
use Rattle.plus_validator.specs.Account.{Account, Progress}
use Rattle.plus_validator.specs.declared.halt.Halt.{Halt}
use Rattle.plus_validator.specs.declared.halt.Halt.TheVariants.{Refused, Memory, WriteFault}
use Rattle.plus_validator.specs.Halts.{stop_halt}
use Rattle.plus_validator.specs.Handing.{Left, left_by, IsPartOut}
use Rattle.plus_validator.specs.Plans.{Pair, line_meant, HasTime, HasValue, plan_of}
use Rattle.plus_validator.specs.Standing.{CanGoOn, IsReached}
use Rattle.plus_validator.specs.Told.{Telling}
use Rattle.plus_validator.specs.Running.{IsOnWay, Reaches}
use Rattle.plus_validator.specs.Playing.{Readied, ActsOnce, IsInTime, closed, ReadiedFor}
use Rattle.plus_validator.specs.Refused.{BreachNames, NamesNone, NamesLine, NamesNoLine, number_in}
use Rattle.plus_validator.specs.Stopped.{IsCutShort, IsCutShortIn, IsStoppedIn, StopsIn, StopsOnWay, HaltsOnWay, HaltsAtEnd, HaltsInAct, HaltsAtMoment, StopsInLine, HaltsInLine, IsStoppedOnWay}
use Rattle.plus_validator.proofs.Lines.{with_line, has_begun, act_due, acted_target, close_played, close_target, close_worked}
use Rattle.plus_validator.proofs.Stopping.{reported, cut_short, broken_at, fails_at}
use Rattle.plus_validator.proofs.Waiting.{waits}
use Rattle.plus_validator.proofs.Played.{act_once, act_reached, has_value, line_on_way, reached_now, with_meant}
use Rattle.plus_timeline.specs.Asked.{asked, goal_tests}
use Rattle.plus_validator.proofs.Asking.{goal_fails}
use Rattle.plus_validator.proofs.CalledTests.{instance_is}
use Rattle.plus_validator.specs.Asking.{instances_of}

-- a verdict that names no line names no other
breach_names : (n : ℕ) (label : List ℕ) (b : Breach Frac64) → NamesNone b → BreachNames n label b
breach_names n label (breaches.UnknownAction line name) m = absurd m
breach_names n label (breaches.WrongArguments line name) m = absurd m
breach_names n label (breaches.Precondition line whose) m = absurd m
breach_names n label (breaches.TimeGoesBack line) m = m
breach_names n label (breaches.AfterEnd line) m = m
breach_names n label (breaches.Conflict f) m = tt
breach_names n label (breaches.NoValue f) m = tt
breach_names n label (breaches.Repeats x) m = tt
breach_names n label (breaches.Unsettled x) m = tt
breach_names n label (breaches.Coupled x y) m = tt
breach_names n label (breaches.NoFirstMoment x t) m = tt
breach_names n label breaches.Goal m = tt

pub names_line : (n : ℕ) (label : List ℕ) (v : Verdict Frac64) → NamesNoLine v → NamesLine n label v
names_line n label Valid m = tt
names_line n label (Invalid b) m = breach_names n label b m
names_line n label (Beyond l) m = tt
names_line n label (Other e) m = tt

cut_in_line : {V : Type 0} (d : Pair) (P : Problem) (T : Telling P V) (ls : List Line) (most : ℕ) (line : Line) (meant : model.Line) (out : List ℕ) (halt : Halt) → line_meant d line ≡ meant ∷ [] → HasValue line → IsCutShort P T (with_line (plan_of d ls false) meant) most (instances_of d (ls ++ line ∷ [])) out halt → IsCutShortIn d P T ls most line out halt
cut_in_line d P T ls most line meant out halt e w s = record {
  value = w;
  cut = subst (λ (M : Plan). IsCutShort P T M most (instances_of d (ls ++ line ∷ [])) out halt) (with_meant d ls line meant e) s;
}

in_line : {V : Type 0} (d : Pair) (P : Problem) (T : Telling P V) (ls : List Line) (most : ℕ) (line : Line) (meant : model.Line) (new : Left V) (halt : Halt) → line_meant d line ≡ meant ∷ [] → HasValue line → StopsIn P T (with_line (plan_of d ls false) meant) most (instances_of d (ls ++ line ∷ [])) (number_in line) new halt → StopsInLine d P T ls most line new halt
in_line d P T ls most line meant new (Refused v) e w s = inr (record {
  begun = subst HasBegun (with_meant d ls line meant e) (has_begun (plan_of d ls false) meant);
  value = w;
  stopped = subst (λ (M : Plan). IsStoppedIn P T M most (instances_of d (ls ++ line ∷ [])) (number_in line) new.account v) (with_meant d ls line meant e) s;
})
in_line d P T ls most line meant new Memory e w s = cut_in_line d P T ls most line meant new.out Memory e w s
in_line d P T ls most line meant new WriteFault e w s = cut_in_line d P T ls most line meant new.out WriteFault e w s

way_in : {V : Type 0} (P : Problem) (T : Telling P V) (L : Plan) (most : ℕ) (instance : ℕ → List Test) (n : ℕ) (new : Left V) (halt : Halt) → StopsOnWay P T L most instance new halt → StopsIn P T L most instance n new halt
way_in P T L most instance n new (Refused v) s = record { stopped = s.stopped; names = names_line n _ v s.names }
way_in P T L most instance n new Memory s = s
way_in P T L most instance n new WriteFault s = s

-- its time
time_stops : {V : Type 0} (d : Pair) (P : Problem) (T : Telling P V) (line : Line) (meant : model.Line) (time : Time) (run : Progress V) (out : List ℕ) (halt : Halt) (ls : List Line) (h : List Part) → line_meant d line ≡ meant ∷ [] → HasTime line time → model.time_of meant ≡ value_of time → CanGoOn P run.timeline → HaltsAtMoment P T (number_in line) time run halt → ReadiedFor d P T ls h run → StopsInLine d P T ls run.timeline.line.most line (left_by out run) halt
time_stops d P T line meant time run out (Refused v) ls h e k t c s r = inl (record {
  history = h;
  reported = reported P T (plan_of d ls false) (instances_of d ls) h run.timeline.line run.account run.account r.played c.within refl;
  waits = waits P T (plan_of d ls false) (instances_of d ls) h run r;
  meant = meant;
  meant_is = e;
  time = time;
  time_is = k;
  why = s.refused (plan_of d ls false) (instances_of d ls) h meant r t;
})
time_stops d P T line meant time run out Memory ls h e k t c s r = absurd (s.refused (plan_of d ls false) (instances_of d ls) h meant r t)
time_stops d P T line meant time run out WriteFault ls h e k t c s r = absurd (s.refused (plan_of d ls false) (instances_of d ls) h meant r t)

pub halts_by_time : {V : Type 0} (d : Pair) (P : Problem) (T : Telling P V) (line : Line) (meant : model.Line) (time : Time) (run : Progress V) (out : List ℕ) (halt : Halt) → line_meant d line ≡ meant ∷ [] → HasTime line time → model.time_of meant ≡ value_of time → CanGoOn P run.timeline → HaltsAtMoment P T (number_in line) time run halt → HaltsInLine d P T line run (left_by out run) halt
halts_by_time d P T line meant time run out halt e k t c s = record {
  stops = λ ls h r. time_stops d P T line meant time run out halt ls h e k t c s r;
}

-- the way to it
pub halts_before : {V : Type 0} (d : Pair) (P : Problem) (T : Telling P V) (line : Line) (meant : model.Line) (time : Time) (at : Frac64) (old : Progress V) (new : Left V) (halt : Halt) → line_meant d line ≡ meant ∷ [] → model.time_of meant ≡ value_of time → ((t : Time) → HasTime line t → time ≡ t) → IsInTime old.ended old.timeline.line.now.time time at → HaltsOnWay P T (fraction_of at) old new halt → HaltsInLine d P T line old new halt
halts_before d P T line meant time at old new halt e t w i s = record {
  stops = λ ls h r.
      let L : Plan = plan_of d ls false in
      let instance : ℕ → List Test = instances_of d (ls ++ line ∷ []) in
      in_line d P T ls old.timeline.line.most line meant new halt e (has_value line time at w i.is)
      (way_in P T (with_line L meant) old.timeline.line.most instance (number_in line) new halt
      (s.stops (with_line L meant) instance (length L.lines) h (has_begun L meant) (line_on_way d P T ls line h old meant time at (sym t) i r)));
}

module _ {V : Type 0} (d : Pair) (P : Problem) (T : Telling P V) (n : ℕ) (time : Time) (call : Call) (at : Frac64) (old there : Progress V) (i : IsInTime old.ended old.timeline.line.now.time time at) (r : Reaches P T (fraction_of at) old there) where
  line : model.Line
  line = ActLine (value_of time) (called_of d.domain d.problem call.name call.args)

  -- its action
  pub halts_in_act : (new : Left V) (halt : Halt) → HaltsInAct d P T n call there new halt → HaltsInLine d P T (lines.Act n time call) old new halt
  unfolding line
  halts_in_act new halt s = record {
    stops = λ ls h ready.
        let L : Plan = plan_of d ls false in
        let instance : ℕ → List Test = instances_of d (ls ++ lines.Act n time call ∷ []) in
        let x = act_reached d P T n time call at old there i r ls h ready in
        in_line d P T ls old.timeline.line.most (lines.Act n time call) line new halt refl (has_value (lines.Act n time call) time at (λ t k. k) i.is)
        (subst (λ m. StopsIn P T (with_line L line) m instance n new halt) r.most
        (s.stops (with_line L line) instance x.0 (has_begun L line) (instance_is d ls n time call there.timeline.line.now.acted x.1.acted_is)
        (reached_now P T (with_line L line) instance (length L.lines) (value_of time) x.0 there.timeline.line there.account x.1)
        (act_due P T L instance x.0 there.timeline.line there.account (called_of d.domain d.problem call.name call.args) (value_of time) x.1)));
  }

  -- what comes behind it
  pub halts_behind : (acted : Progress V) (new : Left V) (now : Fraction) (halt : Halt) → ActsOnce d P T call there acted → now ≡ acted.timeline.line.now.time → HaltsOnWay P T now acted new halt → HaltsInLine d P T (lines.Act n time call) old new halt
  unfolding line
  halts_behind acted new now halt a e s = record {
    stops = λ ls h ready.
        let L : Plan = plan_of d ls false in
        let instance : ℕ → List Test = instances_of d (ls ++ lines.Act n time call ∷ []) in
        let x = act_reached d P T n time call at old there i r ls h ready in
        let y = act_once d P T n time call there acted ls x.0 a x.1 in
        let many : acted.timeline.line.now.acted ≡ suc (length L.lines) = a.acted_is ∙ ap suc x.1.acted_is in
        in_line d P T ls old.timeline.line.most (lines.Act n time call) line new halt refl (has_value (lines.Act n time call) time at (λ t k. k) i.is)
        (way_in P T (with_line L line) old.timeline.line.most instance n new halt
        (subst (λ m. StopsOnWay P T (with_line L line) m instance new halt) (a.most ∙ r.most)
        (s.stops (with_line L line) instance (suc (length L.lines)) y.0 (has_begun L line) (record {
          played = y.1;
          target_is = acted_target L line acted.timeline.line.now many ∙ sym e;
          acted_is = many;
        }))));
  }

-- ---- the end of the text

closing : {V : Type 0} (P : Problem) (T : Telling P V) (L : Plan) (instance : ℕ → List Test) (h : List Part) (run : Progress V) (now : Fraction) → now ≡ run.timeline.line.now.time → Readied P T L instance h run → IsOnWay P T (closed L) instance now run.timeline.line.now.acted h run
closing P T L instance h run now e ready = record {
  played = close_played P T L instance run.ended h run.timeline.line run.account ready;
  target_is = close_target P T L instance run.ended h run.timeline.line run.account ready ∙ sym e;
  acted_is = refl;
}

pub halts_closing : {V : Type 0} (P : Problem) (T : Telling P V) (old : Progress V) (new : Left V) (now : Fraction) (halt : Halt) → now ≡ old.timeline.line.now.time → HaltsOnWay P T now old new halt → HaltsAtEnd P T old new halt
halts_closing P T old new now halt e s = record {
  stops = λ L instance h ready. s.stops (closed L) instance old.timeline.line.now.acted h (inr refl) (closing P T L instance h old now e ready);
}

-- the goal is asked where the lines are worked
goal_asked : {V : Type 0} (P : Problem) (T : Telling P V) (L : Plan) (instance : ℕ → List Test) (acted : ℕ) (time : Fraction) (h : List Part) (v : TimelineView) (account : Account V) (test : Test) → L.closed ≡ true → IsReached P T L instance acted time h v account → IsWorked P L v.now → FirstFailing IsFrac64 (goal_tests P v.now.state) test → FirstFailing IsFrac64 (asked P L v.most instance v.entries v.now) test
goal_asked P T L instance acted time h v account test c r w f = goal_fails P L v.most instance v.entries v.now test c w.acted r.present r.over r.passed f

finish_stops : {V : Type 0} (P : Problem) (T : Telling P V) (L : Plan) (most : ℕ) (instance : ℕ → List Test) (acted : ℕ) (time : Fraction) (h : List Part) (v : TimelineView) (account : Account V) (new : Left V) (stop : Stop Frac64) → L.closed ≡ true → v.most ≡ most → v.entries ≤ v.most → IsReached P T L instance acted time h v account → IsWorked P L v.now → new.account ≡ account → FinishTold {A = Unit {0}} fraction_of IsFrac64 P v (Err stop) → IsPartOut Memory new.out (T.bytes account.told) → StopsOnWay P T L most instance new (stop_halt stop)
finish_stops P T L most instance acted time h v account new (stops.Breach breaches.Goal) c m g r w e t o =
    subst (λ k. IsStoppedOnWay P T L k instance new.account (Invalid breaches.Goal)) m (record {
      stopped = record {
        history = h;
        reported = reported P T L instance h v account new.account r.played g e;
        stands = broken_at P T L instance h v account r.played breaches.Goal (inr c) (finish_breaks P L v.now c w t.means)
            (goal_asked P T L instance acted time h v account (breach model_breach.Goal) c r w t.first);
      };
      names = tt;
    })
finish_stops P T L most instance acted time h v account new (stops.Limit l) c m g r w e t o =
    subst (λ k. IsStoppedOnWay P T L k instance new.account (Beyond l)) m (record {
      stopped = record {
        history = h;
        reported = reported P T L instance h v account new.account r.played g e;
        stands = fails_at P T L instance h v account r.played (of_limit fraction_of l) (goal_asked P T L instance acted time h v account (of_limit fraction_of l) c r w t.first);
      };
      names = tt;
    })
finish_stops P T L most instance acted time h v account new (stops.Breach (breaches.UnknownAction n name)) c m g r w e t o = absurd t.means
finish_stops P T L most instance acted time h v account new (stops.Breach (breaches.WrongArguments n name)) c m g r w e t o = absurd t.means
finish_stops P T L most instance acted time h v account new (stops.Breach (breaches.Precondition n whose)) c m g r w e t o = absurd t.means
finish_stops P T L most instance acted time h v account new (stops.Breach (breaches.TimeGoesBack n)) c m g r w e t o = absurd t.means
finish_stops P T L most instance acted time h v account new (stops.Breach (breaches.AfterEnd n)) c m g r w e t o = absurd t.means
finish_stops P T L most instance acted time h v account new (stops.Breach (breaches.Conflict f)) c m g r w e t o = absurd t.means
finish_stops P T L most instance acted time h v account new (stops.Breach (breaches.NoValue f)) c m g r w e t o = absurd t.means
finish_stops P T L most instance acted time h v account new (stops.Breach (breaches.Repeats x)) c m g r w e t o = absurd t.means
finish_stops P T L most instance acted time h v account new (stops.Breach (breaches.Unsettled x)) c m g r w e t o = absurd t.means
finish_stops P T L most instance acted time h v account new (stops.Breach (breaches.Coupled x y)) c m g r w e t o = absurd t.means
finish_stops P T L most instance acted time h v account new (stops.Breach (breaches.NoFirstMoment x y)) c m g r w e t o = absurd t.means
finish_stops P T L most instance acted time h v account new stops.Ended c m g r w e t o =
    subst (λ k. IsCutShort P T L k instance new.out Memory) m (cut_short P T L instance h v account new.out Memory r.played g o)
finish_stops P T L most instance acted time h v account new stops.Memory c m g r w e t o =
    subst (λ k. IsCutShort P T L k instance new.out Memory) m (cut_short P T L instance h v account new.out Memory r.played g o)

pub halts_at_goal : {V : Type 0} (P : Problem) (T : Telling P V) (old mid new : Progress V) (out : List ℕ) (now : Fraction) (stop : Stop Frac64) (halt : Halt) → now ≡ old.timeline.line.now.time → Reaches P T now old mid → new.account ≡ mid.account → halt ≡ stop_halt stop → FinishTold {A = Unit {0}} fraction_of IsFrac64 P mid.timeline.line (Err stop) → IsPartOut Memory out (T.bytes mid.account.told) → HaltsAtEnd P T old (left_by out new) halt
halts_at_goal P T old mid new out now stop halt e r w k t o = record {
  stops = λ L instance h ready.
      let there = r.reached (closed L) instance old.timeline.line.now.acted h (inr refl) (closing P T L instance h old now e ready) in
      let there_now : IsReached P T (closed L) instance old.timeline.line.now.acted old.timeline.line.now.time there.0 mid.timeline.line mid.account =
      subst (λ x. IsReached P T (closed L) instance old.timeline.line.now.acted x there.0 mid.timeline.line mid.account) e there.1 in
      subst (StopsOnWay P T (closed L) old.timeline.line.most instance (left_by out new)) (sym k)
      (finish_stops P T (closed L) old.timeline.line.most instance old.timeline.line.now.acted old.timeline.line.now.time there.0 mid.timeline.line mid.account (left_by out new) stop refl r.most r.can.within there_now
      (close_worked P T L instance old.ended h there.0 old.timeline.line mid.timeline.line old.account mid.account ready there_now) w t o);
}

pub on_err : {A E : Type 0} (r : Result A E) (G Q : E → Type 0) → ((e : E) → G e → Q e) → IfErr r G → IfErr r Q
on_err (Ok x) G Q f h = tt
on_err (Err e) G Q f h = f e h
