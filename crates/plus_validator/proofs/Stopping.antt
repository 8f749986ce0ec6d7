-- A run that halts: the verdict stands at the history that is reported.
use Rattle.plus_validator.specs.Account.{Account, Progress}
use Rattle.plus_validator.specs.Plans.{Pair}
use Rattle.std.proofs.Common.{◌≡◌, ℕ, ◌≤◌, Bool, true, false, List, [], refl, ap, sym, subst, ◌∙◌}
use Rattle.std.specs.Prelude.{Option, Some, None, Err, IsSomeAnd}
use Rattle.plus_fraction.specs.Fraction.{Fraction}
use Rattle.plus_model.specs.Terms.{Action, State, Problem}
use Rattle.plus_model.specs.Plan as plan
use Rattle.plus_model.specs.Plan.{Called, Instance, ActLine, Plan}
use Rattle.plus_model.specs.History.{Part, View}
use Rattle.plus_model.specs.Trajectory.{HasBegun, next_line, view_of}
use Rattle.plus_model.specs.Breach as model
use Rattle.plus_number.specs.declared.frac.Frac64.{Frac64}
use Rattle.plus_number.specs.Frac.{fraction_of, IsFrac64}
use Rattle.plus_state.specs.declared.outcome.Breach.{Breach}
use Rattle.plus_state.specs.declared.outcome.Breach.TheVariants as breaches
use Rattle.plus_timeline.specs.Timeline.{TimelineView}
use Rattle.plus_ground.specs.declared.faults.InstanceFault.{InstanceFault}
use Rattle.plus_ground.specs.declared.faults.InstanceFault.TheVariants as instances
use Rattle.plus_ground.specs.Refusals.{RefusesCall, IsInstance}
use Rattle.plus_expansion.specs.Calls.{called_of}
use Rattle.plus_tree.specs.declared.trees.Call.{Call}
use Rattle.plus_timeline.specs.Act.{BreaksAct, ActTold}
use Rattle.plus_timeline.specs.Advance.{BreaksOff, AdvanceTold}
use Rattle.plus_stretch.specs.Tests.{Test, too_many_nodes, no_number, breach, of_limit, breach_of, AllPass, FirstFailing}
use Rattle.plus_timeline.specs.declared.stop.Stop.{Stop}
use Rattle.plus_timeline.specs.declared.stop.Stop.TheVariants as stops
use Rattle.plus_timeline.proofs.Follows.{advance_breaks, act_breaks}
use Rattle.plus_report.specs.declared.refusals.Early.TheVariants.{Literal, TooMany}
use Rattle.plus_report.specs.declared.refusals.Kinds.TheVariants as kinds
use Rattle.plus_report.specs.declared.refusals.Text.TheVariants as texts
use Rattle.plus_report.specs.declared.verdicts.Verdict.{Verdict}
use Rattle.plus_report.specs.declared.verdicts.Verdict.TheVariants.{Invalid, Beyond, Other}
use Rattle.plus_report.specs.Report.{called_label}
use Rattle.plus_validator.specs.declared.halt.Halt.{Halt}
use Rattle.plus_validator.specs.declared.halt.Halt.TheVariants.{Refused, Memory, WriteFault}
use Rattle.plus_validator.specs.Halts.{stop_halt, CallHalts, CallVerdict}
use Rattle.plus_validator.specs.Standing.{IsTold, IsPlayed, CanGoOn, CanReach, IsReached}
use Rattle.plus_validator.specs.Told.{Telling}
use Rattle.plus_validator.specs.Running.{IsOnWay, Steps}
use Rattle.plus_validator.specs.Handing.{Left, left_by, IsPartOut}
use Rattle.plus_validator.specs.Refused.{BreachNames, NamesNone, NamesLine, Stands, IsBroken}
use Rattle.plus_validator.specs.Stopped.{IsReported, IsCutShort, StopsOnWay, HaltsOnWay, IsStoppedIn, StopsIn, HaltsInAct}
use Rattle.plus_validator.proofs.Runs.{Along}
use Rattle.plus_validator.specs.Asking.{Fails, call_tests}
use Rattle.plus_timeline.specs.Asked.{act_tests, asked, line_tests}
use Rattle.plus_validator.proofs.Asking.{breach_fails, fails_left, fails_right, line_fails}
use Rattle.plus_timeline.proofs.Played.{asked_same, way_tests, way_fails}
use Rattle.plus_validator.proofs.CalledTests.{call_passes, call_too_large, call_unfit}

-- two facts for the value of an option
both_some : {A : Type 0} (o : Option A) (P Q R : A → Type 0) → ((x : A) → P x → Q x → R x) → IsSomeAnd o P → IsSomeAnd o Q → IsSomeAnd o R
both_some None P Q R f h k = h
both_some (Some x) P Q R f h k = f x h k

and_then : {A : Type 0} (o : Option A) (P Q : A → Type 0) → ((x : A) → P x → Q x) → IsSomeAnd o P → IsSomeAnd o Q
and_then None P Q f h = h
and_then (Some x) P Q f h = f x h

-- what is told of what is played
pub reported : {V : Type 0} (P : Problem) (T : Telling P V) (L : Plan) (instance : ℕ → List Test) (h : List Part) (t : TimelineView) (old new : Account V) → IsPlayed P T L instance h t old → t.entries ≤ t.most → new ≡ old → IsReported P T L t.most instance h new
reported {V} P T L instance h t old new p w e = record {
  prefix = p.prefix;
  few = subst (λ n. n ≤ t.most) p.entries w;
  clear = p.clear;
  told = subst (λ (x : Account V). IsTold P T L x h) (sym e) p.beside;
}

-- a fault comes where this is played
pub cut_short : {V : Type 0} (P : Problem) (T : Telling P V) (L : Plan) (instance : ℕ → List Test) (h : List Part) (t : TimelineView) (account : Account V) (out : List ℕ) (halt : Halt) → IsPlayed P T L instance h t account → t.entries ≤ t.most → IsPartOut halt out (T.bytes account.told) → IsCutShort P T L t.most instance out halt
cut_short P T L instance h t account out halt p w o = record { history = h; account = account; reported = reported P T L instance h t account account p w refl; part = o }

-- ---- a test that fails at the view of a history that is played

module _ {V : Type 0} (P : Problem) (T : Telling P V) (L : Plan) (instance : ℕ → List Test) (h : List Part) (t : TimelineView) (account : Account V) (p : IsPlayed P T L instance h t account) where
  -- it fails at the history
  pub fails_at : (test : Test) → FirstFailing IsFrac64 (asked P L t.most instance t.entries t.now) test → Fails P L t.most instance h test
  fails_at test f = subst (λ (ts : List Test). FirstFailing IsFrac64 ts test) (asked_same p) f

  -- a breach that stands there and is the first that fails is one of the history
  pub broken_at : (b : Breach Frac64) → HasBegun L → IsSomeAnd (breach_of fraction_of t.now.acted b) (model.Stands P L t.now) → IsSomeAnd (breach_of fraction_of t.now.acted b) (λ c. FirstFailing IsFrac64 (asked P L t.most instance t.entries t.now) (breach c)) → IsSomeAnd (breach_of fraction_of (view_of P h).acted b) (IsBroken P L t.most instance h)
  broken_at b begun s f =
      subst (λ (k : ℕ). IsSomeAnd (breach_of fraction_of k b) (IsBroken P L t.most instance h)) (ap (λ (v : View). v.acted) p.now)
      (both_some (breach_of fraction_of t.now.acted b) (model.Stands P L t.now) (λ c. FirstFailing IsFrac64 (asked P L t.most instance t.entries t.now) (breach c)) (IsBroken P L t.most instance h)
      (λ c x y. record {
        breaks = record { prefix = p.prefix; breach = record { begun = begun; stands = subst (λ (v : View). model.Stands P L v c) p.now x } };
        first = fails_at (breach c) y;
      }) s f)

names_none : (P : Problem) (u : Fraction) (v : View) (b : Breach Frac64) → BreaksOff fraction_of P u v b → NamesNone b
names_none P u v (breaches.UnknownAction line name) s = s
names_none P u v (breaches.WrongArguments line name) s = s
names_none P u v (breaches.Precondition line label) s = s
names_none P u v (breaches.TimeGoesBack line) s = s
names_none P u v (breaches.AfterEnd line) s = s
names_none P u v (breaches.Conflict f) s = tt
names_none P u v (breaches.NoValue f) s = tt
names_none P u v (breaches.Repeats e) s = tt
names_none P u v (breaches.Unsettled p) s = tt
names_none P u v (breaches.Coupled p f) s = tt
names_none P u v (breaches.NoFirstMoment e t) s = tt
names_none P u v breaches.Goal s = tt

-- ---- on the way to a time

pub advance_stops : {V : Type 0} (P : Problem) (T : Telling P V) (L : Plan) (instance : ℕ → List Test) (u : Fraction) (acted : ℕ) (h : List Part) (old new : Progress V) (out : List ℕ) (stop : Stop Frac64) → HasBegun L → CanReach P u old.timeline → IsOnWay P T L instance u acted h old → AdvanceTold fraction_of IsFrac64 P u old.timeline.line new.timeline.line (Err stop) → new.account ≡ old.account → IsPartOut Memory out (T.bytes old.account.told) → StopsOnWay P T L old.timeline.line.most instance (left_by out new) (stop_halt stop)
advance_stops P T L instance u acted h old new out (stops.Breach b) begun c w k r o = record {
  stopped = record {
    history = h;
    reported = reported P T L instance h old.timeline.line old.account new.account w.played c.goes.within r;
    stands = broken_at P T L instance h old.timeline.line old.account w.played b begun (advance_breaks fraction_of P L old.timeline.line u b w.target_is k.means)
        (and_then (breach_of fraction_of old.timeline.line.now.acted b) (λ x. FirstFailing IsFrac64 (way_tests P u old.timeline.line) (breach x)) (λ x. FirstFailing IsFrac64 (asked P L old.timeline.line.most instance old.timeline.line.entries old.timeline.line.now) (breach x))
        (λ x f. way_fails IsFrac64 P L instance u old.timeline.line (breach x) w.target_is f) k.first);
  };
  names = names_none P _ old.timeline.line.now b k.means;
}
advance_stops P T L instance u acted h old new out (stops.Limit l) begun c w k r o = record {
  stopped = record {
    history = h;
    reported = reported P T L instance h old.timeline.line old.account new.account w.played c.goes.within r;
    stands = fails_at P T L instance h old.timeline.line old.account w.played (of_limit fraction_of l) (way_fails IsFrac64 P L instance u old.timeline.line (of_limit fraction_of l) w.target_is k.first);
  };
  names = tt;
}
advance_stops P T L instance u acted h old new out stops.Ended begun c w k r o = cut_short P T L instance h old.timeline.line old.account out Memory w.played c.goes.within o
advance_stops P T L instance u acted h old new out stops.Memory begun c w k r o = cut_short P T L instance h old.timeline.line old.account out Memory w.played c.goes.within o

pub advance_halts_on : {V : Type 0} (P : Problem) (T : Telling P V) (u : Fraction) (old new : Progress V) (out : List ℕ) (stop : Stop Frac64) (halt : Halt) → CanReach P u old.timeline → halt ≡ stop_halt stop → AdvanceTold fraction_of IsFrac64 P u old.timeline.line new.timeline.line (Err stop) → new.account ≡ old.account → IsPartOut Memory out (T.bytes old.account.told) → HaltsOnWay P T u old (left_by out new) halt
advance_halts_on P T u old new out stop halt c e k r o = record {
  stops = λ L instance acted h begun w. subst (StopsOnWay P T L old.timeline.line.most instance (left_by out new)) (sym e) (advance_stops P T L instance u acted h old new out stop begun c w k r o);
}

-- memory is wanting on the way
pub way_wants : {V : Type 0} (P : Problem) (T : Telling P V) (u : Fraction) (old : Progress V) (new : Left V) → CanReach P u old.timeline → IsPartOut Memory new.out (T.bytes old.account.told) → HaltsOnWay P T u old new Memory
way_wants P T u old new c o = record {
  stops = λ L instance acted h begun w. cut_short P T L instance h old.timeline.line old.account new.out Memory w.played c.goes.within o;
}

-- the sink fails behind a step
pub way_breaks : {V : Type 0} (P : Problem) (T : Telling P V) (u : Fraction) (old mid : Progress V) (new : Left V) (there : Bool) → Steps P T u old mid there → IsPartOut WriteFault new.out (T.bytes mid.account.told) → HaltsOnWay P T u old new WriteFault
way_breaks P T u old mid new true s o = record {
  stops = λ L instance acted h begun w.
      let x = s.reached L instance acted h begun w in
      subst (λ k. IsCutShort P T L k instance new.out WriteFault) s.most (cut_short P T L instance x.0 mid.timeline.line mid.account new.out WriteFault x.1.played s.can.within o);
}
way_breaks P T u old mid new false s o = record {
  stops = λ L instance acted h begun w.
      let x = s.on_way L instance acted h begun w in
      subst (λ k. IsCutShort P T L k instance new.out WriteFault) s.most (cut_short P T L instance x.0 mid.timeline.line mid.account new.out WriteFault x.1.played s.can.goes.within o);
}

-- several steps, and then a halt
pub along_halts : {V : Type 0} (P : Problem) (T : Telling P V) (u : Fraction) (start run : Progress V) (new : Left V) (halt : Halt) → Along P T u start run → HaltsOnWay P T u run new halt → HaltsOnWay P T u start new halt
along_halts P T u start run new halt a s = record {
  stops = λ L instance acted h begun w.
      let x = a.on_way L instance acted h begun w in
      subst (λ m. StopsOnWay P T L m instance new halt) a.most (s.stops L instance acted x.0 begun x.1);
}

-- ---- an action that is due

-- memory is wanting at it
pub act_wants : {V : Type 0} (w : Pair) (P : Problem) (T : Telling P V) (n : ℕ) (k : Call) (old : Progress V) (new : Left V) → CanGoOn P old.timeline → IsPartOut Memory new.out (T.bytes old.account.told) → HaltsInAct w P T n k old new Memory
act_wants w P T n k old new c o = record {
  stops = λ L instance h begun i r d. cut_short P T L instance h old.timeline.line old.account new.out Memory r.played c.within o;
}

-- the verdict stands at the history that is played, and names this line
stopped_in : {V : Type 0} (P : Problem) (T : Telling P V) (L : Plan) (instance : ℕ → List Test) (n : ℕ) (h : List Part) (old new : Progress V) (v : Verdict Frac64) → CanGoOn P old.timeline → IsPlayed P T L instance h old.timeline.line old.account → new.account ≡ old.account → Stands P L old.timeline.line.most instance h v → NamesLine n (called_label (next_line L old.timeline.line.now)) v → IsStoppedIn P T L old.timeline.line.most instance n new.account v
stopped_in P T L instance n h old new v c p r s m = record {
  stopped = record {
    history = h;
    reported = reported P T L instance h old.timeline.line old.account new.account p c.within r;
    stands = s;
  };
  names = subst (λ (w : View). NamesLine n (called_label (next_line L w)) v) p.now m;
}

-- what the line that is due asks
due_fails : {V : Type 0} (P : Problem) (T : Telling P V) (L : Plan) (instance : ℕ → List Test) (h : List Part) (t : TimelineView) (account : Account V) (call : Called) (test : Test) → IsReached P T L instance t.now.acted t.now.time h t account → next_line L t.now ≡ Some (ActLine t.now.time call) → FirstFailing IsFrac64 (line_tests P L instance t.now (Some (ActLine t.now.time call))) test → FirstFailing IsFrac64 (asked P L t.most instance t.entries t.now) test
due_fails P T L instance h t account call test r d f = line_fails P L t.most instance t.entries t.now (Some (ActLine t.now.time call)) test d r.present r.over r.passed f

-- it calls no action
unknown_stops : {V : Type 0} (P : Problem) (T : Telling P V) (n : ℕ) (name : List ℕ) (run : Progress V) (v : Verdict Frac64) (L : Plan) (instance : ℕ → List Test) (h : List Part) → CanGoOn P run.timeline → v ≡ Invalid (breaches.UnknownAction n name) → HasBegun L → IsReached P T L instance run.timeline.line.now.acted run.timeline.line.now.time h run.timeline.line run.account → next_line L run.timeline.line.now ≡ Some (ActLine run.timeline.line.now.time (plan.UnknownAction name)) → IsStoppedIn P T L run.timeline.line.most instance n run.account v
unknown_stops P T n name run v L instance h c e begun r d =
    subst (IsStoppedIn P T L run.timeline.line.most instance n run.account) (sym e)
    (stopped_in P T L instance n h run run (Invalid (breaches.UnknownAction n name)) c r.played refl
    (broken_at P T L instance h run.timeline.line run.account r.played (breaches.UnknownAction n name) begun (refl, record { present = r.present; due = d })
    (due_fails P T L instance h run.timeline.line run.account (plan.UnknownAction name) (breach (model.UnknownAction run.timeline.line.now.acted name)) r d (breach_fails (model.UnknownAction run.timeline.line.now.acted name) [])))
    refl)

wrong_stops : {V : Type 0} (P : Problem) (T : Telling P V) (n : ℕ) (name : List ℕ) (run : Progress V) (v : Verdict Frac64) (L : Plan) (instance : ℕ → List Test) (h : List Part) → CanGoOn P run.timeline → v ≡ Invalid (breaches.WrongArguments n name) → HasBegun L → IsReached P T L instance run.timeline.line.now.acted run.timeline.line.now.time h run.timeline.line run.account → next_line L run.timeline.line.now ≡ Some (ActLine run.timeline.line.now.time (plan.WrongArguments name)) → IsStoppedIn P T L run.timeline.line.most instance n run.account v
wrong_stops P T n name run v L instance h c e begun r d =
    subst (IsStoppedIn P T L run.timeline.line.most instance n run.account) (sym e)
    (stopped_in P T L instance n h run run (Invalid (breaches.WrongArguments n name)) c r.played refl
    (broken_at P T L instance h run.timeline.line run.account r.played (breaches.WrongArguments n name) begun (refl, record { present = r.present; due = d })
    (due_fails P T L instance h run.timeline.line run.account (plan.WrongArguments name) (breach (model.WrongArguments run.timeline.line.now.acted name)) r d (breach_fails (model.WrongArguments run.timeline.line.now.acted name) [])))
    refl)

-- a limit of its instance is passed
instance_fails : {V : Type 0} (w : Pair) (P : Problem) (T : Telling P V) (k : Call) (action : Action) (run : Progress V) (L : Plan) (instance : ℕ → List Test) (h : List Part) (test : Test) → called_of w.domain w.problem k.name k.args ≡ Instance action → instance run.timeline.line.now.acted ≡ call_tests w k → IsReached P T L instance run.timeline.line.now.acted run.timeline.line.now.time h run.timeline.line run.account → next_line L run.timeline.line.now ≡ Some (ActLine run.timeline.line.now.time (called_of w.domain w.problem k.name k.args)) → FirstFailing IsFrac64 (call_tests w k) test → Fails P L run.timeline.line.most instance h test
instance_fails w P T k action run L instance h test i n r d f =
    fails_at P T L instance h run.timeline.line run.account r.played test
    (due_fails P T L instance h run.timeline.line run.account (Instance action) test r (d ∙ ap (λ x. Some (ActLine run.timeline.line.now.time x)) i)
    (fails_left (instance run.timeline.line.now.acted) (act_tests run.timeline.line.now.acted action run.timeline.line.now.state) test (subst (λ (ts : List Test). FirstFailing IsFrac64 ts test) (sym n) f)))

call_stops : {V : Type 0} (w : Pair) (P : Problem) (T : Telling P V) (n : ℕ) (k : Call) (fault : InstanceFault) (run : Progress V) (v : Verdict Frac64) (L : Plan) (instance : ℕ → List Test) (h : List Part) → CanGoOn P run.timeline → RefusesCall IsFrac64 w.domain k.name (called_of w.domain w.problem k.name k.args) fault → CallVerdict fault n k.name v → HasBegun L → instance run.timeline.line.now.acted ≡ call_tests w k → IsReached P T L instance run.timeline.line.now.acted run.timeline.line.now.time h run.timeline.line run.account → next_line L run.timeline.line.now ≡ Some (ActLine run.timeline.line.now.time (called_of w.domain w.problem k.name k.args)) → IsStoppedIn P T L run.timeline.line.most instance n run.account v
call_stops w P T n k instances.UnknownAction run v L instance h c f e begun i r d =
    unknown_stops P T n k.name run v L instance h c e begun r (d ∙ ap (λ x. Some (ActLine run.timeline.line.now.time x)) f)
call_stops w P T n k instances.WrongArguments run v L instance h c f e begun i r d =
    wrong_stops P T n k.name run v L instance h c e begun r (d ∙ ap (λ x. Some (ActLine run.timeline.line.now.time x)) f)
call_stops w P T n k instances.TooManyNodes run v L instance h c f e begun i r d =
    subst (IsStoppedIn P T L run.timeline.line.most instance n run.account) (sym e)
    (stopped_in P T L instance n h run run (Other (TooMany kinds.Nodes 1000000)) c r.played refl
    (refl, refl, instance_fails w P T k f.action run L instance h (too_many_nodes 1000000) f.is i r d (call_too_large w k f)) tt)
call_stops w P T n k (instances.Literal span) run v L instance h c f e begun i r d =
    subst (IsStoppedIn P T L run.timeline.line.most instance n run.account) (sym e)
    (stopped_in P T L instance n h run run (Other (Literal texts.Domain span.start span.«end»)) c r.played refl
    (instance_fails w P T k f.action run L instance h (no_number span.start span.«end») f.is i r d (call_unfit w k span f)) tt)
call_stops w P T n k instances.Memory run v L instance h c f e begun i r d = absurd e

pub call_halts_in : {V : Type 0} (w : Pair) (P : Problem) (T : Telling P V) (n : ℕ) (k : Call) (fault : InstanceFault) (run : Progress V) (out : List ℕ) (halt : Halt) → CanGoOn P run.timeline → RefusesCall IsFrac64 w.domain k.name (called_of w.domain w.problem k.name k.args) fault → CallHalts fault n k.name halt → IsPartOut Memory out (T.bytes run.account.told) → HaltsInAct w P T n k run (left_by out run) halt
call_halts_in w P T n k fault run out (Refused v) c f e o = record {
  stops = λ L instance h begun i r d. call_stops w P T n k fault run v L instance h c f e begun i r d;
}
call_halts_in w P T n k fault run out Memory c f e o = act_wants w P T n k run (left_by out run) c o
call_halts_in w P T n k fault run out WriteFault c f e o = absurd e

-- what the action asks fails
act_fails : {V : Type 0} (w : Pair) (P : Problem) (T : Telling P V) (k : Call) (action : Action) (run : Progress V) (L : Plan) (instance : ℕ → List Test) (h : List Part) (test : Test) → IsInstance IsFrac64 w.domain k.name (called_of w.domain w.problem k.name k.args) action → instance run.timeline.line.now.acted ≡ call_tests w k → IsReached P T L instance run.timeline.line.now.acted run.timeline.line.now.time h run.timeline.line run.account → next_line L run.timeline.line.now ≡ Some (ActLine run.timeline.line.now.time (Instance action)) → FirstFailing IsFrac64 (act_tests run.timeline.line.now.acted action run.timeline.line.now.state) test → FirstFailing IsFrac64 (asked P L run.timeline.line.most instance run.timeline.line.entries run.timeline.line.now) test
act_fails w P T k action run L instance h test i n r d f =
    due_fails P T L instance h run.timeline.line run.account (Instance action) test r d
    (fails_right (instance run.timeline.line.now.acted) (act_tests run.timeline.line.now.acted action run.timeline.line.now.state) test (subst (AllPass IsFrac64) (sym n) (call_passes w k action i)) f)

act_names : (action : Action) (n : ℕ) (s : State) (b : Breach Frac64) (label : List ℕ) → label ≡ action.label → BreaksAct action n s b → BreachNames n label b
act_names action n s (breaches.Precondition line whose) label e r = (r.line_is, r.label_is ∙ sym e)
act_names action n s (breaches.Conflict f) label e r = tt
act_names action n s (breaches.NoValue f) label e r = tt
act_names action n s (breaches.UnknownAction line name) label e r = absurd r
act_names action n s (breaches.WrongArguments line name) label e r = absurd r
act_names action n s (breaches.TimeGoesBack line) label e r = r
act_names action n s (breaches.AfterEnd line) label e r = r
act_names action n s (breaches.Repeats x) label e r = tt
act_names action n s (breaches.Unsettled x) label e r = tt
act_names action n s (breaches.Coupled x y) label e r = tt
act_names action n s (breaches.NoFirstMoment x t) label e r = tt
act_names action n s breaches.Goal label e r = tt

act_stops : {V : Type 0} (w : Pair) (P : Problem) (T : Telling P V) (n : ℕ) (k : Call) (action : Action) (old new : Progress V) (out : List ℕ) (stop : Stop Frac64) (L : Plan) (instance : ℕ → List Test) (h : List Part) → CanGoOn P old.timeline → IsInstance IsFrac64 w.domain k.name (called_of w.domain w.problem k.name k.args) action → ActTold {A = Unit {0}} fraction_of IsFrac64 P action n old.timeline.line new.timeline.line (Err stop) → new.account ≡ old.account → HasBegun L → instance old.timeline.line.now.acted ≡ call_tests w k → IsReached P T L instance old.timeline.line.now.acted old.timeline.line.now.time h old.timeline.line old.account → next_line L old.timeline.line.now ≡ Some (ActLine old.timeline.line.now.time (Instance action)) → IsPartOut Memory out (T.bytes old.account.told) → StopsIn P T L old.timeline.line.most instance n (left_by out new) (stop_halt stop)
act_stops w P T n k action old new out (stops.Breach b) L instance h c i t r begun m q d o =
    stopped_in P T L instance n h old new (Invalid b) c q.played r
    (broken_at P T L instance h old.timeline.line old.account q.played b begun (act_breaks fraction_of P L old.timeline.line action n b q.present d t.means)
    (and_then (breach_of fraction_of old.timeline.line.now.acted b) (λ x. FirstFailing IsFrac64 (act_tests old.timeline.line.now.acted action old.timeline.line.now.state) (breach x)) (λ x. FirstFailing IsFrac64 (asked P L old.timeline.line.most instance old.timeline.line.entries old.timeline.line.now) (breach x))
    (λ x f. act_fails w P T k action old L instance h (breach x) i m q d f) t.first))
    (act_names action n old.timeline.line.now.state b (called_label (next_line L old.timeline.line.now)) (ap called_label d) t.means)
act_stops w P T n k action old new out (stops.Limit l) L instance h c i t r begun m q d o =
    stopped_in P T L instance n h old new (Beyond l) c q.played r
    (fails_at P T L instance h old.timeline.line old.account q.played (of_limit fraction_of l) (act_fails w P T k action old L instance h (of_limit fraction_of l) i m q d t.first)) tt
act_stops w P T n k action old new out stops.Ended L instance h c i t r begun m q d o = cut_short P T L instance h old.timeline.line old.account out Memory q.played c.within o
act_stops w P T n k action old new out stops.Memory L instance h c i t r begun m q d o = cut_short P T L instance h old.timeline.line old.account out Memory q.played c.within o

pub act_halts_in : {V : Type 0} (w : Pair) (P : Problem) (T : Telling P V) (n : ℕ) (k : Call) (action : Action) (old new : Progress V) (out : List ℕ) (stop : Stop Frac64) (halt : Halt) → CanGoOn P old.timeline → IsInstance IsFrac64 w.domain k.name (called_of w.domain w.problem k.name k.args) action → halt ≡ stop_halt stop → ActTold {A = Unit {0}} fraction_of IsFrac64 P action n old.timeline.line new.timeline.line (Err stop) → new.account ≡ old.account → IsPartOut Memory out (T.bytes old.account.told) → HaltsInAct w P T n k old (left_by out new) halt
act_halts_in w P T n k action old new out stop halt c i e t r o = record {
  stops = λ L instance h begun m q d.
      subst (StopsIn P T L old.timeline.line.most instance n (left_by out new)) (sym e)
      (act_stops w P T n k action old new out stop L instance h c i t r begun m q (d ∙ ap (λ x. Some (ActLine old.timeline.line.now.time x)) i.is) o);
}
