-- What an action and a line do to a run.
use Rattle.std.proofs.Common.{◌≡◌, ℕ, suc, ◌≤◌, true, false, List, [], ◌∷◌, ◌++◌, refl, ap, sym, subst, ◌∙◌, append-nil, add-zero, arith}
use Rattle.std.specs.Prelude.{Option, Some, None, length, map, Ok, codes, All}
use Rattle.plus_fraction.specs.Fraction.{Fraction, ◌≤ℚ◌}
use Rattle.plus_model.specs.Terms.{Action, State, Problem}
use Rattle.plus_model.specs.Plan as model
use Rattle.plus_model.specs.Plan.{Called, Instance, ActLine, EndLine, Plan}
use Rattle.plus_model.specs.History.{Part, Act}
use Rattle.plus_model.specs.Trajectory.{next_line, NextBy}
use Rattle.plus_number.specs.declared.frac.Frac64.{Frac64}
use Rattle.plus_number.specs.Frac.{fraction_of, IsFrac64}
use Rattle.plus_state.specs.View.{Labels}
use Rattle.plus_tree.specs.declared.trees.Call.{Call}
use Rattle.plus_tree.specs.declared.trees.Domain.{Domain}
use Rattle.plus_tree.specs.declared.trees.Problem as tree
use Rattle.plus_model.proofs.Paths.{one_trajectory}
use Rattle.plus_timeline.specs.Timeline.{TimelineView}
use Rattle.plus_timeline.specs.Act.{DoesAct}
use Rattle.plus_indexed.specs.Knows.{Knows}
use Rattle.plus_timeline.specs.Laws.{AddsPart}
use Rattle.plus_plan.specs.declared.forms.Line.{Line}
use Rattle.plus_plan.specs.declared.forms.Line.TheVariants as lines
use Rattle.plus_plan.specs.declared.forms.PlanForm.TheVariants.{Timed}
use Rattle.plus_plan.specs.Lines.{plan_lines}
use Rattle.plus_plan.specs.declared.forms.Time.{Time}
use Rattle.plus_plan.specs.TimeValue.{value_of}
use Rattle.plus_expansion.specs.Counting.{IsGroundable}
use Rattle.plus_expansion.specs.Expansion.{expanded, labels_meant}
use Rattle.plus_expansion.specs.Calls.{called_of}
use Rattle.plus_validator.specs.Account.{Account, Progress}
use Rattle.plus_validator.specs.Accepted.{IsAccepted}
use Rattle.plus_validator.specs.Plans.{Pair, pair, line_meant, plan_of, HasTime, HasValue, lines_meant}
use Rattle.plus_indexed.specs.Indexed.{IndexedView}
use Rattle.plus_model.proofs.Moments.{≤ℚ_refl}
use Rattle.plus_timeline.specs.Advance.{IsAhead}
use Rattle.plus_timeline.specs.StepsLeft.{HasRoom}
use Rattle.plus_validator.specs.Standing.{IsTold, IsPlayed, CanGoOn, CanReach, IsReady, IsReached, TellsAct}
use Rattle.plus_validator.specs.Told.{Telling}
use Rattle.plus_validator.specs.Handing.{Tellings}
use Rattle.plus_report.specs.Report.{report_of}
use Rattle.plus_validator.specs.Running.{IsOnWay, Reaches}
use Rattle.plus_validator.specs.Playing.{Readied, IsResting, ActsOnce, PlaysLine, IsInTime, Closes, PlaysAll, Ends, Begins, ReadiedFor}
use Rattle.plus_validator.proofs.FiresLemmas.{fires_exactly}
use Rattle.plus_validator.specs.Feeding.{HasPlayed}
use Rattle.plus_validator.proofs.Texts.{plan_of-append}
use Rattle.plus_timeline.proofs.Played.{played_on, entries_of-append, asked_same}
use Rattle.plus_validator.proofs.Steps.{told_on}
use Rattle.plus_validator.proofs.Lines.{with_line, has_begun, read_on, read_target, act_due, acted_target, act_ready, end_ready, Agree}
use Rattle.std.proofs.lemmas.List.Elements.{All-cons, All-head, All-nil, All-tail}
use Rattle.plus_stretch.specs.Tests.{AllPass, Test}
use Rattle.plus_ground.specs.Refusals.{IsInstance}
use Rattle.plus_timeline.specs.Played.{entries_of}
use Rattle.plus_validator.specs.Asking.{NoneFails, call_tests, firings_of, instances_of, line_instances}
use Rattle.plus_timeline.specs.Asked.{act_tests}
use Rattle.plus_validator.proofs.Asking.{all_pass, line_passes}
use Rattle.plus_validator.proofs.CalledTests.{call_passes, instance_is, instances_agree, same_instances}

-- the action of the next line may come next
act_adds : (P : Problem) (L : Plan) (action : Action) (old new : TimelineView) → next_line L old.now ≡ Some (ActLine old.now.time (Instance action)) → (a : DoesAct P action old new) → AddsPart P L old new (Act old.now.acted a.after)
act_adds P L action old new n a = record {
  next = subst (λ (o : Option (List ℕ)). NextBy P L old.now o (Act old.now.acted a.after)) (sym a.moment) (record { action = action; line = refl; due = n; acts = a.acts });
  now = ap (λ v. v.now) a.is;
}

-- where the action that is due is done, all that is asked passes
act_passes : {V : Type 0} (d : Pair) (P : Problem) (T : Telling P V) (L : Plan) (instance : ℕ → List Test) (h : List Part) (call : Call) (action : Action) (v : TimelineView) (account : Account V) → IsInstance IsFrac64 d.domain call.name (called_of d.domain d.problem call.name call.args) action → instance v.now.acted ≡ call_tests d call → IsReached P T L instance v.now.acted v.now.time h v account → next_line L v.now ≡ Some (ActLine v.now.time (Instance action)) → AllPass IsFrac64 (act_tests v.now.acted action v.now.state) → NoneFails P L v.most instance h
act_passes d P T L instance h call action v account i n s due x =
    subst (AllPass IsFrac64) (asked_same s.played)
    (line_passes P L v.most instance v.entries v.now (Some (ActLine v.now.time (Instance action))) due s.present s.over s.passed
    (all_pass (instance v.now.acted) (act_tests v.now.acted action v.now.state) (subst (AllPass IsFrac64) (sym n) (call_passes d call action i)) x))

pub acts_once : {V : Type 0} (d : Pair) (P : Problem) (T : Telling P V) (call : Call) (action : Action) (old new : Progress V) → CanGoOn P old.timeline → IsInstance IsFrac64 d.domain call.name (called_of d.domain d.problem call.name call.args) action → AllPass IsFrac64 (act_tests old.timeline.line.now.acted action old.timeline.line.now.state) → DoesAct P action old.timeline.line new.timeline.line → new.ended ≡ old.ended → TellsAct P T action old.timeline.line new.timeline.line old.account.told new.account.told → new.account.entries ≡ old.account.entries → new.account.firings ≡ old.account.firings → Knows IsFrac64 P new.timeline → ActsOnce d P T call old new
acts_once d P T call action old new c i x a e r en fi k = record {
  can = record {
    knows = k;
    going = ap (λ v. v.ended) a.is ∙ c.going;
    within = (let w = c.within in let x : new.timeline.line.entries ≡ old.timeline.line.entries = ap (λ v. v.entries) a.is in let y : new.timeline.line.most ≡ old.timeline.line.most = ap (λ v. v.most) a.is in omega arith);
  };
  moment = ap (λ v. v.now.running) a.is;
  most = ap (λ v. v.most) a.is;
  ended = e;
  time = ap (λ v. v.now.time) a.is;
  acted_is = ap (λ v. v.now.acted) a.is;
  acted = λ L instance h b n s due.
      let due' : next_line L old.timeline.line.now ≡ Some (ActLine old.timeline.line.now.time (Instance action)) = due ∙ ap (λ x. Some (ActLine old.timeline.line.now.time x)) i.is in
      let part : Part = Act old.timeline.line.now.acted a.after in (
        h ++ part ∷ [],
        played_on (IsTold P T L new.account) new.timeline.line part b s.played
            (act_passes d P T L instance h call action old.timeline.line old.account i n s due' x) (ap (λ v. v.most) a.is)
            (act_adds P L action old.timeline.line new.timeline.line due' a)
            (ap (λ v. v.entries) a.is ∙ s.played.entries ∙ sym (add-zero (entries_of h)) ∙ sym (entries_of-append h part))
            (told_on P T L h old.account new.account part s.played.beside
            (subst (λ (x : State). T.Tells L (h ++ Act old.timeline.line.now.acted x ∷ []) new.account.told) (ap (λ v. v.now.state) a.is)
            (r L h s.played.prefix s.played.now due' s.played.beside.tells))
            (en ∙ sym (add-zero old.account.entries)) (fi ∙ sym (add-zero old.account.firings))),
      );
}

-- ---- lines

-- the plan with one more line of the text
pub with_meant : (d : Pair) (ls : List Line) (line : Line) (meant : model.Line) → line_meant d line ≡ meant ∷ [] → with_line (plan_of d ls false) meant ≡ plan_of d (ls ++ line ∷ []) false
with_meant d ls line meant e =
    ap (λ (ks : List model.Line). let L : Plan = record { lines = lines_meant d ls ++ ks; closed = false } in L) (sym e) ∙ sym (plan_of-append d ls line false)

-- a line that is no line of the plan leaves the run as it is
pub no_line : {V : Type 0} (d : Pair) (P : Problem) (T : Telling P V) (line : Line) (run : Progress V) → line_meant d line ≡ [] → line_instances d line ≡ [] → HasValue line → CanGoOn P run.timeline → run.timeline.line.now.running ≡ None → PlaysLine d P T line run run
no_line d P T line run e f w c m = record {
  rests = record { can = c; moment = m; most_is = refl };
  value = w;
  ready = λ ls h r. (
    h,
    subst (λ (L : Plan). Readied P T L (instances_of d (ls ++ line ∷ [])) h run)
        (ap (λ (ks : List model.Line). let L : Plan = record { lines = ks; closed = false } in L) (sym (append-nil (lines_meant d ls)) ∙ ap (λ ks. lines_meant d ls ++ ks) (sym e)) ∙ sym (plan_of-append d ls line false))
        (subst (λ (x : ℕ → List Test). Readied P T (plan_of d ls false) x h run) (same_instances d ls line f) r),
  );
}

-- a blank line, or one with no time
abbrev pub IsNoLine : Line → Type 0
IsNoLine lines.Blank = Unit {0}
IsNoLine (lines.Act n t c) = ⊥
IsNoLine (lines.End n t) = ⊥
IsNoLine (lines.Step n c) = Unit {0}

pub nothing_played : {V : Type 0} (d : Pair) (P : Problem) (T : Telling P V) (line : Line) (run : Progress V) → IsNoLine line → CanGoOn P run.timeline → run.timeline.line.now.running ≡ None → PlaysLine d P T line run run
nothing_played d P T lines.Blank run q c m = no_line d P T lines.Blank run refl refl (record { fits = λ t h. absurd h }) c m
nothing_played d P T (lines.Act n t k) run q c m = absurd q
nothing_played d P T (lines.End n t) run q c m = absurd q
nothing_played d P T (lines.Step n k) run q c m = no_line d P T (lines.Step n k) run refl refl (record { fits = λ t h. absurd h }) c m

-- the time of a line that may be played is a value
pub has_value : (line : Line) (time : Time) (at : Frac64) → ((t : Time) → HasTime line t → time ≡ t) → fraction_of at ≡ value_of time → HasValue line
has_value line time at is e = record {
  fits = λ t h. subst (λ (x : Time). IsFrac64 (value_of x)) (is t h) (subst IsFrac64 e (at.top_fits, at.bottom_fits));
}

-- the run stands ready for a line at this time
pub not_ended : {V : Type 0} (P : Problem) (T : Telling P V) (L : Plan) (instance : ℕ → List Test) (h : List Part) (run : Progress V) → run.ended ≡ false → Readied P T L instance h run → IsReady P T L instance false h run.timeline.line run.account
not_ended P T L instance h run e r = subst (λ b. IsReady P T L instance b h run.timeline.line run.account) e r

-- and is then on its way to it
pub on_way : {V : Type 0} (P : Problem) (T : Telling P V) (L : Plan) (instance instance' : ℕ → List Test) (h : List Part) (run : Progress V) (line : model.Line) (u : Fraction) → Agree L instance instance' → u ≡ model.time_of line → run.timeline.line.now.time ≤ℚ u → IsReady P T L instance false h run.timeline.line run.account → IsOnWay P T (with_line L line) instance' u (length L.lines) h run
on_way P T L instance instance' h run line u a e le r = record {
  played = read_on P T L instance instance' h run.timeline.line run.account line a r (subst (λ x. run.timeline.line.now.time ≤ℚ x) e le);
  target_is = read_target P T L instance h run.timeline.line run.account line r ∙ sym e;
  acted_is = r.acted;
}

-- the same for a line of the text
pub line_on_way : {V : Type 0} (d : Pair) (P : Problem) (T : Telling P V) (ls : List Line) (line : Line) (h : List Part) (run : Progress V) (meant : model.Line) (time : Time) (at : Frac64) → value_of time ≡ model.time_of meant → IsInTime run.ended run.timeline.line.now.time time at → ReadiedFor d P T ls h run → IsOnWay P T (with_line (plan_of d ls false) meant) (instances_of d (ls ++ line ∷ [])) (fraction_of at) (length (lines_meant d ls)) h run
line_on_way d P T ls line h run meant time at e i r =
    on_way P T (plan_of d ls false) (instances_of d ls) (instances_of d (ls ++ line ∷ [])) h run meant (fraction_of at) (instances_agree d ls (line ∷ [])) (i.is ∙ e) i.ahead
    (not_ended P T (plan_of d ls false) (instances_of d ls) h run i.not_ended r)

-- the action of a line is due
pub act_reached : {V : Type 0} (d : Pair) (P : Problem) (T : Telling P V) (n : ℕ) (time : Time) (call : Call) (at : Frac64) (old there : Progress V) → IsInTime old.ended old.timeline.line.now.time time at → Reaches P T (fraction_of at) old there → (ls : List Line) (h : List Part) → ReadiedFor d P T ls h old → (x : List Part) × IsReached P T (with_line (plan_of d ls false) (ActLine (value_of time) (called_of d.domain d.problem call.name call.args))) (instances_of d (ls ++ lines.Act n time call ∷ [])) (length (lines_meant d ls)) (value_of time) x there.timeline.line there.account
act_reached d P T n time call at old there i r ls h ready =
    let line : model.Line = ActLine (value_of time) (called_of d.domain d.problem call.name call.args) in
    let instance : ℕ → List Test = instances_of d (ls ++ lines.Act n time call ∷ []) in
    let x = r.reached (with_line (plan_of d ls false) line) instance (length (lines_meant d ls)) h (has_begun (plan_of d ls false) line) (line_on_way d P T ls (lines.Act n time call) h old line time at refl i ready) in
    (x.0, subst (λ u. IsReached P T (with_line (plan_of d ls false) line) instance (length (lines_meant d ls)) u x.0 there.timeline.line there.account) i.is x.1)

-- the same over the present time
pub reached_now : {V : Type 0} (P : Problem) (T : Telling P V) (L : Plan) (instance : ℕ → List Test) (acted : ℕ) (time : Fraction) (h : List Part) (t : TimelineView) (account : Account V) → IsReached P T L instance acted time h t account → IsReached P T L instance t.now.acted t.now.time h t account
reached_now P T L instance acted time h t account r = record { played = r.played; present = r.present; over = r.over; passed = r.passed; acted_is = refl; time_is = refl }

-- and is done
pub act_once : {V : Type 0} (d : Pair) (P : Problem) (T : Telling P V) (n : ℕ) (time : Time) (call : Call) (there acted : Progress V) (ls : List Line) (x : List Part) → ActsOnce d P T call there acted → IsReached P T (with_line (plan_of d ls false) (ActLine (value_of time) (called_of d.domain d.problem call.name call.args))) (instances_of d (ls ++ lines.Act n time call ∷ [])) (length (lines_meant d ls)) (value_of time) x there.timeline.line there.account → (y : List Part) × IsPlayed P T (with_line (plan_of d ls false) (ActLine (value_of time) (called_of d.domain d.problem call.name call.args))) (instances_of d (ls ++ lines.Act n time call ∷ [])) y acted.timeline.line acted.account
act_once d P T n time call there acted ls x a k =
    let called : Called = called_of d.domain d.problem call.name call.args in
    let L : Plan = plan_of d ls false in
    let line : model.Line = ActLine (value_of time) called in
    let instance : ℕ → List Test = instances_of d (ls ++ lines.Act n time call ∷ []) in
    a.acted (with_line L line) instance x (has_begun L line) (instance_is d ls n time call there.timeline.line.now.acted k.acted_is)
    (reached_now P T (with_line L line) instance (length (lines_meant d ls)) (value_of time) x there.timeline.line there.account k)
    (act_due P T L instance x there.timeline.line there.account called (value_of time) k)

-- the end of the plan is played
pub end_played : {V : Type 0} (d : Pair) (P : Problem) (T : Telling P V) (n : ℕ) (time : Time) (at : Frac64) (old mid new : Progress V) → IsInTime old.ended old.timeline.line.now.time time at → Reaches P T (fraction_of at) old mid → new.timeline ≡ mid.timeline → new.account ≡ mid.account → new.ended ≡ true → PlaysLine d P T (lines.End n time) old new
end_played {V} d P T n time at old mid new i r t w e = record {
  rests = record { can = subst (CanGoOn P) (sym t) r.can; moment = ap (λ v. v.line.now.running) t ∙ r.moment; most_is = ap (λ v. v.line.most) t ∙ r.most };
  value = has_value (lines.End n time) time at (λ x h. h) i.is;
  ready = λ ls h ready.
      let L : Plan = plan_of d ls false in
      let instance : ℕ → List Test = instances_of d (ls ++ lines.End n time ∷ []) in
      let line : model.Line = EndLine (value_of time) in
      let there = r.reached (with_line L line) instance (length L.lines) h (has_begun L line) (line_on_way d P T ls (lines.End n time) h old line time at refl i ready) in
      let there_at : IsReached P T (with_line L line) instance (length L.lines) (value_of time) there.0 mid.timeline.line mid.account =
      subst (λ x. IsReached P T (with_line L line) instance (length L.lines) x there.0 mid.timeline.line mid.account) i.is there.1 in
      let done = end_ready P T L instance there.0 mid.timeline.line mid.account (value_of time) refl there_at in
      let moved : IsReady P T (with_line L line) instance true there.0 new.timeline.line new.account =
      subst (λ v. IsReady P T (with_line L line) instance true there.0 v.line new.account) (sym t)
      (subst (λ (x : Account V). IsReady P T (with_line L line) instance true there.0 mid.timeline.line x) (sym w) done) in
      let ended : Readied P T (with_line L line) instance there.0 new = subst (λ b. IsReady P T (with_line L line) instance b there.0 new.timeline.line new.account) (sym e) moved in
      (there.0, subst (λ (M : Plan). Readied P T M instance there.0 new) (with_meant d ls (lines.End n time) line refl) ended);
}

-- an action is played
pub act_played : {V : Type 0} (d : Pair) (P : Problem) (T : Telling P V) (n : ℕ) (time : Time) (call : Call) (at : Frac64) (now : Fraction) (old there acted new : Progress V) → IsInTime old.ended old.timeline.line.now.time time at → Reaches P T (fraction_of at) old there → ActsOnce d P T call there acted → now ≡ acted.timeline.line.now.time → Reaches P T now acted new → PlaysLine d P T (lines.Act n time call) old new
act_played d P T n time call at now old there acted new i r a e s = record {
  rests = record { can = s.can; moment = s.moment; most_is = s.most ∙ a.most ∙ r.most };
  value = has_value (lines.Act n time call) time at (λ x h. h) i.is;
  ready = λ ls h ready.
      let called : Called = called_of d.domain d.problem call.name call.args in
      let line : model.Line = ActLine (value_of time) called in
      let L : Plan = plan_of d ls false in
      let L' : Plan = with_line L line in
      let instance : ℕ → List Test = instances_of d (ls ++ lines.Act n time call ∷ []) in
      let x = act_reached d P T n time call at old there i r ls h ready in
      let y = act_once d P T n time call there acted ls x.0 a x.1 in
      let many : acted.timeline.line.now.acted ≡ suc (length L.lines) = a.acted_is ∙ ap suc x.1.acted_is in
      let z = s.reached L' instance (suc (length L.lines)) y.0 (has_begun L line) (record {
        played = y.1;
        target_is = acted_target L line acted.timeline.line.now many ∙ sym e;
        acted_is = many;
      }) in
      let z_at : IsReached P T L' instance (suc (length L.lines)) (value_of time) z.0 new.timeline.line new.account =
      subst (λ u. IsReached P T L' instance (suc (length L.lines)) u z.0 new.timeline.line new.account) (e ∙ a.time ∙ x.1.time_is) z.1 in
      let done = act_ready P T L instance z.0 new.timeline.line new.account called (value_of time) refl z_at in
      let ended : Readied P T L' instance z.0 new = subst (λ b. IsReady P T L' instance b z.0 new.timeline.line new.account) (sym (s.ended ∙ a.ended ∙ r.ended ∙ i.not_ended)) done in
      (z.0, subst (λ (M : Plan). Readied P T M instance z.0 new) (with_meant d ls (lines.Act n time call) line refl) ended);
}

-- a run at a moment may go on to the present time
pub reach_now : (P : Problem) (u : Fraction) (t : IndexedView) → CanGoOn P t → t.line.now.running ≡ None → u ≡ t.line.now.time → CanReach P u t
reach_now P u t c m e = record {
  goes = c;
  ahead = subst (λ r. IsAhead r t.line.now.time u) (sym m) (subst (λ x. t.line.now.time ≤ℚ x) (sym e) (≤ℚ_refl t.line.now.time));
  room = subst (λ r. HasRoom r t.line.entries t.line.most) (sym m) tt;
}

-- ---- the lines of a text

pub played_none : {V : Type 0} (d : Pair) (P : Problem) (T : Telling P V) (run : Progress V) → IsResting P run.timeline.line.most run.timeline → HasPlayed d P T [] run run
played_none d P T run r = record { rests = r; times = All-nil HasValue; ready = λ h k. (h, k) }

pub all_more : {A : Type 0} (P : A → Type 0) (xs : List A) (x : A) → All P xs → P x → All P (xs ++ x ∷ [])
all_more P [] x a h = All-cons P x [] h a
all_more P (y ∷ xs) x a h = All-cons P y (xs ++ x ∷ []) (All-head P y xs a) (all_more P xs x (All-tail P y xs a) h)

pub played_more : {V : Type 0} (d : Pair) (P : Problem) (T : Telling P V) (lines : List Line) (line : Line) (first run new : Progress V) → HasPlayed d P T lines first run → PlaysLine d P T line run new → HasPlayed d P T (lines ++ line ∷ []) first new
played_more d P T lines line first run new r p = record {
  rests = record { can = p.rests.can; moment = p.rests.moment; most_is = p.rests.most_is ∙ r.rests.most_is };
  times = all_more HasValue lines line r.times p.value;
  ready = λ h k.
      let a = r.ready h k in
      p.ready lines a.0 a.1;
}

-- the text is played to its end
abbrev pub plays_all : {V : Type 0} (d : Pair) (P : Problem) (T : Telling P V) (text : List ℕ) (lines : List Line) (old mid new : Progress V) → HasPlayed d P T lines old mid → plan_lines Timed text ≡ map Ok lines → Closes P T mid new → PlaysAll d P T text old new
plays_all d P T text lines old mid new r e c = record {
  lines = lines;
  read = e;
  times = r.times;
  ends = λ h k.
      let a = r.ready h k in
      let b = c.ends (plan_of d lines false) (instances_of d lines) a.0 a.1 in
      (b.0, subst (λ m. Ends P T (plan_of d lines true) m (instances_of d lines) b.0 new.account) r.rests.most_is b.1);
}

-- what may have been written where this is told: the report of that history, and more behind it
abbrev pub Written : {V : Type 0} → Tellings V → Domain → tree.Problem → V → List ℕ → Type 0
Written telling d p told more =
    (L : Plan) (h : List Part) → (telling (labels_meant d p) (expanded d p)).Tells L h told
    → (written : List ℕ) × (written ≡ report_of (labels_meant d p) (expanded d p) L h ++ more)

-- accepted, with what is counted
pub record Accepted {V : Type 0} (telling : Tellings V) (d : Domain) (p : tree.Problem) (most : ℕ) (text : List ℕ) (account : Account V) (more : List ℕ) (w : Written telling d p account.told more) : Type 0 where
  pub plan : Plan
  pub history : List Part
  pub tells : (telling (labels_meant d p) (expanded d p)).Tells plan history account.told
  pub accepted : IsAccepted d p most text (w plan history tells).0
  pub entries : account.entries ≡ entries_of accepted.history
  pub firings : account.firings ≡ firings_of accepted.history

pub accepted : {V : Type 0} (telling : Tellings V) (d : Domain) (p : tree.Problem) (N : Labels) (P : Problem) (most : ℕ) (text : List ℕ) (old new : Progress V) → IsGroundable IsFrac64 d p → length text ≤ 1048576 → P ≡ expanded d p → N ≡ labels_meant d p → Begins P (telling N P) most old → PlaysAll (pair d p) P (telling N P) text old new → (written : Written telling d p new.account.told (codes "valid\n")) → Accepted telling d p most text new.account (codes "valid\n") written
accepted telling d p N P most text old new z w e f b a k =
    let start = b.ready (plan_of (pair d p) [] false) (instances_of (pair d p) []) refl refl in
    let finish = a.ends start.0 start.1 in
    let i = instances_of (pair d p) a.lines in
    let ends : Ends (expanded d p) (telling (labels_meant d p) (expanded d p)) (plan_of (pair d p) a.lines true) most i finish.0 new.account =
    subst (λ (M : Labels). Ends (expanded d p) (telling M (expanded d p)) (plan_of (pair d p) a.lines true) most i finish.0 new.account) f
    (subst (λ (Q : Problem). Ends Q (telling N Q) (plan_of (pair d p) a.lines true) most i finish.0 new.account) e
    (subst (λ m. Ends P (telling N P) (plan_of (pair d p) a.lines true) m i finish.0 new.account) b.rests.most_is finish.1)) in
    record {
      plan = plan_of (pair d p) a.lines true;
      history = finish.0;
      tells = ends.told.tells;
      accepted = record {
        groundable = z;
        within = w;
        lines = a.lines;
        read = a.read;
        history = finish.0;
        happens = ends.happens;
        only = λ other t. one_trajectory (expanded d p) (plan_of (pair d p) a.lines true) other finish.0 t ends.happens;
        fires = fires_exactly (expanded d p) (plan_of (pair d p) a.lines true) finish.0 ends.happens;
        few = ends.few;
        times = a.times;
        clear = ends.clear;
        passed = ends.passed;
        written = (k (plan_of (pair d p) a.lines true) finish.0 ends.told.tells).1;
      };
      entries = ends.told.entries;
      firings = ends.told.firings;
    }
