-- What a caller that plays a plan may rely on.
use Rattle.std.proofs.Common.{◌≡◌, ℕ, List, refl, ap, sym, subst, ◌∙◌, inl, inr}
use Rattle.std.specs.Prelude.{Option, Some, None, IsSomeAnd}
use Rattle.plus_fraction.specs.Fraction.{Fraction}
use Rattle.plus_fraction.proofs.FractionAtMost.{≤ℚ_antisymm}
use Rattle.plus_model.specs.Terms.{Action, Problem, Timed}
use Rattle.plus_model.specs.Joint.{Fault}
use Rattle.plus_model.specs.Plan.{Plan, Instance}
use Rattle.plus_model.specs.History as history
use Rattle.plus_model.specs.History.{Part, View, view_after, Enter, Act}
use Rattle.plus_model.specs.Trajectory.{least, target, until, ActMayFollow, NextBy, Next as MayFollow, RunMayFollow, EnterMayFollow}
use Rattle.plus_model.specs.Breach.{JointFails, Stands, IsPresent, IsDue}
use Rattle.plus_model.proofs.Moments.{≤ℚ_refl, least_within, least_above}
use Rattle.plus_state.specs.declared.outcome.Breach.{Breach}
use Rattle.plus_state.specs.declared.outcome.Breach.TheVariants.{UnknownAction, WrongArguments, Precondition, TimeGoesBack, AfterEnd, Conflict, NoValue, Repeats, Unsettled, Coupled, NoFirstMoment, Goal}
use Rattle.plus_timeline.specs.declared.next.Next.TheVariants.{Round, Run, Entry, There}
use Rattle.plus_timeline.specs.Timeline.{TimelineView}
use Rattle.plus_timeline.specs.Advance.{RoundFails, BreaksOff, FiresRound, ClosesEntry, BeginsEntry, IsThere}
use Rattle.plus_timeline.specs.Act.{EffectsFail, BreaksAct}
use Rattle.plus_timeline.specs.Laws.{ActFollows, ActBreaks, AddsPart, AddsChange, IsDone, AdvanceFollows, DoneIsWorked, AdvanceBreaks, FinishBreaks}
use Rattle.plus_stretch.specs.Tests.{breach_of}

-- a part that may follow at a moment, or in a stretch
by_running : (P : Problem) (L : Plan) (v : View) (o : Option (List ℕ)) (part : Part) → v.running ≡ o → NextBy P L v o part → MayFollow P L v part
by_running P L v o part e n = subst (λ (r : Option (List ℕ)). NextBy P L v r part) (sym e) n

least_is : (P : Problem) (L : Plan) (v : View) (u : Fraction) → target L v ≡ u → least v.time u P.timed ≡ until P L v
least_is P L v u e = ap (λ t. least v.time t P.timed) (sym e)

pub least_same : (t : Fraction) (ls : List Timed) → least t t ls ≡ t
least_same t ls = ≤ℚ_antisymm (least t t ls) t (least_within t t ls) (least_above t t ls (≤ℚ_refl t))

round_follows : (P : Problem) (L : Plan) (old new : TimelineView) → FiresRound P old new → AddsChange P L old new (history.Round new.events new.now.state)
round_follows P L old new r =
    let e : new.events ≡ r.fired = ap (λ v. v.events) r.is in
    let s : new.now.state ≡ r.after = ap (λ v. v.now.state) r.is in
    let part : history.Round r.fired r.after ≡ history.Round new.events new.now.state = λ i. history.Round (sym e i) (sym s i) in
    record {
      adds = record {
        next = subst (MayFollow P L old.now) part (by_running P L old.now None (history.Round r.fired r.after) r.moment r.round);
        now = ap (λ v. v.now) r.is ∙ ap (view_after old.now) part;
      };
      before = ap (λ v. v.before) r.is;
    }

run_follows : (P : Problem) (L : Plan) (old new : TimelineView) (u : Fraction) → target L old.now ≡ u → ClosesEntry P (least old.now.time u P.timed) old new → AddsPart P L old new (history.Run new.running)
run_follows P L old new u t r =
    let part : history.Run r.members ≡ history.Run new.running = ap history.Run (sym (ap (λ v. v.running) r.is)) in
    let may : RunMayFollow P (until P L old.now) old.now r.members = subst (λ w. RunMayFollow P w old.now r.members) (least_is P L old.now u t) r.may in
    record {
      next = subst (MayFollow P L old.now) part (by_running P L old.now None (history.Run r.members) r.moment may);
      now = ap (λ v. v.now) r.is ∙ ap (view_after old.now) part;
    }

enter_follows : (P : Problem) (L : Plan) (old new : TimelineView) (u t : Fraction) → target L old.now ≡ u → BeginsEntry P (least old.now.time u P.timed) t old new → AddsChange P L old new (Enter new.now.time new.arrival new.now.state)
enter_follows P L old new u t g r =
    let a : new.now.time ≡ t = ap (λ v. v.now.time) r.is in
    let b : new.arrival ≡ r.arrived = ap (λ v. v.arrival) r.is in
    let d : new.now.state ≡ r.after = ap (λ v. v.now.state) r.is in
    let part : Enter t r.arrived r.after ≡ Enter new.now.time new.arrival new.now.state = λ i. Enter (sym a i) (sym b i) (sym d i) in
    let may : EnterMayFollow P (until P L old.now) old.now r.members t r.arrived r.after =
    subst (λ w. EnterMayFollow P w old.now r.members t r.arrived r.after) (least_is P L old.now u g) r.may in
    record {
      adds = record {
        next = subst (MayFollow P L old.now) part (by_running P L old.now (Some r.members) (Enter t r.arrived r.after) r.runs may);
        now = ap (λ v. v.now) r.is ∙ ap (view_after old.now) part;
      };
      before = ap (λ v. v.before) r.is;
    }

pub done_follows : (P : Problem) (L : Plan) (old new : TimelineView) (u : Fraction) → target L old.now ≡ u → IsThere P u old new → IsDone P L old new
done_follows P L old new u g r =
    let e : new.now ≡ old.now = ap (λ v. v.now) r.is in
    let here : until P L old.now ≡ old.now.time = ap (λ t. least old.now.time t P.timed) (g ∙ sym r.time) ∙ least_same old.now.time P.timed in
    record {
      present = subst (IsPresent P) (sym e) (record { moment = r.moment; still = r.still });
      over = subst (λ v. until P L v ≡ v.time) (sym e) here;
      now = e;
    }

pub advance_follows : {Q : Type 0} (value : Q → Fraction) → AdvanceFollows {Q = Q} value
advance_follows value P L old new u Round e a = round_follows P L old new a
advance_follows value P L old new u Run e a = run_follows P L old new u e a
advance_follows value P L old new u (Entry t) e a = enter_follows P L old new u (value t) e a
advance_follows value P L old new u There e a = done_follows P L old new u e a

pub done_is_worked : DoneIsWorked
done_is_worked P L old new d n = record { acted = n; still = d.present.still; moment = d.present.moment; over = d.over }

round_breaks : (P : Problem) (L : Plan) (v : View) (why : Fault) → RoundFails P v why → JointFails P L v why
round_breaks P L v why r = record { effects = r.effects; due = inl r.due; fails = r.fails }

breaks_by : {Q : Type 0} (value : Q → Fraction) (P : Problem) (L : Plan) (v : View) (b : Breach Q) → BreaksOff value P (until P L v) v b → IsSomeAnd (breach_of value v.acted b) (Stands P L v)
breaks_by value P L v (UnknownAction line name) s = elim s [ ]
breaks_by value P L v (WrongArguments line name) s = elim s [ ]
breaks_by value P L v (Precondition line label) s = elim s [ ]
breaks_by value P L v (TimeGoesBack line) s = elim s [ ]
breaks_by value P L v (AfterEnd line) s = elim s [ ]
breaks_by value P L v (Conflict f) s = round_breaks P L v _ s
breaks_by value P L v (NoValue f) s = elim s [ inl r ↦ inl (round_breaks P L v _ r) | inr r ↦ inr r ]
breaks_by value P L v (Repeats e) s = s
breaks_by value P L v (Unsettled p) s = s
breaks_by value P L v (Coupled p f) s = s
breaks_by value P L v (NoFirstMoment e t) s = s
breaks_by value P L v Goal s = elim s [ ]

pub advance_breaks : {Q : Type 0} (value : Q → Fraction) → AdvanceBreaks {Q = Q} value
advance_breaks value P L v u b e s = breaks_by value P L v.now b (subst (λ w. BreaksOff value P w v.now b) (least_is P L v.now u e) s)

pub finish_breaks : FinishBreaks
finish_breaks P L v d w g = (d, w, g)

pub act_follows : ActFollows
act_follows P L old new action n r =
    let s : new.now.state ≡ r.after = ap (λ v. v.now.state) r.is in
    let part : Act old.now.acted r.after ≡ Act old.now.acted new.now.state = ap (Act old.now.acted) (sym s) in
    let may : ActMayFollow P L old.now old.now.acted r.after = record { action = action; line = refl; due = n; acts = r.acts } in
    record {
      adds = record {
        next = subst (MayFollow P L old.now) part (by_running P L old.now None (Act old.now.acted r.after) r.moment may);
        now = ap (λ v. v.now) r.is ∙ ap (view_after old.now) part;
      };
      before = ap (λ v. v.before) r.is;
    }

effects_break : (P : Problem) (L : Plan) (v : View) (action : Action) (why : Fault) → IsDue P L v (Instance action) → EffectsFail action v.state why → JointFails P L v why
effects_break P L v action why d r = record {
  effects = action.effects;
  due = inr (record { action = action; due = d; may = r.may; effects_is = refl });
  fails = r.fails;
}

act_breaks_by : {Q : Type 0} (value : Q → Fraction) (P : Problem) (L : Plan) (v : View) (action : Action) (line : ℕ) (b : Breach Q) → IsDue P L v (Instance action) → BreaksAct action line v.state b → IsSomeAnd (breach_of value v.acted b) (Stands P L v)
act_breaks_by value P L v action line (UnknownAction n name) d s = elim s [ ]
act_breaks_by value P L v action line (WrongArguments n name) d s = elim s [ ]
act_breaks_by value P L v action line (Precondition n label) d s = (refl, action, d, s.fails)
act_breaks_by value P L v action line (TimeGoesBack n) d s = elim s [ ]
act_breaks_by value P L v action line (AfterEnd n) d s = elim s [ ]
act_breaks_by value P L v action line (Conflict f) d s = effects_break P L v action _ d s
act_breaks_by value P L v action line (NoValue f) d s = inl (effects_break P L v action _ d s)
act_breaks_by value P L v action line (Repeats e) d s = elim s [ ]
act_breaks_by value P L v action line (Unsettled p) d s = elim s [ ]
act_breaks_by value P L v action line (Coupled p f) d s = elim s [ ]
act_breaks_by value P L v action line (NoFirstMoment e t) d s = elim s [ ]
act_breaks_by value P L v action line Goal d s = elim s [ ]

pub act_breaks : {Q : Type 0} (value : Q → Fraction) → ActBreaks {Q = Q} value
act_breaks value P L v action line b p n s = act_breaks_by value P L v.now action line b (record { present = p; due = n }) s
