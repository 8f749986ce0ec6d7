-- What a fork of a timeline comes to, the timeline comes to.
use Rattle.std.proofs.Common.{◌≡◌, inl, inr, ℕ, true, List, refl, ap, sym, subst, ◌∙◌}
use Rattle.std.specs.Prelude.{Some, None, Result, Ok, Err, IfOk}
use Rattle.plus_fraction.specs.Fraction.{Fraction}
use Rattle.plus_model.specs.Terms.{Action, Problem}
use Rattle.plus_model.specs.History.{Part, Act, view_after}
use Rattle.plus_model.specs.Plan.{Plan}
use Rattle.plus_model.specs.Trajectory.{target}
use Rattle.plus_search.specs.declared.spaces.Fate.{Fate}
use Rattle.plus_search.specs.declared.spaces.Fate.TheVariants.{Alive, Broken, Beyond}
use Rattle.plus_stretch.specs.Tests.{Test, IsLimit}
use Rattle.plus_timeline.specs.Timeline.{TimelineView}
use Rattle.plus_timeline.specs.Forked.{forked}
use Rattle.plus_planner.specs.declared.places.Taken.{Taken}
use Rattle.plus_planner.specs.Grid.{IsClearIn}
use Rattle.plus_planner.specs.Standing.{CanGoOn, CanReach, IsOnWay, FailsAt, FailsOnWay, IsNoLimit, Carried}
use Rattle.plus_planner.specs.Places.{Goes, ActEnds, WaitEnds}

pub can_forked : (P : Problem) (t : TimelineView) → t.now.running ≡ None → CanGoOn P t → CanGoOn P (forked t)
can_forked P t m c = record {
  knows = record {
    atoms = c.knows.atoms;
    fluents = c.knows.fluents;
    events = c.knows.events;
    runs = λ members e. never members (sym m ∙ e);
    still = c.knows.still;
  };
  going = c.going;
  within = c.within;
}
  where
    never : {A : Type 0} (members : List ℕ) → None ≡ Some members → A
    never members e = absurd (cc e)

pub reach_forked : (P : Problem) (u : Fraction) (t : TimelineView) → t.now.running ≡ None → CanReach P u t → CanReach P u (forked t)
reach_forked P u t m c = record { goes = can_forked P t m c.goes; ahead = c.ahead; room = c.room }

-- they go on by the same
pub record AreAlike (t t' : TimelineView) : Type 0 where
  pub now : t'.now ≡ t.now
  pub entries : t'.entries ≡ t.entries
  pub most : t'.most ≡ t.most

alike_way : (fits : Fraction → Type 0) (P : Problem) (L : Plan) (u : Fraction) (acted : ℕ) (h : List Part) (t t' : TimelineView) → AreAlike t t' → IsOnWay fits P L u acted h t → IsOnWay fits P L u acted h t'
alike_way fits P L u acted h t t' a w = record {
  played = record {
    prefix = w.played.prefix;
    now = a.now ∙ w.played.now;
    entries = a.entries ∙ w.played.entries;
    beside = tt;
    clear = subst (λ m. IsClearIn fits P L m h) (sym a.most) w.played.clear;
  };
  target_is = ap (target L) a.now ∙ w.target_is;
  acted_is = ap (λ v. v.acted) a.now ∙ w.acted_is;
}

alike_fails : (fits : Fraction → Type 0) (P : Problem) (u : Fraction) (t t' : TimelineView) (Kind : Test → Type 0) → AreAlike t t' → FailsOnWay fits P u t' Kind → FailsOnWay fits P u t Kind
alike_fails fits P u t t' Kind a f = record {
  fails = λ L acted h b w.
      let x = f.fails L acted h b (alike_way fits P L u acted h t t' a w) in
      (x.0, subst (λ m. FailsAt fits P L m Kind x.0) a.most x.1);
}

pub alike_carried : (fits : Fraction → Type 0) (P : Problem) (u : Fraction) (t t' new : TimelineView) (fate : Fate) → AreAlike t t' → Carried fits P u t' new fate → Carried fits P u t new fate
alike_carried fits P u t t' new Alive a c = record {
  can = c.can;
  paused = c.paused;
  moment = c.moment;
  most = c.most ∙ a.most;
  reached = λ L acted h b w. c.reached L acted h b (alike_way fits P L u acted h t t' a w);
}
alike_carried fits P u t t' new Broken a c = alike_fails fits P u t t' IsNoLimit a c
alike_carried fits P u t t' new Beyond a c = alike_fails fits P u t t' IsLimit a c

alike_goes : {Q : Type 0} (fits : Fraction → Type 0) (P : Problem) (u : Fraction) (t t' : TimelineView) (d : ℕ) (taken taken' : List (Taken Q)) (fate : Fate) → AreAlike t t' → Goes fits P u t' d taken taken' fate → Goes fits P u t d taken taken' fate
alike_goes fits P u t t' d taken taken' fate a g =
    record { new = g.new; carried = alike_carried fits P u t t' g.new fate a g.carried; after = g.after }

-- ---- an action

act_forked : {Q : Type 0} (fits : Fraction → Type 0) (P : Problem) (action : Action) (d : ℕ) (t : TimelineView) (taken taken' : List (Taken Q)) (fate : Fate) → ActEnds fits P action d (forked t) taken taken' fate → ActEnds fits P action d t taken taken' fate
act_forked fits P action d t taken taken' fate h = elim h [
  | inl f ↦ inl record { fails = f.fails; same = f.same }
  | inr g ↦
      let done : TimelineView = record t {
        now = view_after t.now (Act t.now.acted g.does.after);
        before = t.now.state;
        acted = true;
      } in
      inr record {
        done = done;
        passes = g.passes;
        does = record { moment = g.does.moment; after = g.does.after; acts = g.does.acts; is = refl };
        goes = alike_goes fits P t.now.time done g.done d taken taken' fate
            (record { now = ap (λ v. v.now) g.does.is; entries = ap (λ v. v.entries) g.does.is; most = ap (λ v. v.most) g.does.is })
            g.goes;
      }
]

pub acts_forked : {Q E : Type 0} (fits : Fraction → Type 0) (P : Problem) (action : Action) (d : ℕ) (t : TimelineView) (taken taken' : List (Taken Q)) (r : Result Fate E) → IfOk r (ActEnds fits P action d (forked t) taken taken') → IfOk r (ActEnds fits P action d t taken taken')
acts_forked fits P action d t taken taken' (Err e) h = tt
acts_forked fits P action d t taken taken' (Ok fate) h = act_forked fits P action d t taken taken' fate h

-- ---- a wait

wait_forked : {Q : Type 0} (fits : Fraction → Type 0) (P : Problem) (u : Fraction) (d : ℕ) (base : TimelineView) (taken taken' : List (Taken Q)) (fate : Fate) → WaitEnds fits P u d (forked base) taken taken' fate → WaitEnds fits P u d base taken taken' fate
wait_forked fits P u d base taken taken' fate h = elim h [
  | inl n ↦ inl n
  | inr w ↦ inr record {
    some = w.some;
    goes = alike_goes fits P u base (forked base) d taken taken' fate (record { now = refl; entries = refl; most = refl }) w.goes;
  }
]

pub waits_forked : {Q E : Type 0} (fits : Fraction → Type 0) (P : Problem) (u : Fraction) (d : ℕ) (base : TimelineView) (taken taken' : List (Taken Q)) (r : Result Fate E) → IfOk r (WaitEnds fits P u d (forked base) taken taken') → IfOk r (WaitEnds fits P u d base taken taken')
waits_forked fits P u d base taken taken' (Err e) h = tt
waits_forked fits P u d base taken taken' (Ok fate) h = wait_forked fits P u d base taken taken' fate h
