-- Where a breach stands, nothing comes next and the history is no trajectory, whatever lines follow.
use Rattle.std.proofs.Common.{◌≡◌, ◌≢◌, ℕ, true, List, [], ◌∷◌, ◌++◌, refl, ap, sym, subst, ◌∙◌, inl, inr}
use Rattle.std.specs.Prelude.{Option, Some, None, Ok, Err, IsSomeAnd, slice_get}
use Rattle.plus_fraction.specs.Fraction.{Fraction, ◌+ℚ◌, ◌-ℚ◌, ◌<ℚ◌, ◌≤ℚ◌}
use Rattle.plus_fraction.proofs.FractionAtMost.{≤ℚ_or}
use Rattle.plus_fraction.proofs.FractionOrder.{<ℚ_irrefl}
use Rattle.plus_model.specs.Terms.{Problem, Action, State, Event}
use Rattle.plus_model.specs.Value.{holds}
use Rattle.plus_model.specs.Joint.{Fault, joint}
use Rattle.plus_model.specs.Firing.{firing, first_shared, effects_of}
use Rattle.plus_model.specs.Running.{rates, moved, JustAfter, IsQuiet, Stretch, first_coupled, GoesOn}
use Rattle.plus_model.specs.Plan.{Called, Instance, UnknownAction as unknown, WrongArguments as wrong, Line, ActLine, Plan}
use Rattle.plus_model.specs.History.{Part, Enter, Round, Act, Run, View}
use Rattle.plus_model.specs.Trajectory.{at_until, event_holds, set_ends, next_line, until, IsEndOrNone, ActMayFollow, RunMayFollow, AtMoment, InStretch, EnterMayFollow, NextBy, Next, IsWorked, Prefix, Trajectory, view_of, first_view, first_part}
use Rattle.plus_model.specs.Breach.{Breach, UnknownAction, WrongArguments, Precondition, Conflict, NoValue, Repeats, Unsettled, Coupled, NoFirstMoment, Goal, IsPresent, IsOpen, IsDue, JointFails, RatesFail, IsUnsettled, IsCoupled, IsMomentless, Stands, Breaks}
use Rattle.plus_model.specs.Laws.{GoesOnFrom, BreachIsFinal, BreachIsNoTrajectory}
use Rattle.plus_model.proofs.Steps.{due_holds, one_chosen}
use Rattle.plus_model.proofs.Later.{same_line, same_until, still_later, later_follow}
use Rattle.plus_model.proofs.Moments.{not_below, ≤ℚ-<ℚ_trans, sub_above}
use Rattle.plus_model.proofs.Motion.{between_both, goes_above, goes_below, no_event, moved-moved}
use Rattle.plus_model.proofs.Paths.{same, shorter, longer, meet, nothing_after, view_is}

-- nothing comes next at the view, and it is no end
pub record IsStuck (P : Problem) (L : Plan) (v : View) : Type 0 where
  pub nothing : (p : Part) → Next P L v p → ⊥
  pub no_end : IsWorked P L v → ⊥

-- at a moment the last part is no Run
at_moment_by : (P : Problem) (L : Plan) (v : View) → ((p : Part) → AtMoment P L v p → ⊥) → (o : Option (List ℕ)) → o ≡ None → (p : Part) → NextBy P L v o p → ⊥
at_moment_by P L v f None e p n = f p n
at_moment_by P L v f (Some R) e p n = cc

from_moment : (P : Problem) (L : Plan) (v : View) → v.running ≡ None → ((p : Part) → AtMoment P L v p → ⊥) → (p : Part) → Next P L v p → ⊥
from_moment P L v e f p n = at_moment_by P L v f v.running e p n

-- where nothing is due, only an action or a running set may come next
when_present : (P : Problem) (L : Plan) (v : View) → IsPresent P v → ((i : ℕ) (s : _) → ActMayFollow P L v i s → ⊥) → ((R : List ℕ) → RunMayFollow P (until P L v) v R → ⊥) → (p : Part) → Next P L v p → ⊥
when_present P L v h f g = from_moment P L v h.moment only
  where
    only : (p : Part) → AtMoment P L v p → ⊥
    only (Enter t a s) n = n
    only (Round E s) n = n.some (n.all ∙ h.still)
    only (Act i s) n = f i s n
    only (Run R) n = g R n

-- where an action is due, it may not come next: so nothing does
at_due : (P : Problem) (L L' : Plan) (v : View) (call : Called) → GoesOnFrom L L' → IsDue P L v call → ((i : ℕ) (s : _) → (m : ActMayFollow P L' v i s) → call ≡ Instance m.action → ⊥) → IsStuck P L' v
at_due P L L' v call g h f =
    let due : next_line L' v ≡ Some (ActLine v.time call) = same_line L L' v _ g h.due in
    record {
      nothing = when_present P L' v h.present (λ i s m. f i s m (cc (due, m.due))) (λ R m. due_holds P L' v call due m.later);
      no_end = λ w. subst IsEndOrNone due w.acted;
    }

-- where time is to pass, only a running set may come next
at_open : (P : Problem) (L L' : Plan) (v : View) → GoesOnFrom L L' → IsOpen P (until P L v) v → ((R : List ℕ) → RunMayFollow P (until P L' v) v R → ⊥) → IsStuck P L' v
at_open P L L' v g h f =
    let later : v.time <ℚ until P L' v = still_later P L L' v g h.later in
    record {
      nothing = when_present P L' v h.present (λ i s m. due_holds P L' v (Instance m.action) m.due later) f;
      no_end = λ w. <ℚ_irrefl v.time (subst (λ t. v.time <ℚ t) w.over later);
    }

-- where a round is due, only it may come next
at_round : (P : Problem) (L : Plan) (v : View) → v.running ≡ None → firing P v.state ≢ [] → ((E : List ℕ) (s : _) → AtMoment P L v (Round E s) → ⊥) → IsStuck P L v
at_round P L v e some f = record {
  nothing = from_moment P L v e only;
  no_end = λ w. some w.still;
}
  where
    only : (p : Part) → AtMoment P L v p → ⊥
    only (Enter t a s) n = n
    only (Round E s) n = f E s n
    only (Act i s) n = some n.acts.still
    only (Run R) n = some n.still

joint_stuck : (P : Problem) (L L' : Plan) (v : View) (why : Fault) → GoesOnFrom L L' → JointFails P L v why → IsStuck P L' v
joint_stuck P L L' v why g h = elim h.due [
  | inl r ↦ at_round P L' v r.moment r.some (λ E s n.
      let e : h.effects ≡ effects_of P E = r.effects_is ∙ ap (effects_of P) (sym n.all) in
      let f : joint (effects_of P E) v.state ≡ Err why = subst (λ x. joint x v.state ≡ Err why) e h.fails in
      cc (f, n.effect))
  | inr a ↦ at_due P L L' v (Instance a.action) g a.due (λ i s m e.
      let d : a.action ≡ m.action = cc e in
      let f : joint m.action.effects v.state ≡ Err why = subst (λ x. joint x v.state ≡ Err why) (a.effects_is ∙ ap (λ (x : Action). x.effects) d) h.fails in
      cc (f, m.acts.effect))
]

rates_stuck : (P : Problem) (L L' : Plan) (v : View) (f : ℕ) → GoesOnFrom L L' → RatesFail P (until P L v) v f → IsStuck P L' v
rates_stuck P L L' v f g h = at_open P L L' v g h.open (λ R m. elim h.fail [
  | inl e ↦ (let d = m.settled.choice.first_is in cc (e, d))
  | inr c ↦
      let e : c.0 ≡ R = one_chosen P v.state c.0 R c.1 m.settled.choice in
      let d : rates P v.state R ≡ Err f = subst (λ x. rates P v.state x ≡ Err f) e c.2 in
      (let k = m.settled.own_is in cc (d, k))
])

-- R is what the breach speaks of, and it confirms itself
unsettled_stuck : (P : Problem) (L L' : Plan) (v : View) (p : ℕ) → GoesOnFrom L L' → IsUnsettled P (until P L v) v p → IsStuck P L' v
unsettled_stuck P L L' v p g h = at_open P L L' v g h.open (λ R m.
    let e : R ≡ h.running = one_chosen P v.state R h.running m.settled.choice h.chosen in
    let d : m.rate ≡ h.own = (let k = m.settled.own_is in let l = h.own_is in let k' = subst (λ x. rates P v.state x ≡ Ok m.rate) e k in cc (k', l)) in
    let c : GoesOn P v.state h.own h.running = subst (λ x. GoesOn P v.state x h.running) d (subst (λ x. GoesOn P v.state m.rate x) e m.settled.confirmed) in
    h.first.has (c.members p))

coupled_stuck : (P : Problem) (L L' : Plan) (v : View) (p f : ℕ) → GoesOnFrom L L' → IsCoupled P (until P L v) v p f → IsStuck P L' v
coupled_stuck P L L' v p f g h = at_open P L L' v g h.open (λ R m.
    let e : R ≡ h.running = one_chosen P v.state R h.running m.settled.choice h.settled.choice in
    let k : rates P v.state h.running ≡ Ok m.rate = subst (λ x. rates P v.state x ≡ Ok m.rate) e m.settled.own_is in
    let d : m.rate ≡ h.own = (let l = h.settled.own_is in cc (k, l)) in
    let u : first_coupled P h.running h.own ≡ None = subst (λ x. first_coupled P h.running x ≡ None) d (subst (λ x. first_coupled P x m.rate ≡ None) e m.uncoupled) in
    let w = h.first in
    cc (u, w))

pub shared_some : (xs ys : List ℕ) (e : ℕ) → first_shared xs ys ≡ Some e → xs ≢ []
unfolding first_shared
shared_some [] ys e h n = cc
shared_some (x ∷ xs) ys e h n = cc

repeats_stuck : (P : Problem) (L : Plan) (v : View) (e : ℕ) → v.running ≡ None → first_shared (firing P v.state) v.fired ≡ Some e → IsStuck P L v
repeats_stuck P L v e m h = at_round P L v m (shared_some (firing P v.state) v.fired e h)
    (λ E s n. let a = n.all in let f = n.fresh in let g : first_shared (firing P v.state) v.fired ≡ None = subst (λ x. first_shared x v.fired ≡ None) a f in cc (g, h))

-- ---- after a run
in_stretch_by : (P : Problem) (L : Plan) (v : View) (R : List ℕ) → ((t : Fraction) (a s : State) → EnterMayFollow P (until P L v) v R t a s → ⊥) → (o : Option (List ℕ)) → o ≡ Some R → (p : Part) → NextBy P L v o p → ⊥
in_stretch_by P L v R f None e p n = cc
in_stretch_by P L v R f (Some S) e p n = only p (subst (λ x. InStretch P L v x p) same n)
  where
    same : S ≡ R
    same = cc e

    only : (p : Part) → InStretch P L v R p → ⊥
    only (Enter t a s) n = f t a s n
    only (Round E s) n = n
    only (Act i s) n = n
    only (Run T) n = n

-- an event that holds just after t holds at a moment in every longer stretch
after_in_stretch : (P : Problem) (v : View) (R : List ℕ) (rs : List Fraction) (t u : Fraction) (o : Option Event) (e : ℕ) → v.time ≤ℚ t → t <ℚ u → Stretch P v.state R rs (u -ℚ v.time) → slice_get P.events e ≡ o → IsSomeAnd o (λ ev. JustAfter (moved v.state rs (t -ℚ v.time)) rs ev.condition) → ⊥
after_in_stretch P v R rs t u None e f l st g j = j
after_in_stretch P v R rs t u (Some ev) e f l st g j =
    let b = between_both j.until (u -ℚ t) j.above (sub_above t u l) in
    let x : Fraction = (t -ℚ v.time) +ℚ b.place in
    let q : IsQuiet P (moved v.state rs x) R rs = st x (goes_above v.time t b.place f b.above) (goes_below v.time t u b.place b.second) in
    no_event P (moved v.state rs x) e ev q.still g
    (subst (λ z. holds ev.condition z ≡ true) (moved-moved v.state rs (t -ℚ v.time) b.place) (j.inside b.place b.above b.first))

momentless_stuck : (P : Problem) (L L' : Plan) (v : View) (e : ℕ) (t : Fraction) → GoesOnFrom L L' → IsMomentless P (until P L v) v e t → IsStuck P L' v
momentless_stuck P L L' v e t g h = record {
  nothing = λ p n. in_stretch_by P L' v h.running never v.running h.runs p n;
  no_end = λ w. (let a = h.runs in let b = w.moment in cc (a, b));
}
  where
    until_is : until P L v ≡ until P L' v
    until_is = same_until P L L' v g (≤ℚ-<ℚ_trans _ _ _ h.from h.before)

    never : (u : Fraction) (a s : State) → EnterMayFollow P (until P L' v) v h.running u a s → ⊥
    never u a s n =
        let r : n.rate ≡ h.rate = (let x = n.rate_is in let y = h.rate_is in cc (x, y)) in
        elim (≤ℚ_or u t) [
          | inl k ↦
              let quiet : IsQuiet P a h.running n.rate = subst (λ z. IsQuiet P z h.running n.rate) (sym n.arrival_is)
              (subst (λ z. IsQuiet P (moved v.state z (u -ℚ v.time)) h.running z) (sym r) (h.quiet u n.later k)) in
              elim n.cause [
                | at_until c ↦ not_below t u (subst (λ z. t <ℚ z) (until_is ∙ sym c) h.before) k
                | event_holds f ↦ f quiet.still
                | set_ends f ↦ f quiet.on
              ]
          | inr k ↦ after_in_stretch P v h.running h.rate t u (slice_get P.events e) e h.from k
              (subst (λ z. Stretch P v.state h.running z (u -ℚ v.time)) r n.stretch) refl h.first.has
        ]

-- ---- every breach but Goal
pub breach_stuck : (P : Problem) (L L' : Plan) (v : View) (b : Breach) → GoesOnFrom L L' → Stands P L v b → b ≢ Goal → IsStuck P L' v
breach_stuck P L L' v (UnknownAction i name) g h n = at_due P L L' v (unknown name) g h.1 (λ i s m e. cc e)
breach_stuck P L L' v (WrongArguments i name) g h n = at_due P L L' v (wrong name) g h.1 (λ i s m e. cc e)
breach_stuck P L L' v (Precondition i) g h n = at_due P L L' v (Instance h.1) g h.2 (λ i s m e. let a = m.acts.may in let b = h.3 in cc (a, b, e))
breach_stuck P L L' v (Conflict f) g h n = joint_stuck P L L' v _ g h
breach_stuck P L L' v (NoValue f) g h n = elim h [ inl j ↦ joint_stuck P L L' v _ g j | inr r ↦ rates_stuck P L L' v f g r ]
breach_stuck P L L' v (Repeats e) g h n = repeats_stuck P L' v e h.0 h.1
breach_stuck P L L' v (Unsettled p) g h n = unsettled_stuck P L L' v p g h
breach_stuck P L L' v (Coupled p f) g h n = coupled_stuck P L L' v p f g h
breach_stuck P L L' v (NoFirstMoment e t) g h n = momentless_stuck P L L' v e t g h
breach_stuck P L L' v Goal g h n = absurd (n refl)

-- ---- the laws
no_trajectory : (P : Problem) (L L' : Plan) (h h' : List Part) → Prefix P L h → GoesOnFrom L L' → ((p : Part) → Next P L' (view_of P h) p → ⊥) → Trajectory P L' h' → (h ≡ h' → ⊥) → ⊥
no_trajectory P L L' h h' a g stuck t n =
    let x = t.prefix in
    elim (meet P L' (first_view P) a.rest x.rest (later_follow P L L' (first_view P) a.rest g (inr t.closed) a.follow) x.follow) [
      | same s ↦ n (a.begins ∙ ap (λ ps. first_part P ∷ ps) s ∙ sym x.begins)
      | shorter p ps s m ↦ stuck p (subst (λ v. Next P L' v p) (sym (view_is P h a.rest a.begins)) m)
      | longer p ps s m ↦ nothing_after P L' _ (subst (IsWorked P L') (view_is P h' x.rest x.begins) t.worked) p m
    ]

pub breach_is_final : BreachIsFinal
breach_is_final P L h b br ng L' h' g t =
    let s = breach_stuck P L L' (view_of P h) b g br.breach.stands ng in
    no_trajectory P L L' h h' br.prefix g s.nothing t (λ e. s.no_end (subst (λ x. IsWorked P L' (view_of P x)) (sym e) t.worked))

pub goes_on_itself : (L : Plan) → GoesOnFrom L L
goes_on_itself L = record { more = []; lines = nil L.lines }
  where
    nil : (xs : List Line) → xs ≡ xs ++ []
    nil [] = refl
    nil (x ∷ xs) = ap (λ t. x ∷ t) (nil xs)

goal_is_final : (P : Problem) (L : Plan) (h h' : List Part) → Breaks P L h Goal → Trajectory P L h' → ⊥
goal_is_final P L h h' br t =
    no_trajectory P L L h h' br.prefix (goes_on_itself L) (nothing_after P L (view_of P h) br.breach.stands.1) t
    (λ e. let f = subst (λ x. holds P.goal (view_of P x).state ≡ true) (sym e) t.goal in let k = br.breach.stands.2 in cc (f, k))

pub breach_is_no_trajectory : BreachIsNoTrajectory
breach_is_no_trajectory P L h h' Goal br t = goal_is_final P L h h' br t
breach_is_no_trajectory P L h h' b br t = breach_is_final P L h b br (λ e. cc e) L h' (goes_on_itself L) t
