-- The next part is determined by the view.
use Rattle.std.proofs.Common.{◌≡◌, ℕ, List, ap, ap₂, sym, subst, ◌∙◌, inl, inr}
use Rattle.std.specs.Prelude.{Option, Some, None, Ok}
use Rattle.plus_fraction.specs.Fraction.{Fraction, ◌-ℚ◌, ◌<ℚ◌, ◌≤ℚ◌}
use Rattle.plus_fraction.proofs.FractionOrder.{<ℚ_or}
use Rattle.plus_model.specs.Terms.{State, Problem}
use Rattle.plus_model.specs.Joint.{joint}
use Rattle.plus_model.specs.Firing.{effects_of, IsRound}
use Rattle.plus_model.specs.Running.{moved, Chosen, GoesOn, RunsAfter, IsQuiet}
use Rattle.plus_model.specs.Plan.{Called, Instance, ActLine, Plan}
use Rattle.plus_model.specs.History.{Part, Enter, Round, Act, Run, View}
use Rattle.plus_model.specs.Trajectory.{at_until, event_holds, set_ends, literals, next_line, target, time_or, until, ActMayFollow, EnterMayFollow, AtMoment, InStretch, NextBy, Next}
use Rattle.plus_model.proofs.Moments.{not_below, least_within, -ℚ-lt, sub_above}
use Rattle.plus_model.proofs.Members.{same_exactly}

-- `until` is no later than the target
pub until_within : (P : Problem) (L : Plan) (v : View) → until P L v ≤ℚ target L v
until_within P L v = least_within v.time (target L v) P.timed

-- a line that is due keeps time from passing
pub due_holds : (P : Problem) (L : Plan) (v : View) (call : Called) → next_line L v ≡ Some (ActLine v.time call) → v.time <ℚ until P L v → ⊥
due_holds P L v call e h =
    not_below v.time (until P L v) h
    (subst (λ t. until P L v ≤ℚ t) (ap (λ o. time_or o v.time) e) (until_within P L v))

-- the settled set is one
pub one_chosen : (P : Problem) (s : State) (R S : List ℕ) → Chosen P s R → Chosen P s S → R ≡ S
one_chosen P s R S a b =
    let e : a.first ≡ b.first = cc (a.first_is, b.first_is) in
    same_exactly (RunsAfter P s b.first) R S (subst (λ r. GoesOn P s r R) e a.chosen) b.chosen

one_round : (P : Problem) (fired : List ℕ) (s : State) (E F : List ℕ) (a b : State) → IsRound P fired s E a → IsRound P fired s F b → Round E a ≡ Round F b
one_round P fired s E F a b r q =
    let e : E ≡ F = r.all ∙ sym q.all in
    let f : joint (effects_of P F) s ≡ Ok a = subst (λ X. joint (effects_of P X) s ≡ Ok a) e r.effect in
    cc (f, q.effect)

one_act : (P : Problem) (L : Plan) (v : View) (i j : ℕ) (a b : State) → ActMayFollow P L v i a → ActMayFollow P L v j b → Act i a ≡ Act j b
one_act P L v i j a b r q =
    let e : r.action ≡ q.action = cc (r.due, q.due) in
    let f : joint q.action.effects v.state ≡ Ok a = subst (λ x. joint x.effects v.state ≡ Ok a) e r.acts.effect in
    cc (f, q.acts.effect, r.line, q.line)

-- the earlier of two moments is none: the stretch up to the later one has nothing there
no_earlier : (P : Problem) (L : Plan) (v : View) (R : List ℕ) (t u : Fraction) (a b s w : State) → EnterMayFollow P (until P L v) v R t a s → EnterMayFollow P (until P L v) v R u b w → t <ℚ u → ⊥
no_earlier P L v R t u a b s w p q h =
    let e : p.rate ≡ q.rate = cc (p.rate_is, q.rate_is) in
    let quiet : IsQuiet P a R p.rate = subst (λ x. IsQuiet P x R p.rate) (sym p.arrival_is)
    (subst (λ r. IsQuiet P (moved v.state r (t -ℚ v.time)) R r) (sym e)
    (q.stretch (t -ℚ v.time) (sub_above v.time t p.later) (-ℚ-lt t u v.time h))) in
    elim p.cause [
      | at_until c ↦ not_below (until P L v) u (subst (λ x. x <ℚ u) c h) q.within
      | event_holds f ↦ f quiet.still
      | set_ends f ↦ f quiet.on
    ]

one_enter : (P : Problem) (L : Plan) (v : View) (R : List ℕ) (t u : Fraction) (a b s w : State) → EnterMayFollow P (until P L v) v R t a s → EnterMayFollow P (until P L v) v R u b w → Enter t a s ≡ Enter u b w
one_enter P L v R t u a b s w p q = elim (<ℚ_or t u) [
  | inl h ↦ absurd (no_earlier P L v R t u a b s w p q h)
  | inr o ↦ elim o [
    | inl e ↦
        let r : p.rate ≡ q.rate = cc (p.rate_is, q.rate_is) in
        let f : a ≡ b = p.arrival_is ∙ ap₂ (λ x z. moved v.state x (z -ℚ v.time)) r e ∙ sym q.arrival_is in
        let g : s ≡ w = p.after_is ∙ ap₂ (literals P) e f ∙ sym q.after_is in
        cc (e, f, g)
    | inr h ↦ absurd (no_earlier P L v R u t b a w s q p h)
  ]
]

at_moment : (P : Problem) (L : Plan) (v : View) (p q : Part) → AtMoment P L v p → AtMoment P L v q → p ≡ q
at_moment P L v (Enter t a s) q h k = elim h [ ]
at_moment P L v (Round E s) (Enter t a w) h k = elim k [ ]
at_moment P L v (Round E s) (Round F w) h k = one_round P v.fired v.state E F s w h k
at_moment P L v (Round E s) (Act j w) h k = absurd (h.some (h.all ∙ k.acts.still))
at_moment P L v (Round E s) (Run S) h k = absurd (h.some (h.all ∙ k.still))
at_moment P L v (Act i s) (Enter t a w) h k = elim k [ ]
at_moment P L v (Act i s) (Round F w) h k = absurd (k.some (k.all ∙ h.acts.still))
at_moment P L v (Act i s) (Act j w) h k = one_act P L v i j s w h k
at_moment P L v (Act i s) (Run S) h k = absurd (due_holds P L v (Instance h.action) h.due k.later)
at_moment P L v (Run R) (Enter t a w) h k = elim k [ ]
at_moment P L v (Run R) (Round F w) h k = absurd (k.some (k.all ∙ h.still))
at_moment P L v (Run R) (Act j w) h k = absurd (due_holds P L v (Instance k.action) k.due h.later)
at_moment P L v (Run R) (Run S) h k = ap Run (one_chosen P v.state R S h.settled.choice k.settled.choice)

in_stretch : (P : Problem) (L : Plan) (v : View) (R : List ℕ) (p q : Part) → InStretch P L v R p → InStretch P L v R q → p ≡ q
in_stretch P L v R (Enter t a s) (Enter u b w) h k = one_enter P L v R t u a b s w h k
in_stretch P L v R (Enter t a s) (Round F w) h k = elim k [ ]
in_stretch P L v R (Enter t a s) (Act j w) h k = elim k [ ]
in_stretch P L v R (Enter t a s) (Run S) h k = elim k [ ]
in_stretch P L v R (Round E s) q h k = elim h [ ]
in_stretch P L v R (Act i s) q h k = elim h [ ]
in_stretch P L v R (Run S) q h k = elim h [ ]

one_by : (P : Problem) (L : Plan) (v : View) (o : Option (List ℕ)) (p q : Part) → NextBy P L v o p → NextBy P L v o q → p ≡ q
one_by P L v None p q h k = at_moment P L v p q h k
one_by P L v (Some R) p q h k = in_stretch P L v R p q h k

-- of the parts that may come next there is one at most
pub one_next : (P : Problem) (L : Plan) (v : View) (p q : Part) → Next P L v p → Next P L v q → p ≡ q
one_next P L v p q h k = one_by P L v v.running p q h k
