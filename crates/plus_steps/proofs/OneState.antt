-- A stepped plan goes along one path of states.
use Rattle.std.proofs.Common.{◌≡◌, ℕ, List, [], ◌∷◌, ◌++◌, ap, sym, subst, ◌∙◌}
use Rattle.std.specs.Prelude.{Result, Ok, Err}
use Rattle.plus_fraction.specs.Fraction.{Fraction}
use Rattle.plus_model.specs.Terms.{Action, State, Problem}
use Rattle.plus_model.specs.Joint.{Fault, joint}
use Rattle.plus_model.specs.Firing.{IsRound, Cascade}
use Rattle.plus_model.specs.Running.{moved}
use Rattle.plus_model.specs.Trajectory.{literals}
use Rattle.plus_steps.specs.Stepped.{Rests, time_of_step}
use Rattle.plus_steps.specs.Laws.{OneStart, OneAct, OneTick, OneCall}
use Rattle.plus_steps.proofs.Lists.{same_action}

state_or : State → Result State Fault → State
state_or d (Ok v) = v
state_or d (Err e) = d

same_state : (v w : State) → (let r : Result State Fault = Ok v in r) ≡ Ok w → v ≡ w
unfolding state_or
same_state v w h = ap (state_or v) h

rates_or : Result (List Fraction) ℕ → List Fraction
rates_or (Ok v) = v
rates_or (Err e) = []

same_rates : (x y : List Fraction) → (let r : Result (List Fraction) ℕ = Ok x in r) ≡ Ok y → x ≡ y
unfolding rates_or
same_rates x y h = ap rates_or h

one_cascade : (P : Problem) (fired : List ℕ) (s a b : State) (xs ys : List (List ℕ × State)) → Cascade P fired s xs a → Cascade P fired s ys b → a ≡ b
one_cascade P fired s a b [] [] h k = h.1 ∙ sym k.1
one_cascade P fired s a b [] (y ∷ ys) h k = absurd (k.0.some (k.0.all ∙ h.0))
one_cascade P fired s a b (x ∷ xs) [] h k = absurd (h.0.some (h.0.all ∙ k.0))
one_cascade P fired s a b (x ∷ xs) (y ∷ ys) h k =
    let es : y.0 ≡ x.0 = k.0.all ∙ sym h.0.all in
    let r : IsRound P fired s x.0 y.1 = subst (λ e. IsRound P fired s e y.1) es k.0 in
    let same : y.1 ≡ x.1 = same_state y.1 x.1 (sym r.effect ∙ h.0.effect) in
    one_cascade P (fired ++ x.0) x.1 a b xs ys h.1 (subst (λ u. Cascade P (fired ++ x.0) u ys b) same (subst (λ e. Cascade P (fired ++ e) y.1 ys b) es k.1))

pub one_start : OneStart
one_start P fired s a b h k = one_cascade P fired s a b h.rounds k.rounds h.cascade k.cascade

pub one_act : (C : Type 0) → OneAct C
one_act C P meant call s a b h k =
    let same : k.action ≡ h.action = same_action k.action h.action (sym k.called ∙ h.called) in
    let now : k.now ≡ h.now = same_state k.now h.now (sym k.does.effect ∙ ap (λ (x : Action). joint x.effects s) same ∙ h.does.effect) in
    one_start P [] h.now a b h.rests (subst (λ u. Rests P [] u b) now k.rests)

pub one_tick : OneTick
one_tick P q n s a b h k =
    let rate : k.passes.rate ≡ h.passes.rate = same_rates k.passes.rate h.passes.rate (sym k.passes.rate_is ∙ h.passes.rate_is) in
    let now : k.now ≡ h.now = k.passes.after_is ∙ ap (λ r. literals P (time_of_step q n) (moved s r q)) rate ∙ sym h.passes.after_is in
    one_start P [] h.now a b h.rests (subst (λ u. Rests P [] u b) now k.rests)

pub one_call : (C : Type 0) → OneCall C
one_call C meant call s a b h k =
    let same : k.action ≡ h.action = same_action k.action h.action (sym k.called ∙ h.called) in
    same_state a b (sym h.does.effect ∙ ap (λ (x : Action). joint x.effects s) (sym same) ∙ k.does.effect)
