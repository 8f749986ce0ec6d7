-- What `advance` tells where a round is due, or none is.
use Rattle.std.proofs.Common.{◌≡◌, ℕ, Bool, false, List, [], ◌∷◌, ◌++◌, length, map, refl, ap, ap₂, sym, subst, ◌∙◌, inl}
use Rattle.std.proofs.lemmas.List.{map-append}
use Rattle.std.specs.Prelude.{Option, Some, None, Ok, Err, if◌then◌else◌}
use Rattle.plus_fraction.specs.Fraction.{Fraction}
use Rattle.plus_model.specs.Terms.{Problem}
use Rattle.plus_model.specs.Joint as model_joint
use Rattle.plus_model.specs.Joint.{Fault}
use Rattle.plus_model.specs.Firing.{firing, is_in, first_shared, effects_of, IsRound}
use Rattle.plus_model.specs.History.{View}
use Rattle.plus_model.specs.Trajectory.{is_below}
use Rattle.plus_model.specs.Breach as model
use Rattle.plus_state.specs.Changes.{patched}
use Rattle.plus_state.specs.Steps as joint
use Rattle.plus_state.specs.Steps.{Step, joint_steps}
use Rattle.plus_state.specs.Tested.{Carries}
use Rattle.plus_state.proofs.Testing.{pass_none, pass_append, fail_left, carry_pass, carry_fail}
use Rattle.plus_cascade.specs.declared.rounds.CascadeStop.{CascadeStop}
use Rattle.plus_cascade.specs.declared.rounds.CascadeStop.TheVariants.{Repeats, Conflict, NoValue, Number, Memory}
use Rattle.plus_cascade.specs.declared.rounds.DueRound.{DueRound}
use Rattle.plus_cascade.specs.Fired.{event_numbers, has_fired, first_repeated, IsSetOf}
use Rattle.plus_cascade.specs.Steps as cascade
use Rattle.plus_cascade.specs.Steps.{RoundStep, condition_nodes, repeat_steps, fire_steps, round_steps}
use Rattle.plus_cascade.specs.Rounds.{RoundChanges, FailsJointly}
use Rattle.plus_cascade.proofs.SetLemmas.{rounds_go_on, find_same}
use Rattle.plus_stretch.specs.Tests.{Test, asks, breach, Passes, AllPass, FirstFailing, of_fault, of_step}
use Rattle.plus_stretch.specs.StretchTests.{if_empty}
use Rattle.plus_timeline.specs.Asked.{repeated, fire_tests, round_tests, closing_tests, advance_by, advance_tests}
use Rattle.plus_timeline.specs.Advance.{RoundFails, BreaksOff}
use Rattle.plus_timeline.specs.Stopping.{of_cascade}
use Rattle.plus_timeline.specs.Told.{Told}
use Rattle.plus_timeline.proofs.Stays.{no_tests}

-- ---- the steps of a round as tests of a history
again : {A B C : Type 0} (f : A → B) (g : B → C) (h : A → C) → ((x : A) → g (f x) ≡ h x) → (xs : List A) → map g (map f xs) ≡ map h xs
again f g h e [] = refl
again {C = C} f g h e (x ∷ xs) = ap₂ (λ (y : C) (ys : List C). y ∷ ys) (e x) (again f g h e xs)

abbrev of_round : RoundStep → Test
of_round (cascade.asks n) = asks n
of_round (cascade.fails f) = of_fault f
of_round (cascade.repeats e) = breach (model.Repeats e)

fault_fails : (fits : Fraction → Type 0) (f : Fault) → Passes fits (of_fault f) → ⊥
unfolding Passes
fault_fails fits (model_joint.NoValue f) h = h
fault_fails fits (model_joint.Conflict f) h = h

round_carries : (fits : Fraction → Type 0) → Carries of_round (cascade.Passes fits) (Passes fits)
unfolding cascade.Passes Passes
round_carries fits = record {
  there = λ t. elim t as (λ t. cascade.Passes fits t → Passes fits (of_round t)) [ cascade.asks n ↦ λ h. h | cascade.fails f ↦ λ h. absurd h | cascade.repeats e ↦ λ h. h ];
  back = λ t. elim t as (λ t. Passes fits (of_round t) → cascade.Passes fits t) [ cascade.asks n ↦ λ h. h | cascade.fails f ↦ λ h. fault_fails fits f h | cascade.repeats e ↦ λ h. h ];
}

repeat_asked : (o : Option ℕ) → map of_round (repeat_steps o) ≡ repeated o
repeat_asked None = refl
repeat_asked (Some e) = refl

step_asked : (t : Step) → of_round (cascade.of_step t) ≡ of_step t
step_asked (joint.asks n) = refl
step_asked (joint.fault f) = refl

-- what is asked first of all at a moment
pub at_moment : (P : Problem) (most entries : ℕ) (u : Fraction) (v : View) → v.running ≡ None → advance_tests P most entries u v ≡ round_tests P v.fired v.state ++ if_empty (firing P v.state) (if is_below v.time u then closing_tests P most entries v.state else [])
unfolding advance_tests
at_moment P most entries u v e = ap (advance_by P most entries u v) e

module _ {Q : Type 0} (value : Q → Fraction) (fits : Fraction → Type 0) (P : Problem) (set : List Bool) (v : View) (is : IsSetOf set v.fired) where
  shared : (es : List ℕ) → first_repeated set es ≡ first_shared es v.fired
  unfolding first_repeated first_shared
  shared es = find_same (has_fired set) (is_in v.fired) es is.same

  fire_asked : (es : List ℕ) → map of_round (fire_steps P set v.state es) ≡ fire_tests P v.fired v.state es
  unfolding fire_steps fire_tests
  fire_asked [] = refl
  fire_asked (e ∷ es) =
      map-append of_round (repeat_steps (first_repeated set (e ∷ es))) (map cascade.of_step (joint_steps (effects_of P (e ∷ es)) v.state))
      ∙ ap₂ (λ (xs ys : List Test). xs ++ ys) (repeat_asked _ ∙ ap repeated (shared (e ∷ es))) (again cascade.of_step of_round of_step step_asked (joint_steps (effects_of P (e ∷ es)) v.state))

  round_asked : map of_round (round_steps P set v.state) ≡ round_tests P v.fired v.state
  unfolding round_steps round_tests
  round_asked =
      map-append of_round (map cascade.asks (condition_nodes P.events v.state)) (fire_steps P set v.state (firing P v.state))
      ∙ ap₂ (λ (xs ys : List Test). xs ++ ys) (again cascade.asks of_round asks (λ n. refl) (condition_nodes P.events v.state)) (fire_asked (firing P v.state))

  asked_pass : cascade.AllPass fits (round_steps P set v.state) → AllPass fits (round_tests P v.fired v.state)
  asked_pass a = subst (AllPass fits) round_asked (carry_pass (round_carries fits) _ a)

  asked_fail : (m : RoundStep) → cascade.FirstStop fits (round_steps P set v.state) m → FirstFailing fits (round_tests P v.fired v.state) (of_round m)
  asked_fail m h = subst (λ (ts : List Test). FirstFailing fits ts (of_round m)) round_asked (carry_fail (round_carries fits) _ m h)

  -- ---- no event holds
  pub none_due : RoundChanges {Q = Q} value fits P set v.state (Ok None) → AllPass fits (round_tests P v.fired v.state) × (firing P v.state ≡ [])
  none_due h = (asked_pass h.0, h.1)

  -- ---- events fire
  pub round_is : (r : DueRound Q) → length set ≡ length P.events → RoundChanges value fits P set v.state (Ok (Some r)) → IsRound P v.fired v.state (event_numbers r.events.items) (patched v.state r.changes)
  round_is r n h = (rounds_go_on P set v.fired v.state _ _ n is h.1).0

  module _ (most entries : ℕ) (u : Fraction) (moment : v.running ≡ None) where
    pub round_passes : (r : DueRound Q) → RoundChanges value fits P set v.state (Ok (Some r)) → AllPass fits (advance_tests P most entries u v)
    round_passes r h =
        let f = h.1 in
        subst (AllPass fits) (sym (at_moment P most entries u v moment))
        (pass_append (Passes fits) _ _ (asked_pass h.0) (subst (AllPass fits) (sym (no_tests (firing P v.state) _ (λ e. f.some (f.all ∙ e)))) (pass_none (Passes fits))))

    -- ---- the round that is due is none
    first_stop : (m : RoundStep) → cascade.FirstStop fits (round_steps P set v.state) m → FirstFailing fits (advance_tests P most entries u v) (of_round m)
    first_stop m h =
        subst (λ (ts : List Test). FirstFailing fits ts (of_round m)) (sym (at_moment P most entries u v moment)) (fail_left (Passes fits) _ _ _ (asked_fail m h))

    fails : (why : Fault) → FailsJointly P set v.state why → RoundFails P v why
    fails why h = record {
      effects = effects_of P (firing P v.state);
      due = record { moment = moment; some = h.some; fresh = sym (shared (firing P v.state)) ∙ h.fresh; effects_is = refl };
      fails = h.fails;
    }

    pub round_stops : {A : Type 0} (acted : ℕ) (ended : Bool) (Does : A → Type 0) (e : CascadeStop Q) → ended ≡ false → RoundChanges value fits P set v.state (Err e) → Told value fits acted ended (advance_tests P most entries u v) Does (BreaksOff value P u v) (Err (of_cascade e))
    round_stops acted ended Does (Repeats e) g h = record { going = g; first = first_stop (cascade.repeats e.0) h.0; means = (moment, sym (shared (firing P v.state)) ∙ h.1) }
    round_stops acted ended Does (Conflict f) g h = record { going = g; first = first_stop (cascade.fails (model_joint.Conflict f.0)) h.0; means = fails _ h.1 }
    round_stops acted ended Does (NoValue f) g h = record { going = g; first = first_stop (cascade.fails (model_joint.NoValue f.0)) h.0; means = inl (fails _ h.1) }
    round_stops acted ended Does (Number o) g h = record { going = g; first = first_stop (cascade.asks _) h.0 }
    round_stops acted ended Does Memory g h = g
