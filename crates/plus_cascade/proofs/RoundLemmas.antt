-- What a round comes to, by what its parts come to.
use Rattle.std.proofs.Common.{◌≡◌, ℕ, Bool, List, [], ◌∷◌, ◌++◌, length, map, refl, ap, sym, subst, ◌∙◌, arith}
use Rattle.std.specs.Prelude.{◌≢◌, Option, Some, None, Ok, Err}
use Rattle.plus_fraction.specs.Fraction.{Fraction}
use Rattle.plus_model.specs.Terms.{State, Problem}
use Rattle.plus_model.specs.Joint as model
use Rattle.plus_model.specs.Joint.{joint}
use Rattle.plus_model.specs.Firing.{firing, effects_of}
use Rattle.plus_state.specs.declared.outcome.JointStop.{JointStop}
use Rattle.plus_state.specs.declared.outcome.JointStop.TheVariants as joint_stop
use Rattle.plus_state.specs.Asked.{AllFit}
use Rattle.plus_state.specs.Steps as steps
use Rattle.plus_state.specs.Steps.{joint_steps}
use Rattle.plus_state.specs.Stops as stops
use Rattle.plus_state.specs.Applies.{NoJoint}
use Rattle.plus_cascade.specs.declared.rounds.CascadeStop.{CascadeStop}
use Rattle.plus_cascade.specs.declared.rounds.CascadeStop.TheVariants.{Repeats, Conflict, NoValue, Number, Memory}
use Rattle.plus_state.specs.declared.term.EventId.{EventId}
use Rattle.plus_cascade.specs.Fired.{event_numbers, first_repeated}
use Rattle.plus_cascade.specs.Steps.{RoundStep, repeats, Passes, AllPass, FirstStop, of_step, condition_nodes, repeat_steps, fire_steps, round_steps}
use Rattle.plus_cascade.specs.Rounds.{Fires, FailsJointly, NoRound, StopIs, of_joint, ConditionStops}
use Rattle.plus_state.proofs.Testing.{pass_none, pass_append, fail_left, fail_right, fail_here, carry_pass, carry_fail}
use Rattle.plus_cascade.proofs.StepsLemmas.{nodes_carry, joint_carries}

pub no_numbers : (xs : List EventId) → length xs ≡ 0 → event_numbers xs ≡ []
no_numbers [] h = refl
no_numbers (x ∷ xs) h = absurd (omega arith)

pub some_numbers : (xs : List EventId) → (length xs ≡ 0 → ⊥) → event_numbers xs ≢ []
some_numbers [] h e = h refl
some_numbers (x ∷ xs) h e = cc

module _ (fits : Fraction → Type 0) (P : Problem) (fired : List Bool) (s : State) where
  fire_steps_is : (events : List ℕ) → events ≢ [] → fire_steps P fired s events ≡ repeat_steps (first_repeated fired events) ++ map of_step (joint_steps (effects_of P events) s)
  unfolding fire_steps
  fire_steps_is [] h = absurd (h refl)
  fire_steps_is (e ∷ es) h = refl

  pub none_holds : (events : List ℕ) → AllFit fits (condition_nodes P.events s) → events ≡ firing P s → events ≡ [] → AllPass fits (round_steps P fired s) × (firing P s ≡ [])
  unfolding round_steps fire_steps
  none_holds events a e z =
      let n : [] ≡ firing P s = sym z ∙ e in
      (pass_append (Passes fits) _ _ (carry_pass (nodes_carry fits) _ a) (subst (λ (es : List ℕ). AllPass fits (fire_steps P fired s es)) n (pass_none (Passes fits))), sym n)

  late : (events : List ℕ) (m : RoundStep) → AllFit fits (condition_nodes P.events s) → events ≡ firing P s → FirstStop fits (fire_steps P fired s events) m → FirstStop fits (round_steps P fired s) m
  unfolding round_steps
  late events m a e h = fail_right (Passes fits) _ _ m (carry_pass (nodes_carry fits) _ a) (subst (λ (es : List ℕ). FirstStop fits (fire_steps P fired s es) m) e h)

  pub repeats_first : (events : List ℕ) (e : ℕ) → AllFit fits (condition_nodes P.events s) → events ≡ firing P s → events ≢ [] → Some e ≡ first_repeated fired events → FirstStop fits (round_steps P fired s) (repeats e) × (first_repeated fired (firing P s) ≡ Some e)
  unfolding Passes
  repeats_first events e a k z r = (
    late events (repeats e) a k (subst (λ (ns : List RoundStep). FirstStop fits ns (repeats e)) (sym (fire_steps_is events z)) (subst (λ (o : Option ℕ). FirstStop fits (repeat_steps o ++ map of_step (joint_steps (effects_of P events) s)) (repeats e)) r (fail_here (Passes fits) _ _ (λ h. h)))),
    sym (r ∙ ap (first_repeated fired) k),
  )

  fresh_steps : (events : List ℕ) → events ≢ [] → None ≡ first_repeated fired events → map of_step (joint_steps (effects_of P events) s) ≡ fire_steps P fired s events
  fresh_steps events z r = ap (λ (o : Option ℕ). repeat_steps o ++ map of_step (joint_steps (effects_of P events) s)) r ∙ sym (fire_steps_is events z)

  pub fires : (events : List ℕ) (after : State) → AllFit fits (condition_nodes P.events s) → events ≡ firing P s → events ≢ [] → None ≡ first_repeated fired events → steps.AllPass fits (joint_steps (effects_of P events) s) → joint (effects_of P events) s ≡ Ok after → AllPass fits (round_steps P fired s) × Fires P fired s events after
  unfolding round_steps
  fires events after a k z r p j = (
    pass_append (Passes fits) _ _ (carry_pass (nodes_carry fits) _ a) (subst (λ (es : List ℕ). AllPass fits (fire_steps P fired s es)) k (subst (AllPass fits) (fresh_steps events z r) (carry_pass (joint_carries fits) _ p))),
    record { all = k; some = z; fresh = sym r; effect = j },
  )

  module _ {Q : Type 0} (v : Q → Fraction) where
    pub stops_early : (stop : CascadeStop Q) → ConditionStops v fits (condition_nodes P.events s) stop → StopIs v fits (round_steps P fired s) stop × NoRound P fired s stop
    unfolding round_steps
    stops_early (Repeats e) h = absurd h
    stops_early (Conflict f) h = absurd h
    stops_early (NoValue f) h = absurd h
    stops_early (Number o) h = (fail_left (Passes fits) _ _ _ (carry_fail (nodes_carry fits) _ _ h), tt)
    stops_early Memory h = (tt, tt)

    fails_jointly : (events : List ℕ) (why : model.Fault) → events ≡ firing P s → events ≢ [] → None ≡ first_repeated fired events → joint (effects_of P events) s ≡ Err why → FailsJointly P fired s why
    fails_jointly events why k z r j = record {
      some = subst (λ (es : List ℕ). es ≢ []) k z;
      fresh = sym (r ∙ ap (first_repeated fired) k);
      fails = subst (λ (es : List ℕ). joint (effects_of P es) s ≡ Err why) k j;
    }

    joint_late : (events : List ℕ) (m : steps.Step) → AllFit fits (condition_nodes P.events s) → events ≡ firing P s → events ≢ [] → None ≡ first_repeated fired events → steps.FirstStop fits (joint_steps (effects_of P events) s) m → FirstStop fits (round_steps P fired s) (of_step m)
    joint_late events m a k z r h = late events (of_step m) a k (subst (λ (ns : List RoundStep). FirstStop fits ns (of_step m)) (fresh_steps events z r) (carry_fail (joint_carries fits) _ m h))

    pub stops_late : (events : List ℕ) (stop : JointStop Q) → AllFit fits (condition_nodes P.events s) → events ≡ firing P s → events ≢ [] → None ≡ first_repeated fired events → stops.StopIs v fits (joint_steps (effects_of P events) s) stop → NoJoint (effects_of P events) s stop → StopIs v fits (round_steps P fired s) (of_joint stop) × NoRound P fired s (of_joint stop)
    stops_late events (joint_stop.Conflict f) a k z r h n = (joint_late events _ a k z r h, fails_jointly events _ k z r n)
    stops_late events (joint_stop.NoValue f) a k z r h n = (joint_late events _ a k z r h, fails_jointly events _ k z r n)
    stops_late events (joint_stop.Number o) a k z r h n = (joint_late events _ a k z r h, tt)
    stops_late events joint_stop.Memory a k z r h n = (tt, tt)
