-- What beginning, adding and ending come to.
use Rattle.std.proofs.Common.{◌≡◌, List, [], ◌∷◌, ◌++◌, append_assoc, refl, ap, sym, subst, ◌∙◌}
use Rattle.std.specs.Prelude.{Ok}
use Rattle.plus_fraction.specs.Fraction.{Fraction}
use Rattle.plus_model.specs.Terms.{Effect, State}
use Rattle.plus_model.specs.Joint.{joint}
use Rattle.plus_state.specs.declared.outcome.JointStop.{JointStop}
use Rattle.plus_state.specs.declared.outcome.JointStop.TheVariants.{Conflict, NoValue, Number, Memory}
use Rattle.plus_state.specs.Due.{Due, due_effect, dues, after_dues}
use Rattle.plus_state.specs.Steps.{Passes, AllPass, effect_steps, add_steps, end_steps, joint_steps}
use Rattle.plus_state.specs.Stops.{StopIs}
use Rattle.plus_state.specs.Applies.{NoJoint}
use Rattle.plus_state.proofs.Testing.{pass_append, fail_left, fail_right}
use Rattle.plus_state.proofs.JointLemmas.{joint_passes, joint_stops}

module _ {Q : Type 0} (v : Q → Fraction) (fits : Fraction → Type 0) (es : List Effect) (s : State) where
  no_joint : (e : JointStop Q) → StopIs v fits (joint_steps es s) e → NoJoint es s e
  no_joint (Conflict f) h = joint_stops fits es s _ h
  no_joint (NoValue f) h = joint_stops fits es s _ h
  no_joint (Number o) h = tt
  no_joint Memory h = tt

  stop_adding : (e : JointStop Q) → StopIs v fits (add_steps es s) e → StopIs v fits (joint_steps es s) e
  unfolding joint_steps
  stop_adding (Conflict f) h = fail_left (Passes fits) _ _ _ h
  stop_adding (NoValue f) h = fail_left (Passes fits) _ _ _ h
  stop_adding (Number o) h = fail_left (Passes fits) _ _ _ h
  stop_adding Memory h = tt

  stop_ending : (e : JointStop Q) → AllPass fits (add_steps es s) → StopIs v fits (end_steps (dues es s) s) e → StopIs v fits (joint_steps es s) e
  unfolding joint_steps
  stop_ending (Conflict f) a h = fail_right (Passes fits) _ _ _ a h
  stop_ending (NoValue f) a h = fail_right (Passes fits) _ _ _ a h
  stop_ending (Number o) a h = fail_right (Passes fits) _ _ _ a h
  stop_ending Memory a h = tt

  pub add_stops : (e : JointStop Q) → StopIs v fits (add_steps es s) e → StopIs v fits (joint_steps es s) e × NoJoint es s e
  add_stops e h = (stop_adding e h, no_joint e (stop_adding e h))

  pub end_stops : (ds : List Due) (e : JointStop Q) → AllPass fits (add_steps es s) → ds ≡ dues es s → StopIs v fits (end_steps ds s) e → StopIs v fits (joint_steps es s) e × NoJoint es s e
  end_stops ds e a k h =
      let h' = stop_ending e a (subst (λ (x : List Due). StopIs v fits (end_steps x s) e) k h) in (h', no_joint e h')

  pub ends : (ds : List Due) (t : State) → AllPass fits (add_steps es s) → ds ≡ dues es s → AllPass fits (end_steps ds s) → t ≡ after_dues ds s → AllPass fits (joint_steps es s) × (joint es s ≡ Ok t)
  unfolding joint_steps
  ends ds t a k h e =
      let p : AllPass fits (joint_steps es s) = pass_append (Passes fits) _ _ a (subst (λ (x : List Due). AllPass fits (end_steps x s)) k h) in
      (p, joint_passes fits es s p ∙ ap Ok (sym (e ∙ ap (λ (x : List Due). after_dues x s) k)))

-- more effects
pub add_steps-append : (es fs : List Effect) (s : State) → add_steps (es ++ fs) s ≡ add_steps es s ++ add_steps fs s
add_steps-append [] fs s = refl
add_steps-append (e ∷ es) fs s = ap (λ ns. effect_steps e s ++ ns) (add_steps-append es fs s) ∙ sym (append_assoc (effect_steps e s) (add_steps es s) (add_steps fs s))

pub dues-append : (es fs : List Effect) (s : State) → dues (es ++ fs) s ≡ dues es s ++ dues fs s
dues-append [] fs s = refl
dues-append (e ∷ es) fs s = ap (λ ds. due_effect e s ++ ds) (dues-append es fs s) ∙ sym (append_assoc (due_effect e s) (dues es s) (dues fs s))

pub adding_more : (es fs : List Effect) (s : State) → (add_steps (es ++ fs) s ≡ add_steps es s ++ add_steps fs s) × (dues (es ++ fs) s ≡ dues es s ++ dues fs s)
adding_more es fs s = (add_steps-append es fs s, dues-append es fs s)
