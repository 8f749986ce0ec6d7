-- The laws on ground problems: single steps, put together over lists.
use Rattle.std.proofs.Common.{◌≡◌, ℕ, suc, false, List, [], ◌∷◌, length, replicate, refl, ap, sym, subst, ◌∙◌, pos}
use Rattle.plus_fraction.specs.Fraction.{Fraction, whole}
use Rattle.plus_model.specs.Terms.{Event, Problem}
use Rattle.plus_model.specs.Plan.{Called}
use Rattle.plus_model.specs.Trajectory.{literals}
use Rattle.plus_steps.specs.Translation.{part_meant, goal_translated, with_marks, initial_translated}
use Rattle.plus_steps.specs.Numeric.{NumericPlan}
use Rattle.plus_steps.specs.Laws.{CanBeStepped, PlansAreStepped, SteppedHasOnePlan}
use Rattle.plus_steps.proofs.Pads.{marks_from, pad}
use Rattle.plus_steps.proofs.Mirrors.{Mirrors}
use Rattle.plus_steps.proofs.Sized.{sized_literals}
use Rattle.plus_steps.proofs.OldStep.{old_does, does_old, goal_stands, stands_goal}
use Rattle.plus_steps.proofs.FireStep.{fire_does, does_fire}
use Rattle.plus_steps.proofs.TickStep.{step_does, does_step}
use Rattle.plus_steps.proofs.Lists.{split, after_rounds, go_on, one}

pub mirrors : {C : Type 0} (P : Problem) (q : Fraction) (meant : C → Called) → CanBeStepped P q meant → Mirrors P q meant
mirrors P q meant c = record {
  old = λ call a h fired n s t z. old_does P q meant c fired n s z call a h t;
  old_back = λ call a h fired n s t z. does_old P q meant c fired n s z call a h t;
  step = λ fired n s t z. step_does P q meant c fired n s z t;
  step_back = λ fired n s t z. does_step P q meant c fired n s z t;
  fire = λ fired n s t z. fire_does P q meant c fired n s z t;
  fire_back = λ fired n s t z. does_fire P q meant c fired n s z t;
  goal = λ fired n s z. goal_stands P q meant c fired n s z;
  goal_back = λ fired n s z. stands_goal P q meant c fired n s z;
}

no_marks : (k : ℕ) (es : List Event) → marks_from [] k es ≡ replicate (length es) false
no_marks k [] = refl
no_marks k (e ∷ es) = ap (λ xs. false ∷ xs) (no_marks (suc k) es)

start : (P : Problem) → initial_translated P ≡ pad P [] 0 (literals P (whole (pos 0)) P.initial)
start P = ap (λ bs. with_marks P bs 0 (literals P (whole (pos 0)) P.initial)) (sym (no_marks 0 P.events))

pub plans_are_stepped : (C : Type 0) → PlansAreStepped C
plans_are_stepped C P q meant parts c h =
    let m = mirrors P q meant c in
    let s = literals P (whole (pos 0)) P.initial in
    let z = sized_literals P.atoms P.fluents P (whole (pos 0)) P.initial c.initial in
    let r = split P q meant m parts [] 0 s z (subst (λ t. NumericPlan (part_meant P q meant) (goal_translated P) t parts) (start P) h) in
    record { first = r.last; rests = r.rests; on = r.on }

pub stepped_has_one_plan : (C : Type 0) → SteppedHasOnePlan C
stepped_has_one_plan C P q meant moves c h =
    let m = mirrors P q meant c in
    let s = literals P (whole (pos 0)) P.initial in
    let z = sized_literals P.atoms P.fluents P (whole (pos 0)) P.initial c.initial in
    let r = after_rounds P q meant m moves 0 h.rests.rounds [] s h.first z h.rests.cascade (λ f y e. go_on P q meant m moves f 0 h.first y e h.on) in
    record {
      parts = r.parts;
      plan = subst (λ t. NumericPlan (part_meant P q meant) (goal_translated P) t r.parts) (sym (start P)) r.plan;
      is = r.is;
      one = λ other p e. one P q meant m other r.parts [] 0 s z (subst (λ t. NumericPlan (part_meant P q meant) (goal_translated P) t other) (start P) p) r.plan (e ∙ sym r.is);
    }
