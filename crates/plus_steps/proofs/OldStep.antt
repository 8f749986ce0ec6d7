-- An old action in the translation, and the goal.
use Rattle.std.proofs.Common.{◌≡◌, ℕ, ◌+◌, Bool, true, false, ◌&&◌, ◌||◌, List, [], ◌++◌, refl, ap, ap₂, sym, ◌∙◌, arith}
use Rattle.std.specs.Prelude.{Ok}
use Rattle.plus_fraction.specs.Fraction.{Fraction}
use Rattle.plus_model.specs.Terms.{Action, Condition, Effect, State, Problem}
use Rattle.plus_model.specs.Value.{holds}
use Rattle.plus_model.specs.Joint.{joint}
use Rattle.plus_model.specs.Firing.{firing}
use Rattle.plus_model.specs.Plan.{Called, Instance}
use Rattle.plus_state.specs.Fits.{Fits, StateFits, AllEffectsFit}
use Rattle.plus_steps.specs.Stepped.{Does}
use Rattle.plus_steps.specs.Laws.{CanBeStepped}
use Rattle.plus_steps.specs.Translation.{old_action, clears_from, none_hold, goal_translated, has_clock, clock_value}
use Rattle.plus_steps.proofs.Pads.{marks_from, pad}
use Rattle.plus_steps.proofs.Mirrors.{OldDoes, GoalStands}
use Rattle.plus_steps.proofs.Tally.{both_written, gained, lost, wrote, fine, atoms_by, values_by, gained-append, lost-append, wrote-append, fine-append}
use Rattle.plus_steps.proofs.Inside.{holds_same, gained_same, lost_same, wrote_same, fine_same, none_gained, none_wrote}
use Rattle.plus_steps.proofs.Apart.{Alike, joint_on, joint_from}
use Rattle.plus_steps.proofs.Conds.{firing_same, none_is, is_empty, empty_is}
use Rattle.plus_steps.proofs.Marks.{or_true, or_false, and_true, stays_right, clears_gain, clears_fine, clears_write, clears_keep, clears_lose, all_lost, clock_stays}

pub both_true : (x y : Bool) → x && y ≡ true → (x ≡ true) × (y ≡ true)
both_true true true h = (refl, refl)
both_true true false h = cc
both_true false y h = cc

module _ {C : Type 0} (P : Problem) (q : Fraction) (meant : C → Called) (c : CanBeStepped P q meant) (fired : List ℕ) (n : ℕ) (s : State) (z : StateFits P.atoms P.fluents s) where
  -- that no event holds is seen in the padded state
  pub still_is : holds (none_hold P.events) (pad P fired n s) ≡ is_empty (firing P s)
  unfolding firing
  still_is = none_is (pad P fired n s) 0 P.events ∙ ap is_empty (firing_same P.atoms P.fluents s (marks_from fired 0 P.events) (clock_value (has_clock P) n) z 0 P.events c.events)

  pub condition_is : (d : Condition) → Fits P.atoms P.fluents d → holds d (pad P fired n s) ≡ holds d s
  condition_is d h = holds_same P.atoms P.fluents s (marks_from fired 0 P.events) (clock_value (has_clock P) n) z d h

  pub goal_stands : holds (goal_translated P) (pad P fired n s) ≡ true → GoalStands P s
  goal_stands h =
      let b = both_true _ _ h in
      record { still = empty_is (firing P s) (sym still_is ∙ b.1); goal = sym (condition_is P.goal c.goal) ∙ b.0 }

  pub stands_goal : GoalStands P s → holds (goal_translated P) (pad P fired n s) ≡ true
  stands_goal g = ap₂ (λ x y. x && y) (condition_is P.goal c.goal ∙ g.goal) (still_is ∙ ap is_empty g.still)

  -- effects and then what clears the marks
  module _ (es : List Effect) (fit : AllEffectsFit P.atoms P.fluents es) where
    abbrev pub cleared : List Effect
    cleared = es ++ clears_from P.atoms P.events

    alike : Alike P.atoms P.fluents cleared (pad P fired n s) es s
    alike =
        let t = pad P fired n s in
        let bs = marks_from fired 0 P.events in
        let vs = clock_value (has_clock P) n in
        record {
          fine_is = fine-append t es _ ∙ ap₂ (λ x y. x && y) (fine_same P.atoms P.fluents s bs vs z es fit) (clears_fine t P.atoms P.events) ∙ and_true (fine es s);
          gained_is = λ a l. gained-append t a es _ ∙ ap₂ (λ x y. x || y) (gained_same P.atoms P.fluents s bs vs z a es fit) (clears_gain t a P.atoms P.events) ∙ or_false (gained a es s);
          lost_is = λ a l. lost-append t a es _ ∙ ap₂ (λ x y. x || y) (lost_same P.atoms P.fluents s bs vs z a es fit) (clears_keep t a P.atoms l P.events) ∙ or_false (lost a es s);
          wrote_is = λ f l. wrote-append t f es _ ∙ ap₂ both_written (wrote_same P.atoms P.fluents s bs vs z f es fit) (clears_write t f P.atoms P.events) ∙ stays_right (wrote f es s);
        }

    marks : atoms_by P.atoms cleared (pad P fired n s) (marks_from fired 0 P.events) ≡ marks_from [] 0 P.events
    marks =
        let t = pad P fired n s in
        all_lost fired cleared t P.atoms 0 P.events (λ j l. (
          gained-append t (P.atoms + j) es _ ∙ ap₂ (λ x y. x || y) (none_gained P.atoms P.fluents t (P.atoms + j) (omega arith) es fit) (clears_gain t (P.atoms + j) P.atoms P.events),
          lost-append t (P.atoms + j) es _ ∙ ap (λ y. lost (P.atoms + j) es t || y) (clears_lose t P.atoms j P.events l) ∙ or_true (lost (P.atoms + j) es t),
        ))

    clock : values_by P.fluents cleared (pad P fired n s) (clock_value (has_clock P) n) ≡ Ok (clock_value (has_clock P) n)
    clock =
        let t = pad P fired n s in
        clock_stays cleared t P.fluents (has_clock P) n
        (wrote-append t P.fluents es _ ∙ ap₂ both_written (none_wrote P.atoms P.fluents t P.fluents (omega arith) es fit) (clears_write t P.fluents P.atoms P.events))

    pub cleared_on : (u : State) → joint es s ≡ Ok u → joint cleared (pad P fired n s) ≡ Ok (pad P [] n u)
    cleared_on u g = joint_on P.atoms P.fluents cleared es s _ _ _ _ z alike marks clock u g

    pub cleared_from : (t : State) → joint cleared (pad P fired n s) ≡ Ok t → (u : State) × (joint es s ≡ Ok u) × (t ≡ pad P [] n u)
    cleared_from t g = joint_from P.atoms P.fluents cleared es s _ _ _ _ z alike marks clock t g

  pub old_does : (call : C) (a : Action) → meant call ≡ Instance a → (t : State) → Does (old_action P a) (pad P fired n s) t → OldDoes P a n s t
  old_does call a h t d =
      let fit = c.calls call a h in
      let b = both_true _ _ d.may in
      let r = cleared_from a.effects fit.1 t d.effect in
      record {
        after = r.0;
        still = empty_is (firing P s) (sym still_is ∙ b.1);
        does = record { may = sym (condition_is a.condition fit.0) ∙ b.0; effect = r.1 };
        is = r.2;
      }

  pub does_old : (call : C) (a : Action) → meant call ≡ Instance a → (t : State) → OldDoes P a n s t → Does (old_action P a) (pad P fired n s) t
  does_old call a h t d =
      let fit = c.calls call a h in
      record {
        may = ap₂ (λ x y. x && y) (condition_is a.condition fit.0 ∙ d.does.may) (still_is ∙ ap is_empty d.still);
        effect = cleared_on a.effects fit.1 d.after d.does.effect ∙ ap Ok (sym d.is);
      }
