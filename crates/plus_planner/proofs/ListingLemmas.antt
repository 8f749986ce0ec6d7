-- The timed plan of what was taken.
use Rattle.std.proofs.Common.{◌≡◌, ◌≤◌, ◌<◌, ℕ, ◌+◌, List, [], ◌∷◌, ◌++◌, length, drop, refl, ap, sym, ◌∙◌, append-nil, append_assoc}
use Rattle.std.proofs.Math.ListN.{drop_of_length-le}
use Rattle.std.specs.Prelude.{Option, Some, None, slice_get, slice_index_or}
use Rattle.plus_fraction.specs.Fraction.{Fraction}
use Rattle.plus_model.specs.Terms.{Action}
use Rattle.plus_state.specs.declared.outcome.TimedPlan.{TimedPlan}
use Rattle.plus_timeline.specs.Timeline.{TimelineView}
use Rattle.plus_planner.specs.declared.places.Taken.{Taken}
use Rattle.plus_planner.specs.Grid.{Task, ticks, after_decision, tick_after}
use Rattle.plus_planner.specs.Places.{path_of, StandFrom, StandsBehind}
use Rattle.plus_planner.specs.Listing.{TimedLabel, labelled, labels_from, acts_of, IsPlanOf, labels_in, Lists}
use Rattle.plus_planner.proofs.Ready.{ticks_join}
use Rattle.plus_planner.proofs.PlaceLemmas.{map-snoc, slice_none, head_stands, tail_stands, now_stands}
use Rattle.plus_planner.proofs.TakenLemmas.{drop_at}

-- ---- one decision more

module _ {Q : Type 0} (v : Q → Fraction) (actions : List Action) (acts : List (Q × List ℕ)) (d : ℕ) (t : Fraction) where
  -- a wait is not listed
  pub list_wait : length actions ≤ d → (rest : List TimedLabel) → acts_of v acts ++ rest ≡ acts_of v acts ++ labelled (slice_get actions d) t rest
  list_wait h rest = sym (ap (λ (o : Option Action). acts_of v acts ++ labelled o t rest) (slice_none actions d h))

  -- an action is
  pub list_act : (acts' : List (Q × List ℕ)) (action : Action) (time : Q) (label : List ℕ) → slice_get actions d ≡ Some action → label ≡ action.label → v time ≡ t → acts' ≡ acts ++ (time, label) ∷ [] → (rest : List TimedLabel) → acts_of v acts' ++ rest ≡ acts_of v acts ++ labelled (slice_get actions d) t rest
  list_act acts' action time label s g f e rest =
      ap (λ z. acts_of v z ++ rest) e
      ∙ ap (λ z. z ++ rest) (map-snoc (λ (a : Q × List ℕ). (v a.0, a.1)) acts (time, label))
      ∙ append_assoc (acts_of v acts) ((v time, label) ∷ []) rest
      ∙ ap (λ (z : Fraction). acts_of v acts ++ (z, label) ∷ rest) f
      ∙ ap (λ (l : List ℕ). acts_of v acts ++ (t, l) ∷ rest) g
      ∙ sym (ap (λ (o : Option Action). acts_of v acts ++ labelled o t rest) s)

module _ {Q : Type 0} (v : Q → Fraction) (actions : List Action) (taken : List (Taken Q)) (acts : List (Q × List ℕ)) (i : ℕ) (all : List TimedLabel) where
  pub list_more : (acts' : List (Q × List ℕ)) (x : Taken Q) → i < length taken → x ≡ slice_index_or taken i x → ((rest : List TimedLabel) → acts_of v acts' ++ rest ≡ acts_of v acts ++ labelled (slice_get actions x.decision) x.timeline.now.time rest) → acts_of v acts ++ labels_in actions (drop i taken) ≡ all → acts_of v acts' ++ labels_in actions (drop (i + 1) taken) ≡ all
  list_more acts' x h e s g =
      s (labels_in actions (drop (i + 1) taken))
      ∙ sym (ap (λ (z : List (Taken Q)). acts_of v acts ++ labels_in actions z) (drop_at taken i x h e))
      ∙ g

  pub list_end : length taken ≤ i → acts_of v acts ++ labels_in actions (drop i taken) ≡ all → acts_of v acts ≡ all
  list_end h g =
      sym (append-nil (acts_of v acts))
      ∙ sym (ap (λ (z : List (Taken Q)). acts_of v acts ++ labels_in actions z) (drop_of_length-le taken h))
      ∙ g

-- ---- the plan of the decisions

same_label : (o : Option Action) (q : Fraction) (n : ℕ) (t : Fraction) (xs ys : List TimedLabel) → t ≡ ticks q (after_decision o n) → xs ≡ ys → labelled o t xs ≡ labelled o (ticks q n) ys
same_label (Some a) q n t xs ys e f = ap (λ (z : Fraction). (z, a.label) ∷ xs) e ∙ ap (λ (z : List TimedLabel). (ticks q n, a.label) ∷ z) f
same_label None q n t xs ys e f = f

module _ {Q : Type 0} (fits : Fraction → Type 0) (task : Task) where
  labels_are : (ds : List ℕ) (taken : List (Taken Q)) → StandFrom fits task ds taken → labels_in task.actions taken ≡ labels_from task.actions task.interval (tick_after task.actions 0 ds) (path_of taken)
  labels_are ds [] s = refl
  labels_are ds (x ∷ xs) s =
      let n = tick_after task.actions 0 ds in
      let now = ticks_join task.actions 0 ds (x.decision ∷ []) in
      same_label (slice_get task.actions x.decision) task.interval n x.timeline.now.time
      (labels_in task.actions xs) (labels_from task.actions task.interval (after_decision (slice_get task.actions x.decision) n) (path_of xs))
      ((head_stands fits task ds x xs s).time ∙ ap (ticks task.interval) now)
      (labels_are (ds ++ x.decision ∷ []) xs (tail_stands fits task ds x xs s) ∙ ap (λ m. labels_from task.actions task.interval m (path_of xs)) now)

  pub lists_plan : (v : Q → Fraction) (start : TimelineView) (taken : List (Taken Q)) (plan : TimedPlan Q) → StandsBehind fits task start taken → Lists v task.actions start taken plan → IsPlanOf v task (path_of taken) plan
  lists_plan v start taken plan b l = record {
    acts = l.acts ∙ labels_are [] taken b.each;
    ends = l.ends ∙ (now_stands fits task start taken b).time;
  }
