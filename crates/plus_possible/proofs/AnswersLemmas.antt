-- What a search over fewer actions answers, it answers for all.
use Rattle.std.proofs.Common.{◌≡◌, ◌⊎◌, inl, inr, ℕ, ◌-◌, ◌≤◌, Bool, true, List, ◌++◌, length, ap, sym, subst, ◌∙◌}
use Rattle.std.proofs.lemmas.List.{length-map, map-append}
use Rattle.plus_fraction.specs.Fraction.{Fraction}
use Rattle.plus_model.specs.Terms.{State}
use Rattle.plus_search.proofs.Counting.{number_map, some_map}
use Rattle.plus_state.specs.declared.outcome.TimedPlan.{TimedPlan}
use Rattle.plus_planner.specs.declared.searching.Answer.TheVariants.{Plan, NoPlan, Spent}
use Rattle.plus_planner.specs.Grid.{Task, ticks, IsAlive, EndsBeyond, EndsIn, ReachesGoal, LeavesOpen, GridPlan}
use Rattle.plus_planner.specs.Listing.{IsPlanOf}
use Rattle.plus_cut.specs.Answers.{IsUncut, CountsUncut, TriedUncut}
use Rattle.plus_possible.specs.Possible.{possible, narrowed}
use Rattle.plus_possible.specs.Laws.{AnswersForAll, KeptForFewer}
use Rattle.plus_possible.proofs.PlaceLemmas.{place, map_split}
use Rattle.plus_possible.proofs.DecisionLemmas.{tick_same, labels_same}
use Rattle.plus_possible.proofs.NarrowLemmas.{no_more, wide, wide_once, within_all, alive_all, alive_few, beyond_all, beyond_few, ends_all, ends_few, reach_few, open_all, open_few, plan_all, plan_few, alive_wide, beyond_wide}

module _ (fits : Fraction → Type 0) (task : Task) where
  abbrev few : Task
  few = narrowed task

  abbrev far : ℕ → ℕ
  far d = place (possible task.problem task.actions) task.actions d

  abbrev all : List ℕ → List ℕ
  all ds = wide fits task ds

  plan_of_all : {Q : Type 0} (v : Q → Fraction) (ds : List ℕ) (plan : TimedPlan Q) → IsPlanOf v few ds plan → IsPlanOf v task (all ds) plan
  plan_of_all v ds plan p = record {
    acts = p.acts ∙ sym (labels_same (possible task.problem task.actions) task.actions task.interval 0 ds);
    ends = p.ends ∙ sym (ap (ticks task.interval) (tick_same (possible task.problem task.actions) task.actions 0 ds));
  }

  module _ (cut : State → ℕ → Bool) (k : ℕ) where
    uncut_all : (ds : List ℕ) → IsUncut fits few cut k ds → IsUncut fits task cut k (all ds)
    uncut_all ds u ps qs s some e ends says =
        let x = map_split far ds ps qs e in
        u x.first x.second s (λ i. some (x.back ∙ ap all i)) x.is
        (ends_few fits task x.first s (subst (λ (zs : List ℕ). EndsIn fits task zs s) x.front ends))
        (subst (λ (n : ℕ). cut s (k - n) ≡ true) (ap length x.front ∙ length-map x.first far) says)

    uncut_few : (ds : List ℕ) → IsUncut fits task cut k (all ds) → IsUncut fits few cut k ds
    uncut_few ds u ps qs s some e ends says =
        u (all ps) (all qs) s (no_more far qs some) (ap all e ∙ map-append far ps qs) (ends_all fits task ps s ends)
        (subst (λ (n : ℕ). cut s (k - n) ≡ true) (sym (length-map ps far)) says)

    counts_all : (ds : List ℕ) → CountsUncut fits few cut k ds → CountsUncut fits task cut k (all ds)
    counts_all ds c = record {
      counts = record {
        short = subst (λ (n : ℕ). n ≤ k) (sym (length-map ds far)) c.counts.short;
        beyond = elim c.counts.beyond [ inl b ↦ inl (beyond_all fits task ds b) | inr a ↦ inr (alive_all fits task ds a.0, open_all fits task ds a.1) ];
      };
      uncut = uncut_all ds c.uncut;
    }

    counts_few : (ds : List ℕ) → CountsUncut fits task cut k (all ds) → CountsUncut fits few cut k ds
    counts_few ds c = record {
      counts = record {
        short = subst (λ (n : ℕ). n ≤ k) (length-map ds far) c.counts.short;
        beyond = elim c.counts.beyond [ inl b ↦ inl (beyond_few fits task ds b) | inr a ↦ inr (alive_few fits task ds a.0, open_few fits task ds a.1) ];
      };
      uncut = uncut_few ds c.uncut;
    }

    beyond_is_wide : (ds : List ℕ) → EndsBeyond fits task ds ⊎ (IsAlive fits task ds × LeavesOpen fits task ds) → (es : List ℕ) × (ds ≡ all es)
    beyond_is_wide ds (inl b) = beyond_wide fits task ds b
    beyond_is_wide ds (inr a) = alive_wide fits task ds a.0

    counts_of : (ds : List ℕ) → CountsUncut fits task cut k ds → (es : List ℕ) × (ds ≡ all es) × CountsUncut fits few cut k es
    counts_of ds c =
        let w = beyond_is_wide ds c.counts.beyond in
        (w.0, w.1, counts_few w.0 (subst (CountsUncut fits task cut k) w.1 c))

    tried_all : (ds : List ℕ) → TriedUncut fits few cut k ds → TriedUncut fits task cut k (all ds)
    tried_all ds t = record {
      tried = record {
        some = no_more far ds t.tried.some;
        short = subst (λ (n : ℕ). n ≤ k) (sym (length-map ds far)) t.tried.short;
        within = within_all fits task ds t.tried.within;
        goes = λ ps qs some e. (
            let x = map_split far ds ps qs e in
            let g = t.tried.goes x.first x.second (λ i. some (x.back ∙ ap all i)) x.is in
            subst (λ (zs : List ℕ). IsAlive fits task zs × (ReachesGoal fits task zs → ⊥)) (sym x.front) (alive_all fits task x.first g.0, (λ r. g.1 (reach_few fits task x.first r))));
      };
      uncut = uncut_all ds t.uncut;
    }

    none_all : ((ds : List ℕ) → GridPlan fits few k ds → ⊥) → (ds : List ℕ) → GridPlan fits task k ds → ⊥
    none_all none ds g = (let w = alive_wide fits task ds g.alive in none w.0 (plan_few fits task k w.0 (subst (GridPlan fits task k) w.1 g)))

pub answers_for_all : {Q : Type 0} (v : Q → Fraction) (fits : Fraction → Type 0) → AnswersForAll v fits
answers_for_all v fits task cut k tries (Plan plan) h = record {
  decisions = wide fits task h.decisions;
  is = plan_all fits task k h.decisions h.is;
  timed = plan_of_all fits task v h.decisions plan h.timed;
}
answers_for_all v fits task cut k tries (NoPlan n) h = record {
  none = none_all fits task cut k h.none;
  number = number_map (wide fits task) (wide_once fits task) (CountsUncut fits (narrowed task) cut k) (CountsUncut fits task cut k) n h.number
      (counts_all fits task cut k) (counts_of fits task cut k);
}
answers_for_all v fits task cut k tries (Spent n) h = (
  h.0,
  (
    h.1.0,
    h.1.1,
    some_map (wide fits task) (wide_once fits task) (TriedUncut fits (narrowed task) cut k) (TriedUncut fits task cut k) h.1.0 h.1.2 (tried_all fits task cut k),
  ),
)

pub kept_for_fewer : (fits : Fraction → Type 0) → KeptForFewer fits
kept_for_fewer fits task cut kept s m says ds es ends short plan =
    let far = place (possible task.problem task.actions) task.actions in
    let all = wide fits task in
    let g : GridPlan fits task (length (all (ds ++ es))) (all (ds ++ es)) =
    subst (λ (n : ℕ). GridPlan fits task n (all (ds ++ es))) (sym (length-map (ds ++ es) far)) (plan_all fits task (length (ds ++ es)) (ds ++ es) plan) in
    kept s m says (all ds) (all es) (ends_all fits task ds s ends) (subst (λ (n : ℕ). n ≤ m) (sym (length-map es far)) short)
    (subst (λ (zs : List ℕ). GridPlan fits task (length zs) zs) (map-append far ds es) g)
