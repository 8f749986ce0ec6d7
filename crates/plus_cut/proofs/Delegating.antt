-- What a planner without a cut tells of a walk, said of the tree with a cut.
use Rattle.std.proofs.Common.{◌≡◌, ◌≤◌, ◌<◌, ℕ, true, false, Bool, not, ◌&&◌, nat_lt, arith, List, [], ap, sym, subst, ◌∙◌, inr}
use Rattle.std.specs.Prelude.{pos, Result, Ok, Err, IfOk, OnOk, IsTrue, ◌↔◌}
use Rattle.plus_fraction.specs.Fraction.{Fraction, whole}
use Rattle.plus_model.specs.Terms.{State}
use Rattle.plus_search.specs.declared.spaces.Fate.{Fate}
use Rattle.plus_search.specs.declared.spaces.Fate.TheVariants.{Alive, Broken, Beyond}
use Rattle.plus_search.specs.declared.spaces.Goal.{Goal}
use Rattle.plus_search.specs.declared.spaces.Goal.TheVariants.{Reached, Missed, Unclear}
use Rattle.plus_search.specs.Tree.{IsTree}
use Rattle.plus_search.specs.Told.{FateIs, GoalIs}
use Rattle.plus_reads.specs.declared.index.Index.{Index}
use Rattle.plus_timeline.specs.Timeline.{TimelineView, begun}
use Rattle.plus_planner.specs.declared.places.Taken.{Taken}
use Rattle.plus_planner.specs.declared.places.Tried.{Tried}
use Rattle.plus_planner.specs.Grid.{Task, grid, EndsIn, EndsBeyond}
use Rattle.plus_planner.specs.Standing.{Carried}
use Rattle.plus_planner.specs.Places.{uncut}
use Rattle.plus_planner.specs.Worlds.{Holds}
use Rattle.plus_planner.proofs.Walks.{broken_ends, halts_at}
use Rattle.plus_planner.proofs.Beginning.{begin_ends, first_times, both_empty, nothing_is}
use Rattle.plus_planner.proofs.Ending.{one_end}
use Rattle.plus_cut.specs.Cutting.{HoldsCut}
use Rattle.plus_cut.specs.Answers.{HasNoneBy}
use Rattle.plus_cut.proofs.CutAnswers.{none_by_breach, none_by_limit, yes_bounded, bounded_yes}
use Rattle.plus_cut.specs.Cutting.{bounded}

module _ (fits : Fraction → Type 0) (task : Task) (cut : State → ℕ → Bool) where
  fate_is : (ds : List ℕ) (f : Fate) → FateIs (uncut fits task) ds f → FateIs (grid fits task cut) ds f
  fate_is ds Alive h = h
  fate_is ds Broken h = h
  fate_is ds Beyond h = h

  pub fates_are : {E : Type 0} (ds : List ℕ) (r : Result Fate E) → IfOk r (FateIs (uncut fits task) ds) → IfOk r (FateIs (grid fits task cut) ds)
  fates_are ds (Ok f) h = fate_is ds f h
  fates_are ds (Err e) h = tt

  pub goal_is : (ds : List ℕ) (g : Goal) → GoalIs (uncut fits task) ds g → GoalIs (grid fits task cut) ds g
  goal_is ds Reached h = h
  goal_is ds Missed h = h
  goal_is ds Unclear h = h

  pub stands_on : {A E Q : Type 0} (start : TimelineView) (taken : List (Taken Q)) (tried : List (Tried Q)) (spares : List TimelineView) (x : Index) (r : Result A E) → IsTree (grid fits task cut) → OnOk r (Holds fits task start taken tried spares x) → OnOk r (HoldsCut fits task cut start taken tried spares x)
  stands_on start taken tried spares x (Ok a) t h = record { holds = h; tree = t }
  stands_on start taken tried spares x (Err e) t h = tt

  -- the cut is asked of the one state in which the list ends
  pub barren_is : (ds : List ℕ) (s : State) (k : ℕ) → EndsIn fits task ds s → ((t : State) × EndsIn fits task ds t × (cut t k ≡ true)) → cut s k ≡ true
  barren_is ds s k e b = subst (λ z. cut z k ≡ true) (one_end fits task ds b.0 s b.1 e) b.2

module _ (fits : Fraction → Type 0) (task : Task) (cut : State → ℕ → Bool) (k : ℕ) (few : k ≤ 64) (tree : IsTree (grid fits task (bounded cut))) where
  pub begin_broken : (new : TimelineView) (fate : Fate) → fits (whole (pos 0)) → Carried fits task.problem (whole (pos 0)) (begun task.problem task.most) new fate → fate ≡ Broken → HasNoneBy fits task cut k 0
  begin_broken new fate f c a =
      let g = begin_ends fits task new Broken f (subst (Carried fits task.problem (whole (pos 0)) (begun task.problem task.most) new) a c) in
      let n = broken_ends fits task [] (first_times fits task f) g.0 g.1 in
      none_by_breach fits task cut k few tree n.0 n.1

  pub begin_beyond : (new : TimelineView) (fate : Fate) → fits (whole (pos 0)) → Carried fits task.problem (whole (pos 0)) (begun task.problem task.most) new fate → fate ≡ Beyond → HasNoneBy fits task cut k 1
  begin_beyond new fate f c a =
      let g = begin_ends fits task new Beyond f (subst (Carried fits task.problem (whole (pos 0)) (begun task.problem task.most) new) a c) in
      let ends : EndsBeyond fits task [] = record {
        before = λ ps qs some h. absurd (some (both_empty fits task ps qs h).1);
        within = λ ps qs d h. absurd (nothing_is fits task ps qs d h);
        beyond = inr (g.0, halts_at fits task [] g.0 g.1);
      } in
      none_by_limit fits task cut k few tree ends

-- ---- the cut that is asked

module _ (fits : Fraction → Type 0) (task : Task) (cut : State → ℕ → Bool) (ds : List ℕ) where
  -- with more than 64 decisions left it is not
  more_is : (s : State) (k : ℕ) → 64 < k → bounded cut s k ≡ true → ⊥
  more_is s k h e = (let f : not (nat_lt 64 k) ≡ false = grind arith in let g : bounded cut s k ≡ false = ap (λ b. b && cut s k) f in cc (e, g))

  pub not_more : (k : ℕ) → 64 < k → IsTrue false ↔ ((t : State) × EndsIn fits task ds t × (bounded cut t k ≡ true))
  not_more k h = ((λ e. absurd (let f : false ≡ true = e in cc f)), (λ b. absurd (more_is b.0 k h b.2)))

  pub is_yes : (s : State) (k : ℕ) → k ≤ 64 → EndsIn fits task ds s → (r : Bool) → r ≡ cut s k → IsTrue r ↔ ((t : State) × EndsIn fits task ds t × (bounded cut t k ≡ true))
  is_yes s k h e r a = (
    (λ y. (s, e, yes_bounded cut s k h (sym a ∙ y))),
    (λ b. a ∙ bounded_yes cut s k (barren_is fits task (bounded cut) ds s k e b)),
  )
