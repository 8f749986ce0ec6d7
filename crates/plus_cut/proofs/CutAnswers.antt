-- From the answers of the search over the tree to those of a search with a cut.
use Rattle.std.proofs.Common.{◌≡◌, ◌≢◌, inl, inr, ℕ, suc, ◌-◌, ◌<◌, ◌≤◌, true, false, Bool, not, ◌&&◌, nat_lt, List, [], ◌∷◌, ◌++◌, length, refl, ap, subst, ◌∙◌, arith}
use Rattle.std.specs.List.{AllByRecursion}
use Rattle.plus_fraction.specs.Fraction.{Fraction}
use Rattle.plus_model.specs.Terms.{State}
use Rattle.plus_search.specs.Tree.{Tree, IsTree, below, seen_from, IsPlan, Uncut, IsBeyond, GoesOn, IsTried}
use Rattle.plus_search.specs.Lists.{Number, MoreThan}
use Rattle.plus_search.specs.Told as told
use Rattle.plus_search.specs.declared.searching.Found.{Found}
use Rattle.plus_search.specs.declared.searching.Found.TheVariants as found
use Rattle.plus_search.proofs.Bounds.{throughout_is, nothing_starts}
use Rattle.plus_search.proofs.Seen.{seen_barren, barren_seen}
use Rattle.plus_search.proofs.Counting.{number_same, some_same}
use Rattle.plus_state.specs.declared.outcome.TimedPlan.{TimedPlan}
use Rattle.plus_timeline.specs.Timeline.{TimelineView}
use Rattle.plus_planner.specs.declared.places.Taken.{Taken}
use Rattle.plus_planner.specs.Grid.{Task, IsAlive, EndsBeyond, GridPlan, IsKept, grid}
use Rattle.plus_planner.specs.Places.{path_of, StandsBehind}
use Rattle.plus_planner.specs.Listing.{Lists}
use Rattle.plus_planner.specs.Searches.{IsFound}
use Rattle.plus_planner.proofs.Growing.{grid_is_tree}
use Rattle.plus_planner.proofs.ListingLemmas.{lists_plan}
use Rattle.plus_cut.specs.Cutting.{bounded}
use Rattle.plus_cut.specs.Answers.{IsUncut, CountsUncut, TriedUncut, HasNoneBy}

-- ---- the cut with at most 64 decisions left

and_right : (a b : Bool) → (a && b) ≡ true → b ≡ true
and_right true b e = e
and_right false b e = cc

pub bounded_yes : (cut : State → ℕ → Bool) (s : State) (m : ℕ) → bounded cut s m ≡ true → cut s m ≡ true
bounded_yes cut s m e = and_right (not (nat_lt 64 m)) (cut s m) e

within_64 : (m : ℕ) → m ≤ 64 → not (nat_lt 64 m) ≡ true
within_64 m h = grind arith

pub yes_bounded : (cut : State → ℕ → Bool) (s : State) (m : ℕ) → m ≤ 64 → cut s m ≡ true → bounded cut s m ≡ true
yes_bounded cut s m h e = ap (λ b. b && cut s m) (within_64 m h) ∙ e

pub bounded_kept : (fits : Fraction → Type 0) (task : Task) (cut : State → ℕ → Bool) → IsKept fits task cut → IsKept fits task (bounded cut)
bounded_kept fits task cut k s m e = k s m (bounded_yes cut s m e)

pub cut_is_tree : (fits : Fraction → Type 0) (task : Task) (cut : State → ℕ → Bool) → IsKept fits task cut → IsTree (grid fits task (bounded cut))
cut_is_tree fits task cut k = grid_is_tree fits task (bounded cut) (bounded_kept fits task cut k)

-- ---- lists

seen_alive : (T : Tree) (ds : List ℕ) → (seen_from T ds).Alive [] → T.Alive ds
seen_alive T [] h = h
seen_alive T (d ∷ ds) h = seen_alive (below T d) ds h

reached_seen : (T : Tree) (ds : List ℕ) → T.Reached ds → (seen_from T ds).Reached []
reached_seen T [] h = h
reached_seen T (d ∷ ds) h = reached_seen (below T d) ds h

all_within : (n : ℕ) (ds : List ℕ) → ((ps qs : List ℕ) (d : ℕ) → ds ≡ ps ++ d ∷ qs → d < n) → AllByRecursion (λ d. d < n) ds
all_within n [] w = tt
all_within n (d ∷ ds) w = (w [] ds d refl, all_within n ds (λ ps qs e f. w (d ∷ ps) qs e (ap (λ z. d ∷ z) f)))

within_all : (n : ℕ) (ds ps qs : List ℕ) (d : ℕ) → AllByRecursion (λ d. d < n) ds → ds ≡ ps ++ d ∷ qs → d < n
within_all n [] [] qs d a e = cc e
within_all n [] (p ∷ ps) qs d a e = cc e
within_all n (x ∷ xs) [] qs d a e = (let same : x ≡ d = cc e in subst (λ z. z < n) same a.0)
within_all n (x ∷ xs) (p ∷ ps) qs d a e = (let rest : xs ≡ ps ++ d ∷ qs = cc e in within_all n xs ps qs d a.1 rest)

some_list : (d : ℕ) (ds : List ℕ) → d ∷ ds ≢ []
some_list d ds e = cc e

-- ---- the answers

module _ (fits : Fraction → Type 0) (task : Task) (cut : State → ℕ → Bool) (k : ℕ) (few : k ≤ 64) where
  pub plan_is : (ds : List ℕ) → IsPlan (grid fits task (bounded cut)) k ds → GridPlan fits task k ds
  plan_is ds p = record { short = p.short; alive = p.alive; goal = p.reached }

  pub no_plan : ((ds : List ℕ) → IsPlan (grid fits task (bounded cut)) k ds → ⊥) → (ds : List ℕ) → GridPlan fits task k ds → ⊥
  no_plan h ds p = h ds record { short = p.short; alive = p.alive; reached = p.goal }

  less : (n : ℕ) → k - n ≤ 64
  less n = omega (arith, few)

  uncut_by : (ds : List ℕ) → ((ps qs : List ℕ) → qs ≢ [] → ds ≡ ps ++ qs → (seen_from (grid fits task (bounded cut)) ps).Barren [] (k - length ps) → ⊥) → IsUncut fits task cut k ds
  uncut_by ds h ps qs s some e ends says =
      h ps qs some e (seen_barren (grid fits task (bounded cut)) ps (k - length ps) (s, ends, yes_bounded cut s (k - length ps) (less (length ps)) says))

  by_uncut : (ds : List ℕ) → IsUncut fits task cut k ds → (ps qs : List ℕ) → qs ≢ [] → ds ≡ ps ++ qs → (seen_from (grid fits task (bounded cut)) ps).Barren [] (k - length ps) → ⊥
  by_uncut ds h ps qs some e b =
      let c = barren_seen (grid fits task (bounded cut)) ps (k - length ps) b in
      h ps qs c.0 some e c.1 (bounded_yes cut c.0 (k - length ps) c.2)

  beyond_is : (ds : List ℕ) → IsBeyond (grid fits task (bounded cut)) k ds → CountsUncut fits task cut k ds
  beyond_is ds b =
      let a = (throughout_is Uncut (grid fits task (bounded cut)) k ds).0 b.0 in
      record { counts = record { short = a.short; beyond = b.1 }; uncut = uncut_by ds a.each }

  is_beyond : (ds : List ℕ) → CountsUncut fits task cut k ds → IsBeyond (grid fits task (bounded cut)) k ds
  is_beyond ds c = (
    (throughout_is Uncut (grid fits task (bounded cut)) k ds).1 record {
      short = c.counts.short;
      within = all_within (suc (length task.actions)) ds (elim c.counts.beyond [ inl b ↦ b.within | inr a ↦ a.0.within ]);
      each = by_uncut ds c.uncut;
    },
    c.counts.beyond,
  )

  pub beyond_number : (n : ℕ) → Number (IsBeyond (grid fits task (bounded cut)) k) n → Number (CountsUncut fits task cut k) n
  beyond_number n h = number_same (IsBeyond (grid fits task (bounded cut)) k) (CountsUncut fits task cut k) n h beyond_is is_beyond

  tried_is : (ds : List ℕ) → IsTried (grid fits task (bounded cut)) k ds → TriedUncut fits task cut k ds
  tried_is [] t = absurd t
  tried_is (d ∷ ds) t =
      let T = grid fits task (bounded cut) in
      let a = (throughout_is GoesOn T k (d ∷ ds)).0 t in
      record {
        tried = record {
          some = some_list d ds;
          short = a.short;
          within = λ ps qs e f. within_all (suc (length task.actions)) (d ∷ ds) ps qs e a.within f;
          goes = λ ps qs some e. (let g = a.each ps qs some e in (seen_alive T ps g.alive, (λ r. g.missed (reached_seen T ps r))));
        };
        uncut = uncut_by (d ∷ ds) (λ ps qs some e. (a.each ps qs some e).uncut);
      }

  pub more_tried : (n : ℕ) → MoreThan (IsTried (grid fits task (bounded cut)) k) n → MoreThan (TriedUncut fits task cut k) n
  more_tried n h = (h.0, h.1, some_same (IsTried (grid fits task (bounded cut)) k) (TriedUncut fits task cut k) h.0 h.2 tried_is)

  -- what is found, by the answer of the search
  pub plan_found : {Q : Type 0} (tries : ℕ) (v : Q → Fraction) (start : TimelineView) (taken : List (Taken Q)) (plan : TimedPlan Q) (f : Found) → f ≡ found.Plan → told.Answers (grid fits task (bounded cut)) k tries (path_of taken) f → StandsBehind fits task start taken → Lists v task.actions start taken plan → IsFound v fits task k plan
  plan_found tries v start taken plan f e a b l = record {
    decisions = path_of taken;
    is = plan_is (path_of taken) (subst (told.Answers (grid fits task (bounded cut)) k tries (path_of taken)) e a);
    timed = lists_plan fits task v start taken plan b l;
  }

  pub none_found : (tries : ℕ) (path : List ℕ) (beyond : ℕ) (f : Found) → f ≡ found.NoPlan beyond → told.Answers (grid fits task (bounded cut)) k tries path f → HasNoneBy fits task cut k beyond
  none_found tries path beyond f e a =
      let b = subst (told.Answers (grid fits task (bounded cut)) k tries path) e a in
      record { none = no_plan b.0; number = beyond_number beyond b.1 }

  pub spent_found : (tries : ℕ) (path : List ℕ) (f : Found) → f ≡ found.Spent → told.Answers (grid fits task (bounded cut)) k tries path f → (tries ≡ tries) × MoreThan (TriedUncut fits task cut k) tries
  spent_found tries path f e a = (let b = subst (told.Answers (grid fits task (bounded cut)) k tries path) e a in (refl, more_tried tries b.0))

  -- where not even the beginning can be played
  module _ (tree : IsTree (grid fits task (bounded cut))) where
    pub none_by_breach : (IsAlive fits task [] → ⊥) → (EndsBeyond fits task [] → ⊥) → HasNoneBy fits task cut k 0
    none_by_breach n m =
        let s = nothing_starts (grid fits task (bounded cut)) tree k n in
        record { none = no_plan s.none; number = beyond_number 0 (s.broken m) }

    pub none_by_limit : EndsBeyond fits task [] → HasNoneBy fits task cut k 1
    none_by_limit e =
        let s = nothing_starts (grid fits task (bounded cut)) tree k (λ a. tree.apart [] a e) in
        record { none = no_plan s.none; number = beyond_number 1 (s.beyond e) }
