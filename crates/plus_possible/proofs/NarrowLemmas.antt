-- What becomes of a list of decisions over fewer actions becomes of the same list over all, and the other way round.
use Rattle.std.proofs.Common.{◌≡◌, ◌≢◌, ◌⊎◌, inl, inr, ℕ, suc, ◌<◌, ◌≤◌, Bool, List, [], ◌∷◌, ◌++◌, length, map, refl, ap, sym, subst, ◌∙◌, append_assoc, append-nil, arith}
use Rattle.std.proofs.lemmas.List.{length-map, map-append}
use Rattle.plus_fraction.specs.Fraction.{Fraction}
use Rattle.plus_model.specs.Terms.{Action, State, Problem}
use Rattle.plus_model.specs.Plan.{Plan}
use Rattle.plus_model.specs.History.{Part}
use Rattle.plus_model.specs.Trajectory.{IsWorked, Prefix, view_of}
use Rattle.plus_stretch.specs.Tests.{AllPass, FirstFailing}
use Rattle.plus_planner.specs.Grid.{Task, timed, AllTimes, asked_in, IsClearIn, Plays, IsAlive, Halts, EndsBeyond, EndsIn, ReachesGoal, LeavesOpen, GridPlan}
use Rattle.plus_planner.specs.Standing.{IsNoLimit}
use Rattle.plus_planner.specs.Places.{CanSearch}
use Rattle.plus_planner.proofs.Ready.{plan_of}
use Rattle.plus_planner.proofs.Walks.{not_alive, broken_ends}
use Rattle.plus_possible.specs.Possible.{possible, narrowed}
use Rattle.plus_possible.proofs.PlaceLemmas.{place, same_member, one_place, inside_all, inside_kept, IsLeftOut, kept_or_not, fewer, map_split, one_map}
use Rattle.plus_possible.proofs.DecisionLemmas.{lines_same}
use Rattle.plus_possible.proofs.RefusedLemmas.{act_times, refused}

-- ---- two searches of one problem: what is told of a list is told of the plan that it makes

module _ (fits : Fraction → Type 0) (P : Problem) (most : ℕ) (q : Fraction) (A B : List Action) where
  abbrev one : Task
  one = record { problem = P; actions = A; interval = q; most = most }

  abbrev other : Task
  other = record { problem = P; actions = B; interval = q; most = most }

  module _ (ds es : List ℕ) (same : timed one ds ≡ timed other es) where
    pub plays_on : (h : List Part) → Plays fits one ds h → Plays fits other es h
    plays_on h p = record {
      times = subst (λ (L : Plan). AllTimes fits L.lines) same p.times;
      prefix = subst (λ (L : Plan). Prefix P L h) same p.prefix;
      worked = subst (λ (L : Plan). IsWorked P L (view_of P h)) same p.worked;
      clear = subst (λ (L : Plan). IsClearIn fits P L most h) same p.clear;
      passes = subst (λ (L : Plan). AllPass fits (asked_in P L most h)) same p.passes;
    }

    pub halts_on : (h : List Part) → Halts fits one ds h → Halts fits other es h
    halts_on h s = record {
      prefix = subst (λ (L : Plan). Prefix P L h) same s.prefix;
      clear = subst (λ (L : Plan). IsClearIn fits P L most h) same s.clear;
      test = s.test;
      first = subst (λ (L : Plan). FirstFailing fits (asked_in P L most h) s.test) same s.first;
      limit = s.limit;
    }

pub no_more : (f : ℕ → ℕ) (qs : List ℕ) → qs ≢ [] → map f qs ≢ []
no_more f [] n e = n refl
no_more f (q ∷ qs) n e = cc e

one_more : (ps qs : List ℕ) (e : ℕ) → ps ++ e ∷ qs ≡ (ps ++ e ∷ []) ++ qs
one_more ps qs e = sym (append_assoc ps (e ∷ []) qs)

module _ (fits : Fraction → Type 0) (task : Task) where
  abbrev few : Task
  few = narrowed task

  abbrev may : Action → Bool
  may = possible task.problem task.actions

  -- the same list of decisions among all actions
  abbrev pub wide : List ℕ → List ℕ
  wide ds = map (place may task.actions) ds

  pub wide_once : (ds es : List ℕ) → wide ds ≡ wide es → ds ≡ es
  wide_once ds es e = one_map (place may task.actions) (λ d f i. one_place may task.actions d f i) ds es e

  same_plan : (ds : List ℕ) → timed task (wide ds) ≡ timed few ds
  same_plan ds = ap plan_of (lines_same may task.actions task.interval 0 ds)

  plays_all : (ds : List ℕ) (h : List Part) → Plays fits few ds h → Plays fits task (wide ds) h
  plays_all ds h p = plays_on fits task.problem task.most task.interval few.actions task.actions ds (wide ds) (sym (same_plan ds)) h p

  plays_few : (ds : List ℕ) (h : List Part) → Plays fits task (wide ds) h → Plays fits few ds h
  plays_few ds h p = plays_on fits task.problem task.most task.interval task.actions few.actions (wide ds) ds (same_plan ds) h p

  -- ---- each decision is one of the search

  pub within_all : (ds : List ℕ) → ((ps qs : List ℕ) (d : ℕ) → ds ≡ ps ++ d ∷ qs → d < suc (length few.actions)) → (ps qs : List ℕ) (d : ℕ) → wide ds ≡ ps ++ d ∷ qs → d < suc (length task.actions)
  within_all ds w ps qs d e = (let s = map_split (place may task.actions) ds ps (d ∷ qs) e in go s.first s.second s.is s.back)
    where
      go : (xs ys : List ℕ) → ds ≡ xs ++ ys → d ∷ qs ≡ wide ys → d < suc (length task.actions)
      go xs [] i b = absurd (cc b)
      go xs (y ∷ ys) i b =
          let same : d ≡ place may task.actions y = cc b in
          subst (λ (x : ℕ). x < suc (length task.actions)) (sym same) (inside_all may task.actions y (w xs ys y i))

  within_few : (ds : List ℕ) → ((ps qs : List ℕ) (d : ℕ) → wide ds ≡ ps ++ d ∷ qs → d < suc (length task.actions)) → (ps qs : List ℕ) (d : ℕ) → ds ≡ ps ++ d ∷ qs → d < suc (length few.actions)
  within_few ds w ps qs d e =
      inside_kept may task.actions d (w (wide ps) (wide qs) (place may task.actions d) (ap wide e ∙ map-append (place may task.actions) ps (d ∷ qs)))

  -- ---- what becomes of the list

  pub alive_all : (ds : List ℕ) → IsAlive fits few ds → IsAlive fits task (wide ds)
  alive_all ds a = record {
    each = λ ps qs e. (
        let s = map_split (place may task.actions) ds ps qs e in
        let r = a.each s.first s.second s.is in
        (r.0, subst (λ (xs : List ℕ). Plays fits task xs r.0) (sym s.front) (plays_all s.first r.0 r.1)));
    within = within_all ds a.within;
  }

  pub alive_few : (ds : List ℕ) → IsAlive fits task (wide ds) → IsAlive fits few ds
  alive_few ds a = record {
    each = λ ps qs e. (
        let r = a.each (wide ps) (wide qs) (ap wide e ∙ map-append (place may task.actions) ps qs) in
        (r.0, plays_few ps r.0 r.1));
    within = within_few ds a.within;
  }

  pub beyond_all : (ds : List ℕ) → EndsBeyond fits few ds → EndsBeyond fits task (wide ds)
  beyond_all ds b = record {
    before = λ ps qs some e. (
        let s = map_split (place may task.actions) ds ps qs e in
        subst (IsAlive fits task) (sym s.front) (alive_all s.first (b.before s.first s.second (λ i. some (s.back ∙ ap wide i)) s.is)));
    within = within_all ds b.within;
    beyond = elim b.beyond [
      | inl n ↦ inl (λ t. n (subst (λ (L : Plan). AllTimes fits L.lines) (same_plan ds) t))
      | inr r ↦ inr (r.0, halts_on fits task.problem task.most task.interval few.actions task.actions ds (wide ds) (sym (same_plan ds)) r.0 r.1)
    ];
  }

  pub beyond_few : (ds : List ℕ) → EndsBeyond fits task (wide ds) → EndsBeyond fits few ds
  beyond_few ds b = record {
    before = λ ps qs some e. alive_few ps (b.before (wide ps) (wide qs) (no_more (place may task.actions) qs some) (ap wide e ∙ map-append (place may task.actions) ps qs));
    within = within_few ds b.within;
    beyond = elim b.beyond [
      | inl n ↦ inl (λ t. n (subst (λ (L : Plan). AllTimes fits L.lines) (sym (same_plan ds)) t))
      | inr r ↦ inr (r.0, halts_on fits task.problem task.most task.interval task.actions few.actions (wide ds) ds (same_plan ds) r.0 r.1)
    ];
  }

  pub ends_all : (ds : List ℕ) (s : State) → EndsIn fits few ds s → EndsIn fits task (wide ds) s
  ends_all ds s e = record { history = e.history; plays = plays_all ds e.history e.plays; state = e.state }

  pub ends_few : (ds : List ℕ) (s : State) → EndsIn fits task (wide ds) s → EndsIn fits few ds s
  ends_few ds s e = record { history = e.history; plays = plays_few ds e.history e.plays; state = e.state }

  pub reach_all : (ds : List ℕ) → ReachesGoal fits few ds → ReachesGoal fits task (wide ds)
  reach_all ds r = record { state = r.state; ends = ends_all ds r.state r.ends; goal = r.goal }

  pub reach_few : (ds : List ℕ) → ReachesGoal fits task (wide ds) → ReachesGoal fits few ds
  reach_few ds r = record { state = r.state; ends = ends_few ds r.state r.ends; goal = r.goal }

  pub open_all : (ds : List ℕ) → LeavesOpen fits few ds → LeavesOpen fits task (wide ds)
  open_all ds l = record { state = l.state; ends = ends_all ds l.state l.ends; test = l.test; first = l.first; limit = l.limit }

  pub open_few : (ds : List ℕ) → LeavesOpen fits task (wide ds) → LeavesOpen fits few ds
  open_few ds l = record { state = l.state; ends = ends_few ds l.state l.ends; test = l.test; first = l.first; limit = l.limit }

  pub plan_all : (k : ℕ) (ds : List ℕ) → GridPlan fits few k ds → GridPlan fits task k (wide ds)
  plan_all k ds g = record { short = subst (λ (n : ℕ). n ≤ k) (sym (length-map ds (place may task.actions))) g.short; alive = alive_all ds g.alive; goal = reach_all ds g.goal }

  pub plan_few : (k : ℕ) (ds : List ℕ) → GridPlan fits task k (wide ds) → GridPlan fits few k ds
  plan_few k ds g = record { short = subst (λ (n : ℕ). n ≤ k) (length-map ds (place may task.actions)) g.short; alive = alive_few ds g.alive; goal = reach_few ds g.goal }

  -- ---- a list with an action that can never be done

  record IsSpoiled (ds : List ℕ) : Type 0 where
    front : List ℕ
    back : List ℕ
    decision : ℕ
    is : ds ≡ front ++ decision ∷ back
    left_out : IsLeftOut may task.actions decision

  wide_or_spoiled : (ds : List ℕ) → ((es : List ℕ) × (ds ≡ wide es)) ⊎ IsSpoiled ds
  wide_or_spoiled [] = inl ([], refl)
  wide_or_spoiled (d ∷ ds) = go (kept_or_not may task.actions d) (wide_or_spoiled ds)
    where
      go : ((c : ℕ) × (d ≡ place may task.actions c)) ⊎ IsLeftOut may task.actions d → ((es : List ℕ) × (ds ≡ wide es)) ⊎ IsSpoiled ds → ((es : List ℕ) × (d ∷ ds ≡ wide es)) ⊎ IsSpoiled (d ∷ ds)
      go (inr l) rest = inr record { front = []; back = ds; decision = d; is = refl; left_out = l }
      go (inl (c, i)) (inl (es, j)) = inl (c ∷ es, ap (λ (x : ℕ). x ∷ ds) i ∙ ap (λ (xs : List ℕ). place may task.actions c ∷ xs) j)
      go (inl (c, i)) (inr s) = inr record { front = d ∷ s.front; back = s.back; decision = s.decision; is = ap (λ (xs : List ℕ). d ∷ xs) s.is; left_out = s.left_out }

  not_alive_so : (ds : List ℕ) → IsAlive fits task ds → IsSpoiled ds → ⊥
  not_alive_so ds a s =
      let more = s.front ++ s.decision ∷ [] in
      let r = a.each s.front (s.decision ∷ s.back) s.is in
      let g = a.each more s.back (s.is ∙ one_more s.front s.back s.decision) in
      not_alive fits task more IsNoLimit g.0 r.0 g.1 (refused fits task s.front r.0 r.1 s.decision s.left_out.member s.left_out.stands s.left_out.not_kept)

  not_beyond_so : (ds : List ℕ) → EndsBeyond fits task ds → IsSpoiled ds → ⊥
  not_beyond_so ds b s = go s.back s.is
    where
      more : List ℕ
      more = s.front ++ s.decision ∷ []

      go : (qs : List ℕ) → ds ≡ s.front ++ s.decision ∷ qs → ⊥
      go [] i =
          let a = b.before s.front (s.decision ∷ []) (λ e. cc e) i in
          let r = a.each s.front [] (sym (append-nil s.front)) in
          let f = refused fits task s.front r.0 r.1 s.decision s.left_out.member s.left_out.stands s.left_out.not_kept in
          (broken_ends fits task more (act_times fits task s.front r.0 r.1 s.decision s.left_out.member s.left_out.stands) r.0 f).1
          (subst (EndsBeyond fits task) i b)
      go (q ∷ qs) i =
          not_alive_so more (b.before more (q ∷ qs) (λ e. cc e) (i ∙ one_more s.front (q ∷ qs) s.decision))
          record { front = s.front; back = []; decision = s.decision; is = refl; left_out = s.left_out }

  pub alive_wide : (ds : List ℕ) → IsAlive fits task ds → (es : List ℕ) × (ds ≡ wide es)
  alive_wide ds a = elim (wide_or_spoiled ds) [ inl w ↦ w | inr s ↦ absurd (not_alive_so ds a s) ]

  pub beyond_wide : (ds : List ℕ) → EndsBeyond fits task ds → (es : List ℕ) × (ds ≡ wide es)
  beyond_wide ds b = elim (wide_or_spoiled ds) [ inl w ↦ w | inr s ↦ absurd (not_beyond_so ds b s) ]

-- a search over fewer actions may be made
pub can_search_few : (task : Task) → CanSearch task → CanSearch (narrowed task)
can_search_few task c =
    let may = possible task.problem task.actions in
    let less = fewer may task.actions in
    record {
      above = c.above;
      fit = λ k action e. c.fit (place may task.actions k) action (same_member may task.actions k ∙ e);
      few = omega (arith, less, c.few);
      some = c.some;
    }
