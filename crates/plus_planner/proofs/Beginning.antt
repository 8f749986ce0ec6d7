-- A search begins with the timeline at time 0, where it comes there.
use Rattle.std.proofs.Common.{◌≡◌, inr, ℕ, ◌≤◌, List, [], ◌∷◌, ◌++◌, refl, sym, subst}
use Rattle.std.specs.Prelude.{pos}
use Rattle.plus_fraction.specs.Fraction.{Fraction, whole, ◌≤ℚ◌}
use Rattle.plus_fraction.proofs.FractionRing.{zero-*ℚ}
use Rattle.plus_fraction.proofs.FractionAtMost.{≤ℚ_refl}
use Rattle.plus_model.specs.Terms.{Problem}
use Rattle.plus_model.specs.Trajectory.{first_part}
use Rattle.plus_search.proofs.Bounds.{nothing_starts}
use Rattle.plus_search.specs.declared.spaces.Fate.{Fate}
use Rattle.plus_search.specs.declared.spaces.Fate.TheVariants.{Alive, Broken, Beyond}
use Rattle.plus_timeline.specs.Timeline.{TimelineView, begun}
use Rattle.plus_timeline.proofs.Serving.{begun_serves}
use Rattle.plus_timeline.proofs.Played.{clear_first}
use Rattle.plus_planner.specs.Grid.{Task, timed, AllTimes, Plays, IsAlive, EndsBeyond, GridPlan}
use Rattle.plus_planner.specs.Standing.{CanReach, IsOnWay, Carried}
use Rattle.plus_planner.specs.Places.{StandsAt, CanSearch, uncut}
use Rattle.plus_planner.specs.Searches.{HasNone}
use Rattle.plus_planner.specs.Kin.{IsKin}
use Rattle.plus_reads.specs.Indexing.{Indexes}
use Rattle.plus_reads.specs.declared.index.Index.{Index}
use Rattle.plus_planner.specs.Worlds.{Stands, Holds}
use Rattle.plus_planner.specs.declared.places.Taken.{Taken}
use Rattle.plus_planner.specs.declared.places.Tried.{Tried}
use Rattle.plus_planner.proofs.Walks.{Ends, now_of, broken_ends, halts_at, carried_ends}
use Rattle.plus_planner.proofs.SearchLemmas.{uncut_is_tree, no_plan, beyond_number}

-- it may be carried to time 0
pub begun_reach : (P : Problem) (most : ℕ) (t : TimelineView) (u : Fraction) → t ≡ begun P most → u ≡ whole (pos 0) → 1 ≤ most → CanReach P u t
begun_reach P most t u e f m = subst (CanReach P u) (sym e) record {
  goes = record { knows = begun_serves P most; going = refl; within = m };
  ahead = subst (λ (z : Fraction). whole (pos 0) ≤ℚ z) (sym f) (≤ℚ_refl (whole (pos 0)));
  room = tt;
}

module _ (fits : Fraction → Type 0) (task : Task) where
  first_way : IsOnWay fits task.problem (timed task []) (now_of task []) 0 (first_part task.problem ∷ []) (begun task.problem task.most)
  first_way = record {
    played = record { prefix = record { ordered = tt; rest = []; begins = refl; follow = tt }; now = refl; entries = refl; beside = tt; clear = clear_first fits task.problem (timed task []) task.most (λ i. []) };
    target_is = refl;
    acted_is = refl;
  }

  pub first_times : fits (whole (pos 0)) → AllTimes fits (timed task []).lines
  first_times f = (subst fits (sym (zero-*ℚ task.interval)) f, tt)

  pub begin_ends : (new : TimelineView) (fate : Fate) → fits (whole (pos 0)) → Carried fits task.problem (whole (pos 0)) (begun task.problem task.most) new fate → Ends fits task [] new fate
  begin_ends new fate f c =
      carried_ends fits task [] (begun task.problem task.most) new (first_part task.problem ∷ []) 0 fate (first_times f) refl refl first_way
      (subst (λ (z : Fraction). Carried fits task.problem z (begun task.problem task.most) new fate) (sym (zero-*ℚ task.interval)) c)

  pub nothing_is : {A : Type 0} (ps qs : List A) (x : A) → [] ≡ ps ++ x ∷ qs → ⊥
  nothing_is [] qs x e = cc e
  nothing_is (p ∷ ps) qs x e = cc e

  pub both_empty : (ps qs : List ℕ) → [] ≡ ps ++ qs → (ps ≡ []) × (qs ≡ [])
  both_empty [] qs e = (refl, sym e)
  both_empty (p ∷ ps) qs e = cc e

  -- it comes there: the walk stands at the beginning
  begin_stands : {Q : Type 0} (new : TimelineView) → fits (whole (pos 0)) → CanSearch task → Carried fits task.problem (whole (pos 0)) (begun task.problem task.most) new Alive → Stands {Q = Q} fits task new [] []
  begin_stands {Q} new f can c =
      let s : StandsAt fits task [] new = begin_ends new Alive f c in
      record {
        behind = record {
          can = can;
          first = s;
          each = λ front back x g. absurd (nothing_is front back x g);
          alive = record {
            each = λ ps qs g. (s.history, subst (λ z. Plays fits task z s.history) (sym (both_empty ps qs g).0) s.plays);
            within = λ ps qs d g. absurd (nothing_is ps qs d g);
          };
        };
        returns = tt;
        tree = uncut_is_tree fits task;
      }

  -- and nothing is taken, tried or spared
  pub begin_holds : {Q : Type 0} (start new : TimelineView) (taken : List (Taken Q)) (tried : List (Tried Q)) (spares : List TimelineView) (x : Index) (fate : Fate) → fits (whole (pos 0)) → CanSearch task → Carried fits task.problem (whole (pos 0)) (begun task.problem task.most) new fate → IsKin task.problem new → fate ≡ Alive → start ≡ new → taken ≡ [] → tried ≡ [] → spares ≡ [] → Indexes task.problem x → Holds fits task start taken tried spares x
  begin_holds {Q} start new taken tried spares x fate f can c k a s e g h i =
      subst (λ ss. Holds fits task start taken tried ss x) (sym h)
      (subst (λ (ts : List (Tried Q)). Holds fits task start taken ts [] x) (sym g)
      (subst (λ (xs : List (Taken Q)). Holds fits task start xs [] [] x) (sym e)
      (subst (λ (t : TimelineView). Holds {Q = Q} fits task t [] [] [] x) (sym s) record {
        stands = begin_stands new f can (subst (Carried fits task.problem (whole (pos 0)) (begun task.problem task.most) new) a c);
        kin = record { start_is = k; taken_are = tt; tried_are = tt; spares_are = tt };
        indexes = i;
      })))

  module _ (k : ℕ) where
    none_alive : (IsAlive fits task [] → ⊥) → (ds : List ℕ) → GridPlan fits task k ds → ⊥
    none_alive n = no_plan fits task k (nothing_starts (uncut fits task) (uncut_is_tree fits task) k n).none

    -- a breach stands there: there is no plan, and nothing is beyond
    pub begin_broken : (new : TimelineView) (fate : Fate) → fits (whole (pos 0)) → Carried fits task.problem (whole (pos 0)) (begun task.problem task.most) new fate → fate ≡ Broken → HasNone fits task k 0
    begin_broken new fate f c a =
        let g = begin_ends new Broken f (subst (Carried fits task.problem (whole (pos 0)) (begun task.problem task.most) new) a c) in
        let n = broken_ends fits task [] (first_times f) g.0 g.1 in
        record { none = none_alive n.0; number = beyond_number fits task k 0 ((nothing_starts (uncut fits task) (uncut_is_tree fits task) k n.0).broken n.1) }

    -- a limit stands there: there is no plan, and the empty list is beyond
    pub begin_beyond : (new : TimelineView) (fate : Fate) → fits (whole (pos 0)) → Carried fits task.problem (whole (pos 0)) (begun task.problem task.most) new fate → fate ≡ Beyond → HasNone fits task k 1
    begin_beyond new fate f c a =
        let g = begin_ends new Beyond f (subst (Carried fits task.problem (whole (pos 0)) (begun task.problem task.most) new) a c) in
        let ends : EndsBeyond fits task [] = record {
          before = λ ps qs some h. absurd (some (both_empty ps qs h).1);
          within = λ ps qs d h. absurd (nothing_is ps qs d h);
          beyond = inr (g.0, halts_at fits task [] g.0 g.1);
        } in
        let n : IsAlive fits task [] → ⊥ = λ a. (uncut_is_tree fits task).apart [] a ends in
        record { none = none_alive n; number = beyond_number fits task k 1 ((nothing_starts (uncut fits task) (uncut_is_tree fits task) k n).beyond ends) }
