-- The answers of the search over the tree as answers of the planner.
use Rattle.std.proofs.Common.{◌≡◌, ℕ, suc, ◌+◌, ◌*◌, ◌^◌, ◌≤◌, List, length, map, refl, ap, sym, subst, ◌∙◌, arith}
use Rattle.plus_fraction.specs.Fraction.{Fraction}
use Rattle.plus_state.specs.declared.outcome.TimedPlan.{TimedPlan}
use Rattle.plus_search.specs.declared.searching.Found.{Found}
use Rattle.plus_search.specs.declared.searching.Found.TheVariants as found
use Rattle.plus_search.specs.Told as told
use Rattle.plus_timeline.specs.Timeline.{TimelineView}
use Rattle.plus_planner.specs.declared.places.Taken.{Taken}
use Rattle.plus_planner.specs.Grid.{Task}
use Rattle.plus_planner.specs.Places.{path_of, uncut, StandsBehind}
use Rattle.plus_planner.specs.Listing.{Lists}
use Rattle.plus_planner.specs.Searches.{CountsBeyond, IsFound, HasNone, MayBeTried}
use Rattle.plus_planner.specs.Laws.{NoneOnce}
use Rattle.plus_planner.proofs.NumberOnce.{number_once}
use Rattle.plus_search.specs.Lists.{MoreThan}
use Rattle.plus_planner.proofs.SearchLemmas.{plan_is, no_plan, beyond_number, more_tried}
use Rattle.plus_planner.proofs.DecidingLemmas.{length_mapped}
use Rattle.plus_planner.proofs.ListingLemmas.{lists_plan}

module _ (fits : Fraction → Type 0) (task : Task) (k tries : ℕ) where
  pub plan_found : {Q : Type 0} (v : Q → Fraction) (start : TimelineView) (taken : List (Taken Q)) (plan : TimedPlan Q) (f : Found) → f ≡ found.Plan → told.Answers (uncut fits task) k tries (path_of taken) f → StandsBehind fits task start taken → Lists v task.actions start taken plan → IsFound v fits task k plan
  plan_found v start taken plan f e a b l = record {
    decisions = path_of taken;
    is = plan_is fits task k (path_of taken) (subst (told.Answers (uncut fits task) k tries (path_of taken)) e a);
    timed = lists_plan fits task v start taken plan b l;
  }

  pub none_found : (path : List ℕ) (beyond : ℕ) (f : Found) → f ≡ found.NoPlan beyond → told.Answers (uncut fits task) k tries path f → HasNone fits task k beyond
  none_found path beyond f e a =
      let b = subst (told.Answers (uncut fits task) k tries path) e a in
      record { none = no_plan fits task k b.0; number = beyond_number fits task k beyond b.1 }

  pub spent_found : (path : List ℕ) (f : Found) → f ≡ found.Spent → told.Answers (uncut fits task) k tries path f → (tries ≡ tries) × MoreThan (MayBeTried fits task k) tries
  spent_found path f e a = (let b = subst (told.Answers (uncut fits task) k tries path) e a in (refl, more_tried fits task k tries b.0))

-- the number of tries that suffices, by the number of actions
pub enough_by : {A B : Type 0} (f : A → B) (xs : List A) (k tries : ℕ) → (k + 1) * (length xs + 2) ^ k ≤ tries → (k + 1) * (suc (length (map f xs)) + 1) ^ k ≤ tries
enough_by f xs k tries h = subst (λ n. (k + 1) * n ^ k ≤ tries) (let e : length xs + 2 ≡ suc (length xs) + 1 = omega arith in e ∙ ap (λ n. suc n + 1) (sym (length_mapped f xs))) h

-- where there is none, as many are beyond in each answer
pub none_once : (fits : Fraction → Type 0) → NoneOnce fits
none_once fits task k n m a b = number_once (CountsBeyond fits task k) n m a.number b.number
