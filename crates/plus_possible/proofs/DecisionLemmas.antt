-- Lists of decisions over fewer actions, as lists over all: they make the same plan.
use Rattle.std.proofs.Common.{◌≡◌, ℕ, Bool, List, [], ◌∷◌, map, filter, refl, ap, ◌∙◌}
use Rattle.std.specs.Prelude.{Option, slice_get}
use Rattle.plus_fraction.specs.Fraction.{Fraction}
use Rattle.plus_model.specs.Terms.{Action}
use Rattle.plus_planner.specs.Grid.{ticks, line_for, after_decision, lines_from, tick_after}
use Rattle.plus_planner.specs.Listing.{labelled, labels_from}
use Rattle.plus_possible.proofs.PlaceLemmas.{place, same_member}

module _ (p : Action → Bool) (actions : List Action) where
  -- the same decisions among all actions
  abbrev pub spread : List ℕ → List ℕ
  spread ds = map (place p actions) ds

  pub tick_same : (n : ℕ) (ds : List ℕ) → tick_after actions n (spread ds) ≡ tick_after (filter p actions) n ds
  tick_same n [] = refl
  tick_same n (d ∷ ds) =
      ap (λ (x : Option Action). tick_after actions (after_decision x n) (spread ds)) (same_member p actions d)
      ∙ tick_same (after_decision (slice_get (filter p actions) d) n) ds

  module _ (q : Fraction) where
    pub lines_same : (n : ℕ) (ds : List ℕ) → lines_from actions q n (spread ds) ≡ lines_from (filter p actions) q n ds
    lines_same n [] = refl
    lines_same n (d ∷ ds) =
        ap (λ (x : Option Action). line_for x (ticks q n) (lines_from actions q (after_decision x n) (spread ds))) (same_member p actions d)
        ∙ ap (line_for (slice_get (filter p actions) d) (ticks q n)) (lines_same (after_decision (slice_get (filter p actions) d) n) ds)

    pub labels_same : (n : ℕ) (ds : List ℕ) → labels_from actions q n (spread ds) ≡ labels_from (filter p actions) q n ds
    labels_same n [] = refl
    labels_same n (d ∷ ds) =
        ap (λ (x : Option Action). labelled x (ticks q n) (labels_from actions q (after_decision x n) (spread ds))) (same_member p actions d)
        ∙ ap (labelled (slice_get (filter p actions) d) (ticks q n)) (labels_same (after_decision (slice_get (filter p actions) d) n) ds)
