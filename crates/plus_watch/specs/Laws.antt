-- The law over these definitions alone: where all that the looks ask passes, the first place that they find is what the
-- constraint's meaning over all moments tells. So it is decided by finitely many looks.
use Rattle.std.specs.Prelude.{◌≡◌, ℕ, List, [], ◌∷◌, ◌++◌, Some, None, Ok}
use Rattle.std.specs.List.{All}
use Rattle.plus_fraction.specs.Fraction.{Fraction}
use Rattle.plus_model.specs.Terms.{State, Problem}
use Rattle.plus_model.specs.Running.{rates}
use Rattle.plus_model.specs.Plan.{Plan}
use Rattle.plus_model.specs.History.{Part, Enter, View, view_from}
use Rattle.plus_model.specs.Trajectory.{Prefix, first_view}
use Rattle.plus_crossing.specs.Asked.{AllPass}
use Rattle.plus_constraints.specs.Constraint.{Constraint}
use Rattle.plus_constraints.specs.Found.{Found, IsFound}
use Rattle.plus_constraints.specs.Place.{Place, told}
use Rattle.plus_watch.specs.Looks.{first_found, looks_ask, part_looks, history_looks}
use Rattle.plus_watch.specs.Asked as asked
use Rattle.plus_watch.specs.Asked.{rule_asks, rules_ask}
use Rattle.plus_watch.specs.Watched.{firsts_along, asked_by, found_by, both_looks, ending_looks}

-- what the looks along a history find
unfoldable pub found_along : Problem → Constraint → List Part → Found
found_along P c h = told c.when (first_found (history_looks P c h))

abbrev pub LooksTell : (Fraction → Type 0) → Type 0
LooksTell fits =
    (P : Problem) (L : Plan) (h : List Part) (c : Constraint)
    → Prefix P L h → AllPass fits (looks_ask (history_looks P c h)) → IsFound P h c (found_along P c h)

-- how the looks grow with a history, so that each part is looked at once
pub record LooksGrow : Type 0 where
  -- those of one more part come behind
  pub part : (P : Problem) (c : Constraint) (h : List Part) (next : Part) → history_looks P c (h ++ next ∷ []) ≡ history_looks P c h ++ part_looks P c (view_from (first_view P) h) next
  -- so what they ask is that of the history before, and then that of the part, where nothing is found before
  pub asked : (P : Problem) (c : Constraint) (h : List Part) (next : Part) → looks_ask (history_looks P c (h ++ next ∷ [])) ≡ looks_ask (history_looks P c h) ++ rule_asks P c h next
  -- what is found stays
  pub stays : (P : Problem) (c : Constraint) (h more : List Part) (p : Place) → first_found (history_looks P c h) ≡ Some p → first_found (history_looks P c (h ++ more)) ≡ Some p

-- so where all that constraints ask passes at each part of a history, what is found along it is what each one's meaning tells
abbrev pub WatchTells : (Fraction → Type 0) → Type 0
WatchTells fits =
    (P : Problem) (L : Plan) (h : List Part) (cs : List Constraint)
    → Prefix P L h → ((before behind : List Part) (part : Part) → h ≡ before ++ part ∷ behind → asked.AllPass fits (rules_ask P 1 cs before part))
    → All (λ c. IsFound P h c (found_along P c h)) cs

-- what the calls take and tell is what the history asks and what is found along it
pub record CallsTell : Type 0 where
  -- of a part that comes after a history, where the places that are known are those found along it
  pub asked :
      (P : Problem) (cs : List Constraint) (h : List Part) (part : Part)
      → rules_ask P 1 cs h part ≡ asked_by (λ c. part_looks P c (view_from (first_view P) h) part) 1 cs (firsts_along P cs h)
  pub found :
      (P : Problem) (cs : List Constraint) (h : List Part) (part : Part)
      → firsts_along P cs (h ++ part ∷ []) ≡ found_by (λ c. part_looks P c (view_from (first_view P) h) part) cs (firsts_along P cs h)
  -- a moment that ends no stretch, and one that ends one
  pub first : (P : Problem) (c : Constraint) (v : View) (t : Fraction) (arrival s : State) → v.running ≡ None → part_looks P c v (Enter t arrival s) ≡ both_looks t arrival s c
  pub ending :
      (P : Problem) (c : Constraint) (v : View) (t : Fraction) (arrival s : State) (running : List ℕ) (rs : List Fraction)
      → v.running ≡ Some running → rates P v.state running ≡ Ok rs → part_looks P c v (Enter t arrival s) ≡ ending_looks v.time v.state rs t arrival s c
