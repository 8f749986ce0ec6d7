-- What the calls take and tell is what the history asks and what is found along it.
use Rattle.std.proofs.Common.{◌≡◌, ℕ, suc, List, [], ◌∷◌, ◌++◌, map, refl, ap, ap₂, ◌∙◌}
use Rattle.std.specs.Prelude.{Option, Some, None, Result, Ok}
use Rattle.plus_fraction.specs.Fraction.{Fraction}
use Rattle.plus_model.specs.Terms.{State, Problem}
use Rattle.plus_model.specs.Running.{rates}
use Rattle.plus_model.specs.History.{Part, Enter, View, view_from}
use Rattle.plus_model.specs.Trajectory.{first_view}
use Rattle.plus_crossing.specs.Asked.{Ask}
use Rattle.plus_constraints.specs.Constraint.{Constraint}
use Rattle.plus_constraints.specs.Place.{Place}
use Rattle.plus_watch.specs.Looks.{Look, first_found, rated_looks, running_looks, part_looks, history_looks}
use Rattle.plus_watch.specs.Asked.{rule_asks, rules_ask}
use Rattle.plus_watch.specs.Watched.{firsts_along, asked_by, found_by, both_looks, ending_looks}
use Rattle.plus_watch.specs.Laws.{CallsTell}
use Rattle.plus_watch.proofs.Growing.{looks_grow}
use Rattle.plus_watch.proofs.Histories.{found_append}

asked : (P : Problem) (k : ℕ) (cs : List Constraint) (h : List Part) (part : Part) → rules_ask P k cs h part ≡ asked_by (λ c. part_looks P c (view_from (first_view P) h) part) k cs (firsts_along P cs h)
unfolding rule_asks
asked P k [] h part = refl
asked P k (c ∷ cs) h part = ap (λ (ts : List (ℕ × Ask)). map (λ (a : Ask). (k, a)) (rule_asks P c h part) ++ ts) (asked P (suc k) cs h part)

found : (P : Problem) (cs : List Constraint) (h : List Part) (part : Part) → firsts_along P cs (h ++ part ∷ []) ≡ found_by (λ c. part_looks P c (view_from (first_view P) h) part) cs (firsts_along P cs h)
found P [] h part = refl
found P (c ∷ cs) h part =
    ap₂ (λ (o : Option Place) (os : List (Option Place)). o ∷ os)
    (ap first_found (looks_grow.part P c h part) ∙ found_append (history_looks P c h) (part_looks P c (view_from (first_view P) h) part))
    (found P cs h part)

module _ (P : Problem) (c : Constraint) (v : View) (t : Fraction) (arrival s : State) where
  -- the looks at a moment, behind those along the stretch that it ends
  abbrev behind : List Look → List Look
  behind looks = looks ++ both_looks t arrival s c

  ending : (running : List ℕ) (rs : List Fraction) → v.running ≡ Some running → rates P v.state running ≡ Ok rs → part_looks P c v (Enter t arrival s) ≡ ending_looks v.time v.state rs t arrival s c
  ending running rs e r =
      ap (λ (o : Option (List ℕ)). behind (running_looks P c.when c.condition v t o)) e
      ∙ ap (λ (o : Result (List Fraction) ℕ). behind (rated_looks c.when c.condition v t o)) r

  first : v.running ≡ None → part_looks P c v (Enter t arrival s) ≡ both_looks t arrival s c
  first e = ap (λ (o : Option (List ℕ)). behind (running_looks P c.when c.condition v t o)) e

pub calls_tell : CallsTell
calls_tell = record { asked = λ P cs h part. asked P 1 cs h part; found = found; first = first; ending = ending }
