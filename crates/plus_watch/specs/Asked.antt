-- What constraints ask where a history grows by a part, in the order of evaluation (this project's profile): those that are
-- not decided yet, in text order. What the plan asks there comes behind it, so a limit of a constraint may be the first test
-- that fails, also on a plan that breaks later.
use Rattle.std.specs.Prelude.{ℕ, suc, List, [], ◌∷◌, ◌++◌, map}
use Rattle.plus_fraction.specs.Fraction.{Fraction}
use Rattle.plus_model.specs.Terms.{Problem}
use Rattle.plus_model.specs.History.{Part, view_from}
use Rattle.plus_model.specs.Trajectory.{first_view}
use Rattle.plus_state.specs.Tested as tested
use Rattle.plus_crossing.specs.Asked as crossing
use Rattle.plus_crossing.specs.Asked.{Ask}
use Rattle.plus_constraints.specs.Constraint.{Constraint}
use Rattle.plus_watch.specs.Looks.{first_found, if_sought, looks_ask, part_looks, history_looks}

-- what one constraint asks when a part comes after a history; nothing, where it is decided already
unfoldable pub rule_asks : Problem → Constraint → List Part → Part → List Ask
rule_asks P c h part = if_sought (first_found (history_looks P c h)) (looks_ask (part_looks P c (view_from (first_view P) h) part))

-- what all ask, each test with the number of its constraint, from number k on
abbrev pub rules_ask : Problem → ℕ → List Constraint → List Part → Part → List (ℕ × Ask)
rules_ask P k [] h part = []
rules_ask P k (c ∷ cs) h part = map (λ a. (k, a)) (rule_asks P c h part) ++ rules_ask P (suc k) cs h part

-- such a test passes where the test of the condition does
unfoldable pub Passes : (Fraction → Type 0) → ℕ × Ask → Type 0
Passes fits t = crossing.Passes fits t.1

abbrev pub AllPass : (Fraction → Type 0) → List (ℕ × Ask) → Type 0
AllPass fits ts = tested.AllPass (Passes fits) ts
