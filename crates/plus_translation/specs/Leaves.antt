-- The writes of an effect one by one: under which lists of variables and which guard each of them stands.
use Rattle.std.specs.Prelude.{List, [], ◌∷◌, ◌++◌, map}
use Rattle.plus_tree.specs.declared.terms.TypedName.{TypedName}
use Rattle.plus_tree.specs.declared.trees.Leaf.{Leaf}
use Rattle.plus_tree.specs.Cond.{Cond, c_forall, c_exists}
use Rattle.plus_tree.specs.Effect.{Effect, Effects, e_all, e_forall, e_when, e_leaf, no_effects, more_effects}
use Rattle.plus_translation.specs.Renamed.{nowhere}

-- `(forall (L) x)`, and x where L is empty; and the same with `exists`
abbrev pub over : List TypedName → Cond → Cond
over [] c = c
over (v ∷ vs) c = c_forall (v ∷ vs) c nowhere

abbrev pub some : List TypedName → Cond → Cond
some [] c = c
some (v ∷ vs) c = c_exists (v ∷ vs) c nowhere

abbrev pub over_effect : List TypedName → Effect → Effect
over_effect [] e = e
over_effect (v ∷ vs) e = e_forall (v ∷ vs) e nowhere

-- the lists from outside
abbrev pub nested : List (List TypedName) → Effect → Effect
nested [] e = e
nested (vs ∷ rest) e = over_effect vs (nested rest e)

-- a write with the lists around it, from outside, and the guard of its `when`, if it stands in one
pub record Placed : Type 0 where
  pub lists : List (List TypedName)
  pub guards : List Cond
  pub leaf : Leaf

abbrev pub inside : List TypedName → Placed → Placed
inside vs p = record { lists = vs ∷ p.lists; guards = p.guards; leaf = p.leaf }

abbrev mutual
  pub leaves_of : Effect → List Placed
  leaves_of (e_all es s) = leaves_among es
  leaves_of (e_forall vs e s) = map (inside vs) (leaves_of e)
  leaves_of (e_when c ls s) = map (λ l. record { lists = []; guards = c ∷ []; leaf = l }) ls
  leaves_of (e_leaf l s) = record { lists = []; guards = []; leaf = l } ∷ []

  pub leaves_among : Effects → List Placed
  leaves_among no_effects = []
  leaves_among (more_effects e es) = leaves_of e ++ leaves_among es
