-- A translated domain without its old actions; and how deep those may be.
use Rattle.std.specs.Prelude.{◌≡◌, ℕ, Bool, ◌&&◌, List, [], ◌∷◌, ◌++◌}
use Rattle.std.specs.List.{list_all}
use Rattle.plus_fraction.specs.Fraction.{Fraction}
use Rattle.plus_tree.specs.declared.trees.Schema.{Schema}
use Rattle.plus_tree.specs.declared.trees.Domain.{Domain}
use Rattle.plus_tree.specs.declared.trees.Problem.{Problem}
use Rattle.plus_tree.specs.Expr.{Expr}
use Rattle.plus_translation.specs.Renamed.{nowhere}
use Rattle.plus_translation.specs.Translated.{Due, length_of_step, mark_heads}
use Rattle.plus_translation.specs.Depth.{most_depth, cond_within, effect_within, domain_within}
use Rattle.plus_translate.specs.Parts.{step_of, fire_of, requirements_of, constants_of, functions_of}

-- its actions are the step and the round of events
abbrev pub frame_of : Fraction → List Schema → List Due → Domain → Problem → Domain
frame_of q events due d p = record {
  name = d.name;
  requirements = requirements_of;
  types = d.types;
  constants = constants_of due d p;
  predicates = d.predicates ++ mark_heads 1 events;
  functions = functions_of due d.functions;
  actions = step_of (length_of_step q) events due d.processes ∷ fire_of events ∷ [];
  processes = [];
  events = [];
  span = nowhere;
}

-- the first action is a step beside these events
pub record BeginsWithStep (frame : Domain) (events : List Schema) : Type 0 where
  pub length : Expr
  pub due : List Due
  pub processes : List Schema
  pub others : List Schema
  pub is : frame.actions ≡ step_of length events due processes ∷ others

-- What a translation takes over unchanged stands in an `and`, in an action of a domain or in the goal of a problem.
abbrev pub own_room : ℕ
own_room = 61

abbrev pub own_within : Schema → Bool
own_within a = cond_within own_room a.condition && effect_within own_room a.effect

-- The frame is within, and so are the old parts: the step has all that the old actions and the goal share.
abbrev pub spliced_within : Domain → Domain → Problem → Bool
spliced_within frame d p = domain_within most_depth frame && (list_all own_within d.actions && cond_within own_room p.goal)
