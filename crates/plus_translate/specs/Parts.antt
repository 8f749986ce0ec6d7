-- The parts of a translated pair.
use Rattle.std.specs.Prelude.{List, [], ◌∷◌, ◌++◌, map, filter, codes, if◌then◌else◌}
use Rattle.std.specs.List.{list_any, flat_map}
use Rattle.plus_tree.specs.declared.names.Spelled.{Spelled}
use Rattle.plus_tree.specs.declared.terms.TypedName.{TypedName}
use Rattle.plus_tree.specs.declared.trees.Head.{Head}
use Rattle.plus_tree.specs.declared.trees.Schema.{Schema}
use Rattle.plus_tree.specs.declared.trees.Domain.{Domain}
use Rattle.plus_tree.specs.declared.trees.Problem.{Problem}
use Rattle.plus_tree.specs.declared.trees.Init.{Init}
use Rattle.plus_tree.specs.declared.trees.Init.TheVariants.{Holds, Value}
use Rattle.plus_tree.specs.Expr.{Expr}
use Rattle.plus_tree.specs.Cond.{c_any, conds_of}
use Rattle.plus_translation.specs.Renamed.{nowhere, spelled}
use Rattle.plus_translation.specs.Leaves.{some}
use Rattle.plus_translation.specs.Translated.{both, none_hold, none_repeats, clears, fires, flows, clock_effects, Due, is_later, natural, clock_use, set_at_once, cleared_at_once, stays_in_init, without_params}

-- the action that lets a step of time pass
abbrev pub step_of : Expr → List Schema → List Due → List Schema → Schema
step_of length events due processes =
    without_params (codes "pp-step") (both (none_hold events)) (flat_map (flows length) processes ++ (clock_effects due ++ clears 1 events))

-- the action that fires a round of events
abbrev pub fire_of : List Schema → Schema
fire_of events =
    without_params (codes "pp-fire") (both (c_any (conds_of (map (λ a. some a.params a.condition) events)) nowhere ∷ none_repeats 1 events)) (fires 1 events)

-- the actions that the translation adds
abbrev pub new_actions_of : Expr → List Schema → List Due → List Schema → List Schema
new_actions_of length events due processes = step_of length events due processes ∷ fire_of events ∷ []

abbrev pub requirements_of : List Spelled
requirements_of = spelled (codes "adl") ∷ spelled (codes "fluents") ∷ []

abbrev pub constants_of : List Due → Domain → Problem → List TypedName
constants_of due d p = d.constants ++ (if list_any is_later due then p.objects else [])

abbrev pub functions_of : List Due → List Head → List Head
functions_of due heads = heads ++ (if list_any is_later due then record { name = spelled (codes "pp-clock"); params = []; span = nowhere } ∷ [] else [])

abbrev pub objects_of : List Due → Problem → List TypedName
objects_of due p = if list_any is_later due then [] else p.objects

-- the old initial state after the literals of time 0
abbrev pub beginning_of : List Due → List Init → List Init
beginning_of due init = filter (stays_in_init (set_at_once [] due) (cleared_at_once due)) init ++ map Holds (set_at_once [] due)

-- the first value of the clock, where it is needed
abbrev pub clock_start : List Due → List Init
clock_start due = if list_any is_later due then Value clock_use (natural 0) nowhere ∷ [] else []
