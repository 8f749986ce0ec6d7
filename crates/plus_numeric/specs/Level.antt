-- What of a pair goes beyond actions and numbers: processes, events and timed initial literals, each with its place.
use Rattle.std.specs.Prelude.{◌≡◌, List, [], ◌∷◌, ◌++◌, map, Option, Some, None}
use Rattle.std.specs.List.{flat_map}
use Rattle.plus_tree.specs.declared.trees.Schema.{Schema}
use Rattle.plus_tree.specs.declared.trees.Domain.{Domain}
use Rattle.plus_tree.specs.declared.trees.Init.{Init}
use Rattle.plus_tree.specs.declared.trees.Init.TheVariants.{At, AtNot}
use Rattle.plus_tree.specs.declared.trees.Problem as tree
use Rattle.plus_types.specs.declared.faults.File.TheVariants as files
use Rattle.plus_numeric.specs.declared.level.Place.{Place}

-- a process or an event, at its name
abbrev pub schema_place : Schema → Place
schema_place a = record { file = files.Domain; span = a.name.span }

-- a timed literal, at its number
abbrev pub literal_places : Init → List Place
literal_places (At t u s) = record { file = files.Problem; span = t.span } ∷ []
literal_places (AtNot t u s) = record { file = files.Problem; span = t.span } ∷ []
literal_places _ = []

-- processes before events, and then timed literals
abbrev pub beyond_level_two : Domain → tree.Problem → List Place
beyond_level_two d p = map schema_place d.processes ++ (map schema_place d.events ++ flat_map literal_places p.init)

-- this is the first place of a list, where it has one
abbrev pub IsFirstPlace : List Place → Option Place → Type 0
IsFirstPlace places None = places ≡ []
IsFirstPlace places (Some place) = (more : List Place) × (places ≡ place ∷ more)
