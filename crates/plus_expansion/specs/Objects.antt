-- The objects of a well-typed pair, known by their places: first the constants, then the objects, in text order.
use Rattle.std.specs.Prelude.{ℕ, suc, List, [], ◌∷◌, map, get_or, if◌then◌else◌}
use Rattle.std.specs.List.{flat_map, position_or_len}
use Rattle.std.specs.Str.{bytes_eq}
use Rattle.plus_tree.specs.declared.terms.TypedName.{TypedName}
use Rattle.plus_types.specs.Types.{Binding, bound_names, is_under}
use Rattle.plus_types.specs.Faults.{Context}

-- the places, counted on from n, of those of these objects that are of a type: their type is it, or is under it
abbrev pub places_from : List Binding → List ℕ → ℕ → List Binding → List ℕ
places_from types kind n [] = []
places_from types kind n (o ∷ os) = if is_under types o.1 kind then n ∷ places_from types kind (suc n) os else places_from types kind (suc n) os

-- the objects of a type, in order
abbrev pub members_of : Context → List ℕ → List ℕ
members_of c kind = places_from c.types kind 0 c.objects

-- the objects of the type of each parameter
abbrev pub extents_of : Context → List TypedName → List (List ℕ)
extents_of c params = map (λ p. members_of c p.kind.name) params

-- all lists that take one member of each of these lists, in lexicographic order: the first member changes slowest
abbrev pub tuples : List (List ℕ) → List (List ℕ)
tuples [] = [] ∷ []
tuples (xs ∷ rest) = flat_map (λ x. map (λ t. x ∷ t) (tuples rest)) xs

-- the place of the object with a name; where none has it, the number of objects
abbrev pub object_place : Context → List ℕ → ℕ
object_place c name = position_or_len (bytes_eq name) (bound_names c.objects)

-- the names of these objects
abbrev pub object_names : Context → List ℕ → List (List ℕ)
object_names c objects = map (λ o. get_or (bound_names c.objects) o []) objects
