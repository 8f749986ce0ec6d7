-- The types of a domain, and the objects of a pair (PDDL: Fox and Long 2003).
use Rattle.std.specs.Prelude.{ℕ, zero, suc, Bool, false, List, [], ◌∷◌, ◌++◌, map, filter, length, Option, Some, None, if◌then◌else◌, ◌||◌}
use Rattle.std.specs.List.{list_any}
use Rattle.std.specs.Str.{bytes_eq}
use Rattle.plus_tree.specs.declared.terms.TypedName.{TypedName}
use Rattle.plus_tree.specs.declared.trees.Domain.{Domain}
use Rattle.plus_tree.specs.declared.trees.Problem.{Problem}

-- whether a name is among these
abbrev pub is_among : List (List ℕ) → List ℕ → Bool
is_among names name = list_any (bytes_eq name) names

-- the names of a list
abbrev pub names_of : List TypedName → List (List ℕ)
names_of ts = map (λ t. t.name.name) ts

-- a name with its type; for a type, with the one above it
abbrev pub Binding : Type 0
Binding = List ℕ × List ℕ

abbrev pub bindings_of : List TypedName → List Binding
bindings_of ts = map (λ t. (t.name.name, t.kind.name)) ts

abbrev pub bound_names : List Binding → List (List ℕ)
bound_names bs = map (λ b. b.0) bs

abbrev pub bound_kinds : List Binding → List (List ℕ)
bound_kinds bs = map (λ b. b.1) bs

-- the type of a name
abbrev pub kind_of : List Binding → List ℕ → Option (List ℕ)
kind_of [] name = None
kind_of (b ∷ bs) name = if bytes_eq name b.0 then Some b.1 else kind_of bs name

-- `object`, the type above all others
abbrev pub object_name : List ℕ
object_name = 111 ∷ 98 ∷ 106 ∷ 101 ∷ 99 ∷ 116 ∷ []

-- A type is `object`, or is listed, or is the type above a listed one.
abbrev pub is_type : List Binding → List ℕ → Bool
is_type types k = bytes_eq k object_name || (is_among (bound_names types) k || is_among (bound_kinds types) k)

-- the types right above a type: those that the list gives, and `object`
abbrev pub right_above : List Binding → List ℕ → List (List ℕ)
right_above [] k = if bytes_eq k object_name then [] else object_name ∷ []
right_above (b ∷ bs) k = if bytes_eq k b.0 then b.1 ∷ right_above bs k else right_above bs k

-- whether one type is above another, at most so many steps up
unfoldable pub is_above_within : List Binding → ℕ → List ℕ → List ℕ → Bool
is_above_within types zero high low = false
is_above_within types (suc n) high low = list_any (λ k. bytes_eq high k || is_above_within types n high k) (right_above types low)

-- Whether one type is above another. A way up that visits no type twice has no more steps than there are listed
-- types, and one to `object`.
unfoldable pub is_above : List Binding → List ℕ → List ℕ → Bool
is_above types high low = is_above_within types (suc (length types)) high low

-- whether a type is another, or is under it
unfoldable pub is_under : List Binding → List ℕ → List ℕ → Bool
is_under types low high = bytes_eq high low || is_above types high low

-- the objects of a pair: the constants, then the objects
abbrev pub objects_of : Domain → Problem → List TypedName
objects_of d p = d.constants ++ p.objects
