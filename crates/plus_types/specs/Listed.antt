-- What a table of types holds, once the types are well listed: no type twice, and none above itself.
use Rattle.std.specs.Prelude.{◌≡◌, ◌<◌, ℕ, List, [], ◌∷◌, Option, Some, None, get_or, length, position, if◌then◌else◌}
use Rattle.std.specs.Str.{bytes_eq}
use Rattle.plus_types.specs.Types.{is_among, Binding, bound_kinds, bound_names, kind_of, object_name, right_above}

-- `object` is right above all types but itself
abbrev pub under_object : List ℕ → List (List ℕ)
under_object k = if bytes_eq k object_name then [] else object_name ∷ []

-- the one type that is listed right above another, and `object`
abbrev pub one_above : Option (List ℕ) → List ℕ → List (List ℕ)
one_above None k = under_object k
one_above (Some up) k = up ∷ under_object k

-- the listed type that has a number
abbrev pub name_at : List Binding → ℕ → List ℕ
name_at types i = get_or (bound_names types) i []

-- at most one type is listed above each, and none above `object`; none is listed twice; the second table holds the types above others
pub record IsListed (types : List Binding) (above : List (List ℕ)) : Type 0 where
  pub chain : (k : List ℕ) → right_above types k ≡ one_above (kind_of types k) k
  pub top : kind_of types object_name ≡ None
  pub known : (k : List ℕ) → is_among above k ≡ is_among (bound_kinds types) k
  pub places : (i : ℕ) → i < length types → position (bytes_eq (name_at types i)) (bound_names types) ≡ Some i
