-- Which types may be above themselves, and ranks of types by their names.
use Rattle.std.specs.Prelude.{◌≡◌, ℕ, true, false, List, Option, Some, None, get_or, position}
use Rattle.std.specs.Str.{bytes_eq}
use Rattle.plus_types.specs.Types.{Binding, bound_names, is_among, is_above}

-- no listed type but these is above itself
abbrev pub AreSuspects : List Binding → List (List ℕ) → Type 0
AreSuspects types suspects =
    (k : List ℕ) → is_among (bound_names types) k ≡ true → is_among suspects k ≡ false → is_above types k k ≡ false

abbrev pub rank_at : List ℕ → Option ℕ → ℕ
rank_at ranks None = 0
rank_at ranks (Some i) = get_or ranks i 0

-- the rank that stands at the place of the name; 0 where there is none
abbrev pub rank_of : List (List ℕ) → List ℕ → List ℕ → ℕ
rank_of names ranks k = rank_at ranks (position (bytes_eq k) names)
