-- Marks of atoms, by their numbers.
use Rattle.std.specs.Prelude.{◌≡◌, ℕ, ◌<◌, Bool, false, ◌||◌, List, [], ◌∷◌, length, slice_index_or, if◌then◌else◌}

-- what was marked is marked, these are marked too, and no others are
pub record Marks (old new : List Bool) (these : ℕ → Bool) : Type 0 where
  pub long : length new ≡ length old
  pub each : (a : ℕ) → a < length old → slice_index_or new a false ≡ (slice_index_or old a false || these a)

-- those of these atoms that are not marked
abbrev pub unmarked : List Bool → List ℕ → List ℕ
unmarked marks [] = []
unmarked marks (a ∷ bs) = if slice_index_or marks a false then unmarked marks bs else a ∷ unmarked marks bs
