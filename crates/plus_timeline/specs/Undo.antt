-- What leads back to a root state.
use Rattle.std.specs.Prelude.{◌≡◌, ℕ, List, [], ◌∷◌, ◌++◌, Option, Some, None, option_map, slice_set}
use Rattle.plus_model.specs.Terms.{State}
use Rattle.plus_model.specs.Value.{atom_of, fluent_of}
use Rattle.plus_state.specs.Changes.{Changes}

-- members of a list get the values that were noted of them, from the last to the first: the oldest counts
abbrev pub undone_list : {A : Type 0} → List (ℕ × A) → List A → List A
undone_list [] xs = xs
undone_list (c ∷ cs) xs = slice_set (undone_list cs xs) c.0 c.1

-- the state before all that was noted
abbrev pub undone : State → Changes → State
undone s c = record { atoms = undone_list c.atoms s.atoms; fluents = undone_list c.fluents s.fluents }

-- what those are that are named there
abbrev pub recalled_list : {A : Type 0} → (ℕ → A) → List (ℕ × A) → List (ℕ × A)
recalled_list at [] = []
recalled_list at (c ∷ cs) = (c.0, at c.0) ∷ recalled_list at cs

abbrev pub recalled : State → Changes → Changes
recalled s c = record { atoms = recalled_list (atom_of s) c.atoms; fluents = recalled_list (fluent_of s) c.fluents }

-- where something is noted, what these are in the state is noted too
abbrev pub Notes : State → Changes → Option Changes → Option Changes → Type 0
Notes s c None None = Unit {0}
Notes s c None (Some n) = ⊥
Notes s c (Some o) None = ⊥
Notes s c (Some o) (Some n) =
    n ≡ record { atoms = o.atoms ++ (recalled s c).atoms; fluents = o.fluents ++ (recalled s c).fluents }

-- the root, where what leads back to it is noted
abbrev pub root_at : State → Option Changes → Option State
root_at s noted = option_map (undone s) noted
