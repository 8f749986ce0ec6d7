-- What a step changes of a state, and a state with the one before it.
use Rattle.std.specs.Prelude.{◌≡◌, ℕ, ◌<◌, Bool, List, [], ◌∷◌, length, Option, slice_set}
use Rattle.plus_fraction.specs.Fraction.{Fraction}
use Rattle.plus_model.specs.Terms.{State}

-- atoms with their truths and fluents with their values afterwards
pub record Changes : Type 0 where
  pub atoms : List (ℕ × Bool)
  pub fluents : List (ℕ × Option Fraction)

-- members of a list get other values, by their places, one after the other
abbrev pub patched_list : {A : Type 0} → List (ℕ × A) → List A → List A
patched_list [] xs = xs
patched_list (c ∷ cs) xs = patched_list cs (slice_set xs c.0 c.1)

-- the state afterwards
abbrev pub patched : State → Changes → State
patched s c = record { atoms = patched_list c.atoms s.atoms; fluents = patched_list c.fluents s.fluents }

-- each number is below this one
abbrev pub AreIn : {A : Type 0} → ℕ → List (ℕ × A) → Type 0
AreIn n [] = Unit {0}
AreIn n (c ∷ cs) = (c.0 < n) × AreIn n cs

-- each number is above k
abbrev pub Over : {A : Type 0} → ℕ → List (ℕ × A) → Type 0
Over k [] = Unit {0}
Over k (c ∷ cs) = (k < c.0) × Over k cs

-- the numbers rise, so that there is one change a number
abbrev pub Rises : {A : Type 0} → List (ℕ × A) → Type 0
Rises [] = Unit {0}
Rises (c ∷ cs) = Over c.0 cs × Rises cs

-- the changes are of atoms and fluents of a state with this many
pub record Within (atoms fluents : ℕ) (c : Changes) : Type 0 where
  pub atoms_in : AreIn atoms c.atoms
  pub fluents_in : AreIn fluents c.fluents

-- changes of atoms and of fluents of the state, with numbers that rise
pub record RisesIn (s : State) (c : Changes) : Type 0 where
  pub atoms : Rises c.atoms
  pub fluents : Rises c.fluents
  pub within : Within (length s.atoms) (length s.fluents) c

-- the changes lead from the state before to this one
pub record LeadsTo (before : State) (c : Changes) (state : State) : Type 0 where
  pub is : state ≡ patched before c
  pub rises : RisesIn before c

-- a state and the one before the last step
pub record TrailView : Type 0 where
  pub state : State
  pub before : State
