-- Changes that are noted write by write, as long as their numbers rise.
use Rattle.std.specs.Prelude.{◌≡◌, ℕ, List, [], ◌∷◌, ◌++◌}
use Rattle.plus_fraction.specs.Fraction.{Fraction}
use Rattle.plus_model.specs.Terms.{State}
use Rattle.plus_model.specs.Value.{fluent_of}
use Rattle.plus_state.specs.Asked.{AllFit}
use Rattle.plus_state.specs.Changes.{Changes, AreIn, Rises}
use Rattle.plus_state.specs.Due.{Due, puts, updates, updated}
use Rattle.plus_state.specs.Steps.{updated_nodes}

-- one change more, whose number is above all others
pub record Extends {A : Type 0} (xs : List (ℕ × A)) (p : ℕ × A) (ys : List (ℕ × A)) : Type 0 where
  pub is : ys ≡ xs ++ p ∷ []
  pub above : Rises xs → AreIn p.0 xs

-- a write on an atom is noted; one on a fluent is, and what it asks passes
abbrev pub Notes : (Fraction → Type 0) → Due → State → Changes → Changes → Type 0
Notes fits (puts a b) s c c' = (c'.fluents ≡ c.fluents) × Extends c.atoms (a, b) c'.atoms
Notes fits (updates f u) s c c' =
    (c'.atoms ≡ c.atoms) × AllFit fits (updated_nodes u.op u.amount (fluent_of s f)) × Extends c.fluents (f, updated u.op u.amount (fluent_of s f)) c'.fluents

-- the write is noted, if there is one
abbrev pub NotesDue : (Fraction → Type 0) → List Due → State → Changes → Changes → Type 0
NotesDue fits [] s c c' = c' ≡ c
NotesDue fits (d ∷ ds) s c c' = Notes fits d s c c'

-- none or one
abbrev pub IsOneAtMost : List Due → Type 0
IsOneAtMost [] = Unit {0}
IsOneAtMost (d ∷ []) = Unit {0}
IsOneAtMost (d ∷ e ∷ ds) = ⊥
