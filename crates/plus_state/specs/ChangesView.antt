-- What the changes of the code mean.
use Rattle.std.specs.Prelude.{ℕ, Bool, List, Option, map, option_map}
use Rattle.plus_fraction.specs.Fraction.{Fraction}
use Rattle.plus_state.specs.declared.changes.AtomChange.{AtomChange}
use Rattle.plus_state.specs.declared.changes.FluentChange.{FluentChange}

abbrev pub atom_change : AtomChange → ℕ × Bool
atom_change a = (a.atom.0, a.truth)

abbrev pub fluent_change : {Q : Type 0} → (Q → Fraction) → FluentChange Q → ℕ × Option Fraction
fluent_change v f = (f.fluent.0, option_map v f.value)

abbrev pub atom_changes : List AtomChange → List (ℕ × Bool)
atom_changes cs = map atom_change cs

abbrev pub fluent_changes : {Q : Type 0} → (Q → Fraction) → List (FluentChange Q) → List (ℕ × Option Fraction)
fluent_changes v cs = map (fluent_change v) cs
