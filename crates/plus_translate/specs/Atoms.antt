-- Atoms that are lent, and a table of their names.
use Rattle.std.specs.Borrow.{Bor}
use Rattle.std.specs.Prelude.{◌≡◌, ℕ, List, map, Vec}
use Rattle.std.specs.List.{list_any}
use Rattle.std.specs.declared.alloc.Global.{Global}
use Rattle.plus_tree.specs.declared.terms.Use.{Use}
use Rattle.plus_types.specs.Faults.{ground_name, same_names}
use Rattle.plus_translation.specs.Translated.{same_atom}

abbrev pub atoms_of : List (Bor Use) → List Use
atoms_of us = map (λ u. u.now) us

-- the names that keys are
abbrev pub names_of : List (Vec (Bor (List ℕ)) Global) → List (List (List ℕ))
names_of keys = map (λ key. map (λ name. name.now) key.items) keys

-- an atom is among the atoms exactly where its names are in the table
abbrev pub IsTableOf : List (Vec (Bor (List ℕ)) Global) → List Use → Type 0
IsTableOf keys atoms = (u : Use) → list_any (same_names (ground_name u)) (names_of keys) ≡ list_any (same_atom u) atoms
