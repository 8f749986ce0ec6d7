-- The initial state, member by member of `:init`.
use Rattle.std.specs.Prelude.{ℕ, [], true, Option, Some, None, length, slice_set, nat_lt, if◌then◌else◌}
use Rattle.plus_fraction.specs.Fraction.{Fraction}
use Rattle.plus_model.specs.Terms.{State}
use Rattle.plus_model.specs.Value.{fluent_of}
use Rattle.plus_tree.specs.declared.trees.Init.{Init}
use Rattle.plus_tree.specs.declared.trees.Init.TheVariants.{Holds, Absent, Value, At, AtNot}
use Rattle.plus_types.specs.Faults.{Context}
use Rattle.plus_literal.specs.Value.{literal_value}
use Rattle.plus_expansion.specs.Environments.{atom_number, fluent_number}

-- an atom becomes true; a number of no atom changes nothing
abbrev pub with_atom : ℕ → State → State
with_atom n s = if nat_lt n (length s.atoms) then record s { atoms = slice_set s.atoms n true } else s

-- the fluent gets this value, where it has none yet
abbrev pub with_first : ℕ → Fraction → State → Option Fraction → State
with_first n x s None = record s { fluents = slice_set s.fluents n (Some x) }
with_first n x s (Some y) = s

-- a number of no fluent changes nothing
abbrev pub with_value : ℕ → Fraction → State → State
with_value n x s = if nat_lt n (length s.fluents) then with_first n x s (fluent_of s n) else s

-- what `:init` says of later times changes nothing at first
abbrev pub entered : Context → Init → State → State
entered c (Holds u) s = with_atom (atom_number c [] u) s
entered c (Value u n _) s = with_value (fluent_number c [] u) (literal_value n) s
entered c (Absent u _) s = s
entered c (At t u _) s = s
entered c (AtNot t u _) s = s
