-- When constraints are refused. Want of memory may come at any growth.
use Rattle.std.specs.Prelude.{◌≡◌, ◌<◌, ◌≤◌, List, [], All}
use Rattle.plus_fraction.specs.Fraction.{Fraction}
use Rattle.plus_tree.specs.declared.trees.Constraint.{Constraint}
use Rattle.plus_tree.specs.declared.trees.Domain.{Domain}
use Rattle.plus_tree.specs.declared.trees.Problem.{Problem}
use Rattle.plus_types.specs.declared.faults.File.{File}
use Rattle.plus_types.specs.declared.faults.TypeFault.{TypeFault}
use Rattle.plus_types.specs.declared.faults.TypeFault.TheVariants as types
use Rattle.plus_types.specs.Faults.{IsFirstFault}
use Rattle.plus_literal.specs.Value.{LiteralFits}
use Rattle.plus_expansion.specs.Counting.{most_nodes}
use Rattle.plus_expansion.specs.Unfit.{IsFirstUnfitAt}
use Rattle.plus_rules.specs.declared.faults.WatchFault.{WatchFault}
use Rattle.plus_rules.specs.declared.faults.WatchFault.TheVariants.{At, TooManyNodes, Literal, Memory}
use Rattle.plus_rules.specs.Written.{faults_of, nodes_of, numbers_of}

-- well typed, and not too large
pub record AreSmall (d : Domain) (p : Problem) (cs : List Constraint) : Type 0 where
  pub typed : faults_of d p cs ≡ []
  pub nodes : nodes_of d p cs ≤ most_nodes

-- and all their numbers are values of the type of numbers
pub record AreSound (fits : Fraction → Type 0) (d : Domain) (p : Problem) (cs : List Constraint) : Type 0 where
  pub small : AreSmall d p cs
  pub numbers : All (LiteralFits fits) (numbers_of cs)

-- the first broken rule of typing; else too many nodes; else the first number that is no value
abbrev pub RefusesConstraints : (Fraction → Type 0) → Domain → Problem → List Constraint → WatchFault → Type 0
RefusesConstraints fits d p cs (At wrong span) = (file : File) × IsFirstFault (faults_of d p cs) (types.At wrong file span)
RefusesConstraints fits d p cs TooManyNodes = (faults_of d p cs ≡ []) × (most_nodes < nodes_of d p cs)
RefusesConstraints fits d p cs (Literal span) = AreSmall d p cs × IsFirstUnfitAt fits (numbers_of cs) span
RefusesConstraints fits d p cs Memory = Unit {0}

-- how a fault of typing is told
abbrev pub fault_of : TypeFault → WatchFault
fault_of (types.At wrong file span) = At wrong span
fault_of types.Memory = Memory
