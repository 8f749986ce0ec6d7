-- Constraints beside a pair are what a goal in their place would be.
use Rattle.std.specs.Prelude.{◌≡◌, true, List, map, IsTrue}
use Rattle.plus_state.specs.Tests.{joined}
use Rattle.plus_tree.specs.declared.trees.Constraint.{Constraint}
use Rattle.plus_tree.specs.declared.trees.Domain.{Domain}
use Rattle.plus_tree.specs.declared.trees.Problem.{Problem}
use Rattle.plus_types.specs.Faults.{type_faults, is_well_typed}
use Rattle.plus_expansion.specs.Expansion.{expanded}
use Rattle.plus_rules.specs.Written.{faults_of, beside, constraints_meant}

pub record AreAsGoal (d : Domain) (p : Problem) (cs : List Constraint) : Type 0 where
  -- where the pair is well typed, its faults with them in the place of its goal are theirs
  pub faults : IsTrue (is_well_typed d p) → type_faults d (beside p cs) ≡ faults_of d p cs
  -- its ground goal asks just their conditions
  pub goal : (expanded d (beside p cs)).goal ≡ joined true (map (λ c. c.condition) (constraints_meant d p cs))
