-- Pairs that are equal but for spans mean the same: they are both well typed or both not, stand for one ground problem,
-- and have the same ground actions.
use Rattle.std.specs.Prelude.{◌≡◌, ℕ, List}
use Rattle.plus_tree.specs.declared.trees.Domain.{Domain}
use Rattle.plus_tree.specs.declared.trees.Problem.{Problem}
use Rattle.plus_types.specs.Faults.{is_well_typed}
use Rattle.plus_expansion.specs.Expansion.{expanded}
use Rattle.plus_expansion.specs.Calls.{called_of}
use Rattle.plus_canonical.specs.Same.{SameDomain, SameProblem}

pub record MeansTheSame (d : Domain) (p : Problem) (d' : Domain) (p' : Problem) : Type 0 where
  pub typed : is_well_typed d p ≡ is_well_typed d' p'
  pub problem : expanded d p ≡ expanded d' p'
  pub calls : (name : List ℕ) (args : List (List ℕ)) → called_of d p name args ≡ called_of d' p' name args

abbrev pub SpansMeanNothing : Type 0
SpansMeanNothing = (d d' : Domain) (p p' : Problem) → SameDomain d d' → SameProblem p p' → MeansTheSame d p d' p'
