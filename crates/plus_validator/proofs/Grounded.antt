-- The ids of an instance are those of the ground problem.
use Rattle.std.proofs.Common.{sym, subst, length}
use Rattle.plus_model.specs.Terms.{Action, Problem}
use Rattle.plus_number.specs.declared.frac.Frac64.{Frac64}
use Rattle.plus_number.specs.Frac.{fraction_of}
use Rattle.plus_state.specs.Fits.{ActionFits}
use Rattle.plus_state.specs.View.{problem_of}
use Rattle.plus_number.specs.declared.exact.Exact.{Ghosts}
use Rattle.plus_state.specs.declared.problem.Ground.{Ground}
use Rattle.plus_tree.specs.declared.trees.Domain.{Domain}
use Rattle.plus_tree.specs.declared.trees.Problem as tree
use Rattle.plus_types.specs.Faults.{problem_context}
use Rattle.plus_expansion.specs.Numbers.{ground_names}
use Rattle.plus_validator.specs.Playing.{IsGroundOf}

pub instance_fits : {E : Ghosts Frac64} (d : Domain) (p : tree.Problem) (g : Ground Frac64 E) (a : Action) → IsGroundOf d p g
    → ActionFits (length (ground_names (problem_context d p) d.predicates)) (length (ground_names (problem_context d p) d.functions)) a
    → ActionFits (problem_of fraction_of g).atoms (problem_of fraction_of g).fluents a
instance_fits d p g a i f = subst (λ (P : Problem). ActionFits P.atoms P.fluents a) (sym i.expands) f
