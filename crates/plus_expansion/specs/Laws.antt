-- What follows for the expansion of a well-typed pair.
use Rattle.std.specs.Prelude.{◌≡◌, ℕ, List, length, IsTrue, None}
use Rattle.plus_model.specs.Terms.{Action}
use Rattle.plus_model.specs.Plan.{Instance}
use Rattle.plus_state.specs.Fits.{ProblemFits, ActionFits}
use Rattle.plus_tree.specs.declared.trees.Domain.{Domain}
use Rattle.plus_tree.specs.declared.trees.Problem as tree
use Rattle.plus_types.specs.Faults.{is_well_typed, problem_context}
use Rattle.plus_expansion.specs.Counts.{first_over}
use Rattle.plus_expansion.specs.Numbers.{ground_names}
use Rattle.plus_expansion.specs.Expansion.{expanded}
use Rattle.plus_expansion.specs.Calls.{called_of}
use Rattle.plus_expansion.specs.Counting.{counts_of}

-- the ids of the ground problem are places in its lists
abbrev pub ExpansionFits : Domain → tree.Problem → Type 0
ExpansionFits d p = IsTrue (is_well_typed d p) → first_over (counts_of d p) ≡ None → ProblemFits (expanded d p)

-- and so are those of each instance of an action
abbrev pub InstancesFit : Domain → tree.Problem → Type 0
InstancesFit d p =
    IsTrue (is_well_typed d p) → (name : List ℕ) (args : List (List ℕ)) (a : Action) → called_of d p name args ≡ Instance a
    → ActionFits (length (ground_names (problem_context d p) d.predicates)) (length (ground_names (problem_context d p) d.functions)) a
