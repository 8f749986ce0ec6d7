-- What the ground form of the code means: the ground problem of the model, with fractions of any size, and its labels.
use Rattle.std.specs.Prelude.{ℕ, List}
use Rattle.plus_fraction.specs.Fraction.{Fraction}
use Rattle.plus_model.specs.Terms.{Problem}
use Rattle.plus_number.specs.declared.exact.Exact.{Ghosts}
use Rattle.plus_state.specs.declared.problem.Ground.{Ground}
pub use Rattle.plus_state.specs.Meaning.{expression_of, test_of, condition_of, all_in, any_in, overflow_of, write_of, effect_of, rate_of, action_of, event_of, process_of, timed_of, problem_from}

-- the ground problem, by its fields
abbrev pub problem_of : {Q : Type 0} {E : Ghosts Q} → (Q → Fraction) → Ground Q E → Problem
problem_of v g = problem_from v g.atoms.items g.fluents.items g.processes.items g.events.items g.timed.items g.initial g.goal

-- the texts of the ground atoms and of the ground fluents, by their numbers
pub record Labels : Type 0 where
  pub atoms : List (List ℕ)
  pub fluents : List (List ℕ)

abbrev pub labels_of : {Q : Type 0} {E : Ghosts Q} → Ground Q E → Labels
labels_of g = record { atoms = g.atoms.items; fluents = g.fluents.items }
