-- What is counted of a pair before it is grounded, in order.
use Rattle.std.specs.Prelude.{◌≡◌, ℕ, List, [], ◌∷◌, ◌++◌, length, None, All}
use Rattle.plus_fraction.specs.Fraction.{Fraction}
use Rattle.plus_model.specs.Terms.{Problem}
use Rattle.plus_tree.specs.declared.trees.Domain.{Domain}
use Rattle.plus_tree.specs.declared.trees.Problem as tree
use Rattle.plus_types.specs.Faults.{problem_context}
use Rattle.plus_literal.specs.Value.{LiteralFits}
use Rattle.plus_expansion.specs.declared.counts.Count.TheVariants.{Processes, Events, Nodes}
use Rattle.plus_expansion.specs.Counts.{Counted, first_over, name_counts}
use Rattle.plus_expansion.specs.Expansion.{expanded}
use Rattle.plus_expansion.specs.Nodes.{problem_nodes}
use Rattle.plus_expansion.specs.Literals.{literals_of}

-- how many ground processes, ground events and nodes there may be (this project's profile): nodes of these and the goal
-- together, and of one instance of an action
abbrev pub most_processes : ℕ
most_processes = 10000

abbrev pub most_events : ℕ
most_events = 10000

abbrev pub most_nodes : ℕ
most_nodes = 1000000

-- ground processes and events, and the nodes of these and the goal together
abbrev pub form_counts : Problem → List Counted
form_counts P =
    record { kind = Processes; most = most_processes; number = length P.processes }
    ∷ record { kind = Events; most = most_events; number = length P.events }
    ∷ record { kind = Nodes; most = most_nodes; number = problem_nodes P }
    ∷ []

abbrev pub counts_of : Domain → tree.Problem → List Counted
counts_of d p = name_counts (problem_context d p) ++ form_counts (expanded d p)

-- the pair is inside the limits, and all its literals are values of the type of numbers
pub record IsGroundable (fits : Fraction → Type 0) (d : Domain) (p : tree.Problem) : Type 0 where
  pub counts : first_over (counts_of d p) ≡ None
  pub literals : All (λ l. LiteralFits fits l.1) (literals_of d p)
