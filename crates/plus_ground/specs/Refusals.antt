-- When each refusal of grounding comes. Want of memory may come at any growth.
use Rattle.std.specs.Prelude.{◌≡◌, ℕ, ◌<◌, ◌≤◌, List, Some, All}
use Rattle.plus_fraction.specs.Fraction.{Fraction}
use Rattle.plus_model.specs.Terms.{Action}
use Rattle.plus_model.specs.Plan as plan
use Rattle.plus_model.specs.Plan.{Called, Instance}
use Rattle.plus_tokens.specs.declared.span.Span.{Span}
use Rattle.plus_tree.specs.declared.trees.Domain.{Domain}
use Rattle.plus_tree.specs.declared.trees.Problem as tree
use Rattle.plus_literal.specs.Value.{LiteralFits}
use Rattle.plus_expansion.specs.Counts.{first_over}
use Rattle.plus_expansion.specs.Nodes.{action_nodes}
use Rattle.plus_expansion.specs.Literals.{call_literals}
use Rattle.plus_expansion.specs.Counting.{most_nodes, counts_of}
use Rattle.plus_expansion.specs.Unfit.{IsUnfit, IsFirstUnfitAt}
use Rattle.plus_numbering.specs.declared.faults.GroundFault.{GroundFault}
use Rattle.plus_numbering.specs.declared.faults.GroundFault.TheVariants as ground
use Rattle.plus_ground.specs.declared.faults.InstanceFault.{InstanceFault}
use Rattle.plus_ground.specs.declared.faults.InstanceFault.TheVariants as instances

abbrev pub RefusesGround : (Fraction → Type 0) → Domain → tree.Problem → GroundFault → Type 0
RefusesGround fits d p (ground.TooMany kind most) = (n : ℕ) × (first_over (counts_of d p) ≡ Some (record { kind = kind; most = most; number = n }))
RefusesGround fits d p (ground.Literal file span) = IsUnfit fits d p file span
RefusesGround fits d p ground.Memory = Unit {0}

-- an instance that is too large
pub record IsTooLarge (called : Called) : Type 0 where
  pub action : Action
  pub is : called ≡ Instance action
  pub large : most_nodes < action_nodes action

-- an instance with a literal that is no value of the type of numbers: the first such of its action, the condition before the effect
pub record HasUnfit (fits : Fraction → Type 0) (d : Domain) (name : List ℕ) (called : Called) (span : Span) : Type 0 where
  pub action : Action
  pub is : called ≡ Instance action
  pub small : action_nodes action ≤ most_nodes
  pub unfit : IsFirstUnfitAt fits (call_literals d name) span

-- the instance is small enough, and all literals of its action are values
pub record IsInstance (fits : Fraction → Type 0) (d : Domain) (name : List ℕ) (called : Called) (a : Action) : Type 0 where
  pub is : called ≡ Instance a
  pub small : action_nodes a ≤ most_nodes
  pub literals : All (LiteralFits fits) (call_literals d name)

-- the call names no action, or has arguments that do not fit; or its instance is not inside the limits
abbrev pub RefusesCall : (Fraction → Type 0) → Domain → List ℕ → Called → InstanceFault → Type 0
RefusesCall fits d name called instances.UnknownAction = called ≡ plan.UnknownAction name
RefusesCall fits d name called instances.WrongArguments = called ≡ plan.WrongArguments name
RefusesCall fits d name called instances.TooManyNodes = IsTooLarge called
RefusesCall fits d name called (instances.Literal span) = HasUnfit fits d name called span
RefusesCall fits d name called instances.Memory = Unit {0}
