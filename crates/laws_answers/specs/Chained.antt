-- Two answers of the program: one to `plan`, and one to `check` over the same domain and problem, whose plan is what the first wrote.
use Rattle.std.specs.Prelude.{◌≡◌, ℕ, ◌≤◌, Bool, List, ◌++◌, length, Option, Some, pos}
use Rattle.plus_fraction.specs.Fraction.{Fraction, whole, ◌<ℚ◌}
use Rattle.plus_io.specs.Limits.{text_limit}
use Rattle.plus_tree.specs.declared.trees.Domain.{Domain}
use Rattle.plus_tree.specs.declared.trees.Problem.{Problem}
use Rattle.plus_planner.specs.Places.{most_entries}
use Rattle.plus_plan_command.specs.Plan.{Plans}
use Rattle.plus_reply.specs.Pair.Pair.{SpellsWellTyped}
use Rattle.laws_found.specs.Text.Written.{HasShortLines}
use Rattle.laws_found.specs.Room.{HasFewParameters}
use Rattle.plus_report.specs.declared.status.Status.{Status}
use Rattle.plus_report.specs.declared.status.Status.TheVariants as s
use Rattle.plus_run.specs.Command.{Check, Plan}
use Rattle.plus_run.specs.Headline.{IsAnswer}
use Rattle.plus_run.specs.Laws.{IsSettled}

-- how many decisions the words can name
abbrev pub most_decisions : ℕ
most_decisions = 64

-- what `plan` writes with the status Valid is within the length of a text, where each of its lines is within that of a line
abbrev pub FewDecisionsHaveRoom : Type 0
FewDecisionsHaveRoom =
    (q : Fraction) (k tries : ℕ) (cut : Bool) (domain problem written : List ℕ)
    → whole (pos 0) <ℚ q → k ≤ most_decisions → Plans q k tries cut domain problem s.Valid written → HasShortLines written
    → length written ≤ text_limit

-- and each is, where no action of the domain has more than 61 parameters
abbrev pub FewParametersHaveShortLines : Type 0
FewParametersHaveShortLines =
    (q : Fraction) (k tries : ℕ) (cut : Bool) (domain problem written : List ℕ)
    → whole (pos 0) <ℚ q → Plans q k tries cut domain problem s.Valid written
    → ((d : Domain) (p : Problem) → SpellsWellTyped domain problem d p → HasFewParameters d)
    → HasShortLines written

-- The first shelf tells these two texts under the names of `plan`; the second tells them under those of `check`, and under the name of
-- its plan what the sink took in the call of `plan`.
pub record AreSameFiles (bytes again : List ℕ → Option (List ℕ)) (d p d' p' l domain problem written : List ℕ) : Type 0 where
  pub domain_is : bytes d ≡ Some domain
  pub problem_is : bytes p ≡ Some problem
  pub domain_again : again d' ≡ Some domain
  pub problem_again : again p' ≡ Some problem
  pub plan_is : again l ≡ Some written

-- Where `plan` is answered as valid, a check of what it wrote is answered as valid, or tells of a fault or of want of memory.
abbrev pub CheckAcceptsPlan : Type 0
CheckAcceptsPlan =
    (q : Fraction) (k tries most : ℕ) (cut : Bool) (d p d' p' l domain problem before written : List ℕ) (bytes again : List ℕ → Option (List ℕ))
    (old new : Option (List ℕ)) (a b c e a' b' c' e' : ℕ) (status : Status)
    → whole (pos 0) <ℚ q → k ≤ most_decisions → AreSameFiles bytes again d p d' p' l domain problem written
    → IsAnswer (Some (Plan q k tries cut d p)) bytes (Some before) (Some (before ++ written)) a b c e s.Valid
    → HasShortLines written → most_entries ≤ most
    → IsAnswer (Some (Check d' p' l most)) again old new a' b' c' e' status → IsSettled status
    → status ≡ s.Valid
