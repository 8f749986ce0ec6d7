-- What an answer on a plan text without times says.
use Rattle.std.specs.Prelude.{◌≡◌, ℕ, ◌≤◌, Bool, List, [], length, map, Ok, Option, IfSome, if◌then◌else◌}
use Rattle.plus_io.specs.Faults.{Rose}
use Rattle.plus_tree.specs.declared.trees.Domain.{Domain}
use Rattle.plus_tree.specs.declared.trees.Problem as tree
use Rattle.plus_tree.specs.declared.trees.Call.{Call}
use Rattle.plus_plan.specs.declared.forms.Line.{Line}
use Rattle.plus_plan.specs.declared.forms.PlanForm.TheVariants.{Untimed}
use Rattle.plus_plan.specs.Lines.{plan_lines}
use Rattle.plus_numeric.specs.declared.answer.Kind.{Kind}
use Rattle.plus_numeric.specs.declared.answer.Stop.{Stop}
use Rattle.plus_numeric.specs.declared.answer.Stop.TheVariants.{Refused, ReadFault, NoMemory}
use Rattle.plus_numeric.specs.declared.source.Source.{Source}
use Rattle.plus_io.specs.Limits.{text_limit}
use Rattle.plus_numeric.specs.Calls.{calls_of, PlanOf}
use Rattle.plus_numeric.specs.Tests.{Test, FirstFailing, AllPass, IsBreach}
use Rattle.plus_numeric.specs.Asked.{numeric_tests}
use Rattle.plus_numeric.specs.Verdicts.{verdict_of, line_of, kind_of}

-- the text is within its length, and these are its lines
pub record Reads (bytes : List ℕ) (lines : List Line) : Type 0 where
  pub within : length bytes ≤ text_limit
  pub read : plan_lines Untimed bytes ≡ map Ok lines

-- the lines of the text are a plan of the pair
pub record HasPlan (d : Domain) (p : tree.Problem) (bytes : List ℕ) : Type 0 where
  pub lines : List Line
  pub reads : Reads bytes lines
  pub plan : PlanOf d p (calls_of lines)

-- the text is accepted: its lines are a plan of the pair, and no test fails; its calls are handed out where they are kept
pub record IsAccepted (d : Domain) (p : tree.Problem) (bytes : List ℕ) (keep : Bool) (calls : List Call) : Type 0 where
  pub has : HasPlan d p bytes
  pub passed : AllPass (numeric_tests d p bytes)
  pub calls_are : calls ≡ (if keep then calls_of has.lines else [])

-- the text is refused: the first test that fails is this verdict, with this line; and where it breaks a rule, there is no plan
pub record IsRefused (source : Source) (d : Domain) (p : tree.Problem) (bytes : List ℕ) (kind : Kind) (line : List ℕ) : Type 0 where
  pub test : Test
  pub first : FirstFailing (numeric_tests d p bytes) test
  pub kind_is : kind ≡ kind_of (verdict_of source test)
  pub says : line ≡ line_of d p (verdict_of source test)
  pub final : IsBreach test → HasPlan d p bytes → ⊥

-- why no plan is told: a refusal; or the shelf failed; or memory is wanting
abbrev pub Stops : Source → Domain → tree.Problem → Option (List ℕ) → ℕ → ℕ → Stop → Type 0
Stops source d p bytes before now (Refused r) = IfSome bytes (λ text. IsRefused source d p text r.kind r.line.items)
Stops source d p bytes before now ReadFault = Rose before now
Stops source d p bytes before now NoMemory = Unit {0}
