-- What a reader of an answer may rely on, over the definitions alone.
use Rattle.std.specs.Prelude.{◌≡◌, ℕ, Bool, List}
use Rattle.plus_tree.specs.declared.trees.Domain.{Domain}
use Rattle.plus_tree.specs.declared.trees.Problem as tree
use Rattle.plus_tree.specs.declared.trees.Call.{Call}
use Rattle.plus_plan.specs.declared.forms.Line.{Line}
use Rattle.plus_numeric.specs.declared.answer.Kind.{Kind}
use Rattle.plus_numeric.specs.declared.answer.Kind.TheVariants.{Invalid}
use Rattle.plus_numeric.specs.declared.source.Source.{Source}
use Rattle.plus_numeric.specs.Tests.{Test, FirstFailing, AllPass, IsBreach, IsLimit}
use Rattle.plus_numeric.specs.Asked.{numeric_tests}
use Rattle.plus_numeric.specs.Answers.{Reads, HasPlan, IsAccepted, IsRefused}

-- two refusals of one text have the same line
abbrev pub OneRefusal : Type 0
OneRefusal =
    (source : Source) (d : Domain) (p : tree.Problem) (bytes : List ℕ) (kind kind' : Kind) (line line' : List ℕ)
    → IsRefused source d p bytes kind line → IsRefused source d p bytes kind' line' → (kind ≡ kind') × (line ≡ line')

-- no text is accepted and refused
abbrev pub NotBoth : Type 0
NotBoth =
    (source : Source) (d : Domain) (p : tree.Problem) (bytes : List ℕ) (keep : Bool) (calls : List Call) (kind : Kind) (line : List ℕ)
    → IsAccepted d p bytes keep calls → IsRefused source d p bytes kind line → ⊥

-- the lines of a text whose tests pass are a plan of the pair
abbrev pub PassingIsPlan : Type 0
PassingIsPlan = (d : Domain) (p : tree.Problem) (bytes : List ℕ) → AllPass (numeric_tests d p bytes) → HasPlan d p bytes

-- where the first test that fails is a breach there is no plan
abbrev pub BreachIsNone : Type 0
BreachIsNone =
    (d : Domain) (p : tree.Problem) (bytes : List ℕ) (test : Test)
    → FirstFailing (numeric_tests d p bytes) test → IsBreach test → HasPlan d p bytes → ⊥
