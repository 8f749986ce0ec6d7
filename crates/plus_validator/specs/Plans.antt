-- The plan that the lines of a text are: blank lines are left out, a time is the fraction that it spells, and a call is the
-- ground action that it names.
use Rattle.std.specs.Prelude.{◌≡◌, Bool, List, [], ◌∷◌, ◌++◌}
use Rattle.plus_model.specs.Plan as model
use Rattle.plus_model.specs.Plan.{ActLine, EndLine, Plan}
use Rattle.plus_tree.specs.declared.trees.Domain.{Domain}
use Rattle.plus_tree.specs.declared.trees.Problem.{Problem}
use Rattle.plus_types.specs.declared.typed.Typed.{Typed}
use Rattle.plus_number.specs.Frac.{IsFrac64}
use Rattle.plus_plan.specs.declared.forms.Time.{Time}
use Rattle.plus_plan.specs.declared.forms.Line.{Line}
use Rattle.plus_plan.specs.declared.forms.Line.TheVariants.{Blank, Act, End, Step}
use Rattle.plus_plan.specs.TimeValue.{value_of}
use Rattle.plus_expansion.specs.Calls.{called_of}

-- a domain and a problem
pub record Pair : Type 0 where
  pub domain : Domain
  pub problem : Problem

abbrev pub pair : Domain → Problem → Pair
pair d p = record { domain = d; problem = p }

abbrev pub pair_in : Typed → Pair
pair_in t = pair t.domain t.problem

-- the line of the plan that a line of the text is, where it is one
abbrev pub line_meant : Pair → Line → List model.Line
line_meant d Blank = []
line_meant d (Act n t c) = ActLine (value_of t) (called_of d.domain d.problem c.name c.args) ∷ []
line_meant d (End n t) = EndLine (value_of t) ∷ []
line_meant d (Step n c) = []

abbrev pub lines_meant : Pair → List Line → List model.Line
lines_meant d [] = []
lines_meant d (l ∷ ls) = line_meant d l ++ lines_meant d ls

-- the plan of these lines, which is closed where the text was read to its end
abbrev pub plan_of : Pair → List Line → Bool → Plan
plan_of d ls closed = record { lines = lines_meant d ls; closed = closed }

-- the line has this time
abbrev pub HasTime : Line → Time → Type 0
HasTime (Act n t call) time = t ≡ time
HasTime (End n t) time = t ≡ time
HasTime _ time = ⊥

-- the time of the line, where it has one, is a value of the type of numbers
pub record HasValue (line : Line) : Type 0 where
  pub fits : (time : Time) → HasTime line time → IsFrac64 (value_of time)

-- lines of a text that are read, and whether the text was read to its end
pub record Reading : Type 0 where
  pub lines : List Line
  pub closed : Bool

abbrev pub reading_of : List Line → Bool → Reading
reading_of ls closed = record { lines = ls; closed = closed }

abbrev pub plan_in : Pair → Reading → Plan
plan_in d r = plan_of d r.lines r.closed
