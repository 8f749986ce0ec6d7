-- A text that was fed in pieces, however it was cut: the lines given one after the other are its lines.
use Rattle.std.specs.Prelude.{◌≡◌, ℕ, ◌+◌, false, List, ◌++◌, length, map, Ok}
use Rattle.plus_plan.specs.declared.forms.Line.{Line}
use Rattle.plus_plan.specs.declared.forms.PlanForm.{PlanForm}
use Rattle.plus_plan.specs.Cut.{lines_of}
use Rattle.plus_plan.specs.Lines.{plan_lines}
use Rattle.plus_plan.specs.Pending.{Pending}
use Rattle.plus_plan.specs.Pieces.{AtLine, MayFollow, lines_with}

-- of the bytes that were taken these lines were given, in their order, and the reader holds the others
pub record HasGiven (form : PlanForm) (text : List ℕ) (lines : List Line) (r : Pending) : Type 0 where
  pub form_is : r.form ≡ form
  pub given : List ℕ  -- the bytes of the lines given
  pub is : text ≡ given ++ r.rest
  pub said : plan_lines form given ≡ map Ok lines
  pub number_is : r.number ≡ length lines + 1
  -- they end where a line ends, unless the text has ended
  pub at_line : r.closed ≡ false → AtLine given
  -- whatever comes, it is cut as if it stood alone
  pub behind : (more : List ℕ) → MayFollow r more → lines_of (given ++ (r.rest ++ more)) ≡ lines_of given ++ lines_of (r.rest ++ more)

-- whatever comes behind, the lines of the text begin with those given, and go on with those that wait
abbrev pub GoesOnWith : PlanForm → List ℕ → List Line → Pending → Type 0
GoesOnWith form text lines r =
    (more : List ℕ) → MayFollow r more → plan_lines form (text ++ more) ≡ map Ok lines ++ lines_with r more
