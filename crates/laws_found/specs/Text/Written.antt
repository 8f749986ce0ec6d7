-- What is written of a timed plan, and which lines say it. The rules are this project's profile: each action behind its time, one on
-- a line, and the end on the last.
use Rattle.std.specs.Prelude.{◌≡◌, ℕ, ◌+◌, ◌≤◌, List, [], ◌∷◌, length, map, All, Ok, pos}
use Rattle.plus_fraction.specs.Fraction.{Fraction, whole, ◌≤ℚ◌}
use Rattle.plus_number.specs.Frac.{IsFrac64}
use Rattle.plus_tokens.specs.Spelling.{IsName}
use Rattle.plus_tokens.specs.Lowered.{lowered}
use Rattle.plus_tree.specs.declared.trees.Call.{Call}
use Rattle.plus_expansion.specs.Numbers.{label_of}
use Rattle.plus_report.specs.Plans.{Timed, plan_text}
use Rattle.plus_plan.specs.declared.forms.Time.{Time}
use Rattle.plus_plan.specs.declared.forms.Line.{Line}
use Rattle.plus_plan.specs.declared.forms.Line.TheVariants as lines
use Rattle.plus_plan.specs.declared.forms.PlanForm.TheVariants as forms
use Rattle.plus_plan.specs.TimeValue.{value_of}
use Rattle.plus_plan.specs.Cut.{lines_of}
use Rattle.plus_plan.specs.Lines.{plan_lines}
use Rattle.plus_plan.specs.Spells.{line_limit}

-- ---- the plan

-- an action that is called at a time
abbrev pub TimedCall : Type 0
TimedCall = Fraction × Call

-- A plain name: a letter, then letters, digits, `-` and `_`, at most 64 bytes, all in small letters. The readers give each name so.
pub record IsPlainName (w : List ℕ) : Type 0 where
  pub name : IsName w
  pub small : lowered w ≡ w

-- a time of a plan: not negative, and no part of it above 2 ^ 63 - 1, so that each is spelled by at most 19 digits
pub record IsPlanTime (t : Fraction) : Type 0 where
  pub not_negative : whole (pos 0) ≤ℚ t
  pub fits : IsFrac64 t

-- a call by plain names at a time of a plan
pub record IsPlainCall (c : TimedCall) : Type 0 where
  pub time : IsPlanTime c.0
  pub name : IsPlainName c.1.name
  pub args : All IsPlainName c.1.args

-- ---- its text

-- a call as it is shown, with its time
abbrev pub shown : TimedCall → Timed
shown c = (c.0, label_of c.1.name c.1.args)

-- what is written of a plan: its calls in their order, and when it ends
abbrev pub written_plan : List TimedCall → Fraction → List ℕ
written_plan calls last = plan_text (map shown calls) last

-- no line of a text has more bytes than a line may have
abbrev pub HasShortLines : List ℕ → Type 0
HasShortLines text = All (λ line. length line ≤ line_limit) (lines_of text)

-- So few arguments that a call's line has room for them, whatever its names and its time: at most 39 bytes for the time, 4 for `: ` and
-- the parentheses, 64 for the name and 65 for each argument with the space before it are 4072 of 4096. One more may be too many.
abbrev pub HasFewArguments : TimedCall → Type 0
HasFewArguments c = length c.1.args ≤ 61

-- ---- what its lines say

-- The lines from number n on say these calls in their order, each at its time, and last when the plan ends. Where in its line a time
-- stands is left open.
abbrev pub Say : ℕ → List TimedCall → Fraction → List Line → Type 0
Say n [] last ls = (t : Time) × (value_of t ≡ last) × (ls ≡ lines.End n t ∷ [])
Say n (c ∷ cs) last ls = (t : Time) × (more : List Line) × (value_of t ≡ c.0) × (ls ≡ lines.Act n t c.1 ∷ more) × Say (n + 1) cs last more

-- each line of a text of a timed plan is one, and together they say this plan
abbrev pub ReadsAs : List TimedCall → Fraction → List ℕ → Type 0
ReadsAs calls last text = (ls : List Line) × (plan_lines forms.Timed text ≡ map Ok ls) × Say 1 calls last ls
