-- Lines whose actions can be done: their times are values of the type of numbers, and their calls name instances inside the limits.
use Rattle.std.specs.Prelude.{◌≡◌, ◌≤◌, ℕ, Bool, true, false, List, [], ◌∷◌, length, pos, All}
use Rattle.plus_fraction.specs.Fraction.{Fraction, whole}
use Rattle.plus_model.specs.Terms as terms
use Rattle.plus_model.specs.Terms.{Action}
use Rattle.plus_model.specs.Plan as model
use Rattle.plus_model.specs.Plan.{Instance, time_of}
use Rattle.plus_number.specs.Frac.{IsFrac64}
use Rattle.plus_report.specs.declared.status.Status.{Status}
use Rattle.plus_report.specs.declared.status.Status.TheVariants as s
use Rattle.plus_tree.specs.declared.trees.Call.{Call}
use Rattle.plus_tree.specs.declared.trees.Domain.{Domain}
use Rattle.plus_tree.specs.declared.trees.Problem.{Problem}
use Rattle.plus_expansion.specs.Calls.{called_of}
use Rattle.plus_plan.specs.declared.forms.Line.{Line}
use Rattle.plus_plan.specs.declared.forms.Line.TheVariants.{Blank, Act, End, Step}
use Rattle.plus_plan.specs.Answers.{HasBottom}
use Rattle.plus_stretch.specs.Tests.{AllPass}
use Rattle.plus_validator.specs.declared.judge.Outcome.{Outcome}
use Rattle.plus_validator.specs.declared.judge.Outcome.TheVariants as outcomes
use Rattle.plus_validator.specs.Accepted.{IsAccepted}
use Rattle.plus_validator.specs.Asking.{call_tests}
use Rattle.plus_validator.specs.Plans.{pair, HasValue}
use Rattle.plus_words.specs.Numbers.{default_happenings}
use Rattle.plus_trim.specs.Acts.{Act as Acted, AreAhead, AllFit, plan_of}
use Rattle.plus_trim.specs.Judging.{IsInside}
use Rattle.plus_trim.specs.Trimmed.{IsKept}
use Rattle.plus_trim_command.specs.Lines.{spoken}
use Rattle.plus_trim_command.specs.Trim.{trimmed_text}

-- the call names an instance, and all that is asked of it passes
pub record IsCallable (d : Domain) (p : Problem) (c : Call) : Type 0 where
  pub action : Action
  pub is : called_of d p c.name c.args ≡ Instance action
  pub passes : AllPass IsFrac64 (call_tests (pair d p) c)

abbrev pub CallsInstance : Domain → Problem → Line → Type 0
CallsInstance d p (Act n t c) = IsCallable d p c
CallsInstance d p Blank = Unit {0}
CallsInstance d p (End n t) = Unit {0}
CallsInstance d p (Step n c) = Unit {0}

-- the line can be played
pub record IsPlayable (d : Domain) (p : Problem) (line : Line) : Type 0 where
  pub bottom : HasBottom line
  pub value : HasValue line
  pub calls : CallsInstance d p line

-- the time behind these lines, which begin at another
abbrev pub time_after : List model.Line → Fraction → Fraction
time_after [] t = t
time_after (l ∷ ls) t = time_after ls (time_of l)

-- whether a plan with this outcome is accepted
abbrev pub is_valid : Outcome → Bool
is_valid outcomes.Valid = true
is_valid outcomes.Invalid = false
is_valid outcomes.Beyond = false
is_valid outcomes.BadText = false
is_valid outcomes.ReadFault = false
is_valid outcomes.WriteFault = false
is_valid outcomes.NoMemory = false

-- the plan text is accepted
abbrev pub AcceptsText : Domain → Problem → List ℕ → Type 0
AcceptsText d p text = (bytes : List ℕ) × IsAccepted d p default_happenings text bytes

-- these are the lines of an accepted plan that are not blank
pub record IsAcceptedAs (d : Domain) (p : Problem) (lines : List Line) : Type 0 where
  pub text : List ℕ
  pub bytes : List ℕ
  pub accepted : IsAccepted d p default_happenings text bytes
  pub are : lines ≡ spoken accepted.lines
  pub bottoms : All HasBottom lines

-- acts that are trimmed
pub record IsTrimmable (P : terms.Problem) (xs : List Acted) (last : Fraction) : Type 0 where
  pub fit : AllFit P.atoms P.fluents xs
  pub few : length xs ≤ 200
  pub ahead : AreAhead (whole (pos 0)) xs last
  pub valid : IsInside IsFrac64 P default_happenings (plan_of xs last)

-- what is written of them
pub record KeepsActs (P : terms.Problem) (xs : List Acted) (last : Fraction) (status : Status) (written : List ℕ) : Type 0 where
  pub places : List ℕ
  pub beyond : ℕ
  pub kept : IsKept IsFrac64 P default_happenings xs last places beyond
  pub status_is : status ≡ s.Valid
  pub text_is : written ≡ trimmed_text xs last places beyond
