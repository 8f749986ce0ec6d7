-- Where no cause of a refusal stands, command by command: the texts spell what the command asks for, and all that it asks passes.
use Rattle.std.specs.Prelude.{◌≡◌, ℕ, ◌+◌, ◌*◌, ◌^◌, ◌≤◌, true, List, length, map, Ok, Option, Some, None, IsSomeAnd, All}
use Rattle.plus_fraction.specs.Fraction.{Fraction}
use Rattle.plus_number.specs.Frac.{IsFrac64}
use Rattle.plus_tree.specs.declared.trees.Domain.{Domain}
use Rattle.plus_tree.specs.declared.trees.Problem.{Problem}
use Rattle.plus_tree.specs.declared.trees.Call.{Call}
use Rattle.plus_grammar.specs.Texts.{IsDomainText, IsProblemText}
use Rattle.plus_steps.specs.Stepped.{time_of_step}
use Rattle.plus_translation.specs.Laws.{stripped}
use Rattle.plus_translation.specs.Translated.{translated_domain, translated_problem}
use Rattle.plus_translate.specs.Translates.{IsTranslation}
use Rattle.plus_numeric.specs.Answers.{IsAccepted}
use Rattle.plus_numeric.specs.Asked.{numeric_tests}
use Rattle.plus_numeric.specs.Tests.{AllPass}
use Rattle.plus_lift.specs.Lifts.{names_of, counts}
use Rattle.plus_lift.specs.Command.Again.{SpellsAgain}
use Rattle.plus_lift.specs.Command.Lift.{lifted_text}
use Rattle.plus_actions.specs.Actions.{ground_actions}
use Rattle.plus_planner.specs.Grid.{GridPlan}
use Rattle.plus_plan_command.specs.Planning.Planned.{task_of, IsInside}
use Rattle.plus_trial.specs.Trial.{farm_domain, farm_problem, farm_plan}
use Rattle.plus_plan.specs.declared.forms.Line.{Line}
use Rattle.plus_plan.specs.declared.forms.PlanForm.TheVariants.{Timed}
use Rattle.plus_plan.specs.Lines.{plan_lines}
use Rattle.plus_trim_command.specs.Acts.{act_count}
use Rattle.plus_trim_command.specs.Trim.{most_acts}
use Rattle.plus_validator.specs.Plans.{pair, lines_meant}
use Rattle.plus_validator.specs.Tame.{IsTameText, HasTrajectory}
use Rattle.plus_words.specs.Numbers.{default_happenings}
use Rattle.plus_reply.specs.Pair.Pair.{depth_limit, SpellsWellTyped}
use Rattle.plus_report.specs.declared.status.Status.{Status}
use Rattle.plus_report.specs.declared.status.Status.TheVariants as s
use Rattle.plus_run.specs.Command.{Command, Check, ShowDomain, ShowProblem, Numeric, Trial, Translate, Lift, Plan, Trim}
use Rattle.plus_run.specs.Headline.{IsAnswer}
use Rattle.plus_run.specs.Laws.{IsSettled}
use Rattle.plus_run.specs.Shown.{IsSpelled}

-- the two texts spell a well-typed pair of which this holds
pub record SpellsPairWith (domain problem : List ℕ) (Holds : Domain → Problem → Type 0) : Type 0 where
  pub d : Domain
  pub p : Problem
  pub pair : SpellsWellTyped domain problem d p
  pub holds : Holds d p

-- the plan stays inside the limits and has a trajectory
pub record IsGood (d : Domain) (p : Problem) (most : ℕ) (text : List ℕ) : Type 0 where
  pub tame : IsTameText d p most text
  pub has : HasTrajectory d p text

-- The printed translation of the pair is read again; all tests of the plan pass on it; and for its calls, all times are values, and the
-- timed plan that they stand for stays inside the limits and has a trajectory.
pub record IsLiftable (q : Fraction) (d : Domain) (p : Problem) (plan : List ℕ) : Type 0 where
  pub d' : Domain
  pub p' : Problem
  pub again : SpellsAgain q d p d' p'
  pub passed : AllPass (numeric_tests d' p' plan)
  pub times :
      (calls : List Call) → IsAccepted d' p' plan true calls → All (λ n. IsFrac64 (time_of_step q n)) (counts 0 (stripped (names_of calls)))
  pub good : (calls : List Call) → IsAccepted d' p' plan true calls → IsGood d p default_happenings (lifted_text q calls)

-- the pair is inside the limits of a search, it has a plan on the grid, and the tries suffice for all lists of decisions
pub record IsFindable (q : Fraction) (k tries : ℕ) (d : Domain) (p : Problem) : Type 0 where
  pub inside : IsInside d p
  pub decisions : List ℕ
  pub is : GridPlan IsFrac64 (task_of d p q) k decisions
  pub enough : (k + 1) * (length (ground_actions d p) + 2) ^ k ≤ tries

-- the plan stays inside the limits, has a trajectory, and has no more actions than a plan that is trimmed
pub record IsTrimmable (d : Domain) (p : Problem) (plan : List ℕ) : Type 0 where
  pub good : IsGood d p default_happenings plan
  pub few : (lines : List Line) → plan_lines Timed plan ≡ map Ok lines → act_count (lines_meant (pair d p) lines) ≤ most_acts

-- the text is within its limit and spells a tree
abbrev pub SpellsTree : {T : Type 0} → (List ℕ → T → Type 0) → List ℕ → Type 0
SpellsTree {T} Spells text = (tree : T) × IsSpelled Spells text tree

abbrev pub HasNoCause : Option Command → (List ℕ → Option (List ℕ)) → Type 0
HasNoCause None bytes = ⊥
HasNoCause (Some (Check d p l n)) bytes =
    IsSomeAnd (bytes d) (λ ds. IsSomeAnd (bytes p) (λ ps. IsSomeAnd (bytes l) (λ ls. SpellsPairWith ds ps (λ x y. IsGood x y n ls))))
HasNoCause (Some (ShowDomain file)) bytes = IsSomeAnd (bytes file) (SpellsTree (IsDomainText depth_limit))
HasNoCause (Some (ShowProblem file)) bytes = IsSomeAnd (bytes file) (SpellsTree (IsProblemText depth_limit))
HasNoCause (Some (Numeric d p l)) bytes =
    IsSomeAnd (bytes d) (λ ds. IsSomeAnd (bytes p) (λ ps. IsSomeAnd (bytes l) (λ ls. SpellsPairWith ds ps (λ x y. AllPass (numeric_tests x y ls)))))
HasNoCause (Some (Trial n)) bytes = SpellsPairWith farm_domain (farm_problem n) (λ x y. IsGood x y default_happenings (farm_plan n))
HasNoCause (Some (Translate file q d p)) bytes =
    IsSomeAnd (bytes d) (λ ds. IsSomeAnd (bytes p) (λ ps. SpellsPairWith ds ps (λ x y. IsTranslation q x y (translated_domain q x y) (translated_problem q x y))))
HasNoCause (Some (Lift q d p l)) bytes =
    IsSomeAnd (bytes d) (λ ds. IsSomeAnd (bytes p) (λ ps. IsSomeAnd (bytes l) (λ ls. SpellsPairWith ds ps (λ x y. IsLiftable q x y ls))))
HasNoCause (Some (Plan q k n cut d p)) bytes =
    IsSomeAnd (bytes d) (λ ds. IsSomeAnd (bytes p) (λ ps. SpellsPairWith ds ps (λ x y. IsFindable q k n x y)))
HasNoCause (Some (Trim d p l)) bytes =
    IsSomeAnd (bytes d) (λ ds. IsSomeAnd (bytes p) (λ ps. IsSomeAnd (bytes l) (λ ls. SpellsPairWith ds ps (λ x y. IsTrimmable x y ls))))

-- there an answer that tells of no fault and of no want of memory is that it is valid
abbrev pub Complete : Type 0
Complete =
    (command : Option Command) (bytes : List ℕ → Option (List ℕ)) (old new : Option (List ℕ)) (a b c d : ℕ) (status : Status)
    → IsAnswer command bytes old new a b c d status → IsSettled status → HasNoCause command bytes → status ≡ s.Valid
