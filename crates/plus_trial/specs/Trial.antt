-- `trial n`: one line sums up the check of a farm of n tanks, whose three texts are made in memory.
use Rattle.std.specs.Prelude.{◌≡◌, ℕ, List}
use Rattle.plus_tree.specs.declared.trees.Domain.{Domain}
use Rattle.plus_tree.specs.declared.trees.Problem.{Problem}
use Rattle.plus_report.specs.declared.refusals.Early.{Early}
use Rattle.plus_report.specs.Refusals.{early_text}
use Rattle.plus_validator.specs.declared.judge.Judged.{Judged}
use Rattle.plus_validator.specs.declared.judge.Outcome.{Outcome}
use Rattle.plus_validator.specs.declared.judge.Outcome.TheVariants as outcomes
use Rattle.plus_validator.specs.Outcomes.{outcome_of, status_of}
use Rattle.plus_validator.specs.Verdicts.{JudgesText}
use Rattle.plus_trial.specs.declared.summary.Word.{Word}
use Rattle.plus_trial.specs.declared.summary.Word.TheVariants as words
use Rattle.plus_trial.specs.declared.summary.Summary.{Summary}
use Rattle.plus_trial.specs.Farm.{domain_text, problem_text, plan_text}
use Rattle.plus_trial.specs.Summary.{summary_text}
use Rattle.plus_words.specs.Numbers.{default_happenings}
use Rattle.plus_reply.specs.Pair.Pair.{PairRefused, SpellsWellTyped}
use Rattle.plus_report.specs.declared.status.Status.{Status}
use Rattle.plus_reply.specs.Statuses.{early_status}

-- the three texts of a farm of n tanks, whose bytes are of no matter to what is said of them here
unfoldable pub farm_domain : List ℕ
farm_domain = domain_text

unfoldable pub farm_problem : ℕ → List ℕ
farm_problem n = problem_text n

unfoldable pub farm_plan : ℕ → List ℕ
farm_plan n = plan_text n

-- the first word of a verdict line
abbrev pub word_of : Outcome → Word
word_of outcomes.Valid = words.Valid
word_of outcomes.Invalid = words.Invalid
word_of outcomes.Beyond = words.Beyond
word_of outcomes.BadText = words.Bad
word_of outcomes.ReadFault = words.Bad
word_of outcomes.WriteFault = words.Bad
word_of outcomes.NoMemory = words.Bad

-- what is said of a farm whose plan is judged so
abbrev pub summary_of : ℕ → Judged → Summary
summary_of n j = record { tanks = n; word = word_of (outcome_of j.verdict); entries = j.entries; firings = j.firings }

-- The status and the line of a trial: the texts of the farm spell a well-typed pair, and the line sums up the verdict on its plan and
-- how many moments and how many events there are before it; or the line says why the texts are no such pair.
pub data IsTrial (n : ℕ) (status : Status) (line : List ℕ) : Type 0 where
  is_judged :
      (d : Domain) (p : Problem) (j : Judged) → SpellsWellTyped farm_domain (farm_problem n) d p
      → JudgesText d p default_happenings (farm_plan n) j → status ≡ status_of (outcome_of j.verdict)
      → line ≡ summary_text (summary_of n j) → IsTrial n status line
  no_pair : (e : Early) → PairRefused farm_domain (farm_problem n) e → status ≡ early_status e → line ≡ early_text e → IsTrial n status line
