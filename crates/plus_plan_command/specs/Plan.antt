-- What `plan` writes: a plan that the search finds; or one line that says that there is none, or that the tries do not suffice,
-- or why nothing is searched.
use Rattle.std.specs.Prelude.{◌≡◌, ℕ, Bool, List}
use Rattle.plus_fraction.specs.Fraction.{Fraction}
use Rattle.plus_number.specs.declared.frac.Frac64.{Frac64}
use Rattle.plus_number.specs.Frac.{fraction_of}
use Rattle.plus_tree.specs.declared.trees.Domain.{Domain}
use Rattle.plus_tree.specs.declared.trees.Problem.{Problem}
use Rattle.plus_numbering.specs.declared.faults.GroundFault.{GroundFault}
use Rattle.plus_numbering.specs.declared.faults.GroundFault.TheVariants.{TooMany, Literal, Memory}
use Rattle.plus_report.specs.declared.refusals.Early.{Early}
use Rattle.plus_report.specs.declared.refusals.Early.TheVariants as early
use Rattle.plus_report.specs.Refusals.{early_text}
use Rattle.plus_report.specs.Plans.{acts_of, plan_text}
use Rattle.plus_validator.specs.Validates.{kind_meant}
use Rattle.plus_planner.specs.declared.searching.Answer.{Answer}
use Rattle.plus_planner.specs.declared.searching.Answer.TheVariants.{Plan, NoPlan, Spent}
use Rattle.plus_plan_command.specs.Planning.Lines.{none_text, spent_text}
use Rattle.plus_plan_command.specs.Planning.Planned.{IsPlanned, IsUnplanned}
use Rattle.plus_reply.specs.declared.pair.pair.Refusal.{Refusal}
use Rattle.plus_reply.specs.declared.pair.pair.Refusal.TheVariants as refusals
use Rattle.plus_reply.specs.Pair.Pair.{text_named, PairRefused, SpellsWellTyped}
use Rattle.plus_report.specs.declared.status.Status.{Status}
use Rattle.plus_report.specs.declared.status.Status.TheVariants as s
use Rattle.plus_reply.specs.Statuses.{early_status}

-- a pair that is not searched is refused so
abbrev pub search_refusal : GroundFault → Refusal
search_refusal (TooMany kind most) = refusals.Early (early.TooMany (kind_meant kind) most)
search_refusal (Literal file place) = refusals.Early (early.Literal (text_named file) place.start place.«end»)
search_refusal Memory = refusals.NoMemory

-- the pair is not searched, and is refused so
pub record IsUnsearched (d : Domain) (p : Problem) (refusal : Refusal) : Type 0 where
  pub fault : GroundFault
  pub cause : IsUnplanned d p fault
  pub refusal_is : refusal ≡ search_refusal fault

-- the status of an answer, and what is written of it
abbrev pub answer_status : Answer Frac64 → Status
answer_status (Plan plan) = s.Valid
answer_status (NoPlan beyond) = s.Invalid
answer_status (Spent tried) = s.Beyond

abbrev pub answer_text : ℕ → Answer Frac64 → List ℕ
answer_text decisions (Plan plan) = plan_text (acts_of fraction_of plan.acts.items) (fraction_of plan.«end»)
answer_text decisions (NoPlan beyond) = none_text decisions beyond
answer_text decisions (Spent tried) = spent_text tried

-- What is written of a well-typed pair, with its status: the answer of a search on the grid of the interval q, by at most k
-- decisions, with so many tries, and with the cut or without; or the line that says why the pair is not searched.
pub data PlansPair (q : Fraction) (k tries : ℕ) (cut : Bool) (d : Domain) (p : Problem) (status : Status) (written : List ℕ) : Type 0 where
  answered :
      (answer : Answer Frac64) → IsPlanned d p q k tries cut answer → status ≡ answer_status answer → written ≡ answer_text k answer
      → PlansPair q k tries cut d p status written
  no_search :
      (e : Early) → IsUnsearched d p (refusals.Early e) → status ≡ early_status e → written ≡ early_text e
      → PlansPair q k tries cut d p status written

-- What is written of two texts: the line that says why they spell no well-typed pair; or what is written of the pair that they
-- spell.
pub data Plans (q : Fraction) (k tries : ℕ) (cut : Bool) (domain problem : List ℕ) (status : Status) (written : List ℕ) : Type 0 where
  no_pair :
      (e : Early) → PairRefused domain problem e → status ≡ early_status e → written ≡ early_text e
      → Plans q k tries cut domain problem status written
  of_pair :
      (d : Domain) (p : Problem) → SpellsWellTyped domain problem d p → PlansPair q k tries cut d p status written
      → Plans q k tries cut domain problem status written
