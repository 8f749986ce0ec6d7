-- What `plan` writes with the status Valid is a plan that a search found.
use Rattle.std.proofs.Common.{◌≡◌, ℕ, Bool, List, refl, ap, ◌∙◌, subst}
use Rattle.plus_fraction.specs.Fraction.{Fraction}
use Rattle.plus_number.specs.declared.frac.Frac64.{Frac64}
use Rattle.plus_state.specs.declared.outcome.TimedPlan.{TimedPlan}
use Rattle.plus_tree.specs.declared.trees.Domain.{Domain}
use Rattle.plus_tree.specs.declared.trees.Problem.{Problem}
use Rattle.plus_report.specs.declared.refusals.Early.{Early}
use Rattle.plus_report.specs.declared.refusals.Early.TheVariants as es
use Rattle.plus_planner.specs.declared.searching.Answer.{Answer}
use Rattle.plus_planner.specs.declared.searching.Answer.TheVariants.{Plan, NoPlan, Spent}
use Rattle.plus_plan_command.specs.Planning.Planned.{IsPlanned}
use Rattle.plus_reply.specs.Pair.Pair.{SpellsWellTyped}
use Rattle.plus_reply.proofs.PairLemmas.OnePair.{pair_once}
use Rattle.plus_report.specs.declared.status.Status.TheVariants as s
use Rattle.plus_reply.specs.Statuses.{early_status}
use Rattle.plus_plan_command.specs.Plan.{answer_status, answer_text, answered, no_search, Plans, no_pair, of_pair}

-- a refusal is no plan
pub not_valid : (e : Early) → s.Valid ≡ early_status e → ⊥
not_valid (es.BadText text start finish word) i = cc i
not_valid (es.BadLine line start finish) i = cc i
not_valid (es.TooLong text) i = cc i
not_valid (es.Depth text at) i = cc i
not_valid es.DepthOut i = cc i
not_valid (es.LineTooLong line) i = cc i
not_valid (es.Literal text start finish) i = cc i
not_valid (es.TooMany kind most) i = cc i

-- the plan of a pair that is written so
pub record WritesPlan (q : Fraction) (k tries : ℕ) (cut : Bool) (domain problem : List ℕ) (written : List ℕ) : Type 0 where
  pub d : Domain
  pub p : Problem
  pub spelled : SpellsWellTyped domain problem d p
  pub plan : TimedPlan Frac64
  pub planned : IsPlanned d p q k tries cut (Plan plan)
  pub written_is : written ≡ answer_text k (Plan plan)

is_plan : (answer : Answer Frac64) → s.Valid ≡ answer_status answer → (plan : TimedPlan Frac64) × (answer ≡ Plan plan)
is_plan (Plan plan) i = (plan, refl)
is_plan (NoPlan beyond) i = cc i
is_plan (Spent tried) i = cc i

module _ (q : Fraction) (k tries : ℕ) (cut : Bool) (domain problem written : List ℕ) where
  of_answer : (d : Domain) (p : Problem) → SpellsWellTyped domain problem d p → (answer : Answer Frac64) → IsPlanned d p q k tries cut answer → s.Valid ≡ answer_status answer → written ≡ answer_text k answer → WritesPlan q k tries cut domain problem written
  of_answer d p t answer h i w =
      let x = is_plan answer i in
      record {
        d = d;
        p = p;
        spelled = t;
        plan = x.0;
        planned = subst (IsPlanned d p q k tries cut) x.1 h;
        written_is = w ∙ ap (answer_text k) x.1;
      }

  pub plan_written : Plans q k tries cut domain problem s.Valid written → WritesPlan q k tries cut domain problem written
  plan_written (no_pair e h i w) = absurd (not_valid e i)
  plan_written (of_pair d p t (answered answer h i w)) = of_answer d p t answer h i w
  plan_written (of_pair d p t (no_search e h i w)) = absurd (not_valid e i)

-- what is said of one of two pairs that the texts spell is said of the other
pub same_pair : (domain problem : List ℕ) (P : Domain → Problem → Type 0) (d d' : Domain) (p p' : Problem) → SpellsWellTyped domain problem d p → SpellsWellTyped domain problem d' p' → P d p → P d' p'
same_pair domain problem P d d' p p' a b h =
    let one = pair_once domain problem d d' p p' a.spelled b.spelled in
    subst (P d') one.1 (subst (λ x. P x p) one.0 h)
