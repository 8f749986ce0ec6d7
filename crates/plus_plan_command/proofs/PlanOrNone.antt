-- No two texts have a plan and none.
use Rattle.std.proofs.Common.{◌≡◌, ℕ, Bool, List, subst}
use Rattle.plus_fraction.specs.Fraction.{Fraction}
use Rattle.plus_number.specs.declared.frac.Frac64.{Frac64}
use Rattle.plus_tree.specs.declared.trees.Domain.{Domain}
use Rattle.plus_tree.specs.declared.trees.Problem.{Problem}
use Rattle.plus_report.specs.declared.refusals.Early.{Early}
use Rattle.plus_report.specs.declared.refusals.Early.TheVariants as es
use Rattle.plus_planner.specs.declared.searching.Answer.{Answer}
use Rattle.plus_planner.specs.declared.searching.Answer.TheVariants.{Plan, NoPlan, Spent}
use Rattle.plus_plan_command.specs.Planning.Planned.{IsPlanned}
use Rattle.plus_reply.proofs.PairLemmas.OnePair.{pair_once}
use Rattle.plus_reply.specs.Pair.Pair.{SpellsWellTyped}
use Rattle.plus_report.specs.declared.status.Status.TheVariants as s
use Rattle.plus_reply.specs.Statuses.{early_status}
use Rattle.plus_plan_command.specs.Plan.{answer_status, PlansPair, answered, no_search, Plans, no_pair, of_pair}
use Rattle.plus_plan_command.specs.Laws.{PlanOrNone}

-- a refusal is neither a plan nor none
not_valid : (e : Early) → s.Valid ≡ early_status e → ⊥
not_valid (es.BadText text start finish word) i = cc i
not_valid (es.BadLine line start finish) i = cc i
not_valid (es.TooLong text) i = cc i
not_valid (es.Depth text at) i = cc i
not_valid es.DepthOut i = cc i
not_valid (es.LineTooLong line) i = cc i
not_valid (es.Literal text start finish) i = cc i
not_valid (es.TooMany kind most) i = cc i

not_invalid : (e : Early) → s.Invalid ≡ early_status e → ⊥
not_invalid (es.BadText text start finish word) i = cc i
not_invalid (es.BadLine line start finish) i = cc i
not_invalid (es.TooLong text) i = cc i
not_invalid (es.Depth text at) i = cc i
not_invalid es.DepthOut i = cc i
not_invalid (es.LineTooLong line) i = cc i
not_invalid (es.Literal text start finish) i = cc i
not_invalid (es.TooMany kind most) i = cc i

-- ---- one pair

module _ (q : Fraction) (k tries tries' : ℕ) (cut cut' : Bool) (d : Domain) (p : Problem) where
  answers_apart : (a b : Answer Frac64) → IsPlanned d p q k tries cut a → IsPlanned d p q k tries' cut' b → s.Valid ≡ answer_status a → s.Invalid ≡ answer_status b → ⊥
  answers_apart (Plan plan) (Plan other) h g i j = cc j
  answers_apart (Plan plan) (NoPlan beyond) h g i j = g.answers.none h.answers.decisions h.answers.is
  answers_apart (Plan plan) (Spent tried) h g i j = cc j
  answers_apart (NoPlan beyond) b h g i j = cc i
  answers_apart (Spent tried) b h g i j = cc i

  pairs_apart : (w v : List ℕ) → PlansPair q k tries cut d p s.Valid w → PlansPair q k tries' cut' d p s.Invalid v → ⊥
  pairs_apart w v (answered a h i x) (answered b g j y) = answers_apart a b h g i j
  pairs_apart w v (answered a h i x) (no_search e g j y) = not_invalid e j
  pairs_apart w v (no_search e h i x) b = not_valid e i

-- what is said of one of two pairs that the texts spell is said of the other
same_pair : (ds ps : List ℕ) (P : Domain → Problem → Type 0) (d d' : Domain) (p p' : Problem) → SpellsWellTyped ds ps d p → SpellsWellTyped ds ps d' p' → P d p → P d' p'
same_pair ds ps P d d' p p' a b h =
    let one = pair_once ds ps d d' p p' a.spelled b.spelled in
    subst (P d') one.1 (subst (λ x. P x p) one.0 h)

-- ---- two texts

texts_apart : (q : Fraction) (k tries tries' : ℕ) (cut cut' : Bool) (ds ps w v : List ℕ) → Plans q k tries cut ds ps s.Valid w → Plans q k tries' cut' ds ps s.Invalid v → ⊥
texts_apart q k tries tries' cut cut' ds ps w v (no_pair e h i x) b = not_valid e i
texts_apart q k tries tries' cut cut' ds ps w v (of_pair d p t h) (no_pair e g j y) = not_invalid e j
texts_apart q k tries tries' cut cut' ds ps w v (of_pair d p t h) (of_pair d' p' t' g) =
    pairs_apart q k tries tries' cut cut' d' p' w v (same_pair ds ps (λ a b. PlansPair q k tries cut a b s.Valid w) d d' p p' t t' h) g

pub plan_or_none : PlanOrNone
plan_or_none = texts_apart
