-- The plan that a search found, by the calls of its actions.
use Rattle.std.proofs.Common.{◌≡◌, ℕ, suc, ◌+◌, List, [], ◌∷◌, map, Option, Some, None, slice_get, arith, refl, ap, ap₂, sym, subst, ◌∙◌}
use Rattle.std.specs.Prelude.{pos}
use Rattle.std.proofs.lemmas.List.Elements.{All-nil, All-cons}
use Rattle.plus_fraction.specs.Fraction.{Fraction, whole, ◌<ℚ◌, ◌≤ℚ◌}
use Rattle.plus_fraction.proofs.FractionRing.{zero-*ℚ}
use Rattle.plus_model.specs.Terms.{Action}
use Rattle.plus_model.specs.Plan.{Instance, Line, ActLine}
use Rattle.plus_number.specs.declared.frac.Frac64.{Frac64}
use Rattle.plus_number.specs.Frac.{fraction_of, IsFrac64}
use Rattle.plus_state.specs.declared.outcome.TimedPlan.{TimedPlan}
use Rattle.plus_tree.specs.declared.trees.Domain.{Domain}
use Rattle.plus_tree.specs.declared.trees.Problem.{Problem}
use Rattle.plus_report.specs.Plans.{Timed, plan_text}
use Rattle.plus_actions.specs.Actions.{ground_actions, IsGroundable}
use Rattle.laws_found.specs.Text.Written.{TimedCall, IsPlanTime}
use Rattle.plus_planner.specs.Grid.{ticks, after_decision, line_for, lines_from, tick_after, timed, AllTimes}
use Rattle.plus_planner.specs.Listing as listing
use Rattle.plus_planner.specs.Listing.{labels_from, IsPlanOf}
use Rattle.plus_planner.proofs.Ticks.{ticks_ordered}
use Rattle.plus_plan_command.specs.Planning.Planned.{task_of}
use Rattle.laws_found.specs.Calls.Calls.{HasPlainNames}
use Rattle.laws_found.specs.Calls.Plans.{TimedAction, AreGround, HavePlanTimes, plan_with, labelled}
use Rattle.laws_found.specs.Calls.Decided.{done_at, decided_from, AreCallsOf}
use Rattle.laws_found.proofs.CallsLemmas.Saying.{called, written, all_plain, meant, within}

-- ---- the decisions

pub lines : (actions : List Action) (q : Fraction) (n : ℕ) (ds : List ℕ) → lines_from actions q n ds ≡ plan_with (decided_from actions q n ds) (ticks q (tick_after actions n ds))
lines actions q n [] = refl
lines actions q n (d ∷ ds) = by (slice_get actions d) (λ m. lines actions q m ds)
  where
    by :
        (o : Option Action) → ((m : ℕ) → lines_from actions q m ds ≡ plan_with (decided_from actions q m ds) (ticks q (tick_after actions m ds)))
        → line_for o (ticks q n) (lines_from actions q (after_decision o n) ds)
        ≡ plan_with (done_at o (ticks q n) (decided_from actions q (after_decision o n) ds)) (ticks q (tick_after actions (after_decision o n) ds))
    by (Some a) more = ap (λ (ls : List Line). ActLine (ticks q n) (Instance a) ∷ ls) (more n)
    by None more = more (suc n)

pub labels : (actions : List Action) (q : Fraction) (n : ℕ) (ds : List ℕ) → labels_from actions q n ds ≡ map labelled (decided_from actions q n ds)
labels actions q n [] = refl
labels actions q n (d ∷ ds) = by (slice_get actions d) (λ m. labels actions q m ds)
  where
    by :
        (o : Option Action) → ((m : ℕ) → labels_from actions q m ds ≡ map labelled (decided_from actions q m ds))
        → listing.labelled o (ticks q n) (labels_from actions q (after_decision o n) ds) ≡ map labelled (done_at o (ticks q n) (decided_from actions q (after_decision o n) ds))
    by (Some a) more = ap (λ (ls : List Timed). (ticks q n, a.label) ∷ ls) (more n)
    by None more = more (suc n)

abbrev IsGround : Domain → Problem → TimedAction → Type 0
IsGround d p a = (k : ℕ) × (slice_get (ground_actions d p) k ≡ Some a.1)

pub ground : (d : Domain) (p : Problem) (q : Fraction) (n : ℕ) (ds : List ℕ) → AreGround d p (decided_from (ground_actions d p) q n ds)
ground d p q n [] = All-nil (IsGround d p)
ground d p q n (x ∷ xs) = by (slice_get (ground_actions d p) x) refl (λ m. ground d p q m xs)
  where
    by :
        (o : Option Action) → slice_get (ground_actions d p) x ≡ o → ((m : ℕ) → AreGround d p (decided_from (ground_actions d p) q m xs))
        → AreGround d p (done_at o (ticks q n) (decided_from (ground_actions d p) q (after_decision o n) xs))
    by (Some a) e more = All-cons (IsGround d p) (ticks q n, a) (decided_from (ground_actions d p) q n xs) (x, e) (more n)
    by None e more = more (suc n)

-- ---- their times

abbrev IsTimed : TimedAction → Type 0
IsTimed a = IsPlanTime a.0

not_negative : (q : Fraction) (n : ℕ) → whole (pos 0) <ℚ q → whole (pos 0) ≤ℚ ticks q n
not_negative q n h =
    let e : 0 + n ≡ n = omega arith in
    subst (λ (m : ℕ). whole (pos 0) ≤ℚ ticks q m) e (subst (λ (t : Fraction). t ≤ℚ ticks q (0 + n)) (zero-*ℚ q) (ticks_ordered q 0 n h))

pub times :
    (actions : List Action) (q : Fraction) (n : ℕ) (ds : List ℕ) → whole (pos 0) <ℚ q → AllTimes IsFrac64 (lines_from actions q n ds)
    → HavePlanTimes (decided_from actions q n ds) × IsPlanTime (ticks q (tick_after actions n ds))
times actions q n [] h a = (All-nil IsTimed, record { not_negative = not_negative q n h; fits = a.0 })
times actions q n (d ∷ ds) h a = by (slice_get actions d) a (λ m. times actions q m ds h)
  where
    by :
        (o : Option Action) → AllTimes IsFrac64 (line_for o (ticks q n) (lines_from actions q (after_decision o n) ds))
        → ((m : ℕ) → AllTimes IsFrac64 (lines_from actions q m ds) → HavePlanTimes (decided_from actions q m ds) × IsPlanTime (ticks q (tick_after actions m ds)))
        → HavePlanTimes (done_at o (ticks q n) (decided_from actions q (after_decision o n) ds)) × IsPlanTime (ticks q (tick_after actions (after_decision o n) ds))
    by (Some x) b more =
        let r = more n b.1 in
        (All-cons IsTimed (ticks q n, x) (decided_from actions q n ds) (record { not_negative = not_negative q n h; fits = b.0 }) r.0, r.1)
    by None b more = more (suc n) b

-- ---- the plan

pub found_plan_is_called :
    (d : Domain) (p : Problem) (q : Fraction) (ds : List ℕ) (plan : TimedPlan Frac64)
    → HasPlainNames d p → IsGroundable IsFrac64 d p → whole (pos 0) <ℚ q → AllTimes IsFrac64 (timed (task_of d p q) ds).lines
    → IsPlanOf fraction_of (task_of d p q) ds plan → (calls : List TimedCall) × (last : Fraction) × AreCallsOf d p q ds plan calls last
found_plan_is_called d p q ds plan names g positive all is =
    let actions = ground_actions d p in
    let acts = decided_from actions q 0 ds in
    let last = ticks q (tick_after actions 0 ds) in
    let c = called d p acts (ground d p q 0 ds) in
    let t = times actions q 0 ds positive all in (
      c.0,
      last,
      record {
        text = ap₂ plan_text (is.acts ∙ labels actions q 0 ds) is.ends ∙ sym (written d p acts c.0 last c.1);
        plain = all_plain d p acts c.0 names t.0 c.1;
        ends = t.1;
        meant = λ ls s. meant d p acts c.0 last 1 ls c.1 s ∙ sym (lines actions q 0 ds);
        within = λ ls s. within d p acts c.0 last 1 ls g c.1 s;
      },
    )
