-- What is written of a plan that was found says its decisions.
use Rattle.std.proofs.Common.{◌≡◌, ℕ, Bool, List, sym, subst}
use Rattle.std.specs.Prelude.{map, pos, Ok}
use Rattle.plus_fraction.specs.Fraction.{Fraction, whole, ◌<ℚ◌}
use Rattle.plus_number.specs.declared.frac.Frac64.{Frac64}
use Rattle.plus_state.specs.declared.outcome.TimedPlan.{TimedPlan}
use Rattle.plus_tree.specs.declared.trees.Domain.{Domain}
use Rattle.plus_tree.specs.declared.trees.Problem.{Problem}
use Rattle.plus_plan.specs.declared.forms.Line.{Line}
use Rattle.plus_plan.specs.declared.forms.PlanForm.TheVariants.{Timed}
use Rattle.plus_plan.specs.Lines.{plan_lines}
use Rattle.laws_found.specs.Text.Written.{HasShortLines}
use Rattle.plus_planner.specs.declared.searching.Answer.TheVariants.{Plan}
use Rattle.plus_plan_command.specs.Planning.Planned.{IsPlanned}
use Rattle.plus_reply.specs.Pair.Pair.{depth_limit, SpellsWellTyped}
use Rattle.plus_plan_command.specs.Plan.{answer_text}
use Rattle.laws_found.specs.Passing.{IsTextOf, InstancesPass}
use Rattle.laws_found.specs.Room.{HasRoom}
use Rattle.laws_found.proofs.CheckedLemmas.Steps.{NamesArePlain, FoundIsCalled, TextReadsBack}

module _ (domain problem : List ℕ) (d : Domain) (p : Problem) (q : Fraction) (k tries : ℕ) (cut : Bool) (plan : TimedPlan Frac64) where
  pub said :
      NamesArePlain → FoundIsCalled → TextReadsBack → SpellsWellTyped domain problem d p → whole (pos 0) <ℚ q → (planned : IsPlanned d p q k tries cut (Plan plan))
      → HasRoom (answer_text k (Plan plan)) → (lines : List Line) × IsTextOf d p q planned.answers.decisions (answer_text k (Plan plan)) lines × InstancesPass d p lines
  said names found back t above planned room =
      let plain = names depth_limit domain problem d p t.spelled.domain_spelled t.spelled.problem_spelled in
      let is = planned.answers in
      let f = found d p q is.decisions plan plain planned.inside.actions above is.is.goal.ends.plays.times is.timed in
      let r = back f.0 f.1 f.2.plain f.2.ends (subst HasShortLines f.2.text room.lines) in (
        r.0,
        record {
          within = room.within;
          read = subst (λ x. plan_lines Timed x ≡ map Ok r.0) (sym f.2.text) r.1;
          meant = f.2.meant r.0 r.2;
        },
        f.2.within r.0 r.2,
      )
