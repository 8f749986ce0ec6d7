use Rattle.std.proofs.Common.{◌∙◌}
use Rattle.plus_number.specs.Frac.{fraction_of}
use Rattle.plus_report.specs.Plans.{acts_of, plan_text}
use Rattle.plus_lift.proofs.CommandLemmas.CallsLemmas.{plan_judged}
use Rattle.plus_lift.proofs.command.calls.judged.Goals as goal

pub returns : goal.returns
returns c =
    plan_judged c.args.typed.now.domain c.args.typed.now.problem
    (plan_text (acts_of fraction_of c.args.plan.now.acts.items) (fraction_of c.args.plan.now.«end»))
    c.bytes.result.now c.in_ok-text.text.items c.extend_from_slice.new.self.items c.deref.result.now c.in_ok-judged.judged c.outcome.result
    (record { status = c.status.result; text = c.extend_from_slice-2.new.self })
    (c.bytes.ensures ∙ c.in_ok-lines.ensures) c.in_ok-judged.ensures.judged
    (c.in_ok-text.ensures.items ∙ c.bytes-2.ensures ∙ c.in_ok-lines.ensures) c.in_ok-extend_from_slice.ensures.items
    c.deref.ensures.value c.in_ok-extend_from_slice-2.ensures.items c.outcome.ensures c.status.ensures
