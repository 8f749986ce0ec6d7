use Rattle.std.proofs.Common.{List, ℕ, ap}
use Rattle.plus_fraction.specs.Fraction.{Fraction}
use Rattle.plus_report.specs.Plans.{act_line, Timed}
use Rattle.plus_report.proofs.PutsLemmas.{stop}
use Rattle.plus_report.proofs.LineLemmas.{next_text, last_text, all_texts}
use Rattle.plus_report.proofs.plans.put_acts.Goals as goal

-- an action with its time as a fraction
abbrev shown : {Q : Type 0} → (Q → Fraction) → Q × List ℕ → Timed
shown v a = (v a.0, a.1)

pub returns-in_err-put_act : goal.returns-in_err-put_act
returns-in_err-put_act g c =
    let h = c.from_residual.ensures.0 in
    last_text act_line (shown g.Q.Exact.value) c.args.acts.now c.each.act-index c.act-item.result
    c.each.invariant (stop c.in_err-put_act.ensures h) (ap (λ t. act_line (g.Q.Exact.value c.act-item.result.0, t)) c.bytes.ensures) c.each-test.true c.act-item.is h

pub each-preserved : goal.each-preserved
each-preserved g c =
    next_text act_line (shown g.Q.Exact.value) c.args.acts.now c.each.act-index c.act-item.result
    c.each.invariant c.in_ok-put_act.ensures (ap (λ t. act_line (g.Q.Exact.value c.act-item.result.0, t)) c.bytes.ensures) c.each-test.true c.act-item.is

pub returns : goal.returns
returns g c = all_texts act_line (shown g.Q.Exact.value) c.args.acts.now c.each.act-index c.each.invariant c.each-test.false
