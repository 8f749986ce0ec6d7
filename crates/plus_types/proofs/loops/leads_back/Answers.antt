use Rattle.std.proofs.Common.{◌∙◌, ap, sym, not, arith}
use Rattle.std.specs.Str.{bytes_eq}
use Rattle.plus_types.specs.Types.{bindings_of}
use Rattle.plus_types.proofs.RankLemmas.{leads-first, leads-top, leads-back, leads-more, un-not}
use Rattle.plus_types.proofs.loops.leads_back.Goals as goal

pub steps-init : goal.steps-init
steps-init c = record {
  few = omega arith;
  leads = leads-first (bindings_of c.args.types.now) _ c.args.name.now;
}

pub returns-then-ne : goal.returns-then-ne
returns-then-ne c = λ _.
    let top = ap (bytes_eq c.steps.high.now) (sym c.as_slice.ensures) ∙ sym c.eq.ensures ∙ c.if-eq.true in
    let other = ap (λ x. not (bytes_eq c.args.name.now x)) (sym c.as_slice-then-eq.ensures) ∙ sym c.ne.ensures ∙ c.if-ne.true in
    leads-top c.args.types.now c.steps.left c.args.name.now c.steps.high.now (omega (arith, c.steps-test.true)) c.steps.invariant.few c.steps.invariant.leads top other

pub returns-then-eq-2 : goal.returns-then-eq-2
returns-then-eq-2 c = λ _.
    let same = ap (λ x. bytes_eq x c.steps.high.now) (sym c.bytes.ensures) ∙ un-not _ (sym c.ne-in-Some.ensures ∙ c.if-ne-2.false) in
    let back = ap (λ x. bytes_eq x c.args.name.now) (sym c.bytes-in-Some.ensures) ∙ sym c.eq-in-Some.ensures ∙ c.if-eq-2.true in
    leads-back c.args.types.now c.steps.left c.step_to-step.result c.in-Some.member.now c.args.name.now c.steps.high.now (omega (arith, c.steps-test.true)) c.steps.invariant.few c.steps.invariant.leads
    c.in-Some.ensures.lookup.3.0 c.in-Some.ensures.lookup.1 same back

pub steps-preserved : goal.steps-preserved
steps-preserved c =
    let same = ap (λ x. bytes_eq x c.steps.high.now) (sym c.bytes.ensures) ∙ un-not _ (sym c.ne-in-Some.ensures ∙ c.if-ne-2.false) in
    let more = leads-more c.args.types.now c.steps.left c.step_to-step.result c.in-Some.member.now c.args.name.now c.steps.high.now (omega (arith, c.steps-test.true)) c.steps.invariant.few c.steps.invariant.leads
    c.in-Some.ensures.lookup.3.0 c.in-Some.ensures.lookup.1 same in
    record {
      few = omega (arith, c.steps.invariant.few);
      leads = rw c.bytes-high.ensures more;
    }
