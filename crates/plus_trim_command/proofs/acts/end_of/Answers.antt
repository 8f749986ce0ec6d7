use Rattle.plus_number.specs.Frac.{fraction_of}
use Rattle.plus_plan.specs.Answers.{HasBottom}
use Rattle.plus_validator.specs.Plans.{HasValue}
use Rattle.plus_trim_command.proofs.ActLemmas.{time_more, time_end, time_begin, all_at}
use Rattle.plus_trim_command.proofs.acts.end_of.Goals as goal

pub each-init : goal.each-init
each-init c = λ d. time_begin d c.args.lines.now (fraction_of c.zero-end.result) c.zero-end.ensures

pub time_or-end-requires-clause-bottom : goal.time_or-end-requires-clause-bottom
time_or-end-requires-clause-bottom c = all_at HasBottom c.args.lines.now c.each.line-index c.line-item.result c.requires.bottoms c.each-test.true c.line-item.is

pub time_or-end-requires-clause-value : goal.time_or-end-requires-clause-value
time_or-end-requires-clause-value c = all_at HasValue c.args.lines.now c.each.line-index c.line-item.result c.requires.values c.each-test.true c.line-item.is

pub each-preserved : goal.each-preserved
each-preserved c = λ d.
    time_more d c.args.lines.now c.each.line-index c.line-item.result (fraction_of c.each.end) (fraction_of c.time_or-end.result) c.each-test.true c.line-item.is
    (c.time_or-end.ensures d) (c.each.invariant d)

pub returns : goal.returns
returns c = λ d. time_end d c.args.lines.now c.each.line-index (fraction_of c.each.end) c.each-test.false (c.each.invariant d)
