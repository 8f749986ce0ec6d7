use Rattle.std.proofs.Common.{arith}
use Rattle.plus_trim_command.proofs.ActLemmas.{count_more, count_end}
use Rattle.plus_trim_command.proofs.acts.count.Goals as goal

pub each-init : goal.each-init
each-init c = ((λ d. omega arith), omega arith)

pub overflow_add-count : goal.overflow_add-count
overflow_add-count c = let i = c.each.invariant.1 in let f = c.one_where_act-count.ensures.few in omega arith

pub each-preserved : goal.each-preserved
each-preserved c =
    let f = c.one_where_act-count.ensures.few in
    let i = c.each.invariant.1 in (
      (λ d. count_more d c.args.lines.now c.each.line-index c.line-item.result c.each.count c.one_where_act-count.result c.each-test.true c.line-item.is (c.one_where_act-count.ensures.count d) (c.each.invariant.0 d)),
      omega arith,
    )

pub returns : goal.returns
returns c = λ d. count_end d c.args.lines.now c.each.line-index c.each.count c.each-test.false (c.each.invariant.0 d)
