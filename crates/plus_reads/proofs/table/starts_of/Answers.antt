use Rattle.std.proofs.Common.{rules}
use Rattle.plus_reads.proofs.Rows.{summed_none, sum_few, sum_step}
use Rattle.plus_reads.proofs.table.starts_of.Goals as goal

pub keys-init : goal.keys-init
keys-init c = summed_none c.args.keys c.args.pairs.now c.in_ok-starts.starts.items c.in_ok-starts.ensures

pub overflow_add-sum : goal.overflow_add-sum
overflow_add-sum c =
    let few = sum_few c.args.keys c.args.pairs.now c.keys.starts.items c.keys.key c.keys.sum c.index-count.result.now c.keys-test.true c.index-count.ensures c.keys.invariant in
    search rules

pub keys-preserved : goal.keys-preserved
keys-preserved c =
    sum_step c.args.keys c.args.pairs.now c.keys.starts.items c.keys.key c.keys.sum c.index-count.result.now c.keys-test.true c.index-count.ensures c.keys.invariant
