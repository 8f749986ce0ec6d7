use Rattle.std.proofs.Common.{rules}
use Rattle.plus_reads.proofs.Rows.{count_few, counts_step}
use Rattle.plus_reads.proofs.table.counts_of.Goals as goal

pub overflow_add-index_mut : goal.overflow_add-index_mut
overflow_add-index_mut c =
    let few = count_few c.args.keys c.args.pairs.now c.pairs.counts.items c.pairs.pair-index c.index_mut.result.now c.pairs-test.true c.requires c.index_mut.ensures.value c.pairs.invariant in
    search rules

pub pairs-preserved : goal.pairs-preserved
pairs-preserved c =
    counts_step c.args.keys c.args.pairs.now c.pairs.counts.items c.pairs.pair-index c.index_mut.result.now c.pairs-test.true c.requires c.index_mut.ensures.value c.pairs.invariant
