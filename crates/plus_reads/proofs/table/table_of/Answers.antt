use Rattle.std.proofs.Common.{rules, arith}
use Rattle.plus_reads.proofs.Rows.{place_step, filled_step, filled_end, rows_are, are_rows}
use Rattle.plus_reads.proofs.table.table_of.Goals as goal

pub index_mut-requires : goal.index_mut-requires
index_mut-requires c =
    let inside = place_step c.args.keys c.args.pairs.now c.pairs.starts.items c.pairs.pair-index c.index-place.result.now c.pairs-test.true c.requires c.index-place.ensures c.pairs.readers.items c.pairs.invariant in
    search rules

pub overflow_add-place : goal.overflow_add-place
overflow_add-place c =
    let inside = place_step c.args.keys c.args.pairs.now c.pairs.starts.items c.pairs.pair-index c.index-place.result.now c.pairs-test.true c.requires c.index-place.ensures c.pairs.readers.items c.pairs.invariant in
    search rules

pub pairs-preserved : goal.pairs-preserved
pairs-preserved c =
    filled_step c.args.keys c.args.pairs.now c.pairs.starts.items c.pairs.pair-index c.index-place.result.now c.pairs-test.true c.requires c.index-place.ensures c.pairs.readers.items c.pairs.invariant

pub invariant_of-result : goal.invariant_of-result
invariant_of-result c =
    are_rows c.args.keys c.args.pairs.now c.pairs.starts.items c.pairs.readers.items
    (filled_end _ _ _ _ c.pairs.pair-index (omega (arith, c.pairs-test.false)) c.pairs.invariant)

pub returns : goal.returns
returns c =
    rows_are c.args.keys c.args.pairs.now c.pairs.starts.items c.pairs.readers.items
    (filled_end _ _ _ _ c.pairs.pair-index (omega (arith, c.pairs-test.false)) c.pairs.invariant)
