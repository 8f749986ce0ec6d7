use Rattle.std.proofs.Common.{◌≡◌, length, arith, rules}
use Rattle.plus_reads.proofs.Rows.{row_read, row_none}
use Rattle.plus_reads.proofs.table.Table.readers.Goals as goal

pub returns-then-key-len : goal.returns-then-key-len
returns-then-key-len c =
    let len : c.len.result ≡ length c.self.inside.starts.items = search rules in
    row_read c.self.inside.starts.items c.self.inside.readers.items c.deref.result.now c.args.self.now c.args.key c.index.result.now c.index-then-key-len.result.now c.len.result
    c.self.view_is c.deref.ensures.value len c.if-key-len.true c.index.ensures c.index-then-key-len.ensures

pub returns-else-key-len : goal.returns-else-key-len
returns-else-key-len c =
    let len : c.len.result ≡ length c.self.inside.starts.items = search rules in
    row_none c.self.inside.starts.items c.self.inside.readers.items c.args.self.now c.args.key c.len.result c.self.view_is len (omega (arith, c.if-key-len.false))
