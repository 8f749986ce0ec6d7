use Rattle.plus_reads.proofs.Rows.{none_made}
use Rattle.plus_reads.proofs.table.Entries.new.Goals as goal

pub returns : goal.returns
returns c = none_made c.args.keys c.new.result.items c.new.ensures.items
