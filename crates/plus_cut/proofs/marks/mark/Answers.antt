use Rattle.std.proofs.Common.{arith}
use Rattle.plus_cut.proofs.MarkLemmas.{mark_past, mark_set}
use Rattle.plus_cut.proofs.marks.mark.Goals as goal

pub returns-then-atom-len : goal.returns-then-atom-len
returns-then-atom-len c = mark_past c.args.marks.now c.args.atom.0 (omega arith)

pub returns : goal.returns
returns c = mark_set c.args.marks.now _ c.args.atom.0 (omega arith) c.set.ensures
