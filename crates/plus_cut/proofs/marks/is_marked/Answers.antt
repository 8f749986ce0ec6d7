use Rattle.std.proofs.Common.{false, sym, ◌∙◌, arith}
use Rattle.std.proofs.lemmas.List.{get_or_past}
use Rattle.std.proofs.lemmas.Option.{unwrap_or-slice_get}
use Rattle.plus_cut.proofs.marks.is_marked.Goals as goal

pub returns-then-atom-len : goal.returns-then-atom-len
returns-then-atom-len c = sym (get_or_past c.args.marks.now c.args.atom false (omega arith))

pub returns : goal.returns
returns c = c.get.ensures ∙ unwrap_or-slice_get c.args.marks.now c.args.atom false
