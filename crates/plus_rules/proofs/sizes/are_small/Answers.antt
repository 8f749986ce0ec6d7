use Rattle.std.proofs.Common.{ap, not, ◌∙◌}
use Rattle.plus_numbering.proofs.Holding.{not_above}
use Rattle.plus_rules.proofs.Counting.{small_told}
use Rattle.plus_rules.proofs.sizes.are_small.Goals as goal

pub returns : goal.returns
returns c =
    let t = c.args.numbering.now.typed.now in
    not_above c.all_nodes.result 1000000 ∙ ap not (small_told t.domain t.problem c.args.rules.now c.all_nodes.result c.all_nodes.ensures)
