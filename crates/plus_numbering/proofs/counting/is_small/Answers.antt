use Rattle.std.proofs.Common.{ap, not, ◌∙◌}
use Rattle.plus_numbering.specs.Numbered.{context}
use Rattle.plus_numbering.proofs.Holding.{not_above}
use Rattle.plus_numbering.proofs.LimitLemmas.{small_action}
use Rattle.plus_numbering.proofs.counting.is_small.Goals as goal

pub returns : goal.returns
returns c env =
    not_above c.schema.result 1000000 ∙ ap not (small_action (context c.args.numbering.now) c.args.schema.now env c.schema.result c.schema.ensures)
