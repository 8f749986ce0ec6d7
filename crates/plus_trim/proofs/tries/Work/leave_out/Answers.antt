use Rattle.std.proofs.Common.{sym, ◌∙◌}
use Rattle.plus_trim.proofs.Working.{without_is}
use Rattle.plus_trim.proofs.tries.Work.leave_out.Goals as goal

pub returns-clause-places : goal.returns-clause-places
returns-clause-places g c = c.remove.ensures.items ∙ sym (without_is c.args.index c.args.self.now.places.items)
