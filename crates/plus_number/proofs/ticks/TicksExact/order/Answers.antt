use Rattle.std.proofs.Common.{◌∙◌, sym, pos}
use Rattle.plus_fraction.proofs.FractionSigns.{compared_by}
use Rattle.plus_number.specs.TicksLaws.{Is-ticks}
use Rattle.plus_number.proofs.ticks.TicksExact.order.Goals as goal

pub returns : goal.returns
returns c = c.cmp.ensures ∙ sym (compared_by (pos 1000000) (Is-ticks c.args.self.k) (Is-ticks c.args.other.k))
