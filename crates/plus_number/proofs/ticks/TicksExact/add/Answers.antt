use Rattle.std.proofs.Common.{arith}
use Rattle.std.proofs.lemmas.Int.{ints}
use Rattle.plus_fraction.proofs.FractionLaws.{Is-add, Is-rebase}
use Rattle.plus_number.specs.TicksLaws.{Is-ticks}
use Rattle.plus_number.proofs.TicksLemmas.{answers_checked}
use Rattle.plus_number.proofs.ticks.TicksExact.add.Goals as goal

pub returns : goal.returns
returns c = answers_checked _ _ _ (Is-rebase _ _ (Is-add (Is-ticks c.args.self.k) (Is-ticks c.args.other.k)) (omega (arith, ints)) (omega (arith, ints))) c.checked.ensures
