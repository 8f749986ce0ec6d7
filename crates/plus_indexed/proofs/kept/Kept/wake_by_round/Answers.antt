use Rattle.std.proofs.Common.{ap}
use Rattle.plus_indexed.specs.Indexed.{Kept}
use Rattle.plus_indexed.proofs.Knowing.{woken_so}
use Rattle.plus_indexed.proofs.kept.Kept.wake_by_round.Goals as goal

pub returns-clause-woken : goal.returns-clause-woken
returns-clause-woken g c =
    woken_so c.args.timeline.now c.args.self.now c.self.inside.readers.index c.index.result.now c.put_woken.new.waiting c.changes.result.now c.args.timeline.now.events (ap (λ (k : Kept). k.index) c.self.view_is) c.index.ensures c.changes.ensures (rw c.events.ensures at c.put_woken.ensures)
