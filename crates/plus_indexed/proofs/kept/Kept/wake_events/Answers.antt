use Rattle.std.proofs.Common.{ap}
use Rattle.plus_indexed.specs.Indexed.{Kept}
use Rattle.plus_indexed.proofs.Knowing.{still_so}
use Rattle.plus_indexed.proofs.kept.Kept.wake_events.Goals as goal

pub returns-clause-woken : goal.returns-clause-woken
returns-clause-woken g c =
    still_so c.args.timeline.now c.args.self.now c.self.inside.readers.index c.index.result.now c.self.inside.events c.still_woken.new.waiting c.changes.result.now (ap (λ (k : Kept). k.index) c.self.view_is) (ap (λ (k : Kept). k.events) c.self.view_is) c.index.ensures c.changes.ensures c.still_woken.ensures
