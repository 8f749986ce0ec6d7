use Rattle.plus_translate.proofs.GuardLemmas.{firing}
use Rattle.plus_translate.proofs.fires.put_fires.Goals as goal

pub events-preserved : goal.events-preserved
events-preserved c =
    firing c.args.events.now c.events.before c.index-events-before.result c.args.into.now.items c.events.into.items c.put_event.new.into.items
    c.events-test.true c.index-events-before.is c.events.invariant c.in_ok-put_event.ensures
