use Rattle.plus_translate.proofs.GuardLemmas.{clearing}
use Rattle.plus_translate.proofs.guards.put_clears.Goals as goal

pub events-preserved : goal.events-preserved
events-preserved c =
    clearing c.args.events.now c.events.before c.index-events-before.result c.args.into.now.items c.events.into.items c.push.new.self.items c.in_ok-clear_of.field-0
    c.events-test.true c.index-events-before.is c.events.invariant c.in_ok-push.ensures.items c.in_ok-clear_of.ensures
