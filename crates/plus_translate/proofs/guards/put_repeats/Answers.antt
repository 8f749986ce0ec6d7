use Rattle.plus_translate.proofs.GuardLemmas.{repeating}
use Rattle.plus_translate.proofs.guards.put_repeats.Goals as goal

pub events-preserved : goal.events-preserved
events-preserved c =
    repeating c.args.events.now c.events.before c.index-events-before.result c.args.into.now.items c.events.into.items c.push.new.self.items c.in_ok-repeats_of.field-0
    c.events-test.true c.index-events-before.is c.events.invariant c.in_ok-push.ensures.items c.in_ok-repeats_of.ensures
