use Rattle.plus_translate.proofs.GuardLemmas.{heading}
use Rattle.plus_translate.proofs.guards.put_heads.Goals as goal

pub events-preserved : goal.events-preserved
events-preserved c =
    heading c.args.events.now c.events.before c.index-events-before.result c.args.into.now c.events.into c.push.new.self c.in_ok-head_of.field-0
    c.events-test.true c.index-events-before.is c.events.invariant c.in_ok-push.ensures.ok c.in_ok-head_of.ensures
