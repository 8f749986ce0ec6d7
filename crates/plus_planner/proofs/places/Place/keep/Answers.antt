use Rattle.plus_planner.proofs.KinLemmas.{keep_taken, keep_spared}
use Rattle.plus_planner.proofs.places.Place.keep.Goals as goal

pub returns-in_ok-push-clause-kin : goal.returns-in_ok-push-clause-kin
returns-in_ok-push-clause-kin g c =
    let old = c.args.self.now in
    keep_taken c.len-before.result c.still-still.result c.args.taken old.tried.items c.forget.new.self.tried.items c.push.new.self.items old.spares.items c.forget.new.self.spares.items
    c.in_ok-forget.ensures.forgets c.in_ok-forget.ensures.kin c.in_ok-push.ensures.items

pub returns-in_ok-push-2-clause-kin : goal.returns-in_ok-push-2-clause-kin
returns-in_ok-push-2-clause-kin g c =
    let old = c.args.self.now in
    keep_spared c.still-still.result c.args.taken old.tried.items c.forget.new.self.tried.items old.spares.items c.forget.new.self.spares.items c.push-else-may_keep.new.self.items
    c.in_ok-forget.ensures.forgets c.in_ok-forget.ensures.kin c.in_ok-push-2.ensures.items
