use Rattle.plus_cascade.proofs.FiredLemmas.{next_number, clearing_inside, clearing_next}
use Rattle.plus_cascade.proofs.cascade.Cascade.clear.Goals as goal

pub set-requires : goal.set-requires
set-requires c =
    let e = next_number c.args.events.now c.each.event-index (record { 0 = 0 }) c.each-test.true in
    clearing_inside _ _ _ _ _ (rw e at c.each.invariant)

pub each-preserved : goal.each-preserved
each-preserved c =
    let e = next_number c.args.events.now c.each.event-index (record { 0 = 0 }) c.each-test.true in
    clearing_next _ _ _ _ _ (rw e at c.each.invariant) _ c.set.ensures
