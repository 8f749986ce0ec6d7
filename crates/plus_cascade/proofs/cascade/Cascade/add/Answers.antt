use Rattle.std.proofs.Common.{ap, ◌∙◌}
use Rattle.plus_cascade.proofs.FiredLemmas.{next_number, no_number, growing_inside, growing_next, growing_end}
use Rattle.plus_cascade.specs.Fired.{event_numbers, with_fired}
use Rattle.plus_cascade.proofs.SetLemmas.{set_grows}
use Rattle.plus_cascade.proofs.cascade.Cascade.add.Goals as goal

pub set-requires : goal.set-requires
set-requires c =
    let e = next_number c.args.events.now c.each.event-index (record { 0 = 0 }) c.each-test.true in
    growing_inside _ _ _ _ _ (rw e at c.each.invariant)

pub each-preserved : goal.each-preserved
each-preserved c =
    let e = next_number c.args.events.now c.each.event-index (record { 0 = 0 }) c.each-test.true in
    growing_next _ _ _ _ _ (rw e at c.each.invariant) _ c.set.ensures

pub returns-clause-grows : goal.returns-clause-grows
returns-clause-grows c =
    let e = no_number c.args.events.now c.each.event-index c.each-test.false in
    let set = growing_end _ _ _ (rw e at c.each.invariant) ∙ ap (λ v. with_fired v (event_numbers c.args.events.now)) c.self.view_is in
    set_grows c.args.self.now _ (event_numbers c.args.events.now) c.requires set
