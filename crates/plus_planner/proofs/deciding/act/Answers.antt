use Rattle.std.proofs.Common.{inl, refl, sym, subst}
use Rattle.plus_state.specs.View.{problem_of, action_of}
use Rattle.plus_state.specs.Fits.{ActionFits}
use Rattle.plus_timeline.specs.Timeline.{TimelineView}
use Rattle.plus_planner.specs.Places.{ActEnds}
use Rattle.plus_planner.proofs.deciding.act.Goals as goal

pub refuses-requires : goal.refuses-requires
refuses-requires g c = subst (λ (t : TimelineView). ActionFits t.atoms t.fluents (action_of g.Q.Exact.value c.args.action.now)) (sym c.now.ensures) c.requires.can.fit

pub returns-in-Some-clause-ends : goal.returns-in-Some-clause-ends
returns-in-Some-clause-ends g c =
    let taken = c.args.place.now.taken.items in
    subst (λ (t : TimelineView). ActEnds g.Q.Exact.fits (problem_of g.Q.Exact.value c.args.ground.now) (action_of g.Q.Exact.value c.args.action.now) c.args.decision t taken taken c.in-Some.fate) c.now.ensures
    (inl record { fails = c.in-Some.ensures; same = refl })
