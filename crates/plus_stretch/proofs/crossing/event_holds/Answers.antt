use Rattle.std.proofs.Common.{[], true, false, ◌∙◌, sym, refl}
use Rattle.plus_state.specs.View.{problem_of}
use Rattle.plus_state.specs.WalkFits.{event_conditions_fit}
use Rattle.plus_state.proofs.LookingLemmas.{condition_fits, looking_start, looking_inside, looking_err, looking_next, looking_stop, looking_end}
use Rattle.plus_cascade.proofs.FiredLemmas.{next_number as next_event, no_number as no_event}
use Rattle.plus_stretch.proofs.HereLemmas.{nodes_pass, nodes_fail, one_holds, none_holds, some_found}
use Rattle.plus_stretch.proofs.crossing.event_holds.Goals as goal
use Rattle.plus_stretch.proofs.crossing.event_holds.Goals.{then-truth, else-truth}

pub each-init : goal.each-init
each-init g c = ([], looking_start _ _ _ _ _ refl c.requires.known.members, refl)

pub condition-requires : goal.condition-requires
condition-requires g c =
    let e = next_event c.args.events.now c.each.event-index _ c.each-test.true in
    looking_inside _ _ _ _ _ _ _ (rw e at c.each.invariant.1)

pub holds-requires : goal.holds-requires
holds-requires g c =
    condition_fits _ _ c.args.state.now _ _ _ c.requires.state c.condition.ensures (event_conditions_fit (problem_of g.Q.Exact.value c.args.ground.now) c.args.ground.now.fits)

pub returns-in-Err : goal.returns-in-Err
returns-in-Err g c =
    let e = next_event c.args.events.now c.each.event-index _ c.each-test.true in
    nodes_fail _ _ _ (looking_stop _ _ _ _ _ c.requires.known
    (looking_err _ _ _ _ _ _ _ (rw e at c.each.invariant.1) _ c.condition.ensures _ c.in-Err.ensures))

pub each-preserved : goal.each-preserved
each-preserved g c =
    let e = next_event c.args.events.now c.each.event-index _ c.each-test.true in
    let h = rw e at c.each.invariant.1 in
    let t = c.in-Ok.ensures in
    elim c.if-truth.branch [
      | then-truth w ↦ (_, looking_next _ _ _ _ _ _ _ h _ c.condition.ensures true _ t.0 (sym w.if-truth.true ∙ t.1) refl, w.found-is ∙ one_holds _ _)
      | else-truth w ↦ (_, looking_next _ _ _ _ _ _ _ h _ c.condition.ensures false _ t.0 (sym w.if-truth.false ∙ t.1) refl, w.found-is ∙ none_holds _ _ c.each.invariant.2)
    ]

pub returns : goal.returns
returns g c =
    let n = no_event c.args.events.now c.each.event-index c.each-test.false in
    let w = looking_end _ _ _ _ _ c.requires.known (rw n at c.each.invariant.1) in
    (nodes_pass _ _ w.0, some_found (problem_of g.Q.Exact.value c.args.ground.now) _ _ _ w.1 c.each.invariant.2)
