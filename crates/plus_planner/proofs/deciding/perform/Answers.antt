use Rattle.std.proofs.Common.{◌≡◌, refl, sym, subst, ap, ◌∙◌}
use Rattle.std.specs.Prelude.{Some, None}
use Rattle.plus_state.specs.View.{problem_of, action_of}
use Rattle.plus_state.specs.Fits.{ActionFits}
use Rattle.plus_timeline.specs.Timeline.{TimelineView}
use Rattle.plus_timeline.specs.Forked.{forked}
use Rattle.plus_reads.specs.Indexing.{Indexes}
use Rattle.plus_indexed.specs.Indexed.{Kept}
use Rattle.plus_indexed.specs.Knows.{Knows}
use Rattle.plus_indexed.proofs.Beginning.{knows_rest}
use Rattle.plus_timeline.specs.Finish.{IsPaused}
use Rattle.plus_timeline.specs.declared.next.Next.TheVariants.{There}
use Rattle.plus_planner.specs.Standing.{CanGoOn}
use Rattle.plus_planner.specs.Places.{now_in}
use Rattle.plus_planner.proofs.DecidingLemmas.{reach_done, act_told, refusal_told, act_goes}
use Rattle.plus_planner.proofs.ForkLemmas.{can_forked, acts_forked}
use Rattle.plus_planner.specs.Kin.{IsKin}
use Rattle.plus_planner.proofs.KinLemmas.{kin_now, kin_forked, kin_pop, kin_popped, kin_act, kin_ended, kin_spares}
use Rattle.plus_planner.proofs.WorldLemmas.{always, then}
use Rattle.plus_planner.proofs.deciding.perform.Goals as goal

pub fork-requires-clause-there : goal.fork-requires-clause-there
fork-requires-clause-there g c = subst (λ (t : TimelineView). t.answer ≡ Some There) (sym c.now.ensures) c.requires.can.paused.there

pub fork-requires-clause-can : goal.fork-requires-clause-can
fork-requires-clause-can g c =
    let P = problem_of g.Q.Exact.value c.args.ground.now in
    let t = now_in c.args.place.now.start c.args.place.now.taken.items in
    kin_popped P c.args.place.now.spares.items c.pop-spare.new.self.items c.pop-spare.result c.now.result.now c.pop-spare.ensures.items c.requires.kin.spares_are
    (subst (IsKin P) (sym c.now.ensures) (kin_now P c.args.place.now.start c.args.place.now.taken.items c.requires.kin.start_is c.requires.kin.taken_are))

pub act-requires-clause-knows : goal.act-requires-clause-knows
act-requires-clause-knows g c going =
    let P = problem_of g.Q.Exact.value c.args.ground.now in
    let t = now_in c.args.place.now.start c.args.place.now.taken.items in
    let moment : t.now.running ≡ None = subst (λ (x : TimelineView). x.now.running ≡ None) c.now.ensures c.in_ok-timeline.ensures.moment in
    subst (λ (x : TimelineView). Knows g.Q.Exact.fits P (record { line = x; kept = c.stay.new.self })) (sym (c.in_ok-timeline.ensures.forked ∙ ap forked c.now.ensures))
    (knows_rest g.Q.Exact.fits P (record { line = forked t; kept = c.stay.new.self }) (can_forked P t moment c.requires.can.goes).knows
    (subst (λ (k : Kept). Indexes P k.index) (sym c.stay.ensures) c.requires.index) (ap (λ (k : Kept). k.events) c.stay.ensures) (ap (λ (k : Kept). k.processes) c.stay.ensures)
    moment (c.requires.can.goes.knows.still c.requires.can.paused.there c.requires.can.paused.fresh) c.requires.passed)

pub act-requires-clause-paused : goal.act-requires-clause-paused
act-requires-clause-paused g c going =
    subst IsPaused (sym (c.in_ok-timeline.ensures.forked ∙ ap forked c.now.ensures)) record { there = c.requires.can.paused.there; fresh = c.requires.can.paused.fresh }

pub act-requires-clause-action : goal.act-requires-clause-action
act-requires-clause-action g c going =
    subst (λ (t : TimelineView). ActionFits t.atoms t.fluents (action_of g.Q.Exact.value c.args.action.now)) (sym (c.in_ok-timeline.ensures.forked ∙ ap forked c.now.ensures)) c.requires.can.fit

pub go-requires-clause-reach : goal.go-requires-clause-reach
go-requires-clause-reach g c =
    let P = problem_of g.Q.Exact.value c.args.ground.now in
    let t = now_in c.args.place.now.start c.args.place.now.taken.items in
    let moment : t.now.running ≡ None = subst (λ (x : TimelineView). x.now.running ≡ None) c.now.ensures c.in_ok-timeline.ensures.moment in
    reach_done P (action_of g.Q.Exact.value c.args.action.now) c.in_ok-timeline.timeline c.act.new.self (g.Q.Exact.value c.time-time.result)
    (subst (CanGoOn P) (sym (c.in_ok-timeline.ensures.forked ∙ ap forked c.now.ensures)) (can_forked P t moment c.requires.can.goes)) c.in-Ok.ensures.told.does (c.time-time.ensures ∙ ap (λ v. v.now.time) c.get.ensures)

pub refused-requires : goal.refused-requires
refused-requires g c =
    let P = problem_of g.Q.Exact.value c.args.ground.now in
    let t = now_in c.args.place.now.start c.args.place.now.taken.items in
    let moment : t.now.running ≡ None = subst (λ (x : TimelineView). x.now.running ≡ None) c.now.ensures c.in_ok-timeline.ensures.moment in
    act_goes g.Q.Exact.value g.Q.Exact.fits P (action_of g.Q.Exact.value c.args.action.now) 1 c.in_ok-timeline.timeline c.act.new.self c.in-Err.stop
    (subst (CanGoOn P) (sym (c.in_ok-timeline.ensures.forked ∙ ap forked c.now.ensures)) (can_forked P t moment c.requires.can.goes)).going c.in-Err.ensures.told

pub returns-in-Ok-clause-ends : goal.returns-in-Ok-clause-ends
returns-in-Ok-clause-ends g c =
    let P = problem_of g.Q.Exact.value c.args.ground.now in
    let action = action_of g.Q.Exact.value c.args.action.now in
    let t = now_in c.args.place.now.start c.args.place.now.taken.items in
    let taken = c.args.place.now.taken.items in
    acts_forked g.Q.Exact.fits P action c.args.decision t taken c.go.new.place.taken.items c.go.result
    (act_told g.Q.Exact.fits P action (g.Q.Exact.value c.time-time.result) c.args.decision
    (forked t) c.in_ok-timeline.timeline c.act.new.self taken c.go.new.place.taken.items c.go.result
    (c.in_ok-timeline.ensures.forked ∙ ap forked c.now.ensures) (c.time-time.ensures ∙ ap (λ v. v.now.time) c.get.ensures) c.in-Ok.ensures.told.pass c.in-Ok.ensures.told.does c.go.ensures.goes)

pub returns-in_ok-push-in-Err-clause-ends : goal.returns-in_ok-push-in-Err-clause-ends
returns-in_ok-push-in-Err-clause-ends g c =
    let P = problem_of g.Q.Exact.value c.args.ground.now in
    let action = action_of g.Q.Exact.value c.args.action.now in
    let t = now_in c.args.place.now.start c.args.place.now.taken.items in
    let taken = c.args.place.now.taken.items in
    acts_forked g.Q.Exact.fits P action c.args.decision t taken taken c.refused.result
    (refusal_told g.Q.Exact.value g.Q.Exact.fits P action c.args.decision 1
    (forked t) c.in_ok-timeline.timeline c.act.new.self taken taken c.in-Err.stop c.refused.result
    (c.in_ok-timeline.ensures.forked ∙ ap forked c.now.ensures) refl c.in-Err.ensures.told c.refused.ensures)

pub go-requires-clause-kin : goal.go-requires-clause-kin
go-requires-clause-kin g c =
    let P = problem_of g.Q.Exact.value c.args.ground.now in
    let t = now_in c.args.place.now.start c.args.place.now.taken.items in
    kin_act P (action_of g.Q.Exact.value c.args.action.now) c.in_ok-timeline.timeline c.act.new.self c.in-Ok.ensures.told.does
    (subst (IsKin P) (sym (c.in_ok-timeline.ensures.forked ∙ ap forked c.now.ensures))
    (kin_forked P t (kin_now P c.args.place.now.start c.args.place.now.taken.items c.requires.kin.start_is c.requires.kin.taken_are)))

pub go-requires-clause-all_kin : goal.go-requires-clause-all_kin
go-requires-clause-all_kin g c =
    kin_pop (problem_of g.Q.Exact.value c.args.ground.now) c.args.place.now.start c.args.place.now.taken.items c.args.place.now.tried.items
    c.args.place.now.spares.items c.pop-spare.new.self.items c.pop-spare.result c.pop-spare.ensures.items c.requires.kin

pub returns-in_ok-push-in-Err-clause-kin : goal.returns-in_ok-push-in-Err-clause-kin
returns-in_ok-push-in-Err-clause-kin g c =
    let P = problem_of g.Q.Exact.value c.args.ground.now in
    let t = now_in c.args.place.now.start c.args.place.now.taken.items in
    always c.refused.result
    (kin_spares P c.act.new.self c.args.place.now.start c.args.place.now.taken.items c.args.place.now.tried.items c.pop-spare.new.self.items c.push.new.self.items
    (kin_ended P c.in_ok-timeline.timeline c.act.new.self c.in-Err.ensures.refused
    (subst (IsKin P) (sym (c.in_ok-timeline.ensures.forked ∙ ap forked c.now.ensures))
    (kin_forked P t (kin_now P c.args.place.now.start c.args.place.now.taken.items c.requires.kin.start_is c.requires.kin.taken_are))))
    c.in_ok-push-in-Err.ensures.items
    (kin_pop P c.args.place.now.start c.args.place.now.taken.items c.args.place.now.tried.items
    c.args.place.now.spares.items c.pop-spare.new.self.items c.pop-spare.result c.pop-spare.ensures.items c.requires.kin))

pub go-requires-clause-knows : goal.go-requires-clause-knows
go-requires-clause-knows g c = c.in-Ok.ensures.knows

pub returns-in-Ok-clause-index : goal.returns-in-Ok-clause-index
returns-in-Ok-clause-index g c = then c.go.result (λ e. e ∙ c.act.ensures.index ∙ ap (λ (k : Kept). k.index) c.stay.ensures) c.go.ensures.index

pub returns-in_ok-push-in-Err-clause-index : goal.returns-in_ok-push-in-Err-clause-index
returns-in_ok-push-in-Err-clause-index g c = always c.refused.result (c.act.ensures.index ∙ ap (λ (k : Kept). k.index) c.stay.ensures)
