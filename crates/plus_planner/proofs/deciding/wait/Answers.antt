use Rattle.std.proofs.Common.{ap, sym, subst, ◌≡◌, ◌∙◌}
use Rattle.std.specs.Prelude.{Some, None}
use Rattle.plus_fraction.specs.Fraction.{Fraction, ◌+ℚ◌}
use Rattle.plus_state.specs.View.{problem_of}
use Rattle.plus_timeline.specs.Timeline.{TimelineView}
use Rattle.plus_stretch.specs.Tests.{AllPass}
use Rattle.plus_timeline.specs.Asked.{round_tests}
use Rattle.plus_timeline.specs.Finish.{IsPaused}
use Rattle.plus_timeline.specs.Forked.{forked}
use Rattle.plus_timeline.specs.declared.next.Next.TheVariants.{There}
use Rattle.plus_planner.specs.Standing.{CanReach}
use Rattle.plus_planner.specs.Places.{now_in, base_in}
use Rattle.plus_planner.proofs.DecidingLemmas.{wait_told}
use Rattle.plus_planner.proofs.ForkLemmas.{reach_forked, waits_forked}
use Rattle.plus_planner.proofs.Resting.{fork_paused}
use Rattle.plus_planner.specs.Kin.{IsKin}
use Rattle.plus_planner.proofs.KinLemmas.{kin_base, kin_forked, kin_pop, kin_popped}
use Rattle.plus_planner.proofs.deciding.wait.Goals as goal

pub fork-requires-clause-there : goal.fork-requires-clause-there
fork-requires-clause-there g c = subst (λ (t : TimelineView). t.answer ≡ Some There) (sym c.base.ensures) c.requires.paused.there

pub go_on-requires-clause-reach : goal.go_on-requires-clause-reach
go_on-requires-clause-reach g c =
    let P = problem_of g.Q.Exact.value c.args.ground.now in
    let start = c.args.place.now.start in
    let taken = c.args.place.now.taken.items in
    let q = g.Q.Exact.value c.args.interval in
    let base = base_in c.args.decision start taken in
    let moment : base.now.running ≡ None = subst (λ (t : TimelineView). t.now.running ≡ None) c.base.ensures c.in_ok-timeline-in-Ok.ensures.moment in
    subst (CanReach P (g.Q.Exact.value c.in-Ok.time)) (sym (c.in_ok-timeline-in-Ok.ensures.forked ∙ ap forked c.base.ensures))
    (subst (λ u. CanReach P u (forked base)) (sym (c.in-Ok.ensures ∙ ap (λ (x : Fraction). x +ℚ q) (c.time.ensures ∙ ap (λ v. v.now.time) c.now.ensures)))
    (reach_forked P ((now_in start taken).now.time +ℚ q) base moment c.requires.reach))

pub go_on-requires-clause-paused : goal.go_on-requires-clause-paused
go_on-requires-clause-paused g c =
    let base = base_in c.args.decision c.args.place.now.start c.args.place.now.taken.items in
    subst IsPaused (sym (c.in_ok-timeline-in-Ok.ensures.forked ∙ ap forked c.base.ensures)) (fork_paused base c.requires.paused)

pub go_on-requires-clause-moment : goal.go_on-requires-clause-moment
go_on-requires-clause-moment g c =
    ap (λ (t : TimelineView). t.now.running) c.in_ok-timeline-in-Ok.ensures.forked ∙ c.in_ok-timeline-in-Ok.ensures.moment

pub go_on-requires-clause-passed : goal.go_on-requires-clause-passed
go_on-requires-clause-passed g c =
    let P = problem_of g.Q.Exact.value c.args.ground.now in
    subst (λ (t : TimelineView). AllPass g.Q.Exact.fits (round_tests P t.now.fired t.now.state)) (sym (c.in_ok-timeline-in-Ok.ensures.forked ∙ ap forked c.base.ensures)) c.requires.passed

pub returns-in_ok-timeline-in-Ok-clause-ends : goal.returns-in_ok-timeline-in-Ok-clause-ends
returns-in_ok-timeline-in-Ok-clause-ends g c =
    let P = problem_of g.Q.Exact.value c.args.ground.now in
    let start = c.args.place.now.start in
    let taken = c.args.place.now.taken.items in
    let q = g.Q.Exact.value c.args.interval in
    let base = base_in c.args.decision start taken in
    waits_forked g.Q.Exact.fits P ((now_in start taken).now.time +ℚ q) c.args.decision base taken c.go_on.new.place.taken.items c.go_on.result
    (wait_told g.Q.Exact.fits P (g.Q.Exact.value c.in-Ok.time) ((now_in start taken).now.time +ℚ q) c.args.decision
    (forked base) c.in_ok-timeline-in-Ok.timeline taken c.go_on.new.place.taken.items c.go_on.result
    (c.in-Ok.ensures ∙ ap (λ (x : Fraction). x +ℚ q) (c.time.ensures ∙ ap (λ v. v.now.time) c.now.ensures))
    (g.met.Q.Exact.value_fits c.in-Ok.time)
    (c.in_ok-timeline-in-Ok.ensures.forked ∙ ap forked c.base.ensures)
    c.go_on.ensures.goes)

pub fork-requires-clause-can : goal.fork-requires-clause-can
fork-requires-clause-can g c =
    let P = problem_of g.Q.Exact.value c.args.ground.now in
    kin_popped P c.args.place.now.spares.items c.pop-spare.new.self.items c.pop-spare.result c.base.result.now c.pop-spare.ensures.items c.requires.kin.spares_are
    (subst (IsKin P) (sym c.base.ensures) (kin_base P c.args.decision c.args.place.now.start c.args.place.now.taken.items c.requires.kin.start_is c.requires.kin.taken_are))

pub go_on-requires-clause-kin : goal.go_on-requires-clause-kin
go_on-requires-clause-kin g c =
    let P = problem_of g.Q.Exact.value c.args.ground.now in
    let base = base_in c.args.decision c.args.place.now.start c.args.place.now.taken.items in
    subst (IsKin P) (sym (c.in_ok-timeline-in-Ok.ensures.forked ∙ ap forked c.base.ensures))
    (kin_forked P base (kin_base P c.args.decision c.args.place.now.start c.args.place.now.taken.items c.requires.kin.start_is c.requires.kin.taken_are))

pub go_on-requires-clause-all_kin : goal.go_on-requires-clause-all_kin
go_on-requires-clause-all_kin g c =
    kin_pop (problem_of g.Q.Exact.value c.args.ground.now) c.args.place.now.start c.args.place.now.taken.items c.args.place.now.tried.items
    c.args.place.now.spares.items c.pop-spare.new.self.items c.pop-spare.result c.pop-spare.ensures.items c.requires.kin
