use Rattle.std.proofs.Common.{◌≡◌, ◌∙◌, ap, sym, subst}
use Rattle.plus_state.specs.View.{problem_of}
use Rattle.plus_reads.specs.Indexing.{Indexes}
use Rattle.plus_timeline.specs.Timeline.{TimelineView}
use Rattle.plus_indexed.specs.Indexed.{Kept}
use Rattle.plus_indexed.specs.Knows.{Knows}
use Rattle.plus_indexed.proofs.Beginning.{knows_nothing}
use Rattle.plus_planner.specs.Kin.{IsLightened}
use Rattle.plus_planner.specs.Standing.{Carried}
use Rattle.plus_planner.proofs.KinLemmas.{kin_light, carried_light}
use Rattle.plus_planner.proofs.held.Held.carry_on.Goals as goal

pub returns-clause-carried : goal.returns-clause-carried
returns-clause-carried g c =
    let fits = g.Q.Exact.fits in
    let P = problem_of g.Q.Exact.value c.args.ground.now in
    let u = g.Q.Exact.value c.args.until in
    let first : c.deref_mut.result.now ≡ c.args.self.now = cc in
    subst (λ t. Carried fits P u t c.lighten.new.timeline c.in_ok-fate.fate) first
    (carried_light fits P u c.deref_mut.result.now c.carry_on.new.timeline c.lighten.new.timeline c.in_ok-fate.fate
    (subst (λ t. IsLightened t c.lighten.new.timeline) c.deref_mut-2.ensures.value c.lighten.ensures) c.in_ok-fate.ensures.carried)

pub returns-clause-kin : goal.returns-clause-kin
returns-clause-kin g c =
    kin_light (problem_of g.Q.Exact.value c.args.ground.now) c.carry_on.new.timeline c.lighten.new.timeline
    (subst (λ t. IsLightened t c.lighten.new.timeline) c.deref_mut-2.ensures.value c.lighten.ensures) c.in_ok-fate.ensures.kin

pub carry_on-requires-clause-knows : goal.carry_on-requires-clause-knows
carry_on-requires-clause-knows g c =
    let P = problem_of g.Q.Exact.value c.args.ground.now in
    let first : c.deref_mut.result.now ≡ c.args.self.now = cc in
    subst (λ (t : TimelineView). Knows g.Q.Exact.fits P (record { line = t; kept = c.forget.new.self })) (sym first)
    (knows_nothing g.Q.Exact.fits P (record { line = c.args.self.now; kept = c.forget.new.self }) c.requires.reach.goes.knows
    (subst (λ (k : Kept). Indexes P k.index) (sym c.forget.ensures) c.requires.index) (ap (λ (k : Kept). k.events) c.forget.ensures) (ap (λ (k : Kept). k.processes) c.forget.ensures) c.requires.moment)

pub returns-clause-index : goal.returns-clause-index
returns-clause-index g c = c.in_ok-fate.ensures.index ∙ ap (λ (k : Kept). k.index) c.forget.ensures
