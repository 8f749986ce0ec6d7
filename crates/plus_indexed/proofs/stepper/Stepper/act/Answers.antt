use Rattle.std.proofs.Common.{refl, sym, subst}
use Rattle.plus_state.specs.View.{problem_of, action_of}
use Rattle.plus_indexed.specs.Indexed.{Kept, IndexedView}
use Rattle.plus_indexed.specs.Knows.{Knows}
use Rattle.plus_indexed.proofs.Knowing.{act_knows}
use Rattle.plus_indexed.proofs.stepper.Stepper.act.Goals as goal

pub returns-in-Ok-clause-knows : goal.returns-in-Ok-clause-knows
returns-in-Ok-clause-knows g c =
    let fits = g.Q.Exact.fits in
    let P = problem_of g.Q.Exact.value c.args.ground.now in
    let told = c.in-Ok.ensures.told in
    let old : IndexedView = record { line = c.args.timeline.now; kept = c.self.inside.kept } in
    let mid : IndexedView = record { line = c.act.new.self; kept = old.kept } in
    let k : Knows fits P old = subst (λ (x : Kept). Knows fits P (record { line = c.args.timeline.now; kept = x })) (sym c.self.view_is) (c.requires.knows told.going) in
    subst (λ (k : Kept). Knows fits P (record { line = c.act.new.self; kept = k })) (sym c.wake_by_step.ensures.kept)
    (act_knows fits P old mid k refl (action_of g.Q.Exact.value c.args.action.now) c.wake_by_step.new.self.events c.wake_by_step.new.self.processes told.does c.wake_by_step.ensures.events c.wake_by_step.ensures.processes)
