use Rattle.std.proofs.Common.{sym, subst}
use Rattle.plus_state.specs.View.{problem_of}
use Rattle.plus_indexed.specs.Indexed.{Kept, IndexedView}
use Rattle.plus_indexed.specs.Knows.{Knows}
use Rattle.plus_indexed.proofs.Knowing.{advance_knows}
use Rattle.plus_indexed.proofs.stepper.Stepper.leave.Goals as goal

pub returns-in-Ok-clause-knows : goal.returns-in-Ok-clause-knows
returns-in-Ok-clause-knows g c =
    let fits = g.Q.Exact.fits in
    let P = problem_of g.Q.Exact.value c.args.ground.now in
    let told = c.in-Ok.ensures.told in
    let back = sym c.self.view_is in
    let old : IndexedView = record { line = c.args.timeline.now; kept = c.args.self.now } in
    let mid : IndexedView = record { line = c.rest.new.timeline; kept = c.self.inside.kept } in
    subst (λ (x : Kept). Knows fits P (record { line = c.rest.new.timeline; kept = x })) (sym c.wake.ensures.kept)
    (advance_knows fits P g.Q.Exact.value (g.Q.Exact.value c.args.until) old mid (c.requires.knows) (rw back at c.in-Ok.ensures.kept) (rw back at c.in-Ok.ensures.processes) c.in-Ok.next c.wake.new.self.events c.wake.new.self.processes told c.wake.ensures.events c.wake.ensures.processes)
