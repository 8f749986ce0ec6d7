use Rattle.std.proofs.Common.{ap, refl}
use Rattle.plus_state.specs.ChangesView.{fluent_changes}
use Rattle.plus_state.specs.View.{problem_of}
use Rattle.plus_timeline.proofs.LiteralLemmas.{are_literals}
use Rattle.plus_timeline.proofs.literals.literal_changes.Goals as goal

pub returns : goal.returns
returns g c =
    are_literals g.Q.Exact.value (problem_of g.Q.Exact.value c.args.ground.now) _ c.args.ground.now.timed.items _ _ _ _ refl c.args.ground.now.fits.timed
    (rw c.deref.ensures.value at c.run_of-first.ensures.first) (rw c.deref.ensures.value at c.run_of-first.ensures.after)
    refl (ap (fluent_changes g.Q.Exact.value) c.new.ensures.items)
    c.in_ok-atoms.ensures.rises (rw c.deref-2.ensures.value at c.in_ok-atoms.ensures.inside) (rw c.deref-2.ensures.value at c.in_ok-atoms.ensures.same)
