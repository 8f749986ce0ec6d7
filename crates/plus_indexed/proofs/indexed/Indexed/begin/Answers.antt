use Rattle.std.proofs.Common.{ap}
use Rattle.plus_state.specs.View.{problem_of}
use Rattle.plus_indexed.specs.Indexed.{Kept}
use Rattle.plus_indexed.proofs.Beginning.{knows_begun}
use Rattle.plus_indexed.proofs.indexed.Indexed.begin.Goals as goal

pub returns-clause-knows : goal.returns-clause-knows
returns-clause-knows g c =
    knows_begun g.Q.Exact.fits (problem_of g.Q.Exact.value c.args.ground.now) c.args.happenings _
    c.in_ok-timeline.ensures (rw c.new-3.ensures (rw c.in_ok-shared.ensures.ok c.in_ok-index.ensures)) (ap (λ (k : Kept). k.events) c.new-3.ensures) (ap (λ (k : Kept). k.processes) c.new-3.ensures)
