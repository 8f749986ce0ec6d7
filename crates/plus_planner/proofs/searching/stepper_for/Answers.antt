use Rattle.std.proofs.Common.{ap}
use Rattle.plus_indexed.specs.Indexed.{Kept}
use Rattle.plus_planner.proofs.searching.stepper_for.Goals as goal

pub returns-clause-index : goal.returns-clause-index
returns-clause-index g c = rw c.new-3.ensures (rw c.in_ok-shared.ensures.ok c.in_ok-index.ensures)

pub returns-clause-events : goal.returns-clause-events
returns-clause-events g c = ap (λ (k : Kept). k.events) c.new-3.ensures

pub returns-clause-processes : goal.returns-clause-processes
returns-clause-processes g c = ap (λ (k : Kept). k.processes) c.new-3.ensures
