use Rattle.std.proofs.Common.{ap, ◌∙◌}
use Rattle.plus_state.specs.View.{problem_of}
use Rattle.plus_indexed.specs.Indexed.{Kept}
use Rattle.plus_planner.proofs.KinLemmas.{kin_adds}
use Rattle.plus_planner.proofs.deciding.go_on.Goals as goal

pub returns-clause-goes : goal.returns-clause-goes
returns-clause-goes g c = record { new = c.carry_on.new.self; carried = c.in_ok-fate.ensures.carried; after = c.in_ok-put.ensures.after }

pub returns-clause-kin : goal.returns-clause-kin
returns-clause-kin g c =
    kin_adds (problem_of g.Q.Exact.value c.args.ground.now) c.carry_on.new.self c.args.place.now.start c.put.new.place.start c.args.place.now.taken.items c.put.new.place.taken.items
    c.args.place.now.tried.items c.put.new.place.tried.items c.args.place.now.spares.items c.put.new.place.spares.items
    c.in_ok-fate.ensures.kin c.put.ensures.start (ap (λ v. v.items) c.put.ensures.tried) c.in_ok-put.ensures.kin c.requires.all_kin

pub returns-clause-index : goal.returns-clause-index
returns-clause-index g c = ap (λ (k : Kept). k.index) c.put.ensures.stepper ∙ c.in_ok-fate.ensures.index
