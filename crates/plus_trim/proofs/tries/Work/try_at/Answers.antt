use Rattle.std.proofs.Common.{List, ℕ, map, subst}
use Rattle.std.specs.Prelude.{IfOk}
use Rattle.plus_state.specs.View.{problem_of}
use Rattle.plus_planner.proofs.WorldLemmas.{always}
use Rattle.plus_trim.specs.Acts.{act_of, chosen}
use Rattle.plus_trim.specs.Work.{TriedIs}
use Rattle.plus_trim.proofs.tries.Work.try_at.Goals as goal

pub returns-clause-work : goal.returns-clause-work
returns-clause-work g c = always c.try_without.result c.in_ok-mark.ensures.work

pub returns-clause-places : goal.returns-clause-places
returns-clause-places g c = always c.try_without.result c.in_ok-mark.ensures.places

pub returns-clause-marks : goal.returns-clause-marks
returns-clause-marks g c = always c.try_without.result c.in_ok-mark.ensures.marks

pub returns-clause-tried : goal.returns-clause-tried
returns-clause-tried g c =
    let v = g.Q.Exact.value in
    subst (λ (ps : List ℕ). IfOk c.try_without.result (TriedIs g.Q.Exact.fits (problem_of v c.args.ground.now) c.args.bounds.now.happenings (chosen (map (act_of v) c.args.acts.now) ps) (v c.args.bounds.now.end) c.args.index))
    c.in_ok-mark.ensures.places c.try_without.ensures.tried
