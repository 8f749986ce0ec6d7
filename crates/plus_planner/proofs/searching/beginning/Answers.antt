use Rattle.std.proofs.Common.{sym, subst}
use Rattle.std.specs.Prelude.{pos}
use Rattle.plus_fraction.specs.Fraction.{whole}
use Rattle.plus_state.specs.View.{problem_of}
use Rattle.plus_reads.specs.Indexing.{Indexes}
use Rattle.plus_timeline.specs.Timeline.{TimelineView, begun}
use Rattle.plus_indexed.specs.Indexed.{Kept}
use Rattle.plus_planner.specs.Kin.{IsKin}
use Rattle.plus_planner.specs.Standing.{Carried}
use Rattle.plus_planner.proofs.searching.beginning.Goals as goal

pub returns-in-Ok-clause-carried : goal.returns-in-Ok-clause-carried
returns-in-Ok-clause-carried g c =
    let P = problem_of g.Q.Exact.value c.args.ground.now in
    subst (λ (t : TimelineView). Carried g.Q.Exact.fits P (whole (pos 0)) (begun P 10000) t c.in-Ok.fate) (sym c.begin.ensures.start) c.in-Ok.ensures.carried

pub returns-in-Ok-clause-kin : goal.returns-in-Ok-clause-kin
returns-in-Ok-clause-kin g c = subst (IsKin (problem_of g.Q.Exact.value c.args.ground.now)) (sym c.begin.ensures.start) c.in-Ok.ensures.kin

pub returns-in-Ok-clause-index : goal.returns-in-Ok-clause-index
returns-in-Ok-clause-index g c =
    let P = problem_of g.Q.Exact.value c.args.ground.now in
    subst (λ (k : Kept). Indexes P k.index) (sym c.begin.ensures.stepper)
    (subst (Indexes P) (sym c.in-Ok.ensures.index) c.in_ok-stepper.ensures.index)
