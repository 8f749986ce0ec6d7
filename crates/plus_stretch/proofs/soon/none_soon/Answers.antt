use Rattle.std.proofs.Common.{refl, sym}
use Rattle.plus_state.specs.View.{problem_of}
use Rattle.plus_stretch.proofs.SoonLemmas.{soon_fails, soon_breaks, soon_passes}
use Rattle.plus_stretch.proofs.soon.none_soon.Goals as goal

pub returns-in-Err : goal.returns-in-Err
returns-in-Err g c = soon_fails _ _ (problem_of g.Q.Exact.value c.args.ground.now) _ _ _ c.in-Err.ensures

pub returns-in-Ok-Some : goal.returns-in-Ok-Some
returns-in-Ok-Some g c =
    let h = rw c.in-Ok-Some.field-0-is at c.in-Ok-Some.ensures in
    (soon_breaks _ _ (problem_of g.Q.Exact.value c.args.ground.now) _ _ _ h.0 h.1, record { time_is = refl; first = h.2 })

pub returns-in-Ok-None : goal.returns-in-Ok-None
returns-in-Ok-None g c =
    let h = rw c.in-Ok-None.field-0-is at c.in-Ok-None.ensures in
    (soon_passes _ _ (problem_of g.Q.Exact.value c.args.ground.now) _ _ h.0 h.1, record { later = sym h.1; none = h.2 })
