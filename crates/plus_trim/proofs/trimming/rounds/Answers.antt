use Rattle.std.proofs.Common.{map, ap, subst, arith}
use Rattle.plus_state.specs.View.{problem_of}
use Rattle.plus_trim.specs.Acts.{act_of}
use Rattle.plus_trim.specs.Work.{RoundIs}
use Rattle.plus_trim.proofs.Round.{last_kept}
use Rattle.plus_trim.proofs.trimming.rounds.Goals as goal

pub anew-preserved : goal.anew-preserved
anew-preserved g c =
    let v = g.Q.Exact.value in
    (subst (RoundIs g.Q.Exact.fits (problem_of v c.args.ground.now) c.args.bounds.now.happenings (map (act_of v) c.args.acts.now) (v c.args.bounds.now.end)
    c.anew.work.places.items c.round.new.self.places.items c.round.new.self.marks.items) c.in-Ok-None.field-0-is c.in-Ok-None.ensures.round).work

pub anew-smaller : goal.anew-smaller
anew-smaller g c =
    let v = g.Q.Exact.value in
    let f = (subst (RoundIs g.Q.Exact.fits (problem_of v c.args.ground.now) c.args.bounds.now.happenings (map (act_of v) c.args.acts.now) (v c.args.bounds.now.end)
    c.anew.work.places.items c.round.new.self.places.items c.round.new.self.marks.items) c.in-Ok-None.field-0-is c.in-Ok-None.ensures.round).fewer in
    omega (arith, f)

pub returns-in-Ok-Some-clause-answers : goal.returns-in-Ok-Some-clause-answers
returns-in-Ok-Some-clause-answers g c =
    let v = g.Q.Exact.value in
    let fits = g.Q.Exact.fits in
    let P = problem_of v c.args.ground.now in
    let most = c.args.bounds.now.happenings in
    let xs = map (act_of v) c.args.acts.now in
    let last = v c.args.bounds.now.end in
    last_kept fits P most xs last c.round.new.self.places.items c.replace-places.result.items c.round.new.self.marks.items c.in-Ok-Some.beyond
    (subst (RoundIs fits P most xs last c.anew.work.places.items c.round.new.self.places.items c.round.new.self.marks.items) c.in-Ok-Some.field-0-is c.in-Ok-Some.ensures.round)
    (ap (λ w. w.items) c.replace-places.ensures.value)
