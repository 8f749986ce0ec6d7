use Rattle.std.proofs.Common.{map, ap, length, arith}
use Rattle.std.proofs.lemmas.List.{length_push}
use Rattle.plus_state.specs.View.{problem_of}
use Rattle.plus_trim.specs.Acts.{act_of}
use Rattle.plus_trim.proofs.Marking.{work_more}
use Rattle.plus_trim.proofs.tries.Work.mark.Goals as goal

pub returns-clause-work : goal.returns-clause-work
returns-clause-work g c =
    let v = g.Q.Exact.value in
    work_more g.Q.Exact.fits (problem_of v c.args.ground.now) c.args.bounds.now.happenings (map (act_of v) c.args.acts.now) (v c.args.bounds.now.end)
    c.args.self.now.places.items c.args.self.now.marks.items c.push.new.self.items c.in_ok-line.line c.requires.work c.in_ok-push.ensures.items c.in_ok-line.ensures.mark

pub returns-clause-marks : goal.returns-clause-marks
returns-clause-marks g c =
    let n = ap length c.in_ok-push.ensures.items in
    let l = length_push c.args.self.now.marks.items c.in_ok-line.line in
    omega (arith, c.requires.marks)
