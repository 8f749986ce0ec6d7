use Rattle.std.proofs.Common.{length, map, sym}
use Rattle.std.proofs.lemmas.List.{length-map}
use Rattle.plus_state.specs.View.{problem_of}
use Rattle.plus_trim.specs.Acts.{act_of}
use Rattle.plus_trim.proofs.Round.{marked_first}
use Rattle.plus_trim.proofs.trimming.first_work.Goals as goal

pub returns-clause-marked : goal.returns-clause-marked
returns-clause-marked g c =
    let v = g.Q.Exact.value in
    marked_first g.Q.Exact.fits (problem_of v c.args.ground.now) c.args.bounds.now.happenings (map (act_of v) c.args.acts.now) (v c.args.bounds.now.end)
    c.in_ok-places.places.items c.in_ok-marks.marks.items (length c.args.acts.now) (sym (length-map c.args.acts.now (act_of v))) c.requires.few c.in_ok-places.ensures c.in_ok-marks.ensures c.requires.ahead
