use Rattle.std.proofs.Common.{◌≡◌, map, length, rules}
use Rattle.plus_state.specs.View.{problem_of, action_of}
use Rattle.plus_cut.proofs.LosingLemmas.{found}
use Rattle.plus_cut.proofs.losing.Lost.find.Goals as goal

pub returns : goal.returns
returns g c =
    let v = g.Q.Exact.value in
    let P = problem_of v c.args.ground.now in
    let actions = map (action_of v) c.args.actions.now in
    let len : c.len.result ≡ length c.args.ground.now.atoms.items = search rules in
    found P actions c.mark_added.new.marks c.new-atoms.result.items _ c.args.ground.now.fits (rw (c.in_ok-marks.ensures, len) at c.mark_added.ensures) c.new-atoms.ensures.items c.in_ok-keep_goal.ensures
