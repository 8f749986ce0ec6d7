use Rattle.std.proofs.Common.{◌≡◌, map, length, rules}
use Rattle.plus_state.specs.View.{problem_of, action_of}
use Rattle.plus_possible.proofs.MayLemmas.{kept_are_possible}
use Rattle.plus_possible.proofs.narrowing.narrow.Goals as goal

pub returns-clause-kept : goal.returns-clause-kept
returns-clause-kept g c =
    let v = g.Q.Exact.value in
    let P = problem_of v c.args.ground.now in
    let actions = map (action_of v) c.args.actions.now.items in
    let len : c.len.result ≡ length c.args.ground.now.atoms.items = search rules in
    kept_are_possible P actions _ c.mark_added.new.marks c.requires (rw (c.in_ok-marks.ensures, len, c.deref.ensures.value) at c.mark_added.ensures) c.keep_possible.ensures
