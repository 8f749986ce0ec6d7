use Rattle.std.proofs.Common.{map, ap, arith, ◌≤◌, length}
use Rattle.std.proofs.lemmas.List.{drop_all}
use Rattle.plus_state.specs.Looked.{looked_numbers}
use Rattle.plus_state.specs.View.{problem_of}
use Rattle.plus_state.proofs.LookingLemmas.{condition_fits, looking_start, looking_inside, looking_err, looking_next, looking_stop, looking_end}
use Rattle.plus_state.proofs.walk.holding_in.Goals as goal

pub each-init : goal.each-init
each-init g c = looking_start _ _ _ _ _ (ap (map g.I.Conditional.number) c.clear.ensures.items) c.requires.known.members

pub condition-requires : goal.condition-requires
condition-requires g c = looking_inside _ _ _ _ _ _ _ (rw c.member-member.ensures at c.each.invariant)

pub holds-requires : goal.holds-requires
holds-requires g c =
    condition_fits _ _ c.args.state.now _ _ _ c.requires.state c.condition.ensures (g.met.I.Conditional.conditions_fit (problem_of g.Q.Exact.value c.args.ground.now) c.args.ground.now.fits)

pub returns-in-Err : goal.returns-in-Err
returns-in-Err g c =
    looking_stop _ _ _ _ _ c.requires.known (looking_err _ _ _ _ _ _ _ (rw c.member-member.ensures at c.each.invariant) _ c.condition.ensures _ c.in-Err.ensures)

pub each-preserved : goal.each-preserved
each-preserved g c =
    looking_next _ _ _ _ _ _ _ (rw c.member-member.ensures at c.each.invariant) _ c.condition.ensures _ _ c.in-Ok.ensures.0 c.in-Ok.ensures.1 c.in-Ok-append_if.ensures

pub returns : goal.returns
returns g c =
    let looked = looked_numbers g.I.Conditional.number c.args.looked in
    let h : length looked ≤ c.each.place = omega (arith, c.count-place-end.ensures) in
    looking_end _ _ _ _ _ c.requires.known (rw (drop_all c.each.place looked h) at c.each.invariant)
