use Rattle.std.proofs.Common.{map, ap, arith, ◌≤◌, length}
use Rattle.std.proofs.lemmas.List.{drop_all}
use Rattle.plus_state.specs.Looked.{looked_numbers}
use Rattle.plus_state.specs.View.{problem_of}
use Rattle.plus_stretch.proofs.LookedLemmas.{sifting_start, sifting_inside, sifting_next, sifting_end, have_at}
use Rattle.plus_stretch.proofs.looked.not_simple.Goals as goal

pub each-init : goal.each-init
each-init g c = sifting_start _ _ _ _ (ap (map g.I.Conditional.number) c.clear.ensures.items) c.requires.members

pub condition-requires : goal.condition-requires
condition-requires g c =
    let e = c.member-member.ensures in
    sifting_inside _ _ _ _ _ _ (rw e at c.each.invariant)

pub is_simple-simple-requires : goal.is_simple-simple-requires
is_simple-simple-requires g c =
    have_at _ _ _ _ _ _ c.condition.ensures (g.met.I.Conditional.conditions_fit (problem_of g.Q.Exact.value c.args.ground.now) c.args.ground.now.fits) c.requires.rates

pub each-preserved : goal.each-preserved
each-preserved g c =
    let e = c.member-member.ensures in
    sifting_next _ _ _ _ _ _ (rw e at c.each.invariant) _ _ _ c.condition.ensures c.is_simple-simple.ensures c.in_ok-append_unless.ensures

pub returns : goal.returns
returns g c =
    let looked = looked_numbers g.I.Conditional.number c.args.looked in
    let h : length looked ≤ c.each.place = omega (arith, c.count-place-end.ensures) in
    sifting_end _ _ _ _ (rw (drop_all c.each.place looked h) at c.each.invariant)
