use Rattle.std.proofs.Common.{◌<◌, length, get_or, arith}
use Rattle.std.proofs.lemmas.Result.{err_from_is_err_and}
use Rattle.plus_state.specs.View.{problem_of}
use Rattle.plus_settle.proofs.MembersLemmas.{next_number, no_number, below_all, all_fit, process_fits, rates_here}
use Rattle.plus_settle.proofs.RatesLemmas.{summing_start, summing_inside, summing_next, summing_stop, summing_end}
use Rattle.plus_settle.proofs.net.net_rates.Goals as goal

pub each-init : goal.each-init
each-init g c =
    summing_start _ (problem_of g.Q.Exact.value c.args.ground.now) _ _ _ _ c.in_ok-with_places.ensures c.fluents.ensures (below_all g.Q.Exact.value c.args.ground.now _ c.requires.members.inside)

pub index-requires : goal.index-requires
index-requires g c =
    let e = next_number c.args.members.now c.each.member-index (record { 0 = 0 }) c.each-test.true in
    let h : (get_or c.args.members.now c.each.member-index (record { 0 = 0 })).0 < length c.args.ground.now.processes.items = summing_inside g.Q.Exact.value _ c.args.ground.now _ _ _ _ _ (rw e at c.each.invariant) in
    omega (arith, h, c.args.ground.now.processes.ok.0)

pub add_all-requires-clause-fits : goal.add_all-requires-clause-fits
add_all-requires-clause-fits g c =
    let e = next_number c.args.members.now c.each.member-index (record { 0 = 0 }) c.each-test.true in
    let h : (get_or c.args.members.now c.each.member-index (record { 0 = 0 })).0 < length c.args.ground.now.processes.items = summing_inside g.Q.Exact.value _ c.args.ground.now _ _ _ _ _ (rw e at c.each.invariant) in
    rw c.deref.ensures.value (process_fits g.Q.Exact.value _ _ c.args.ground.now.processes.items _ c.index.result.now h c.index.ensures (all_fit _ _ _ _ c.requires.state c.args.ground.now.fits.processes)).rates

pub returns-in-Err-clause-told : goal.returns-in-Err-clause-told
returns-in-Err-clause-told g c =
    let e = next_number c.args.members.now c.each.member-index (record { 0 = 0 }) c.each-test.true in
    let h : (get_or c.args.members.now c.each.member-index (record { 0 = 0 })).0 < length c.args.ground.now.processes.items = summing_inside g.Q.Exact.value _ c.args.ground.now _ _ _ _ _ (rw e at c.each.invariant) in
    let k = rates_here g.Q.Exact.value c.args.ground.now.processes.items _ c.index.result.now h c.index.ensures in
    let t = rw c.deref.ensures.value at c.in-Err.ensures.told in
    summing_stop _ _ _ _ _ _ _ _ (rw e at c.each.invariant) k g.Q.Exact.value c.in-Err.stop t.0 t.1

pub each-preserved : goal.each-preserved
each-preserved g c =
    let e = next_number c.args.members.now c.each.member-index (record { 0 = 0 }) c.each-test.true in
    let h : (get_or c.args.members.now c.each.member-index (record { 0 = 0 })).0 < length c.args.ground.now.processes.items = summing_inside g.Q.Exact.value _ c.args.ground.now _ _ _ _ _ (rw e at c.each.invariant) in
    let k = rates_here g.Q.Exact.value c.args.ground.now.processes.items _ c.index.result.now h c.index.ensures in
    let t = rw c.deref.ensures.value at c.in-Ok.ensures.told in
    summing_next _ _ _ _ _ _ _ _ (rw e at c.each.invariant) k _ c.in-Ok.ensures.size t.0 t.1

pub returns-clause-told : goal.returns-clause-told
returns-clause-told g c = summing_end _ _ _ _ _ (rw (no_number c.args.members.now c.each.member-index c.each-test.false) at c.each.invariant)

pub returns-in_err-with_places-clause-told : goal.returns-in_err-with_places-clause-told
returns-in_err-with_places-clause-told g c =
    let p = err_from_is_err_and c.from_residual.result c.from_residual.ensures.1 in
    rw (p.1, p.2) (tt, tt)
