use Rattle.std.proofs.Common.{◌<◌, length, get_or, arith, refl}
use Rattle.std.proofs.lemmas.List.{length-map}
use Rattle.plus_state.specs.View.{problem_of}
use Rattle.plus_settle.proofs.MembersLemmas.{next_number, no_number, below_all, process_fits, rates_here}
use Rattle.plus_settle.proofs.CouplingLemmas.{pairing_start, pairing_inside, pairing_next, pairing_found, pairing_end}
use Rattle.plus_settle.proofs.coupling.first_coupled.Goals as goal

pub each-init : goal.each-init
each-init g c = pairing_start (problem_of g.Q.Exact.value c.args.ground.now) _ _ (below_all g.Q.Exact.value c.args.ground.now _ c.requires.members.inside)

pub index-requires : goal.index-requires
index-requires g c =
    let e = next_number c.args.members.now c.each.member-index (record { 0 = 0 }) c.each-test.true in
    let inv = rw e at c.each.invariant in
    let h : (get_or c.args.members.now c.each.member-index (record { 0 = 0 })).0 < length c.args.ground.now.processes.items = rw length-map at (pairing_inside _ _ _ _ _ _ inv refl) in
    omega (arith, h, c.args.ground.now.processes.ok.0)

pub moving_rate-requires : goal.moving_rate-requires
moving_rate-requires g c =
    let e = next_number c.args.members.now c.each.member-index (record { 0 = 0 }) c.each-test.true in
    let inv = rw e at c.each.invariant in
    let h : (get_or c.args.members.now c.each.member-index (record { 0 = 0 })).0 < length c.args.ground.now.processes.items = rw length-map at (pairing_inside _ _ _ _ _ _ inv refl) in
    rw (c.deref.ensures.value, c.requires.rates) (process_fits g.Q.Exact.value _ _ c.args.ground.now.processes.items _ c.index.result.now h c.index.ensures c.args.ground.now.fits.processes).rates

pub returns-in-Some : goal.returns-in-Some
returns-in-Some g c =
    let e = next_number c.args.members.now c.each.member-index (record { 0 = 0 }) c.each-test.true in
    let inv = rw e at c.each.invariant in
    let h : (get_or c.args.members.now c.each.member-index (record { 0 = 0 })).0 < length c.args.ground.now.processes.items = rw length-map at (pairing_inside _ _ _ _ _ _ inv refl) in
    let k = rates_here g.Q.Exact.value c.args.ground.now.processes.items _ c.index.result.now h c.index.ensures in
    pairing_found _ _ _ _ _ _ inv k _ (rw c.deref.ensures.value at c.in-Some.ensures)

pub each-preserved : goal.each-preserved
each-preserved g c =
    let e = next_number c.args.members.now c.each.member-index (record { 0 = 0 }) c.each-test.true in
    let inv = rw e at c.each.invariant in
    let h : (get_or c.args.members.now c.each.member-index (record { 0 = 0 })).0 < length c.args.ground.now.processes.items = rw length-map at (pairing_inside _ _ _ _ _ _ inv refl) in
    let k = rates_here g.Q.Exact.value c.args.ground.now.processes.items _ c.index.result.now h c.index.ensures in
    pairing_next _ _ _ _ _ _ inv k (rw c.deref.ensures.value at c.in-None.ensures)

pub returns : goal.returns
returns g c = pairing_end _ _ _ (rw (no_number c.args.members.now c.each.member-index c.each-test.false) at c.each.invariant)
