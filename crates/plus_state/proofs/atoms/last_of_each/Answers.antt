use Rattle.std.proofs.Common.{false, refl}
use Rattle.plus_state.specs.ChangesView.{atom_change}
use Rattle.plus_state.proofs.TestsLemmas.{no_member}
use Rattle.plus_state.proofs.PatchLemmas.{next_at}
use Rattle.plus_state.proofs.OpenLemmas.{lasting_next, lasting_end, ended_some}
use Rattle.plus_state.proofs.atoms.last_of_each.Goals as goal

pub each-preserved : goal.each-preserved
each-preserved c =
    let e = next_at atom_change c.args.puts.now c.each.put-index (record { atom = record { 0 = 0 }; truth = false }) c.each-test.true in
    lasting_next _ _ _ _ _ _ _ (rw e at c.each.invariant) c.in_ok-end_open.ensures refl

pub returns-in_ok-push-in-Some-clause-rises : goal.returns-in_ok-push-in-Some-clause-rises
returns-in_ok-push-in-Some-clause-rises c =
    let h = rw (no_member atom_change c.args.puts.now c.each.put-index c.each-test.false) at c.each.invariant in
    (lasting_end _ _ _ _ h (ended_some atom_change c.each.changes.items _ c.each.last c.in-Some.c c.in_ok-push-in-Some.ensures.items c.in-Some.is)).0

pub returns-in_ok-push-in-Some-clause-inside : goal.returns-in_ok-push-in-Some-clause-inside
returns-in_ok-push-in-Some-clause-inside c =
    let h = rw (no_member atom_change c.args.puts.now c.each.put-index c.each-test.false) at c.each.invariant in
    (lasting_end _ _ _ _ h (ended_some atom_change c.each.changes.items _ c.each.last c.in-Some.c c.in_ok-push-in-Some.ensures.items c.in-Some.is)).1

pub returns-in_ok-push-in-Some-clause-same : goal.returns-in_ok-push-in-Some-clause-same
returns-in_ok-push-in-Some-clause-same c =
    let h = rw (no_member atom_change c.args.puts.now c.each.put-index c.each-test.false) at c.each.invariant in
    (lasting_end _ _ _ _ h (ended_some atom_change c.each.changes.items _ c.each.last c.in-Some.c c.in_ok-push-in-Some.ensures.items c.in-Some.is)).2
