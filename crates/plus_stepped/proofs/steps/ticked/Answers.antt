use Rattle.std.proofs.Common.{◌≡◌, ◌-◌, suc, min, length, refl, arith}
use Rattle.std.proofs.lemmas.Result.{err_from_is_err_and}
use Rattle.plus_model.specs.Terms.{State}
use Rattle.plus_state.specs.View.{timed_of, problem_of}
use Rattle.plus_steps.specs.Stepped.{Ticked, time_of_step}
use Rattle.plus_stepped.specs.Moving.{MovesTo}
use Rattle.plus_stepped.proofs.StepLemmas.{clamped, atoms_in, put_at_step, put_fits, tick_refused, tick_stopped, tick_done}
use Rattle.plus_stepped.proofs.steps.ticked.Goals as goal

pub returns-in_err-after-clause-told : goal.returns-in_err-after-clause-told
returns-in_err-after-clause-told g c n h =
    let P = problem_of g.Q.Exact.value c.args.ground.now in
    let q = g.Q.Exact.value c.args.interval in
    let s = c.args.state.now in
    let p = err_from_is_err_and c.from_residual.result c.from_residual.ensures.1 in
    rw (p.1, p.2) (tick_refused g.Q.Exact.value g.Q.Exact.fits P q (suc n) s (λ (last : State). Ticked P q (suc n) s last) (λ (next : State). MovesTo P q s next) c.in_err-after.field-0.0 c.in_err-after.ensures.told)

pub next_literal-later-requires-clause-grid : goal.next_literal-later-requires-clause-grid
next_literal-later-requires-clause-grid g c = rw c.deref.ensures.value c.requires.grid.grid

pub next_literal-later-requires-clause-at : goal.next_literal-later-requires-clause-at
next_literal-later-requires-clause-at g c =
    let P = problem_of g.Q.Exact.value c.args.ground.now in
    let q = g.Q.Exact.value c.args.interval in
    let f = timed_of g.Q.Exact.value in
    let items = c.args.ground.now.timed.items in
    let m : c.min-place.result ≡ min c.args.next.place (length c.args.ground.now.timed.items) = omega (arith, c.args.ground.now.timed.ok.0) in
    rw c.deref.ensures.value (c.requires.at.0, clamped f items q c.requires.at.0 c.args.next.place c.args.next.ticks c.min-place.result m c.requires.at.1)

pub put_literals-requires : goal.put_literals-requires
put_literals-requires g c =
    rw c.deref-2.ensures.value
    (atoms_in (timed_of g.Q.Exact.value) (c.next_literal-later.result.place - c.min-place.result) c.min-place.result (length c.args.ground.now.atoms.items) c.args.ground.now.timed.items c.in_ok-after.after.atoms c.args.ground.now.fits.timed c.in_ok-after.ensures.fit.atoms_fit)

pub cascade-requires : goal.cascade-requires
cascade-requires g c =
    let P = problem_of g.Q.Exact.value c.args.ground.now in
    let q = g.Q.Exact.value c.args.interval in
    let f = timed_of g.Q.Exact.value in
    let items = c.args.ground.now.timed.items in
    let m : c.min-place.result ≡ min c.args.next.place (length c.args.ground.now.timed.items) = omega (arith, c.args.ground.now.timed.ok.0) in
    let next = rw c.deref.ensures.value at c.next_literal-later.ensures.next in
    let comes = next c.requires.at.0 (clamped f items q c.requires.at.0 c.args.next.place c.args.next.ticks c.min-place.result m c.requires.at.1) in
    let put = rw c.deref-2.ensures.value at c.put_literals.ensures in
    let is = put_at_step f P q (suc c.requires.at.0) items c.min-place.result c.next_literal-later.result c.in_ok-after.after c.put_literals.new.state comes refl put in
    record { state = put_fits P (time_of_step q (suc c.requires.at.0)) c.in_ok-after.after c.put_literals.new.state c.in_ok-after.ensures.fit is }

pub returns-in_err-cascade-clause-told : goal.returns-in_err-cascade-clause-told
returns-in_err-cascade-clause-told g c n h =
    let P = problem_of g.Q.Exact.value c.args.ground.now in
    let q = g.Q.Exact.value c.args.interval in
    let f = timed_of g.Q.Exact.value in
    let items = c.args.ground.now.timed.items in
    let m : c.min-place.result ≡ min c.args.next.place (length c.args.ground.now.timed.items) = omega (arith, c.args.ground.now.timed.ok.0) in
    let next = rw c.deref.ensures.value at c.next_literal-later.ensures.next in
    let comes = next n (clamped f items q n c.args.next.place c.args.next.ticks c.min-place.result m h) in
    let put = rw c.deref-2.ensures.value at c.put_literals.ensures in
    let is = put_at_step f P q (suc n) items c.min-place.result c.next_literal-later.result c.in_ok-after.after c.put_literals.new.state comes refl put in
    let s = c.args.state.now in
    let p = err_from_is_err_and c.from_residual-in_err-cascade.result c.from_residual-in_err-cascade.ensures.1 in
    rw (p.1, p.2) (tick_stopped g.Q.Exact.value g.Q.Exact.fits P q (suc n) s (λ (last : State). Ticked P q (suc n) s last) c.in_ok-after.after c.put_literals.new.state c.in_err-cascade.field-0.0 c.in_ok-after.ensures.told.pass c.in_ok-after.ensures.told.does is c.in_err-cascade.ensures.told)

pub returns-clause-told : goal.returns-clause-told
returns-clause-told g c n h =
    let P = problem_of g.Q.Exact.value c.args.ground.now in
    let q = g.Q.Exact.value c.args.interval in
    let f = timed_of g.Q.Exact.value in
    let items = c.args.ground.now.timed.items in
    let m : c.min-place.result ≡ min c.args.next.place (length c.args.ground.now.timed.items) = omega (arith, c.args.ground.now.timed.ok.0) in
    let next = rw c.deref.ensures.value at c.next_literal-later.ensures.next in
    let comes = next n (clamped f items q n c.args.next.place c.args.next.ticks c.min-place.result m h) in
    let put = rw c.deref-2.ensures.value at c.put_literals.ensures in
    let is = put_at_step f P q (suc n) items c.min-place.result c.next_literal-later.result c.in_ok-after.after c.put_literals.new.state comes refl put in
    tick_done g.Q.Exact.fits P q (suc n) c.args.state.now c.in_ok-after.after c.put_literals.new.state c.in_ok-cascade.field-0 c.in_ok-after.ensures.told.pass c.in_ok-after.ensures.told.does is c.in_ok-cascade.ensures.told

pub returns-clause-at : goal.returns-clause-at
returns-clause-at g c n h =
    let P = problem_of g.Q.Exact.value c.args.ground.now in
    let q = g.Q.Exact.value c.args.interval in
    let f = timed_of g.Q.Exact.value in
    let items = c.args.ground.now.timed.items in
    let m : c.min-place.result ≡ min c.args.next.place (length c.args.ground.now.timed.items) = omega (arith, c.args.ground.now.timed.ok.0) in
    let next = rw c.deref.ensures.value at c.next_literal-later.ensures.next in
    let comes = next n (clamped f items q n c.args.next.place c.args.next.ticks c.min-place.result m h) in
    comes.at
