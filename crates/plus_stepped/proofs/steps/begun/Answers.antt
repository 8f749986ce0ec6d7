use Rattle.std.proofs.Common.{◌≡◌, map, length, [], refl, sym, ap, ◌∙◌, pos}
use Rattle.std.proofs.lemmas.Result.{err_from_is_err_and}
use Rattle.plus_fraction.specs.Fraction.{whole}
use Rattle.plus_model.specs.Terms.{State}
use Rattle.plus_model.specs.Trajectory.{literals}
use Rattle.plus_state.specs.View.{timed_of, problem_of}
use Rattle.plus_steps.specs.Stepped.{Rests}
use Rattle.plus_stepped.proofs.GridLemmas.{no_step}
use Rattle.plus_stepped.proofs.StepLemmas.{from_zero, atoms_in, put_at_begin, put_fits, begin_refused, begin_done}
use Rattle.plus_stepped.proofs.steps.begun.Goals as goal

pub next_after-next-requires-clause-time : goal.next_after-next-requires-clause-time
next_after-next-requires-clause-time g c = c.zero.ensures ∙ sym (no_step (g.Q.Exact.value c.args.interval))

pub next_after-next-requires-clause-rest : goal.next_after-next-requires-clause-rest
next_after-next-requires-clause-rest g c =
    rw (c.zero.ensures, c.deref.ensures.value) (from_zero (g.Q.Exact.value c.args.interval) c.requires.grid.above (map (timed_of g.Q.Exact.value) c.args.ground.now.timed.items) c.requires.grid.grid)

pub put_literals-requires : goal.put_literals-requires
put_literals-requires g c =
    let e : length c.in_ok-state.state.atoms ≡ length c.args.ground.now.atoms.items = ap (λ (s : State). length s.atoms) c.in_ok-state.ensures ∙ c.args.ground.now.fits.initial.atoms_fit in
    rw c.deref-2.ensures.value (atoms_in (timed_of g.Q.Exact.value) c.next_after-next.result.place 0 (length c.args.ground.now.atoms.items) c.args.ground.now.timed.items c.in_ok-state.state.atoms c.args.ground.now.fits.timed e)

pub cascade-requires : goal.cascade-requires
cascade-requires g c =
    let P = problem_of g.Q.Exact.value c.args.ground.now in
    let place = rw (c.zero.ensures, c.deref.ensures.value) at c.next_after-next.ensures.place in
    let put = rw c.deref-2.ensures.value at c.put_literals.ensures in
    let is = put_at_begin (timed_of g.Q.Exact.value) P (g.Q.Exact.value c.args.interval) c.requires.grid c.args.ground.now.timed.items _ c.in_ok-state.state c.put_literals.new.state place c.in_ok-state.ensures refl put in
    record { state = put_fits P (whole (pos 0)) c.args.ground.now.initial c.put_literals.new.state c.args.ground.now.fits.initial is }

pub returns-in_err-cascade-clause-told : goal.returns-in_err-cascade-clause-told
returns-in_err-cascade-clause-told g c =
    let P = problem_of g.Q.Exact.value c.args.ground.now in
    let place = rw (c.zero.ensures, c.deref.ensures.value) at c.next_after-next.ensures.place in
    let put = rw c.deref-2.ensures.value at c.put_literals.ensures in
    let is = put_at_begin (timed_of g.Q.Exact.value) P (g.Q.Exact.value c.args.interval) c.requires.grid c.args.ground.now.timed.items _ c.in_ok-state.state c.put_literals.new.state place c.in_ok-state.ensures refl put in
    let p = err_from_is_err_and c.from_residual-in_err-cascade.result c.from_residual-in_err-cascade.ensures.1 in
    rw (p.1, p.2) (begin_refused g.Q.Exact.value g.Q.Exact.fits P c.put_literals.new.state (λ (last : State). Rests P [] (literals P (whole (pos 0)) P.initial) last) c.in_err-cascade.field-0.0 is c.in_err-cascade.ensures.told)

pub returns-clause-told : goal.returns-clause-told
returns-clause-told g c =
    let P = problem_of g.Q.Exact.value c.args.ground.now in
    let place = rw (c.zero.ensures, c.deref.ensures.value) at c.next_after-next.ensures.place in
    let put = rw c.deref-2.ensures.value at c.put_literals.ensures in
    let is = put_at_begin (timed_of g.Q.Exact.value) P (g.Q.Exact.value c.args.interval) c.requires.grid c.args.ground.now.timed.items _ c.in_ok-state.state c.put_literals.new.state place c.in_ok-state.ensures refl put in
    begin_done g.Q.Exact.fits P c.put_literals.new.state _ is c.in_ok-cascade.ensures.told
