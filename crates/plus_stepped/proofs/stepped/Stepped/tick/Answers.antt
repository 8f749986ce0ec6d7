use Rattle.std.proofs.Common.{suc, refl, subst}
use Rattle.std.specs.Prelude.{Err}
use Rattle.std.proofs.lemmas.Result.{err_from_is_err_and}
use Rattle.plus_state.specs.View.{problem_of}
use Rattle.plus_stepped.specs.Ticks.{tick_tests}
use Rattle.plus_stepped.specs.Told.{Told}
use Rattle.plus_stepped.specs.Steps.{SteppedView, Ticks, CannotTick}
use Rattle.plus_stepped.proofs.stepped.Stepped.tick.Goals as goal

pub returns-in_err-state-clause-told : goal.returns-in_err-state-clause-told
returns-in_err-state-clause-told g c n h =
    let after = rw (← c.self.view_is) at h in
    let P = problem_of g.Q.Exact.value c.args.ground.now in
    let p = err_from_is_err_and c.from_residual.result c.from_residual.ensures.1 in
    rw (p.1, p.2)
    (subst (λ (s : SteppedView). Told g.Q.Exact.value g.Q.Exact.fits (tick_tests P s.interval (suc n) s.state) (λ (x : Unit {0}). Ticks P n s s) (CannotTick P s.interval (suc n) s.state) (Err c.in_err-state.field-0.0)) c.self.view_is (c.in_err-state.ensures.told n after))

pub returns-clause-told : goal.returns-clause-told
returns-clause-told g c n h =
    let after = rw (← c.self.view_is) at h in
    let told = c.in_ok-state.ensures.told n after in
    rw (← c.self.view_is) (record {
      pass = told.pass;
      does = record { ticked = told.does; interval = refl; after = c.in_ok-state.ensures.at n after };
    })

pub returns-clause-serves : goal.returns-clause-serves
returns-clause-serves g c =
    let serves = rw (← c.self.view_is) at c.requires.serves in
    record {
      has_grid = serves.has_grid;
      fit = c.in_ok-state.ensures.fit;
      steps = suc serves.steps;
      after = c.in_ok-state.ensures.at serves.steps serves.after;
    }
