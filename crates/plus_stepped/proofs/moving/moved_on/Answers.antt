use Rattle.std.proofs.lemmas.List.{length-map}
use Rattle.std.proofs.lemmas.Result.{err_from_is_err_and}
use Rattle.plus_model.specs.Terms.{State}
use Rattle.plus_state.specs.View.{process_of, problem_of}
use Rattle.plus_settle.proofs.ChoicesLemmas.{holding_members}
use Rattle.plus_stepped.specs.Moving.{MovesTo}
use Rattle.plus_stepped.proofs.MovingLemmas.{conditions_told, rates_told, moves_told, moves_pass}
use Rattle.plus_stepped.proofs.moving.moved_on.Goals as goal

pub returns-in_err-members-clause-told : goal.returns-in_err-members-clause-told
returns-in_err-members-clause-told g c =
    let p = err_from_is_err_and c.from_residual.result c.from_residual.ensures.1 in
    rw (p.1, p.2) (conditions_told g.Q.Exact.fits (problem_of g.Q.Exact.value c.args.ground.now) (g.Q.Exact.value c.args.interval) c.args.state.now g.Q.Exact.value (λ (next : State). MovesTo (problem_of g.Q.Exact.value c.args.ground.now) (g.Q.Exact.value c.args.interval) c.args.state.now next) c.in_err-members.field-0.0 c.in_err-members.ensures)

pub net_rates-requires-clause-members : goal.net_rates-requires-clause-members
net_rates-requires-clause-members g c =
    rw c.deref.ensures.value (holding_members (problem_of g.Q.Exact.value c.args.ground.now) c.args.state.now _ _ (length-map c.args.ground.now.processes.items (process_of g.Q.Exact.value)) c.in_ok-members.ensures.1)

pub returns-in_err-net_rates-clause-told : goal.returns-in_err-net_rates-clause-told
returns-in_err-net_rates-clause-told g c =
    let P = problem_of g.Q.Exact.value c.args.ground.now in
    let u = rw (c.deref.ensures.value, c.in_ok-members.ensures.1) at c.in_err-net_rates.ensures.told in
    let p = err_from_is_err_and c.from_residual-in_err-net_rates.result c.from_residual-in_err-net_rates.ensures.1 in
    rw (p.1, p.2) (rates_told g.Q.Exact.fits P (g.Q.Exact.value c.args.interval) c.args.state.now g.Q.Exact.value (λ (next : State). MovesTo P (g.Q.Exact.value c.args.interval) c.args.state.now next) c.in_err-net_rates.field-0.0 c.in_ok-members.ensures.0 u.0 u.1)

pub returns-in_err-moved-clause-told : goal.returns-in_err-moved-clause-told
returns-in_err-moved-clause-told g c =
    let P = problem_of g.Q.Exact.value c.args.ground.now in
    let u = rw (c.deref.ensures.value, c.in_ok-members.ensures.1) at c.in_ok-net_rates.ensures.told in
    let p = err_from_is_err_and c.from_residual-in_err-moved.result c.from_residual-in_err-moved.ensures.1 in
    rw (p.1, p.2) (moves_told g.Q.Exact.fits P (g.Q.Exact.value c.args.interval) c.args.state.now g.Q.Exact.value (λ (next : State). MovesTo P (g.Q.Exact.value c.args.interval) c.args.state.now next) c.net_rates.new.rates c.in_err-moved.field-0.0 c.in_ok-members.ensures.0 u.0 u.1 c.in_err-moved.ensures.told)

pub returns-clause-told : goal.returns-clause-told
returns-clause-told g c =
    let P = problem_of g.Q.Exact.value c.args.ground.now in
    let u = rw (c.deref.ensures.value, c.in_ok-members.ensures.1) at c.in_ok-net_rates.ensures.told in
    record {
      pass = moves_pass g.Q.Exact.fits P (g.Q.Exact.value c.args.interval) c.args.state.now c.net_rates.new.rates c.in_ok-members.ensures.0 u.0 u.1 c.in_ok-moved.ensures.told.0;
      does = record { rate = c.net_rates.new.rates; rate_is = u.1; is = c.in_ok-moved.ensures.told.1 };
    }
