use Rattle.std.proofs.lemmas.List.{length-map}
use Rattle.std.proofs.lemmas.Result.{err_from_is_err_and}
use Rattle.plus_state.specs.View.{process_of, problem_of}
use Rattle.plus_settle.proofs.ChoicesLemmas.{holding_members}
use Rattle.plus_state.proofs.LookingLemmas.{all_known, all_processes}
use Rattle.plus_settle.proofs.AmongLemmas.{all_confirmed}
use Rattle.plus_settle.proofs.SettlesLemmas.{holding_stop, first_stop}
use Rattle.plus_settle.proofs.settling.settle.Goals as goal

pub holding-requires-clause-known : goal.holding-requires-clause-known
holding-requires-clause-known g c = all_known _ _ _ _ c.all.ensures

pub returns-in_err-holding-clause-told : goal.returns-in_err-holding-clause-told
returns-in_err-holding-clause-told g c =
    let p = err_from_is_err_and c.from_residual.result c.from_residual.ensures.1 in
    rw (p.1, p.2) (holding_stop g.Q.Exact.value _ (problem_of g.Q.Exact.value c.args.ground.now) _ c.in_err-holding.field-0.0 c.in_err-holding.ensures)

pub own_rates-requires-clause-members : goal.own_rates-requires-clause-members
own_rates-requires-clause-members g c =
    rw c.deref.ensures.value (holding_members (problem_of g.Q.Exact.value c.args.ground.now) c.args.state.now _ _ (length-map c.args.ground.now.processes.items (process_of g.Q.Exact.value)) c.in_ok-holding.ensures.1)

pub returns-in_err-own_rates-clause-told : goal.returns-in_err-own_rates-clause-told
returns-in_err-own_rates-clause-told g c =
    let p = err_from_is_err_and c.from_residual-in_err-own_rates.result c.from_residual-in_err-own_rates.ensures.1 in
    let t = rw c.deref.ensures.value at c.in_err-own_rates.ensures.told in
    rw (p.1, p.2) (first_stop g.Q.Exact.value _ (problem_of g.Q.Exact.value c.args.ground.now) _ _ c.in_err-own_rates.field-0.0 c.in_ok-holding.ensures.0 c.in_ok-holding.ensures.1 t.0 t.1)

pub settle_rated-requires-clause-rated : goal.settle_rated-requires-clause-rated
settle_rated-requires-clause-rated g c = (rw c.deref.ensures.value at c.in_ok-own_rates.ensures.told).0

pub settle_rated-requires-clause-rates : goal.settle_rated-requires-clause-rates
settle_rated-requires-clause-rates g c = (rw c.deref.ensures.value at c.in_ok-own_rates.ensures.told).1

pub settle_rated-requires-clause-looked : goal.settle_rated-requires-clause-looked
settle_rated-requires-clause-looked g c = all_processes g.Q.Exact.value c.args.ground.now _ c.all-2.ensures

pub settle_rated-requires-clause-others : goal.settle_rated-requires-clause-others
settle_rated-requires-clause-others g c = all_confirmed _ (problem_of g.Q.Exact.value c.args.ground.now) _ _ _ _ c.all-2.ensures

pub returns-in_err-settle_rated-clause-told : goal.returns-in_err-settle_rated-clause-told
returns-in_err-settle_rated-clause-told g c =
    let p = err_from_is_err_and c.from_residual-in_err-settle_rated.result c.from_residual-in_err-settle_rated.ensures.1 in
    rw (p.1, p.2) c.in_err-settle_rated.ensures.told
