use Rattle.std.proofs.lemmas.List.{length-map}
use Rattle.std.proofs.lemmas.Result.{err_from_is_err_and}
use Rattle.plus_state.specs.View.{process_of, problem_of}
use Rattle.plus_state.proofs.LookingLemmas.{process_places}
use Rattle.plus_crossing.specs.Rated.{moving_of}
use Rattle.plus_settle.specs.Members.{process_numbers}
use Rattle.plus_settle.proofs.ChoicesLemmas.{holding_members}
use Rattle.plus_settle.proofs.SettlesLemmas.{first_stop}
use Rattle.plus_settle.proofs.ShortLemmas.{others_confirmed}
use Rattle.plus_indexed.proofs.MovingLemmas.{processes_now}
use Rattle.plus_indexed.proofs.settled.settle_by.Goals as goal

pub own_rates-requires-clause-members : goal.own_rates-requires-clause-members
own_rates-requires-clause-members g c =
    rw c.deref.ensures.value (holding_members (problem_of g.Q.Exact.value c.args.ground.now) c.args.state.now _ _ (length-map c.args.ground.now.processes.items (process_of g.Q.Exact.value)) c.requires.present)

pub returns-in_err-own_rates-clause-told : goal.returns-in_err-own_rates-clause-told
returns-in_err-own_rates-clause-told g c =
    let p = err_from_is_err_and c.from_residual.result c.from_residual.ensures.1 in
    let t = rw c.deref.ensures.value at c.in_err-own_rates.ensures.told in
    rw (p.1, p.2) (first_stop g.Q.Exact.value _ (problem_of g.Q.Exact.value c.args.ground.now) _ _ c.in_err-own_rates.field-0.0 c.requires.pass c.requires.present t.0 t.1)

pub settle_rated-requires-clause-rated : goal.settle_rated-requires-clause-rated
settle_rated-requires-clause-rated g c = (rw c.deref.ensures.value at c.in_ok-own_rates.ensures.told).0

pub settle_rated-requires-clause-rates : goal.settle_rated-requires-clause-rates
settle_rated-requires-clause-rates g c = (rw c.deref.ensures.value at c.in_ok-own_rates.ensures.told).1

pub settle_rated-requires-clause-looked : goal.settle_rated-requires-clause-looked
settle_rated-requires-clause-looked g c =
    let now = c.refresh.new.self in
    let r = processes_now now.index c.args.readers.now.index now.moving (moving_of c.own_rates.new.rates) (process_numbers c.processes.result.now) c.refresh.ensures.index c.in-Ok.ensures.moving c.processes.ensures in
    process_places g.Q.Exact.value c.args.ground.now _ (r.members _ c.requires.below)

pub settle_rated-requires-clause-others : goal.settle_rated-requires-clause-others
settle_rated-requires-clause-others g c =
    let P = problem_of g.Q.Exact.value c.args.ground.now in
    let now = c.refresh.new.self in
    let r = processes_now now.index c.args.readers.now.index now.moving (moving_of c.own_rates.new.rates) (process_numbers c.processes.result.now) c.refresh.ensures.index c.in-Ok.ensures.moving c.processes.ensures in
    others_confirmed g.Q.Exact.fits P c.args.state.now c.args.readers.now.index.processes (process_numbers c.args.running.now.members.items) c.own_rates.new.rates (process_numbers c.processes.result.now) g.met.Q.Exact.zero_fits c.requires.pass c.requires.present c.requires.readers r
