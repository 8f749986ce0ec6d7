use Rattle.std.proofs.Common.{◌∙◌}
use Rattle.std.proofs.lemmas.List.{length-map}
use Rattle.std.proofs.lemmas.Result.{err_from_is_err_and}
use Rattle.plus_state.specs.View.{process_of, problem_of}
use Rattle.plus_settle.proofs.ChoicesLemmas.{soon_members}
use Rattle.plus_settle.proofs.SettlesLemmas.{chosen_stop, second_stop, last_stop, settles}
use Rattle.plus_settle.proofs.settling.settle_from.Goals as goal

pub returns-in_err-members-clause-told : goal.returns-in_err-members-clause-told
returns-in_err-members-clause-told g c =
    let p = err_from_is_err_and c.from_residual.result c.from_residual.ensures.1 in
    rw (p.1, p.2) (chosen_stop g.Q.Exact.value _ (problem_of g.Q.Exact.value c.args.ground.now) _ _ _ c.requires.pass c.requires.present c.requires.rated c.requires.first c.in_err-members.field-0.0 c.in_err-members.ensures)

pub own_rates-requires-clause-members : goal.own_rates-requires-clause-members
own_rates-requires-clause-members g c =
    rw c.deref.ensures.value (soon_members (problem_of g.Q.Exact.value c.args.ground.now) c.args.state.now c.args.first.now _ _ (length-map c.args.ground.now.processes.items (process_of g.Q.Exact.value)) c.in_ok-members.ensures.1)

pub returns-in_err-own_rates-clause-told : goal.returns-in_err-own_rates-clause-told
returns-in_err-own_rates-clause-told g c =
    let p = err_from_is_err_and c.from_residual-in_err-own_rates.result c.from_residual-in_err-own_rates.ensures.1 in
    let u = rw c.deref.ensures.value at c.in_err-own_rates.ensures.told in
    rw (p.1, p.2) (second_stop g.Q.Exact.value _ (problem_of g.Q.Exact.value c.args.ground.now) _ _ _ c.requires.pass c.requires.present c.requires.rated c.requires.first _ c.in_ok-members.ensures.0 c.in_ok-members.ensures.1 c.in_ok-members.ensures.2 c.in_err-own_rates.field-0.0 u.0 u.1)

pub confirmed-requires-clause-members : goal.confirmed-requires-clause-members
confirmed-requires-clause-members g c =
    rw c.deref-2.ensures.value (soon_members (problem_of g.Q.Exact.value c.args.ground.now) c.args.state.now c.args.first.now _ _ (length-map c.args.ground.now.processes.items (process_of g.Q.Exact.value)) c.in_ok-members.ensures.1)

pub returns-in_err-confirmed-clause-told : goal.returns-in_err-confirmed-clause-told
returns-in_err-confirmed-clause-told g c =
    let p = err_from_is_err_and c.from_residual-in_err-confirmed.result c.from_residual-in_err-confirmed.ensures.1 in
    let u = rw c.deref.ensures.value at c.in_ok-own_rates.ensures.told in
    let x = rw c.deref-2.ensures.value at c.in_err-confirmed.ensures in
    rw (p.1, p.2) (last_stop g.Q.Exact.value _ (problem_of g.Q.Exact.value c.args.ground.now) _ _ _ c.requires.pass c.requires.present c.requires.rated c.requires.first _ c.in_ok-members.ensures.0 c.in_ok-members.ensures.1 c.in_ok-members.ensures.2 _ u.0 u.1 c.in_err-confirmed.field-0.0 x.0 x.1)

pub returns-clause-told : goal.returns-clause-told
returns-clause-told g c =
    let u = rw c.deref.ensures.value at c.in_ok-own_rates.ensures.told in
    let x = rw c.deref-2.ensures.value at c.in_ok-confirmed.ensures in
    settles g.Q.Exact.value _ (problem_of g.Q.Exact.value c.args.ground.now) _ _ _ c.requires.pass c.requires.present c.requires.rated c.requires.first _ c.in_ok-members.ensures.0 c.in_ok-members.ensures.1 c.in_ok-members.ensures.2 _ u.0 u.1 x.0 x.1 x.2

pub returns-clause-members : goal.returns-clause-members
returns-clause-members g c =
    soon_members (problem_of g.Q.Exact.value c.args.ground.now) c.args.state.now c.args.first.now _ _ (length-map c.args.ground.now.processes.items (process_of g.Q.Exact.value)) c.in_ok-members.ensures.1

pub returns-clause-size : goal.returns-clause-size
returns-clause-size g c = c.in_ok-own_rates.ensures.size ∙ c.requires.state.fluents_fit
