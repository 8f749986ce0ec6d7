use Rattle.std.proofs.Common.{sym}
use Rattle.plus_state.specs.View.{problem_of}
use Rattle.plus_state.proofs.LookingLemmas.{all_processes}
use Rattle.plus_settle.proofs.AmongLemmas.{all_confirmed}
use Rattle.plus_settle.proofs.SettlesLemmas.{go_stop, unsettled_stop, coupled_stop, own_pass}
use Rattle.plus_settle.proofs.settling.confirmed.Goals as goal

pub first_other-requires-clause-looked : goal.first_other-requires-clause-looked
first_other-requires-clause-looked g c = all_processes g.Q.Exact.value c.args.ground.now _ c.all.ensures

pub first_other-requires-clause-others : goal.first_other-requires-clause-others
first_other-requires-clause-others g c = all_confirmed _ (problem_of g.Q.Exact.value c.args.ground.now) _ _ _ _ c.all.ensures

pub returns-in-Err : goal.returns-in-Err
returns-in-Err g c = rw c.settle_stop.ensures (go_stop _ _ _ _ _ _ c.in-Err.stop c.in-Err.ensures)

pub returns-in-Some : goal.returns-in-Some
returns-in-Some g c =
    let h = rw c.in-Some.is at c.in-Ok.ensures in
    (unsettled_stop g.Q.Exact.value _ (problem_of g.Q.Exact.value c.args.ground.now) _ _ _ _ h.0 h.1, h.2)

pub returns-in-Some-first_coupled : goal.returns-in-Some-first_coupled
returns-in-Some-first_coupled g c =
    let h = rw c.in-None.is at c.in-Ok.ensures in
    (coupled_stop g.Q.Exact.value _ (problem_of g.Q.Exact.value c.args.ground.now) _ _ _ _ _ h.0 h.1 c.in-Some-first_coupled.ensures, (h.2, sym c.in-Some-first_coupled.ensures))

pub returns-in-None-first_coupled : goal.returns-in-None-first_coupled
returns-in-None-first_coupled g c =
    let h = rw c.in-None.is at c.in-Ok.ensures in
    (own_pass g.Q.Exact.value _ (problem_of g.Q.Exact.value c.args.ground.now) _ _ _ h.0 h.1 c.in-None-first_coupled.ensures, h.2, sym c.in-None-first_coupled.ensures)
