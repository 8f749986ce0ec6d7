use Rattle.std.proofs.Common.{length, refl}
use Rattle.std.proofs.lemmas.List.{length-map}
use Rattle.plus_state.specs.View.{process_of, problem_of}
use Rattle.plus_settle.specs.Members.{process_numbers}
use Rattle.plus_settle.proofs.ChoicesLemmas.{holding_members}
use Rattle.plus_settle.proofs.ShortLemmas.{short_stop, short_told, on_ok}
use Rattle.plus_settle.proofs.settling.settle_rated.Goals as goal

pub first_other-requires-clause-members : goal.first_other-requires-clause-members
first_other-requires-clause-members g c =
    rw c.deref.ensures.value (holding_members (problem_of g.Q.Exact.value c.args.ground.now) c.args.state.now _ _ (length-map c.args.ground.now.processes.items (process_of g.Q.Exact.value)) c.requires.present)

pub first_other-requires-clause-others : goal.first_other-requires-clause-others
first_other-requires-clause-others g c = rw c.deref.ensures.value c.requires.others

pub uncoupled-requires-clause-members : goal.uncoupled-requires-clause-members
uncoupled-requires-clause-members g c =
    rw c.deref-in-Ok-None.ensures.value (holding_members (problem_of g.Q.Exact.value c.args.ground.now) c.args.state.now _ _ (length-map c.args.ground.now.processes.items (process_of g.Q.Exact.value)) c.requires.present)

pub returns-in-Err-clause-told : goal.returns-in-Err-clause-told
returns-in-Err-clause-told g c =
    let P = problem_of g.Q.Exact.value c.args.ground.now in
    let e = rw c.deref.ensures.value at c.in-Err.ensures in
    rw c.settle_stop.ensures (short_stop g.Q.Exact.value g.Q.Exact.fits P c.args.state.now (process_numbers c.args.running.now.members.items) c.args.running.now.rates c.requires.pass c.requires.present c.requires.rated c.requires.rates c.in-Err.stop e)

pub returns-in-Ok-None-clause-told : goal.returns-in-Ok-None-clause-told
returns-in-Ok-None-clause-told g c =
    let P = problem_of g.Q.Exact.value c.args.ground.now in
    let present = process_numbers c.args.running.now.members.items in
    let e = rw c.deref.ensures.value at c.in-Ok-None.ensures in
    let h = rw c.in-Ok-None.field-0-is at e in
    let u = rw c.deref-in-Ok-None.ensures.value at c.uncoupled.ensures in
    let n = holding_members P c.args.state.now (length P.processes) present refl c.requires.present in
    short_told g.Q.Exact.value g.Q.Exact.fits P c.args.state.now present c.args.running.now.rates c.requires.pass c.requires.present c.requires.rated c.requires.rates n h.0 h.1 h.2 _ refl refl c.uncoupled.result u

pub returns-in-Ok-None-clause-members : goal.returns-in-Ok-None-clause-members
returns-in-Ok-None-clause-members g c =
    on_ok c.uncoupled.result (holding_members (problem_of g.Q.Exact.value c.args.ground.now) c.args.state.now _ _ (length-map c.args.ground.now.processes.items (process_of g.Q.Exact.value)) c.requires.present)

pub settle_from-requires-clause-present : goal.settle_from-requires-clause-present
settle_from-requires-clause-present g c = rw c.deref-in-Ok-Some.ensures.value c.requires.present

pub settle_from-requires-clause-rated : goal.settle_from-requires-clause-rated
settle_from-requires-clause-rated g c = rw c.deref-in-Ok-Some.ensures.value c.requires.rated

pub settle_from-requires-clause-first : goal.settle_from-requires-clause-first
settle_from-requires-clause-first g c = rw c.deref-in-Ok-Some.ensures.value c.requires.rates
