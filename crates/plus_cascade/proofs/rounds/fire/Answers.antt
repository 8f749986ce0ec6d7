use Rattle.std.proofs.Common.{sym, ◌∙◌, arith}
use Rattle.std.proofs.lemmas.Bool.{eqb-true, eqb-false}
use Rattle.std.proofs.lemmas.List.{length-map}
use Rattle.plus_state.specs.View.{event_of}
use Rattle.plus_cascade.proofs.SetLemmas.{firing_all}
use Rattle.plus_cascade.proofs.RoundLemmas.{no_numbers, some_numbers, none_holds, repeats_first, fires, stops_late}
use Rattle.plus_cascade.proofs.rounds.fire.Goals as goal

pub returns-then-is_empty-clause-told : goal.returns-then-is_empty-clause-told
returns-then-is_empty-clause-told g c =
    let n = eqb-true _ _ (sym c.is_empty.ensures ∙ c.if-is_empty.true) in
    none_holds _ _ _ _ _ c.requires.pass c.requires.all (no_numbers _ (omega (arith, n, c.args.round.now.events.ok.0)))

pub first_fired-requires : goal.first_fired-requires
first_fired-requires g c =
    rw c.deref.ensures.value (firing_all _ c.args.state.now _ _ (length-map c.args.ground.now.events.items (event_of g.Q.Exact.value) ∙ sym c.requires.events) c.requires.all)

pub returns-in-Some-clause-told : goal.returns-in-Some-clause-told
returns-in-Some-clause-told g c =
    let n = eqb-false _ _ (sym c.is_empty.ensures ∙ c.if-is_empty.false) in
    repeats_first _ _ _ _ _ _ c.requires.pass c.requires.all (some_numbers _ (λ k. n (omega (arith, k, c.args.round.now.events.ok.0)))) (rw c.deref.ensures.value at c.in-Some.ensures)

pub changed_together_in-requires-clause-events : goal.changed_together_in-requires-clause-events
changed_together_in-requires-clause-events g c =
    rw c.deref-in-None.ensures.value (firing_all _ c.args.state.now _ _ (length-map c.args.ground.now.events.items (event_of g.Q.Exact.value)) c.requires.all)

pub returns-in-Err-clause-told : goal.returns-in-Err-clause-told
returns-in-Err-clause-told g c =
    let n = eqb-false _ _ (sym c.is_empty.ensures ∙ c.if-is_empty.false) in
    let fresh = rw c.deref.ensures.value at c.in-None.ensures in
    let stop = rw c.deref-in-None.ensures.value at c.in-Err.ensures in
    rw c.joint_stop.ensures (stops_late _ _ _ _ g.Q.Exact.value _ c.in-Err.stop c.requires.pass c.requires.all (some_numbers _ (λ k. n (omega (arith, k, c.args.round.now.events.ok.0)))) fresh stop.told.0 stop.told.1)

pub returns-in-Ok-clause-told : goal.returns-in-Ok-clause-told
returns-in-Ok-clause-told g c =
    let n = eqb-false _ _ (sym c.is_empty.ensures ∙ c.if-is_empty.false) in
    let fresh = rw c.deref.ensures.value at c.in-None.ensures in
    let done = rw c.deref-in-None.ensures.value at c.in-Ok.ensures in
    fires _ _ _ _ _ _ c.requires.pass c.requires.all (some_numbers _ (λ k. n (omega (arith, k, c.args.round.now.events.ok.0)))) fresh done.told.0 done.told.1
