use Rattle.std.proofs.Common.{◌≡◌, List, sym, subst}
use Rattle.std.specs.Prelude.{MatchResult}
use Rattle.plus_model.specs.Terms.{State}
use Rattle.plus_model.specs.Running.{holding}
use Rattle.plus_state.specs.Asked.{AllFit}
use Rattle.plus_state.specs.Numbers.{process_numbers}
use Rattle.plus_state.specs.View.{problem_of}
use Rattle.plus_state.specs.Walk.{process_conditions}
use Rattle.plus_state.specs.Looked.{AreKnown}
use Rattle.plus_state.proofs.LookingLemmas.{all_known}
use Rattle.plus_state.specs.declared.term.ProcessId.{ProcessId}
use Rattle.plus_settle.specs.Settles.{condition_nodes, ConditionStops}
use Rattle.plus_settle.specs.declared.stops.SettleStop.{SettleStop}
use Rattle.plus_indexed.specs.Indexed.{Kept}
use Rattle.plus_indexed.specs.Knows.{Knows}
use Rattle.plus_indexed.proofs.Present.{in_order_known}
use Rattle.plus_indexed.proofs.kept.Kept.present.Goals as goal
use Rattle.plus_indexed.proofs.kept.Kept.present.Goals.{in-Err, in-Ok}

pub holding-requires-clause-known : goal.holding-requires-clause-known
holding-requires-clause-known g c =
    let P = problem_of g.Q.Exact.value c.args.ground.now in
    let k = subst (λ (x : Kept). Knows g.Q.Exact.fits P (record { line = c.args.timeline.now; kept = x })) (sym c.self.view_is) c.requires.knows in
    subst (λ (s : State). AreKnown g.Q.Exact.fits (process_conditions P) s (process_numbers c.deref.result.now)) (sym c.state.ensures.state)
    (subst (λ (xs : List ProcessId). AreKnown g.Q.Exact.fits (process_conditions P) c.args.timeline.now.now.state (process_numbers xs)) (sym c.deref.ensures.value)
    (in_order_known g.Q.Exact.fits P c.args.timeline.now.now.state c.in-Some.waiting (process_numbers c.in_order.new.listed.items) (k.processes c.in-Some.waiting c.in-Some.is) c.in-Ok.ensures.same c.in-Ok.ensures.rising))

pub holding-requires-in-None-clause-known : goal.holding-requires-in-None-clause-known
holding-requires-in-None-clause-known g c = all_known _ _ _ _ c.all.ensures

pub returns-after-in_order-clause-told : goal.returns-after-in_order-clause-told
returns-after-in_order-clause-told g c =
    let P = problem_of g.Q.Exact.value c.args.ground.now in
    elim c.match-in_order.branch [
      | in-Err w ↦ rw w.result-is tt
      | in-Ok w ↦
          rw (w.result-is, w.members-is) (subst (λ (s : State). MatchResult w.holding.result
          (λ _. AllFit g.Q.Exact.fits (condition_nodes P.processes s) × (process_numbers w.holding.new.members.items ≡ holding P s))
          (λ (stop : SettleStop g.row.Q.Denot). ConditionStops g.Q.Exact.value g.Q.Exact.fits (condition_nodes P.processes s) stop))
          w.state.ensures.state w.holding.ensures)
    ]
