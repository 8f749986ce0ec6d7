use Rattle.std.proofs.Common.{false, length, refl, ap, sym, subst, ◌∙◌}
use Rattle.std.proofs.lemmas.List.{length-map, length-replicate}
use Rattle.std.specs.Prelude.{Bool, List}
use Rattle.plus_cascade.specs.Fired.{IsSetOf}
use Rattle.plus_cascade.proofs.SetLemmas.{empty_at_first}
use Rattle.plus_state.specs.View.{problem_of, event_of}
use Rattle.plus_timeline.specs.Timeline.{event_numbers, process_numbers}
use Rattle.plus_timeline.proofs.Keeping.{keeps_first, fired_in_set, none_inside, none_runs}
use Rattle.plus_timeline.proofs.LiteralLemmas.{literal_is}
use Rattle.plus_timeline.proofs.Views.{first_is}
use Rattle.plus_timeline.proofs.timeline.Timeline.begin.Goals as goal

pub invariant_of-result : goal.invariant_of-result
invariant_of-result g c =
    let f = ap event_numbers c.new.ensures.items in
    keeps_first c.in_ok-states.states c.in_ok-cascade.cascade _ _ _ _ c.args.ground.now.initial c.in_ok-literals.literals c.in_ok-states.ensures
    (fired_in_set c.in_ok-cascade.cascade _ _ f (subst (λ (set : List Bool). IsSetOf set _) (sym c.in_ok-cascade.ensures) (empty_at_first (length c.args.ground.now.events.items))))
    (none_inside _ _ f) c.requires (λ r. none_runs _ _ _ refl r)

pub returns : goal.returns
returns g c =
    let P = problem_of g.Q.Exact.value c.args.ground.now in
    let t = g.Q.Exact.value c.zero-time.result in
    let events = c.args.ground.now.events.items in
    let n = ap length c.in_ok-cascade.ensures ∙ length-replicate (length events) false ∙ sym (length-map events (event_of g.Q.Exact.value)) in
    first_is P c.args.happenings t c.in_ok-states.states c.in_ok-literals.literals c.are_there-literal.result _ _ _ _ _ c.args.ground.now.fits.initial c.zero-time.ensures c.in_ok-states.ensures
    c.in_ok-literals.ensures (literal_is P t c.in_ok-literals.literals c.are_there-literal.result c.in_ok-literals.ensures c.are_there-literal.ensures)
    (ap event_numbers c.new.ensures.items) (ap event_numbers c.new-2.ensures.items) (ap process_numbers c.none.ensures.members) c.none.ensures.rates n
