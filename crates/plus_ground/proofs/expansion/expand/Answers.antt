use Rattle.std.proofs.Common.{map, sym, subst}
use Rattle.plus_state.specs.View.{timed_of, process_of, event_of, condition_of}
use Rattle.plus_state.specs.Fits.{ProblemFits}
use Rattle.plus_ground.proofs.CallsLemmas.{expanded_is, ground_fits}
use Rattle.plus_ground.proofs.expansion.expand.Goals as goal

pub returns-clause-expands : goal.returns-clause-expands
returns-clause-expands g c =
    let d = c.args.numbering.now.typed.now.domain in
    let p = c.args.numbering.now.typed.now.problem in
    let v = g.Q.Exact.value in
    let n = c.in_ok-names.names in
    let x = c.in_ok-contents.contents in
    let s = c.in_ok-contents.ensures in
    expanded_is d p n.atoms.items n.fluents.items (map (process_of v) x.happenings.rules.processes.items) (map (event_of v) x.happenings.rules.events.items)
    (map (timed_of v) x.happenings.timed.items) x.ends.initial (condition_of v x.ends.goal) c.in_ok-names.ensures.atoms c.in_ok-names.ensures.fluents
    s.processes s.events s.timed s.initial s.goal

pub invariant_of-result : goal.invariant_of-result
invariant_of-result g c =
    let d = c.args.numbering.now.typed.now.domain in
    let p = c.args.numbering.now.typed.now.problem in
    let v = g.Q.Exact.value in
    let n = c.in_ok-names.names in
    let x = c.in_ok-contents.contents in
    let s = c.in_ok-contents.ensures in
    let meant =
    expanded_is d p n.atoms.items n.fluents.items (map (process_of v) x.happenings.rules.processes.items) (map (event_of v) x.happenings.rules.events.items)
    (map (timed_of v) x.happenings.timed.items) x.ends.initial (condition_of v x.ends.goal) c.in_ok-names.ensures.atoms c.in_ok-names.ensures.fluents
    s.processes s.events s.timed s.initial s.goal in
    record { fits = subst ProblemFits (sym meant) (ground_fits g.Q.Exact.fits d p c.args.numbering.now.typed.now.well_typed c.requires) }
