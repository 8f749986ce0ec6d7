use Rattle.std.proofs.Common.{◌≡◌, ◌<◌, ℕ, List, length, All, sym, subst, ap, ◌∙◌, arith}
use Rattle.std.specs.Prelude.{Some, slice_get}
use Rattle.plus_state.specs.Fits.{Fits}
use Rattle.plus_state.specs.View.{problem_of, condition_of}
use Rattle.plus_reads.specs.Reads.{atoms_read, fluents_read}
use Rattle.plus_reads.specs.Listing.{AddsReader}
use Rattle.plus_reads.proofs.Reading.{atoms_in, fluents_in, lists_next, lists_all, at_place, named_anew}
use Rattle.plus_reads.proofs.readers.readers_of.Goals as goal

pub add_all-requires : goal.add_all-requires
add_all-requires g c =
    let P = problem_of g.Q.Exact.value c.args.ground.now in
    let d = condition_of g.Q.Exact.value c.condition.result.now in
    let fit = at_place (Fits P.atoms P.fluents) _ _ d (g.met.I.Conditional.conditions_fit P c.args.ground.now.fits) c.condition.ensures in
    let keys = named_anew _ _ (atoms_read d) _ c.deref.ensures.value c.in_ok-add_names.ensures.atoms c.clear.ensures.atoms in
    subst (λ (n : ℕ). All (λ k. k < n) c.deref.result.now) (sym c.each.invariant.atoms_size)
    (subst (All (λ k. k < P.atoms)) (sym keys) (atoms_in P.atoms P.fluents d fit))

pub add_all-requires-in-each : goal.add_all-requires-in-each
add_all-requires-in-each g c =
    let P = problem_of g.Q.Exact.value c.args.ground.now in
    let d = condition_of g.Q.Exact.value c.condition.result.now in
    let fit = at_place (Fits P.atoms P.fluents) _ _ d (g.met.I.Conditional.conditions_fit P c.args.ground.now.fits) c.condition.ensures in
    let keys = named_anew _ _ (fluents_read d) _ c.deref-in-each.ensures.value c.in_ok-add_names.ensures.fluents c.clear.ensures.fluents in
    subst (λ (n : ℕ). All (λ k. k < n) c.deref-in-each.result.now) (sym c.each.invariant.fluents_size)
    (subst (All (λ k. k < P.fluents)) (sym keys) (fluents_in P.atoms P.fluents d fit))

pub each-preserved : goal.each-preserved
each-preserved g c =
    let P = problem_of g.Q.Exact.value c.args.ground.now in
    let d = condition_of g.Q.Exact.value c.condition.result.now in
    let here : slice_get (g.I.Conditional.conditions P) c.each.number ≡ Some d = ap (slice_get (g.I.Conditional.conditions P)) (sym c.with_number.ensures) ∙ c.condition.ensures in
    let atoms = named_anew _ _ (atoms_read d) _ c.deref.ensures.value c.in_ok-add_names.ensures.atoms c.clear.ensures.atoms in
    let fluents = named_anew _ _ (fluents_read d) _ c.deref-in-each.ensures.value c.in_ok-add_names.ensures.fluents c.clear.ensures.fluents in
    lists_next _ _ d _ _ _ _ _ _ c.each.invariant here
    (subst (λ (ks : List ℕ). AddsReader c.each.atoms c.add_all.new.table ks c.each.number) atoms c.in_ok-add_all.ensures)
    (subst (λ (ks : List ℕ). AddsReader c.each.fluents c.add_all-in-each.new.table ks c.each.number) fluents c.in_ok-add_all-2.ensures)

pub returns-clause-covers : goal.returns-clause-covers
returns-clause-covers g c =
    let cs = g.I.Conditional.conditions (problem_of g.Q.Exact.value c.args.ground.now) in
    let n : c.each.number ≡ length cs = omega (arith, c.count-number-end.ensures) in
    (lists_all cs c.each.number (record { atoms = c.in_ok-table.field-0; fluents = c.in_ok-table-2.field-0 }) c.each.atoms c.each.fluents _ _ n c.in_ok-table.ensures c.in_ok-table-2.ensures c.each.invariant).0
