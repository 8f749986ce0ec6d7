use Rattle.std.proofs.Common.{map, false, ap, ◌∙◌, subst}
use Rattle.plus_state.specs.declared.changes.AtomChange.{AtomChange}
use Rattle.plus_state.specs.declared.changes.FluentChange.{FluentChange}
use Rattle.plus_state.specs.Changes.{Changes}
use Rattle.plus_reads.proofs.Waking.{gathers_none, gathers_at, gathers_more, gathers_all, atoms_named, fluents_named}
use Rattle.plus_indexed.specs.Woken.{AddsReaders}
use Rattle.plus_indexed.proofs.Present.{adds}
use Rattle.plus_indexed.proofs.waiting.append_readers.Goals as goal

pub atoms-init : goal.atoms-init
atoms-init g c = gathers_none _ _

pub atoms-preserved : goal.atoms-preserved
atoms-preserved g c =
    gathers_at (λ (a : AtomChange). a.atom.0) _ c.deref-change-items.result.now c.atoms.change-index (record { atom = record { 0 = 0 }; truth = false }) _ _ _ c.atoms-test.true c.atoms.invariant
    c.in_ok-append_readers.ensures

pub fluents-init : goal.fluents-init
fluents-init g c = gathers_none _ _

pub fluents-preserved : goal.fluents-preserved
fluents-preserved g c =
    gathers_more (λ (a : FluentChange g.row.Q.Denot). a.fluent.0) _ c.deref-change-items-2.result.now c.fluents.change-index c.change-item.result _ _ _ c.fluents-test.true c.change-item.is c.fluents.invariant
    c.in_ok-append_readers-2.ensures

pub returns : goal.returns
returns g c =
    let v = g.Q.Exact.value in
    let t = c.args.readers.now in
    let ats = c.changes.inside.atoms.items in let fs = c.changes.inside.fluents.items in
    let p = gathers_all _ t.atoms _ _ _ _ _ c.atoms-test.false (ap (map _) c.deref-change-items.ensures.value ∙ atoms_named ats) c.atoms.invariant in
    let q = gathers_all _ t.fluents _ _ _ _ _ c.fluents-test.false (ap (map _) c.deref-change-items-2.ensures.value ∙ fluents_named v fs) c.fluents.invariant in
    subst (λ (ch : Changes). AddsReaders t ch c.args.numbers.now.items c.fluents.numbers.items) c.changes.view_is (adds t _ _ _ _ p q)
